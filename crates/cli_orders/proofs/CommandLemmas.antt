-- A command that was performed, and what is written of its reply.
use Rattle.std.proofs.Common.{◌≡◌, ℕ, List, Option, Result, Ok, Err, OnOk, IfErr, inl, inr, refl}
use Rattle.std.proofs.Common.{subst, sym}
use Rattle.std.specs.Io.KnownBytes.{Appends}
use Rattle.book_http.specs.StoreCommands.{PerformsOnStore}
use Rattle.book_commands.specs.declared.command.Command.{Command}
use Rattle.book_commands.specs.declared.reply.Reply.{Reply}
use Rattle.book_service.specs.declared.mirrored.Mirrored.{Mirrored}
use Rattle.book_model.specs.CallOutcomes.{IfFault}
use Rattle.book_model.specs.declared.denied.Denied.{Denied}
use Rattle.book_model.specs.declared.denied.Denied.TheVariants.{Refused as WasRefused}
use Rattle.book_model.specs.declared.denied.Denied.TheVariants.{Fault as WasFault}
use Rattle.book_service.specs.Faults.{IsOutOfMemoryOr}
use Rattle.book_service.specs.Mirrors.{IsMirrorRun, IsMirrorDenied, HasExactPageCount}
use Rattle.book_service.specs.Runs.{FromEachState, MatchesRows, SystemState}
use Rattle.cli_orders.specs.OrderOutputs.{mirror_lines}
use Rattle.cli_orders.specs.declared.stop.Stop.{Stop}
use Rattle.cli_orders.specs.declared.stop.Stop.TheVariants.{Refused, Fault, Open, Serve, Device}
use Rattle.cli_orders.specs.CommandRuns.{PrintsCommand, PrintsMirror, StopsCommand, StopsMirror}
use Rattle.cli_orders.specs.Stops.{out_of_memory, stop_of}
use Rattle.book_http.specs.Streams.{WritesPrefix}
use Rattle.cli_orders.specs.ReplyTexts.{IsReplyStop, IsReplyText, KeepsOutput}
use Rattle.cli_orders.proofs.StopLemmas.{kept_same, stop_leaves}
use Rattle.sync_core.specs.StoreModels.{KeepsBooks, StoreModel}

module _ {S : Type 0} (model : StoreModel S) where
  abbrev Did : S → Command → Reply → S → Type 0
  Did old command r new = PerformsOnStore model old command r new

  abbrev Halts : S → Command → Stop → Option (List ℕ) → Option (List ℕ) → S → Type 0
  Halts old command stop before after new = StopsCommand model old command stop before after new

  -- its reply has no text
  pub command_without_text : (old new : S) (command : Command) (r : Reply) (stop : Stop) (w :
      Option (List ℕ)) → Did old command r new → IsReplyStop r stop → Halts old command stop w w new
  command_without_text old new command r stop w did s = record {
    reply = r;
    performed = did;
    stops = inl (s, kept_same w);
  }

  -- its reply's text was written
  pub command_printed : (result : Result (Unit {0}) Stop) (old new : S) (command : Command) (r :
      Reply) (before after : Option (List ℕ)) (text : List ℕ) → Did old command r new
      → IsReplyText r text
      → OnOk result (Appends before after text)
      → OnOk result (PrintsCommand model old command before after new)
  command_printed (Ok done) old new command r before after text did agrees written = record {
    reply = r;
    performed = did;
    printed = record { text = text; agrees = agrees; written = written };
  }
  command_printed (Err stop) old new command r before after text did agrees written = tt

  -- or the writer failed
  pub command_cut_off : (result : Result (Unit {0}) Stop) (old new : S) (command : Command) (r :
      Reply) (before after : Option (List ℕ)) (text : List ℕ) → Did old command r new
      → IsReplyText r text
      → WritesPrefix text before after → IfErr result (λ stop. stop ≡ Device)
      → IfErr result (λ stop. Halts old command stop before after new)
  command_cut_off (Ok done) old new command r before after text did agrees front device = tt
  command_cut_off (Err stop) old new command r before after text did agrees front device = record {
    reply = r;
    performed = did;
    stops = inr (device, record { text = text; agrees = agrees; front = front });
  }

  pub command_leaves : (result : Result (Unit {0}) Stop) (old new : S) (command : Command)
      (before after : Option (List ℕ))
      → IfErr result (λ stop. Halts old command stop before after new)
      → IfErr result (λ stop. KeepsOutput stop before after)
  command_leaves (Ok done) old new command before after s = tt
  command_leaves (Err stop) old new command before after s =
      stop_leaves s.reply stop before after s.stops

  -- a mirror's text was written
  pub mirror_printed : (result : Result (Unit {0}) Stop) (old new : S) (book : List ℕ)
      (limit pages : ℕ) (before after : Option (List ℕ)) (mirrored : Mirrored)
      → (model.premise new → (now : SystemState)
      → MatchesRows now (model.limits old) (model.books old)
      → IsMirrorRun now book limit pages mirrored)
      → (model.premise new → (now : SystemState)
      → MatchesRows now (model.limits old) (model.books old)
      → HasExactPageCount now book limit pages mirrored)
      → (model.premise new → model.books new ≡ model.books old)
      → OnOk result (Appends before after (mirror_lines mirrored))
      → OnOk result (PrintsMirror model old book limit pages before after new)
  mirror_printed (Ok done) old new book limit pages before after mirrored mirrors few_pages kept
      written = record {
        mirrored = mirrored;
        made = record { mirrors = mirrors; few_pages = few_pages };
        kept = kept;
        written = written;
      }
  mirror_printed (Err stop) old new book limit pages before after mirrored mirrors few_pages kept
      written = tt

  -- no mirror was made
  pub mirror_denied : (old new : S) (book : List ℕ) (limit pages : ℕ) (w : Option (List ℕ))
      (denied : Denied) → KeepsBooks model old new
      → IfFault {A = Mirrored} (Err denied) (IsOutOfMemoryOr model.may_fault)
      → FromEachState model old new (λ now. IsMirrorDenied now book limit pages denied)
      → StopsMirror model old book limit pages (stop_of denied) w w new
  mirror_denied old new book limit pages w (WasRefused refusal) kept fault is_denied =
      record { kept = kept; stop_is = (is_denied, kept_same w) }
  mirror_denied old new book limit pages w (WasFault fault) kept may is_denied =
      record { kept = kept; stop_is = (may, kept_same w) }

  -- memory ran out while its text was built
  pub mirror_without_text : (old new : S) (book : List ℕ) (limit pages : ℕ) (w : Option (List ℕ))
      → KeepsBooks model old new → StopsMirror model old book limit pages out_of_memory w w new
  mirror_without_text old new book limit pages w kept =
      record { kept = kept; stop_is = (inl refl, kept_same w) }

  -- or the writer failed
  pub mirror_cut_off : (result : Result (Unit {0}) Stop) (old new : S) (book : List ℕ)
      (limit pages : ℕ) (before after : Option (List ℕ)) (mirrored : Mirrored)
      → FromEachState model old new (λ now. IsMirrorRun now book limit pages mirrored)
      → FromEachState model old new (λ now. HasExactPageCount now book limit pages mirrored)
      → KeepsBooks model old new
      → WritesPrefix (mirror_lines mirrored) before after → IfErr result (λ stop. stop ≡ Device)
      → IfErr result (λ stop. StopsMirror model old book limit pages stop before after new)
  mirror_cut_off (Ok done) old new book limit pages before after mirrored mirrors few_pages kept
      front device = tt
  mirror_cut_off (Err stop) old new book limit pages before after mirrored mirrors few_pages kept
      front device =
      subst (λ (s : Stop). StopsMirror model old book limit pages s before after new) (sym device)
      (record {
        kept = kept;
        stop_is = record {
          mirrored = mirrored;
          made = record { mirrors = mirrors; few_pages = few_pages };
          front = front;
        };
      })

  pub mirror_stop_leaves : (old new : S) (book : List ℕ) (limit pages : ℕ) (stop : Stop)
      (before after : Option (List ℕ)) → StopsMirror model old book limit pages stop before after
      new → KeepsOutput stop before after
  mirror_stop_leaves old new book limit pages (Refused refusal) before after s = s.stop_is.1
  mirror_stop_leaves old new book limit pages (Fault fault) before after s = s.stop_is.1
  mirror_stop_leaves old new book limit pages (Open fault) before after s = absurd s.stop_is
  mirror_stop_leaves old new book limit pages (Serve fault) before after s = absurd s.stop_is
  mirror_stop_leaves old new book limit pages Device before after s = tt
