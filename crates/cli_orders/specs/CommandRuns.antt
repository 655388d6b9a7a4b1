-- What an order does to a store of books, and what it prints.
use Rattle.std.specs.Prelude.{ℕ, List, Option}
use Rattle.std.specs.Io.KnownBytes.{Appends, Keeps}
use Rattle.book_http.specs.StoreCommands.{PerformsOnStore}
use Rattle.book_model.specs.declared.denied.Denied.TheVariants.{Refused as WasRefused}
use Rattle.sync_core.specs.StoreModels.{KeepsBooks, StoreModel}
use Rattle.book_commands.specs.declared.command.Command.{Command}
use Rattle.book_service.specs.declared.mirrored.Mirrored.{Mirrored}
use Rattle.book_commands.specs.declared.reply.Reply.{Reply}
use Rattle.book_service.specs.Faults.{IsOutOfMemoryOr}
use Rattle.book_service.specs.Mirrors.{IsMirrorRun, IsMirrorDenied, HasExactPageCount}
use Rattle.book_service.specs.Runs.{FromEachState}
use Rattle.cli_orders.specs.OrderOutputs.{mirror_lines}
use Rattle.cli_orders.specs.declared.stop.Stop.{Stop}
use Rattle.cli_orders.specs.declared.stop.Stop.TheVariants.{Refused, Fault, Open, Serve, Device}
use Rattle.cli_orders.specs.ReplyTexts.{PrintsReplyText, StopsOnReply}
use Rattle.book_http.specs.Streams.{WritesPrefix}

module _ {S : Type 0} (model : StoreModel S) where
  -- the command was performed, and its reply printed
  pub record PrintsCommand (old : S) (command : Command) (before after : Option (List ℕ)) (new : S)
      : Type 0 where
    pub reply : Reply
    pub performed : PerformsOnStore model old command reply new
    pub printed : PrintsReplyText reply before after

  -- the command was performed, and this is why the order stops
  pub record StopsCommand (old : S) (command : Command) (stop : Stop)
      (before after : Option (List ℕ)) (new : S) : Type 0 where
    pub reply : Reply
    pub performed : PerformsOnStore model old command reply new
    pub stops : StopsOnReply reply stop before after

  -- this mirror of the book was made in the state of the store, in exactly the pages that it needs
  pub record MakesMirror (old : S) (book : List ℕ) (limit pages : ℕ) (mirrored : Mirrored) (new : S)
      : Type 0 where
    pub mirrors : FromEachState model old new (λ now.
        IsMirrorRun now book limit pages mirrored)
    pub few_pages : FromEachState model old new (λ now.
        HasExactPageCount now book limit pages mirrored)

  -- a mirror of the book was made, and it is printed
  pub record PrintsMirror (old : S) (book : List ℕ) (limit pages : ℕ)
      (before after : Option (List ℕ)) (new : S) : Type 0 where
    pub mirrored : Mirrored
    pub made : MakesMirror old book limit pages mirrored new
    pub kept : KeepsBooks model old new
    pub written : Appends before after (mirror_lines mirrored)

  -- a mirror of the book was made, the writer failed, and a prefix of the mirror's text is written
  pub record PrintsMirrorPrefix (old : S) (book : List ℕ) (limit pages : ℕ)
      (before after : Option (List ℕ)) (new : S) : Type 0 where
    pub mirrored : Mirrored
    pub made : MakesMirror old book limit pages mirrored new
    pub front : WritesPrefix (mirror_lines mirrored) before after

  -- A refusal is that of the initial report. A fault is out of memory, or one that the store may
  -- return. Both leave the output as it was.
  abbrev pub IsMirrorStop : S → List ℕ → ℕ → ℕ → Option (List ℕ) → Option (List ℕ) → S → Stop
      → Type 0
  IsMirrorStop old book limit pages before after new (Refused refusal) =
      FromEachState model old new (λ now.
      IsMirrorDenied now book limit pages (WasRefused refusal))
      × Keeps before after
  IsMirrorStop old book limit pages before after new (Fault fault) =
      IsOutOfMemoryOr model.may_fault fault × Keeps before after
  IsMirrorStop old book limit pages before after new Device =
      PrintsMirrorPrefix old book limit pages before after new
  IsMirrorStop old book limit pages before after new (Open fault) = ⊥
  IsMirrorStop old book limit pages before after new (Serve fault) = ⊥

  -- why no mirror is printed, or only a prefix of its text; the books are unchanged
  pub record StopsMirror (old : S) (book : List ℕ) (limit pages : ℕ) (stop : Stop)
      (before after : Option (List ℕ)) (new : S) : Type 0 where
    pub kept : KeepsBooks model old new
    pub stop_is : IsMirrorStop old book limit pages before after new stop
