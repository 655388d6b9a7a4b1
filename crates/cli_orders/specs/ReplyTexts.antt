-- What an order prints for the reply to its command.
use Rattle.std.specs.Prelude.{◌≡◌, ◌⊎◌, ℕ, List, Option}
use Rattle.std.specs.Io.KnownBytes.{Appends, Keeps}
use Rattle.book_model.specs.declared.denied.Fault.TheVariants.{Store}
use Rattle.book_commands.specs.declared.reply.Reply.{Reply}
use Rattle.book_commands.specs.declared.reply.Reply.TheVariants as reply
use Rattle.cli_orders.specs.OrderOutputs.{book_output, expand_lines, forget_output, import_output}
use Rattle.cli_orders.specs.OrderOutputs.{tally_lines}
use Rattle.cli_orders.specs.declared.stop.Stop.{Stop}
use Rattle.cli_orders.specs.declared.stop.Stop.TheVariants.{Refused, Fault, Open, Serve, Device}
use Rattle.cli_orders.specs.Stops.{out_of_memory}
use Rattle.book_http.specs.Streams.{WritesPrefix}

-- the text to print for a reply
abbrev pub IsReplyText : Reply → List ℕ → Type 0
IsReplyText (reply.Created id) text = text ≡ book_output id
IsReplyText (reply.Imported tally) text = text ≡ import_output tally
IsReplyText (reply.Forgot dropped horizon) text = text ≡ forget_output dropped horizon
IsReplyText (reply.Tally tally) text = text ≡ tally_lines tally
IsReplyText (reply.Csv rows) text = text ≡ rows
IsReplyText (reply.People expansion) text = text ≡ expand_lines expansion
IsReplyText r text = ⊥

-- Why there is no text for a reply: it is a refusal or a fault, or memory ran out while the text
-- was built. A reply that no order gets counts as a fault of the store.
abbrev pub IsReplyStop : Reply → Stop → Type 0
IsReplyStop (reply.Refused refusal) stop = stop ≡ Refused refusal
IsReplyStop (reply.Fault fault) stop = stop ≡ Fault fault
IsReplyStop (reply.Books lines) stop = stop ≡ Fault Store
IsReplyStop (reply.Card uid version card) stop = stop ≡ Fault Store
IsReplyStop (reply.Put answer) stop = stop ≡ Fault Store
IsReplyStop (reply.Gone number) stop = stop ≡ Fault Store
IsReplyStop (reply.Moved numbers) stop = stop ≡ Fault Store
IsReplyStop (reply.Page page) stop = stop ≡ Fault Store
IsReplyStop r stop = stop ≡ out_of_memory

-- the writer failed: a prefix of the reply's text is written, perhaps none
pub record PrintsReplyPrefix (r : Reply) (before after : Option (List ℕ)) : Type 0 where
  pub text : List ℕ
  pub agrees : IsReplyText r text
  pub front : WritesPrefix text before after

-- the reply's text is written
pub record PrintsReplyText (r : Reply) (before after : Option (List ℕ)) : Type 0 where
  pub text : List ℕ
  pub agrees : IsReplyText r text
  pub written : Appends before after text

-- The reply is why the order stops, and nothing is written; or the writer failed.
abbrev pub StopsOnReply : Reply → Stop → Option (List ℕ) → Option (List ℕ) → Type 0
StopsOnReply r stop before after =
    (IsReplyStop r stop × Keeps before after) ⊎ ((stop ≡ Device) × PrintsReplyPrefix r before after)

-- Nothing is written on a refusal, on a fault, or if the file can't be opened.
abbrev pub KeepsOutput : Stop → Option (List ℕ) → Option (List ℕ) → Type 0
KeepsOutput (Refused refusal) before after = Keeps before after
KeepsOutput (Fault fault) before after = Keeps before after
KeepsOutput (Open fault) before after = Keeps before after
KeepsOutput (Serve fault) before after = Unit {0}
KeepsOutput Device before after = Unit {0}
