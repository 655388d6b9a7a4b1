-- Replies computed from all live cards of a book: CSV rows and the people of a group.
use Rattle.std.specs.Prelude.{ℕ, ◌≡◌, List, map}
use Rattle.std.specs.FinMap as finite
use Rattle.base_types.specs.TextMaps.{text_cmp}
use Rattle.vcard_lines.specs.declared.line.Line.{Line}
use Rattle.card_core.specs.declared.expansion.Expansion.{Expansion}
use Rattle.card_core.specs.Groups.{IsExpansion}
use Rattle.csv_cards.specs.declared.form.Form.{Form}
use Rattle.csv_cards.specs.Writing.{csv_text}
use Rattle.book_model.specs.Books.{LiveCards}
use Rattle.book_commands.specs.declared.reply.Reply.{Reply}
use Rattle.book_commands.specs.declared.reply.Reply.TheVariants as reply

-- the lines of each live card, by UID
abbrev pub lines_by_uid : LiveCards → finite.FinMap text_cmp (List Line)
lines_by_uid live =
    finite.from_sorted (map (λ entry. (entry.0, entry.1.card)) (finite.entries live))

-- the CSV rows of the cards, in the order of the octets of their UIDs
abbrev pub export_text : Form → LiveCards → List ℕ
export_text form live = csv_text form (finite.values (lines_by_uid live))

-- the reply lists the people that the group reaches among the cards
pub record ReplyHasPeople (live : LiveCards) (group : List ℕ) (r : Reply) : Type 0 where
  pub expansion : Expansion
  pub is_expansion : IsExpansion (lines_by_uid live) group expansion
  pub reply_is : r ≡ reply.People expansion
