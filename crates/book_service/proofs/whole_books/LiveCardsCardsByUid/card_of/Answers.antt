use Rattle.std.proofs.Common.{sym, ap, ◌∙◌}
use Rattle.std.specs.Option.{option_map}
use Rattle.base_types.specs.TextMaps.{octet_map}
use Rattle.book_service.proofs.WholeBookLemmas.{card_in, get-lines}
use Rattle.book_service.proofs.whole_books.LiveCardsCardsByUid.card_of.Goals as goal

pub returns-in-Some : goal.returns-in-Some
returns-in-Some c = ap (option_map card_in) c.in-Some.ensures
    ∙ sym (get-lines (octet_map c.args.self.now.stored) c.args.uid.now)

pub returns-in-None : goal.returns-in-None
returns-in-None c = ap (option_map card_in) c.in-None.ensures
    ∙ sym (get-lines (octet_map c.args.self.now.stored) c.args.uid.now)
