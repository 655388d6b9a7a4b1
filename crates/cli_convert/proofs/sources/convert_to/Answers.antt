use Rattle.std.proofs.Common.{rules}
use Rattle.std.proofs.lemmas.Result.{on_ok_weaker}
use Rattle.card_conversion.specs.Courses.{of_pieces}
use Rattle.cli_convert.proofs.TextLemmas.{cards_converted, contacts_aside, export_aside}
use Rattle.cli_convert.proofs.sources.convert_to.Goals as goal

pub returns-in-Export : goal.returns-in-Export
returns-in-Export g c = on_ok_weaker c.convert_more_exports.result
    (λ converts whole gives uids known. let it = converts uids known in record {
      part = of_pieces it.0;
      is = search (rules, export_aside);
      converts = it.1;
    }) c.convert_more_exports.ensures

pub returns-in_ok-contacts-in-Contacts : goal.returns-in_ok-contacts-in-Contacts
returns-in_ok-contacts-in-Contacts g c = on_ok_weaker c.convert_contacts_under.result
    (λ converts whole gives uids known.
    let it = converts c.in_ok-contacts-in-Contacts.ensures uids known in record {
      part = _;
      is = search (rules, contacts_aside);
      converts = it.part;
    }) c.convert_contacts_under.ensures

pub returns-in-Cards : goal.returns-in-Cards
returns-in-Cards g c = on_ok_weaker c.convert_more_cards.result
    (λ converts whole gives uids known. let it = converts uids known in record {
      part = of_pieces it.entries;
      is = cards_converted _ _ whole it.entries it.whole it.cut gives;
      converts = it.part;
    }) c.convert_more_cards.ensures
