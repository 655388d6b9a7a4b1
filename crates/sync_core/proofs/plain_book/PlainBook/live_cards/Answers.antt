use Rattle.std.proofs.Common.{rules, ◌≡◌, fold, map, sym, ap, ◌∙◌}
use Rattle.std.specs.FinMap as finite
use Rattle.std.specs.Map.Iter.{deref_pair}
use Rattle.std.proofs.lemmas.Map.Iter.{iter_end}
use Rattle.base_types.proofs.TextMapLemmas.{octet_entry, entries-texts}
use Rattle.book_model.specs.BookQueries.{live_cards, with_live}
use Rattle.sync_core.proofs.LiveCardLemmas.{folded_live}
use Rattle.sync_core.proofs.plain_book.PlainBook.live_cards.Goals as goal

pub returns : goal.returns
returns c =
    let all : map deref_pair c.loop-uid.yielded ≡ c.as_map-rows.result.now.entries =
    search (rules, iter_end) in
    c.loop-uid.invariant
    ∙ ap (λ es. fold with_live finite.empty (map octet_entry es)) all
    ∙ ap (fold with_live finite.empty)
    (sym (entries-texts c.as_map-rows.result.now c.iter-uid-items.ensures.ordered))
    ∙ ap (λ m. fold with_live finite.empty (finite.entries m)) c.as_map-rows.ensures
    ∙ folded_live c.self.inside.members
    ∙ ap live_cards c.self.view_is
