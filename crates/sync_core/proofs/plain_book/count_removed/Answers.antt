use Rattle.std.proofs.Common.{rules, ◌≡◌, filter, length, map, sym, ap, ◌∙◌}
use Rattle.std.specs.Map.Iter.{deref_pair}
use Rattle.std.proofs.lemmas.Map.Iter.{iter_end}
use Rattle.base_types.proofs.TextMapLemmas.{octet_entry, entries-texts}
use Rattle.book_model.specs.Pages.{MemberWithRow}
use Rattle.book_model.specs.BookQueries.{is_tombstone_after}
use Rattle.sync_core.proofs.plain_book.count_removed.Goals as goal

pub returns : goal.returns
returns c =
    let all : map deref_pair c.loop-uid.yielded ≡ c.args.rows.now.entries =
    search (rules, iter_end) in
    c.loop-uid.invariant.so_far
    ∙ ap (λ es. length (filter (λ (m : MemberWithRow). is_tombstone_after c.args.horizon m.1)
    (map octet_entry es))) all
    ∙ ap (λ ms. length (filter (λ (m : MemberWithRow). is_tombstone_after c.args.horizon m.1) ms))
    (sym (entries-texts c.args.rows.now c.iter-uid-items.ensures.ordered))
