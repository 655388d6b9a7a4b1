use Rattle.std.proofs.Common.{rules, ◌≡◌, Some, map, min, sym, ap, ◌∙◌}
use Rattle.std.specs.Map.Iter.{deref_pair}
use Rattle.std.specs.Option.{option_map_or}
use Rattle.std.proofs.lemmas.Map.Iter.{iter_end}
use Rattle.base_types.proofs.TextMapLemmas.{octet_entry, entries-texts}
use Rattle.book_model.specs.BookChanges.{least}
use Rattle.sync_core.proofs.DropLemmas.{numbers_of, removal_more}
use Rattle.sync_core.proofs.plain_book.oldest_removal.Goals as goal

pub loop-uid-preserved-then-is_tombstone_after : goal.loop-uid-preserved-then-is_tombstone_after
loop-uid-preserved-then-is_tombstone_after c =
    ap Some (c.lesser.ensures ∙ ap (λ o. option_map_or (min c.in-Some.row.now.changed) o
    c.in-Some.row.now.changed) c.loop-uid.invariant)
    ∙ removal_more deref_pair octet_entry c.args.horizon c.loop-uid.yielded (
      c.in-Some._uid,
      c.in-Some.row,
    ) (sym c.is_tombstone_after.ensures ∙ c.if-is_tombstone_after.true)

pub returns : goal.returns
returns c =
    let all : map deref_pair c.loop-uid.yielded ≡ c.args.rows.now.entries =
    search (rules, iter_end) in
    c.loop-uid.invariant
    ∙ ap (λ es. least (numbers_of c.args.horizon (map octet_entry es))) all
    ∙ ap (λ ms. least (numbers_of c.args.horizon ms))
    (sym (entries-texts c.args.rows.now c.iter-uid-items.ensures.ordered))
