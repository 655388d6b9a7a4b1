use Rattle.std.proofs.Common.{rules, ◌<◌, ◌++◌, ◌∙◌, [], ◌∷◌, get_or, length, take, sym, subst}
use Rattle.std.proofs.lemmas.List.{get_or_default, take_more}
use Rattle.store_copy.specs.RowsWithout.{HasNewId, HaveNewIds}
use Rattle.store_copy.proofs.RestLemmas.{one_more}
use Rattle.store_copy.proofs.comparing.is_new_row_at.Goals as goal

pub returns-clause-next : goal.returns-clause-next
returns-clause-next c = λ yes so_far h.
    let rows = c.args.rows.now in
    let place = c.args.place in
    let low : place < length rows = search rules in
    let same = c.index-rows-place.is ∙ get_or_default rows place _ [] low in
    subst (HaveNewIds c.args.at c.args.columns c.args.left.now (so_far ++ c.args.found.now ∷ []))
    (sym (take_more rows place [] low))
    (one_more c.args.at c.args.columns c.args.left.now so_far (take place rows) c.args.found.now
    (get_or rows place []) h (subst (HasNewId c.args.at c.args.columns c.args.left.now
    c.args.found.now) same (c.has_new_id.ensures yes)))
