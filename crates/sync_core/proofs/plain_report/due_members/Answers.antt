use Rattle.std.proofs.Common.{rules, ◌≡◌, filter, map, sym, ap, ◌∙◌, List}
use Rattle.std.specs.Map.Iter.{deref_pair}
use Rattle.std.proofs.lemmas.Map.Iter.{iter_end}
use Rattle.base_types.proofs.TextMapLemmas.{octet_entry, entries-texts}
use Rattle.book_model.specs.Pages.{MemberWithRow, is_due_row, due_rows}
use Rattle.sync_core.proofs.plain_report.due_members.Goals as goal

pub returns : goal.returns
returns c =
    let all : map deref_pair c.loop-uid.yielded ≡ c.as_map-rows.result.now.entries =
    search (rules, iter_end) in
    let due : List MemberWithRow → List MemberWithRow =
    filter (λ (m : MemberWithRow). is_due_row c.args.mark m.1) in
    c.loop-uid.invariant
    ∙ ap (λ es. due (map octet_entry es)) all
    ∙ ap due (sym (entries-texts c.as_map-rows.result.now c.iter-uid-items.ensures.ordered))
    ∙ ap (λ m. due_rows m c.args.mark) c.as_map-rows.ensures
