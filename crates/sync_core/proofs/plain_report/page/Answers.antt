use Rattle.std.proofs.Common.{List, [], take, map, refl, sym, ap, ◌∙◌, subst, arith}
use Rattle.std.specs.FinMap as finite
use Rattle.std.specs.Map.Iter.{deref_pair}
use Rattle.std.proofs.lemmas.List.{take-map, length-map}
use Rattle.base_types.specs.TextMaps.{text_cmp}
use Rattle.book_model.specs.declared.row.Row.{Row}
use Rattle.book_model.specs.Pages.{ReportRequest, MemberWithRow, entry_of_row, due_rows}
use Rattle.book_model.specs.Pages.{IsOrderedByNumber}
use Rattle.sync_core.proofs.PageLemmas.{nothing_due, last_read}
use Rattle.sync_core.proofs.plain_report.page.Goals as goal

pub returns-then-is_unchanged_since : goal.returns-then-is_unchanged_since
returns-then-is_unchanged_since c =
    c.whole_page.ensures.report (record {
      book = c.args.book.now;
      mark = c.args.mark;
      size = c.args.size;
    }) []
    (record {
      by_number = nothing_due (due_rows c.args.book.now.members c.args.mark)
          (c.is_unchanged_since.ensures.none_due c.if-is_unchanged_since.true);
      fit = omega arith;
    })
    (sym c.id.ensures) (sym c.number.ensures) c.new.ensures

pub returns-then-size-len : goal.returns-then-size-len
returns-then-size-len c =
    let ordered : List MemberWithRow = map deref_pair c.in_ok-due.due.items in
    let long = length-map c.in_ok-due.due.items deref_pair in
    let asked : ReportRequest = record {
      book = c.args.book.now;
      mark = c.args.mark;
      size = c.args.size;
    } in
    c.truncated_page.ensures.report asked (take c.args.size ordered)
    (record {
      ordered = ordered;
      by_number = subst (λ (rows : finite.FinMap text_cmp Row). IsOrderedByNumber
          (due_rows rows c.args.mark) ordered) c.members.ensures c.in_ok-due.ensures;
      first = refl;
      some = c.requires;
      more = omega (arith, long, c.if-size-len.true);
    })
    (sym c.id-then-size-len.ensures) refl
    (c.in_ok-entries.ensures ∙ ap (λ xs. map entry_of_row (map deref_pair (take c.args.size xs)))
    c.deref.ensures.value ∙ ap (map entry_of_row)
    (sym (take-map deref_pair c.args.size c.in_ok-due.due.items)))
    (last_read deref_pair c.in_ok-due.due.items c.args.size c.index.result.now c.requires
    (omega (arith, c.if-size-len.true)) c.index.ensures)

pub returns : goal.returns
returns c =
    let ordered : List MemberWithRow = map deref_pair c.in_ok-due.due.items in
    let long = length-map c.in_ok-due.due.items deref_pair in
    c.whole_page-else-size-len.ensures.report (record {
      book = c.args.book.now;
      mark = c.args.mark;
      size = c.args.size;
    }) ordered
    (record {
      by_number = subst (λ (rows : finite.FinMap text_cmp Row). IsOrderedByNumber
          (due_rows rows c.args.mark) ordered) c.members.ensures c.in_ok-due.ensures;
      fit = omega (arith, long, c.if-size-len.false);
    })
    (sym c.id-else-size-len.ensures) (sym c.number-else-size-len.ensures)
    (c.in_ok-entries-2.ensures ∙ ap (λ xs. map entry_of_row (map deref_pair xs))
    c.as_slice.ensures.value)
