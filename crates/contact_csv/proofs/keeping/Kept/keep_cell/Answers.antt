use Rattle.std.proofs.Common.{◌≡◌, ◌&&◌, true, subst}
use Rattle.std.specs.List.{list_any}
use Rattle.contact_csv.specs.Carrying.{IsCarried, has_text, is_date_column, is_date_name}
use Rattle.contact_csv.proofs.KeepLemmas.{report_keeps, date_keeps, date_text_keeps, aside_keeps}
use Rattle.contact_csv.proofs.ResultLemmas.{ok_then, ok_both}
use Rattle.contact_csv.proofs.keeping.Kept.keep_cell.Goals as goal

pub returns-then-branch : goal.returns-then-branch
returns-then-branch c =
    ok_then c.report_text.result (λ done reports. report_keeps c.args.column.now c.args.place
    c.args.text.now c.args.self.now c.report_text.new.self
    (subst (λ lines. IsCarried c.args.column.now c.args.place c.args.text.now lines
    c.args.self.now.changes) c.as_slice-lines.ensures
    (c.in_ok-is_carried.ensures c.if-branch.true c.args.place c.args.self.now.changes)) reports)
    c.report_text.ensures

pub returns-then-branch-2 : goal.returns-then-branch-2
returns-then-branch-2 c =
    let column : is_date_column c.args.column.now.property ≡ true =
    subst (λ property. is_date_column property ≡ true) c.as_str-property.ensures
    (c.in_ok-holds_date_text.ensures.column c.if-branch-2.true) in
    let line : list_any (λ line. is_date_name line.name && has_text c.args.text.now line)
    c.args.self.now.lines ≡ true = subst (λ lines. list_any (λ line. is_date_name line.name
    && has_text c.args.text.now line) lines ≡ true) c.as_slice-lines.ensures
    (c.in_ok-holds_date_text.ensures.line c.if-branch-2.true) in
    ok_both c.report.result (date_text_keeps c.args.column.now c.args.place c.args.text.now
    c.args.self.now c.report.new.self column line) c.report.ensures.lines
    c.report.ensures.changes

pub returns-then-is_dated : goal.returns-then-is_dated
returns-then-is_dated c =
    let column : is_date_column c.args.column.now.property ≡ true =
    subst (λ property. is_date_column property ≡ true) c.as_str-property.ensures
    (c.is_dated.ensures.column c.if-is_dated.true) in
    let line : list_any (λ line. is_date_name line.name) c.args.self.now.lines ≡ true =
    subst (λ lines. list_any (λ line. is_date_name line.name) lines ≡ true)
    c.as_slice-lines.ensures (c.is_dated.ensures.line c.if-is_dated.true) in
    ok_both c.report-then-is_dated.result (date_keeps c.args.column.now c.args.place c.args.text.now
    c.args.self.now c.report-then-is_dated.new.self column line) c.report-then-is_dated.ensures.lines
    c.report-then-is_dated.ensures.changes

pub returns : goal.returns
returns c = ok_then c.keep_aside.result (λ done kept. aside_keeps c.args.column.now c.args.place
    c.args.text.now c.args.self.now c.keep_aside.new.self kept) c.keep_aside.ensures
