use Rattle.std.proofs.Common.{List, [], ◌∷◌, ◌++◌, sym, ap, ◌∙◌, subst, arith}
use Rattle.std.proofs.lemmas.List.{take_all}
use Rattle.sqlite.specs.Order.{Row}
use Rattle.book_model.specs.declared.page.Entry.{Entry}
use Rattle.store_queries.specs.internal.RowLists.{ShowEntries}
use Rattle.store_queries.proofs.RowListLemmas.{entries_step, no_entries}
use Rattle.store_lookups.specs.StoreFaults.{ShowsFaultlessMember}
use Rattle.store_lookups.proofs.StoreFaultLemmas.{passed_on}
use Rattle.store_queries.proofs.QueryFaultLemmas.{all_at}
use Rattle.store_queries.proofs.row_lists.entries_in.Goals as goal

pub loop-row-init : goal.loop-row-init
loop-row-init c = subst (λ (es : List Entry). ShowEntries [] es 0)
    (sym c.in_ok-entries.ensures.items) no_entries

pub loop-row-preserved : goal.loop-row-preserved
loop-row-preserved c =
    entries_step c.args.rows.now c.loop-row.row-index c.loop-row.entries.items c.push.new.self.items
    c.loop-row.last c.row-item.result c.in_ok-member.member
    c.loop-row-test.true c.row-item.is (c.in_ok-push.ensures.items
    ∙ ap (λ (e : Entry). c.loop-row.entries.items ++ e ∷ []) c.entry_of.ensures)
    c.loop-row.invariant c.in_ok-member.ensures.member

pub returns-clause-entries : goal.returns-clause-entries
returns-clause-entries c =
    subst (λ (es : List Entry). ShowEntries c.args.rows.now es c.loop-row.last)
    (sym c.from_vec.ensures)
    (subst (λ (rs : List Row). ShowEntries rs c.loop-row.entries.items c.loop-row.last)
    (take_all c.loop-row.row-index c.args.rows.now (omega arith)) c.loop-row.invariant)

pub returns-in_err-member-clause-memory : goal.returns-in_err-member-clause-memory
returns-in_err-member-clause-memory c all =
    passed_on c.from_residual-in_err-member.result c.in_err-member.field-0.0
    c.from_residual-in_err-member.ensures.1 (c.in_err-member.ensures.memory
    (all_at ShowsFaultlessMember c.args.rows.now c.loop-row.row-index c.row-item.result all
    c.loop-row-test.true c.row-item.is))
