-- An import under a new key stores and answers what the model's import does.
-- Given here: the plan judges each card by the book before the import, the model by the book so
-- far. For cards with distinct UIDs that is the same: `planned_book` for the rows, `planned_tally`
-- for the answer, `import_replaces` for the tombstones.
-- If the cards need not have distinct UIDs, these three break first.
use Rattle.std.proofs.Common.{rules, ◌≡◌, Err, sym, ap, subst, arith, length, ◌<◌, ◌^◌}
use Rattle.book_model.specs.BookQueries.{tombstone_count}
use Rattle.book_model.specs.Books.{live_at}
use Rattle.book_model.specs.Importing.{book_after_store, import_cards}
use Rattle.store_lookups.proofs.StoreFaultLemmas.{passed_cause}
use Rattle.store_rows.specs.TableBooks.{row_book, line_row}
use Rattle.store_inserts.specs.internal.Importing.{IsBookImportPlanned, book_with_stored}
use Rattle.store_inserts.specs.internal.Importing.{model_plan}
use Rattle.store_inserts.proofs.TombstoneLemmas.{import_replaces}
use Rattle.store_inserts.proofs.ImportLemmas.{planned_book, planned_tally, refused_tally}
use Rattle.store_inserts.proofs.ImportLemmas.{tally_is_exact}
use Rattle.store_inserts.proofs.import_plan.plan_new_import.Goals as goal

pub returns-in_err-tally-clause-planned : goal.returns-in_err-tally-clause-planned
returns-in_err-tally-clause-planned g c rows clean holds sound name =
    let book = row_book rows (line_row name c.args.header) in
    let plan = c.in_ok-plan.plan in
    let is = c.in_ok-plan.ensures.planned rows clean holds sound name in
    let said : c.from_residual-in_err-tally.result ≡ Err c.in_err-tally.field-0.0 = search rules in
    subst (λ r. IsBookImportPlanned c.args.limits book c.args.cards.now r) (sym said)
    (refused_tally _ _ c.in_err-tally.field-0.0 (planned_tally c.args.limits book c.args.cards.now
    c.requires.distinct (model_plan plan) is) c.in_err-tally.ensures.tally)

pub returns-clause-planned : goal.returns-clause-planned
returns-clause-planned g c rows clean holds sound name =
    let book = row_book rows (line_row name c.args.header) in
    let plan = c.in_ok-plan.plan in
    let is = c.in_ok-plan.ensures.planned rows clean holds sound name in (
      planned_book c.args.limits book c.args.cards.now c.requires.distinct (model_plan plan) is,
      tally_is_exact _ _ c.in_ok-tally.tally (planned_tally c.args.limits book c.args.cards.now
          c.requires.distinct (model_plan plan) is) c.in_ok-tally.ensures.tally,
    )

pub returns-clause-replaced : goal.returns-clause-replaced
returns-clause-replaced g c rows clean holds sound name =
    let book = row_book rows (line_row name c.args.header) in
    let plan = c.in_ok-plan.plan in
    let cards = c.args.cards.now in
    let is = c.in_ok-plan.ensures.planned rows clean holds sound name in
    let count = c.in_ok-plan.ensures.replaced rows clean holds sound name in
    let all = import_replaces book cards c.requires.distinct in
    let same : tombstone_count (import_cards live_at book_after_store book cards).book
    ≡ tombstone_count (book_with_stored book plan.stored.items) =
    ap tombstone_count (planned_book c.args.limits book cards c.requires.distinct
    (model_plan plan) is) in
    omega (arith, count, all, same)

pub returns-clause-numbers_fit : goal.returns-clause-numbers_fit
returns-clause-numbers_fit g c =
    let room = c.in_ok-tally.ensures.number_fits in
    let counted = c.in_ok-plan.ensures.counted in
    omega (arith, room, counted)

pub returns-clause-tally_fits : goal.returns-clause-tally_fits
returns-clause-tally_fits g c =
    let all = c.in_ok-plan.ensures.counts_all in
    let few : length c.args.cards.now < 2 ^ 63 = search rules in
    c.in_ok-tally.ensures.tally_fits (omega (arith, all, few))

-- ---- faults

pub returns-in_err-plan-clause-store_fault : goal.returns-in_err-plan-clause-store_fault
returns-in_err-plan-clause-store_fault g c fits rows clean holds faultless =
    passed_cause c.from_residual.result c.in_err-plan.field-0.0 _ c.from_residual.ensures.1
    (c.in_err-plan.ensures.store_fault fits rows clean holds faultless)

pub returns-in_err-tally-clause-store_fault : goal.returns-in_err-tally-clause-store_fault
returns-in_err-tally-clause-store_fault g c fits rows clean holds faultless =
    let all = c.in_ok-plan.ensures.counts_all in
    let few : length c.args.cards.now < 2 ^ 63 = search rules in
    passed_cause c.from_residual-in_err-tally.result c.in_err-tally.field-0.0 _
    c.from_residual-in_err-tally.ensures.1
    (λ store. absurd (c.in_err-tally.ensures.store_fault fits.number (omega (arith, all, few))
    store))

pub returns-clause-few : goal.returns-clause-few
returns-clause-few g c =
    let few = c.in_ok-tally.ensures.few in
    let counted = c.in_ok-plan.ensures.counted in
    omega (arith, few, counted)
