-- The plan of one book is the model's: its last number, its counts, and the card it renews if full.
-- Given here: the book that the clause is about is the one of the header that was found, and its
-- number is the sum of its counts (`sum`). In a full book the cards that were read are its live
-- cards (`cards_found`), so the first one is the model's (`without_room`).
-- A new field of `BookPlan` breaks `book_planned` first.
use Rattle.std.proofs.Common.{rules, ◌≡◌, ◌<◌, ◌≤◌, ◌^◌, IfSome, ℕ, Bool, true, false, Option, Some}
use Rattle.std.proofs.Common.{None, Result, Ok, Err, sym, ap, subst, ◌∙◌}
use Rattle.std.specs.List.{slice_get}
use Rattle.std.specs.FinMap as finite
use Rattle.std.specs.declared.alloc.Global.{Global}
use Rattle.sqlite.specs.Held.{state}
use Rattle.sqlite.specs.State.{State, HasCleanDisk}
use Rattle.base_types.specs.TextMaps.{octet_map}
use Rattle.book_model.specs.Books.{Book}
use Rattle.book_model.specs.Counting.{live_count, total_changes}
use Rattle.book_model.specs.BookQueries.{cards_step, live_cards}
use Rattle.book_model.specs.declared.counts.Counts.{Counts}
use Rattle.book_model.specs.declared.denied.Denied.{Denied}
use Rattle.book_model.specs.declared.denied.Denied.TheVariants.{Refused}
use Rattle.book_resync.specs.Resyncing.{counts_after_pairs, has_room, last_number, last_number_of}
use Rattle.book_resync.specs.Resyncing.{number_after_pairs, renewed_card}
use Rattle.store_tables.proofs.SchemaCreationLemmas.{clean_before}
use Rattle.store_tables.proofs.Lookups.{reads_then}
use Rattle.store_rows.specs.LookupLaws.{IsBookNamed}
use Rattle.store_rows.specs.SoundTables.{AreSoundRows}
use Rattle.store_rows.specs.TableBooks.{books_of, line_row, row_book}
use Rattle.store_rows.specs.TableRows.{TableRows, HoldsRows}
use Rattle.store_lookups.specs.CallResults.{FollowsStep}
use Rattle.store_lookups.proofs.ReadLemmas.{over_then}
use Rattle.store_lookups.proofs.StoreFaultLemmas.{passed_cause}
use Rattle.store_writes.proofs.ReadFaults.{then_reads}
use Rattle.store_writes.proofs.TransactionFaults.{memory_cause}
use Rattle.store_resync.specs.declared.planning.BookPlan.{BookPlan}
use Rattle.store_resync.specs.declared.planning.Renewal.{Renewal}
use Rattle.store_resync.specs.internal.Plans.{HasShortText, IsBookPlan, IsRenewed}
use Rattle.store_resync.proofs.PlanLemmas.{book_planned, book_refused, cards_denied, cards_found}
use Rattle.store_resync.proofs.PlanLemmas.{fault_follows, header_denied, renewed_legal, with_room}
use Rattle.store_resync.proofs.PlanLemmas.{without_room}
use Rattle.store_resync.proofs.planning.plan_book.Given as given
use Rattle.store_resync.proofs.planning.plan_book.Goals as goal
use Rattle.store_resync.proofs.planning.plan_book.Goals.{After-has_room}

-- what is known once the book's numbers are decided
module _ (g : given.Over) (c : After-has_room g) where
  sum : total_changes c.in_ok-header.header.counts ≡ c.in_ok-header.header.number
  sum = search rules

  value : last_number c.args.limits c.args.pairs c.in_ok-header.header.number
      (live_count c.in_ok-header.header.counts) ≡ Ok c.in_ok-last.last
  value = search rules

  last_is : c.in_ok-last.last ≡ number_after_pairs c.in_ok-header.header.number c.args.pairs
  last_is = search rules

pub returns-in_err-header-clause-planned : goal.returns-in_err-header-clause-planned
returns-in_err-header-clause-planned g c rows clean holds sound book at =
    let said : c.from_residual.result ≡ Err c.in_err-header.field-0.0 = search rules in
    let Wanted = λ (last : ℕ) (plan : BookPlan). IsBookPlan c.args.limits c.args.pairs rows plan
    × (plan.name ≡ c.args.name.now) in
    subst (λ r. FollowsStep Wanted r (last_number_of c.args.limits c.args.pairs book)) (sym said)
    (header_denied Wanted rows c.args.name.now book c.in_err-header.field-0.0
    (last_number_of c.args.limits c.args.pairs book) at (c.in_err-header.ensures.finds rows
    clean holds sound))

pub returns-in_err-last-clause-planned : goal.returns-in_err-last-clause-planned
returns-in_err-last-clause-planned g c rows clean holds sound book at =
    let said : c.from_residual-in_err-last.result ≡ Err (Refused c.in_err-last.field-0.0) =
    search rules in
    let Wanted = λ (last : ℕ) (plan : BookPlan). IsBookPlan c.args.limits c.args.pairs rows plan
    × (plan.name ≡ c.args.name.now) in
    let named = c.in_ok-header.ensures.finds rows clean holds sound in
    subst (λ r. FollowsStep Wanted r (last_number_of c.args.limits c.args.pairs book)) (sym said)
    (book_refused c.args.limits c.args.pairs rows c.args.name.now c.in_ok-header.header book named
    at c.in_err-last.field-0.0 (search rules))

pub returns-then-has_room-clause-planned : goal.returns-then-has_room-clause-planned
returns-then-has_room-clause-planned g c rows clean holds sound book at =
    let p = (goal.at.returns-then-has_room-clause-planned g c).After-has_room in
    let header = c.in_ok-header.header in
    let named = c.in_ok-header.ensures.finds rows clean holds sound in
    let room : has_room c.args.limits (live_count header.counts) ≡ true = search rules in
    book_planned c.args.limits c.args.pairs rows c.args.name.now header book named at
    c.in_ok-own_name.own_name c.in_ok-last.last c.counts_after_pairs-counts.result None
    (search rules) (value g p) (sum g p) (search rules) (last_is g p) (search rules) (search rules)
    (with_room c.args.limits (row_book rows (line_row c.args.name.now header)) room) tt tt

pub returns-in_err-live-clause-planned : goal.returns-in_err-live-clause-planned
returns-in_err-live-clause-planned g c rows clean holds sound book at =
    let said : c.from_residual-in_err-live.result ≡ Err c.in_err-live.field-0.0 = search rules in
    let old = state g.S.Store c.args.conn.now in
    let mid = state g.S.Store c.find_header.new.conn in
    let new = state g.S.Store c.cards_of_book.new.conn in
    let Wanted = λ (last : ℕ) (plan : BookPlan). IsBookPlan c.args.limits c.args.pairs rows plan
    × (plan.name ≡ c.args.name.now) in
    let cards = over_then old mid new _ _ c.in_ok-header.ensures.unchanged
    c.cards_of_book.ensures.reads_only.survives c.in_err-live.ensures.answers rows clean holds
    sound in
    subst (λ r. FollowsStep Wanted r (last_number_of c.args.limits c.args.pairs book)) (sym said)
    (cards_denied (octet_map {A = Global}) Wanted (books_of rows) c.args.name.now book
    c.in_err-live.field-0.0 (last_number_of c.args.limits c.args.pairs book) at cards)

pub returns-clause-planned : goal.returns-clause-planned
returns-clause-planned g c rows clean holds sound book at =
    let p = (goal.at.returns-clause-planned g c).After-has_room in
    let old = state g.S.Store c.args.conn.now in
    let mid = state g.S.Store c.find_header.new.conn in
    let new = state g.S.Store c.cards_of_book.new.conn in
    let early : HasCleanDisk mid = clean_before _ mid new
    c.cards_of_book.ensures.reads_only.survives clean in
    let header = c.in_ok-header.header in
    let own = row_book rows (line_row c.args.name.now header) in
    let named = c.in_ok-header.ensures.finds rows early holds sound in
    let full : has_room c.args.limits (live_count header.counts) ≡ false = search rules in
    let cards = over_then old mid new _ _ c.in_ok-header.ensures.unchanged
    c.cards_of_book.ensures.reads_only.survives c.in_ok-live.ensures.answers rows clean holds
    sound in
    let live : octet_map c.in_ok-live.live ≡ live_cards own =
    cards_found octet_map (books_of rows) c.args.name.now own (Ok c.in_ok-live.live) named.book
    cards in
    let renewed : IsRenewed c.in_ok-renewed.renewed (slice_get (finite.entries (live_cards own))
    0) =
    subst (λ m. IsRenewed c.in_ok-renewed.renewed (slice_get (finite.entries m) 0)) live
    (rw c.from_map.ensures at c.in_ok-renewed.ensures.renewed) in
    book_planned c.args.limits c.args.pairs rows c.args.name.now header book named at
    c.in_ok-own_name.own_name c.in_ok-last.last c.counts_after_pairs-counts.result
    c.in_ok-renewed.renewed
    (search rules) (value g p) (sum g p) (search rules) (last_is g p) (search rules) (search rules)
    (without_room c.args.limits own c.in_ok-renewed.renewed full renewed)
    c.in_ok-renewed.ensures.short
    (renewed_legal rows (line_row c.args.name.now header) c.in_ok-renewed.renewed sound renewed
    c.in_ok-renewed.ensures.canonical)

-- ---- reads

pub returns-in_err-live-clause-reads_only : goal.returns-in_err-live-clause-reads_only
returns-in_err-live-clause-reads_only g c =
    reads_then (state g.S.Store c.args.conn.now) (state g.S.Store c.find_header.new.conn)
    (state g.S.Store c.cards_of_book.new.conn) c.find_header.ensures.reads_only
    c.in_ok-header.ensures.unchanged c.cards_of_book.ensures.reads_only

pub returns-in_err-renewed-clause-reads_only : goal.returns-in_err-renewed-clause-reads_only
returns-in_err-renewed-clause-reads_only g c =
    reads_then (state g.S.Store c.args.conn.now) (state g.S.Store c.find_header.new.conn)
    (state g.S.Store c.cards_of_book.new.conn) c.find_header.ensures.reads_only
    c.in_ok-header.ensures.unchanged c.cards_of_book.ensures.reads_only

pub returns-clause-reads_only : goal.returns-clause-reads_only
returns-clause-reads_only g c =
    reads_then (state g.S.Store c.args.conn.now) (state g.S.Store c.find_header.new.conn)
    (state g.S.Store c.cards_of_book.new.conn) c.find_header.ensures.reads_only
    c.in_ok-header.ensures.unchanged c.cards_of_book.ensures.reads_only

-- ---- faults

pub returns-in_err-header-clause-store_fault : goal.returns-in_err-header-clause-store_fault
returns-in_err-header-clause-store_fault g c rows clean holds faultless =
    passed_cause c.from_residual.result c.in_err-header.field-0.0 _ c.from_residual.ensures.1
    (c.in_err-header.ensures.store_fault rows clean holds faultless)

pub returns-in_err-live-clause-store_fault : goal.returns-in_err-live-clause-store_fault
returns-in_err-live-clause-store_fault g c rows clean holds faultless =
    let old = state g.S.Store c.args.conn.now in
    let mid = state g.S.Store c.find_header.new.conn in
    let new = state g.S.Store c.cards_of_book.new.conn in
    let failed : Result ℕ Denied = Err c.in_err-live.field-0.0 in
    passed_cause c.from_residual-in_err-live.result c.in_err-live.field-0.0 _
    c.from_residual-in_err-live.ensures.1
    (then_reads old mid new _ _ failed c.find_header.ensures.reads_only.survives
    c.in_ok-header.ensures.unchanged c.cards_of_book.ensures.reads_only.survives
    c.in_err-live.ensures.store_fault rows clean holds faultless)

pub returns-in_err-renewed-clause-store_fault : goal.returns-in_err-renewed-clause-store_fault
returns-in_err-renewed-clause-store_fault g c rows clean holds faultless =
    memory_cause c.from_residual-in_err-renewed.result c.in_err-renewed.field-0.0 _
    c.from_residual-in_err-renewed.ensures.1 c.in_err-renewed.ensures.memory
