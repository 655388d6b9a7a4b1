-- The books after a planned resync is written are those of the step.
use Rattle.std.proofs.Common.{◌≡◌, ◌≢◌, ◌<◌, ◌≤◌, ℕ, zero, suc, pos, Bool, true, false, cond, List}
use Rattle.std.proofs.Common.{[], ◌∷◌, map, find, length, Option, Some, None, int_eq, refl, sym, ap}
use Rattle.std.proofs.Common.{ap₂, subst, ◌∙◌, ⊎_elim, true≢false, arith}
use Rattle.std.specs.List.{AllByRecursion, slice_get}
use Rattle.std.specs.Option.{option_map}
use Rattle.std.specs.FinMap as finite
use Rattle.std.specs.FinMap.{same_map}
use Rattle.std.specs.FinMap.Entries as entries
use Rattle.std.proofs.lemmas.Bool.{cases_Bool, cases_lt, cond-true, cond-false}
use Rattle.std.proofs.lemmas.List.{length-map}
use Rattle.std.proofs.lemmas.Map.Lookups.{exact_bytes}
use Rattle.std.proofs.lemmas.Option.{same_Some, slice_get-map}
use Rattle.sqlite.specs.Effect.{Database}
use Rattle.sqlite_rules.specs.Lists.{Has}
use Rattle.base_types.specs.TextMaps.{text_cmp}
use Rattle.base_types.proofs.TextLemmas.{text_total, same, same_self, same-equal}
use Rattle.book_model.specs.declared.answers.Stored.{Stored}
use Rattle.book_model.specs.declared.counts.Counts.{Counts}
use Rattle.book_model.specs.declared.row.Row.{Row}
use Rattle.book_model.specs.Bounds.{Bounds}
use Rattle.book_model.specs.Books.{Book, Books}
use Rattle.book_model.specs.Forgetting.{book_after_forget}
use Rattle.book_resync.specs.Resyncing.{book_after_resync, books_after_resync, counts_after_pairs}
use Rattle.book_resync.specs.Resyncing.{number_after_resync, renewed_card, rows_after_renewal}
use Rattle.book_resync.proofs.AllBooksLemmas.{get-mapped}
use Rattle.store_tables.specs.Books.{BookRow, has_name}
use Rattle.store_tables.proofs.KeyedRows.{turned}
use Rattle.store_rows.specs.SoundTables.{AreSoundRows}
use Rattle.store_rows.specs.TableBooks.{books_of, line_row, row_book}
use Rattle.store_rows.specs.TableRows.{TableRows}
use Rattle.store_rows.proofs.BookLemmas.{book_at, same_row}
use Rattle.store_rows.proofs.HeldRows.{books_held}
use Rattle.store_rows.proofs.RowLemmas.{get-books_of}
use Rattle.store_writes.specs.TableChanges.{HoldsBooks, TreesHold}
use Rattle.store_resync.specs.declared.planning.BookPlan.{BookPlan}
use Rattle.store_resync.specs.declared.planning.Renewal.{Renewal}
use Rattle.store_resync.specs.declared.stages.Stage.TheVariants.{Pairs, Forgetting}
use Rattle.store_resync.specs.internal.Changes.{AreApart, HasPlannedRows, HoldsResync}
use Rattle.store_resync.specs.internal.Changes.{TreesHoldResync, book_name}
use Rattle.store_resync.specs.internal.Plans.{ArePlans, IsBookPlan, IsRenewed, planned_entry}
use Rattle.store_resync.specs.internal.Stages.{book_after_stage, header_after, rows_with_renewal}
use Rattle.store_rows.specs.TableRows.{HoldsRows}
use Rattle.store_resync.proofs.ListLemmas.{all_at, sorted_differs}

abbrev Rows : Type 0
Rows = finite.FinMap text_cmp Row

-- ---- one book

renewal_rows : (members : Rows) (renewal : Option Renewal) (card : Option (List ℕ × Stored)) (n : ℕ)
    → IsRenewed renewal card → rows_with_renewal members renewal n ≡ rows_after_renewal members card
    n
renewal_rows members None None n is = refl
renewal_rows members None (Some card) n is = absurd is
renewal_rows members (Some renewal) None n is = absurd is
renewal_rows members (Some renewal) (Some card) n is =
    ap₂ (λ (uid : List ℕ) lines. finite.insert members uid (let row : Row = record {
      changed = n;
      card = Some lines;
    } in row)) is.0 is.1

-- both stages together are the resync
module _ (limits : Bounds) (pairs : ℕ) (rows : TableRows) (plan : BookPlan) (is :
    IsBookPlan limits pairs rows plan) where
  abbrev before : Book
  before = row_book rows (line_row plan.name plan.header)

  abbrev form : ℕ → Counts → Rows → Book
  form n counts members = book_after_forget (record before {
    number = n;
    counts = counts;
    members = members;
  }) n

  pub stages_resync : book_after_stage Forgetting plan (book_after_stage Pairs plan before)
      ≡ book_after_resync limits before pairs
  stages_resync =
      ap (λ n. form n plan.counts (rows_with_renewal before.members plan.renewed n)) is.last
      ∙ ap (λ (c : Counts). form (number_after_resync before pairs) c
      (rows_with_renewal before.members plan.renewed (number_after_resync before pairs)))
      is.counts
      ∙ ap (form (number_after_resync before pairs) (counts_after_pairs before.counts pairs))
      (renewal_rows before.members plan.renewed (renewed_card limits before)
      (number_after_resync before pairs) is.renewed)

-- ---- the plan of a name

module _ (rows : TableRows) where
  plan_of : (q : List ℕ) (book : Book) (plans : List BookPlan)
      → entries.find text_cmp q (map (planned_entry rows) plans) ≡ Some book
      → (i : ℕ) × (plan : BookPlan) × (slice_get plans i ≡ Some plan) × (plan.name ≡ q)
      × (row_book rows (line_row plan.name plan.header) ≡ book)
  plan_of q book [] found = absurd (none found)
    where
      none : ◌≡◌ {A = Option Book} None (Some book) → ⊥
      none e = cc
  plan_of q book (plan ∷ plans) found = ⊎_elim
      (λ here. (
        zero,
        plan,
        refl,
        sym (same-equal q plan.name here),
        same_Some (row_book rows (line_row plan.name plan.header)) book
            (sym (cond-true _ _ _ here) ∙ found),
      ))
      (λ other.
      let rest = plan_of q book plans (sym (cond-false _ _ _ other) ∙ found) in
      (suc rest.0, rest.1, rest.2, rest.3, rest.4))
      (cases_Bool (same q plan.name))

-- a name that no book has isn't among the same names
find_named : (q : List ℕ) (bs cs : List BookRow) → map book_name bs ≡ map book_name cs
    → find (has_name q) cs ≡ None → find (has_name q) bs ≡ None
find_named q [] cs names none = refl
find_named q (b ∷ bs) [] names none = absurd (let bad = names in cc)
find_named q (b ∷ bs) (c ∷ cs) names none =
    let first : b.name ≡ c.name = cc in
    let rest : map book_name bs ≡ map book_name cs = cc in
    by (has_name q c) refl (ap (λ n. has_name q (record c { name = n })) first)
    (find_named q bs cs rest)
  where
    by : (t : Bool) → has_name q c ≡ t → has_name q b ≡ has_name q c → (find (has_name q) cs ≡ None
        → find (has_name q) bs ≡ None) → find (has_name q) (b ∷ bs) ≡ None
    by true is same more = absurd (let bad = rw is at none in cc)
    by false is same more = rw (same ∙ is) (more (rw is at none))

-- ---- all books

module _ (limits : Bounds) (pairs : ℕ) (rows : TableRows) (plans : List BookPlan) (sound :
    AreSoundRows rows) (are : ArePlans limits pairs rows plans) where
  planned_at : (i : ℕ) (plan : BookPlan) → slice_get plans i ≡ Some plan
      → IsBookPlan limits pairs rows plan
  planned_at i plan at = all_at (IsBookPlan limits pairs rows) plans i plan are.each at

  entry_at : (i : ℕ) (plan : BookPlan) → slice_get plans i ≡ Some plan
      → slice_get (finite.entries (books_of rows)) i ≡ Some (planned_entry rows plan)
  entry_at i plan at = ap (λ es. slice_get es i) (sym are.entries)
      ∙ slice_get-map (planned_entry rows) plans i ∙ ap (option_map (planned_entry rows)) at

  names_differ : (i j : ℕ) (a b : BookPlan) → slice_get plans i ≡ Some a
      → slice_get plans j ≡ Some b → i < j → int_eq (pos a.header.id) (pos b.header.id) ≡ false
  names_differ i j a b here there lt =
      let apart = sorted_differs (finite.entries (books_of rows)) i j (planned_entry rows a)
      (planned_entry rows b) (finite.entries_sorted (books_of rows)) (entry_at i a here)
      (entry_at j b there) lt in
      by (int_eq (pos a.header.id) (pos b.header.id)) refl apart
    where
      by : (t : Bool) → int_eq (pos a.header.id) (pos b.header.id) ≡ t → same a.name b.name ≡ false
          → t ≡ false
      by false e apart = refl
      by true e apart =
          let one = same_row rows.books (line_row a.name a.header) (line_row b.name b.header)
          sound.books (planned_at i a here).named.there (planned_at j b there).named.there e in
          let own : same a.name b.name ≡ true =
          ap (same a.name) (sym (ap (λ (r : BookRow). r.name) one)) ∙ same_self a.name in
          absurd (true≢false (sym own ∙ apart))

  pub plans_apart : AreApart plans
  plans_apart i j a b here there apart = ⊎_elim
      (λ less. names_differ i j a b here there less)
      (λ more. turned (pos b.header.id) (pos a.header.id) (names_differ j i b a there here
      (later i j apart more)))
      (cases_lt i j)
    where
      later : (i j : ℕ) → i ≢ j → j ≤ i → j < i
      later i j apart le = ⊎_elim (λ less. less) (λ more. absurd (apart (omega (arith, le, more))))
          (cases_lt j i)

  pub planned_rows : (db : Database) → HoldsRows db rows → HasPlannedRows db rows plans Pairs
  planned_rows db holds = record {
    holds = holds;
    sound = sound;
    each = λ i plan at. (planned_at i plan at).named.there;
    apart = plans_apart;
    legal = λ i plan at. (planned_at i plan at).legal;
  }

  abbrev step : Book → Book
  step book = book_after_resync limits book pairs

  module _ (db : Database) (held : HoldsResync db rows plans) where
    book_there : (q : List ℕ) (book : Book) → finite.get (books_of rows) q ≡ Some book
        → finite.get (books_of held.now) q ≡ Some (step book)
    book_there q book at =
        let found : entries.find text_cmp q (map (planned_entry rows) plans) ≡ Some book =
        ap (entries.find text_cmp q) are.entries ∙ sym (finite.get-entries (books_of rows) q)
        ∙ at in
        let it = plan_of rows q book plans found in
        let plan = it.1 in
        let place = it.2 in
        let row = book_at q held.now.books (line_row plan.name (header_after Forgetting plan))
        held.sound.books (held.there it.0 plan place) it.3 in
        get-books_of held.now q ∙ ap (option_map (row_book held.now)) row
        ∙ ap Some (held.books it.0 plan place
        ∙ stages_resync limits pairs rows plan (planned_at it.0 plan place) ∙ ap step it.4)

    no_book : (q : List ℕ) → finite.get (books_of rows) q ≡ None → finite.get (books_of held.now) q
        ≡ None
    no_book q at =
        let none : find (has_name q) rows.books ≡ None =
        unmapped (find (has_name q) rows.books) (sym (get-books_of rows q) ∙ at) in
        get-books_of held.now q ∙ ap (option_map (row_book held.now)) (find_named q held.now.books
        rows.books held.names none)
      where
        unmapped : (o : Option BookRow) → option_map (row_book rows) o ≡ None → o ≡ None
        unmapped None e = refl
        unmapped (Some b) e = absurd (let bad = e in cc)

    books_resynced : books_of held.now ≡ books_after_resync limits (books_of rows) pairs
    books_resynced = same_map text_total exact_bytes _ _ (λ q. by q (finite.get (books_of rows) q)
        refl ∙ sym (get-mapped step (books_of rows) q))
      where
        by : (q : List ℕ) (o : Option Book) → finite.get (books_of rows) q ≡ o
            → finite.get (books_of held.now) q ≡ option_map step (finite.get (books_of rows) q)
        by q (Some book) at = book_there q book at ∙ sym (ap (option_map step) at)
        by q None at = no_book q at ∙ sym (ap (option_map step) at)

    pub resync_holds : HoldsBooks db (books_after_resync limits (books_of rows) pairs)
    resync_holds = record {
      sound = record { rows = held.now; holds = held.holds; sound = held.sound };
      books_are = books_held db held.now held.holds held.sound ∙ books_resynced;
    }

  -- how many there are
  pub plan_count : finite.len (books_of rows) ≡ length plans
  plan_count =
      let size = finite.len-entries (books_of rows) in
      let listed = ap length are.entries in
      let mapped = length-map plans (planned_entry rows) in
      omega (arith, size, listed, mapped)
