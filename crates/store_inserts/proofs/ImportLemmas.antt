-- The plan of an import against the model, card by card.
use Rattle.std.proofs.Common.{◌≡◌, ℕ, ◌+◌, false, List, [], ◌∷◌, ◌<◌, get_or, length, map, fold}
use Rattle.std.proofs.Common.{take, Option, Some, None, Result, Ok, Err, refl, sym, ap, subst, ◌∙◌}
use Rattle.std.proofs.Common.{arith}
use Rattle.std.specs.List.{AllByRecursion, IsDistinct}
use Rattle.std.specs.FinMap as finite
use Rattle.std.specs.Option.{option_map_or}
use Rattle.std.proofs.lemmas.List.Sums.{fold-append, fold_more}
use Rattle.vcard_lines.specs.declared.line.Line.{Line}
use Rattle.vcard_text.specs.Cards.{uid_of}
use Rattle.book_model.specs.declared.answers.ImportTally.{ImportTally}
use Rattle.book_model.specs.declared.change.StoreReason.{StoreReason}
use Rattle.book_model.specs.declared.change.StoreReason.TheVariants.{Creation, Edit, Import}
use Rattle.book_model.specs.declared.change.StoreReason.TheVariants.{ImportEdit, MoveIn}
use Rattle.book_model.specs.declared.refusal.Refusal.{Refusal}
use Rattle.book_model.specs.declared.refusal.Refusal.TheVariants.{BadKey, NoSuchBook}
use Rattle.store_rows.specs.TableBooks.{HeaderRow, row_book, books_of, line_row}
use Rattle.store_rows.specs.TableRows.{TableRows, HoldsRows}
use Rattle.store_rows.specs.LookupLaws.{IsBookNamed}
use Rattle.store_rows.specs.SoundTables.{AreSoundRows}
use Rattle.sqlite.specs.Effect.{Database}
use Rattle.book_model.specs.Bounds.{Bounds}
use Rattle.book_model.specs.Books.{Book, Books, same_name, live_at}
use Rattle.book_model.specs.CallOutcomes.{MatchesStep, ◌>>=◌, refuse_unless}
use Rattle.book_model.specs.Counting.{live_count}
use Rattle.book_model.specs.Importing.{Importing, import_card, import_cards, import_with_reason}
use Rattle.book_model.specs.Importing.{import_reason, import_state, import_step, import_tally}
use Rattle.book_model.specs.Importing.{import_under_key, imported_so_far, is_legal_key}
use Rattle.book_model.specs.Importing.{book_after_store, book_import_tally, book_with_kept_import}
use Rattle.book_model.specs.ImportLaws.{HaveDistinctUids}
use Rattle.book_model.proofs.ImportCountLemmas.{imports_take_numbers, row_apart}
use Rattle.book_model.specs.declared.denied.Denied.{Denied}
use Rattle.book_model.specs.declared.denied.Denied.TheVariants.{Refused, Fault}
use Rattle.store_lookups.specs.CallResults.{FollowsStep, IsExactly}
use Rattle.store_inserts.specs.declared.import_plan.PlannedCard.{PlannedCard}
use Rattle.sqlite.specs.Tree.{Trees}
use Rattle.store_writes.specs.TableChanges.{HasBookRow, HoldBooksAfter, TreesHold}
use Rattle.store_inserts.specs.internal.Importing.{IsImportKeyLookup, IsImportRefusal, planned_pair}
use Rattle.store_inserts.specs.internal.Importing.{book_with_import, book_with_stored}
use Rattle.store_inserts.specs.internal.Importing.{plan_next_card, planned_import, planning}
use Rattle.store_inserts.specs.internal.Importing.{book_with_pair}

abbrev Pairs : Type 0
Pairs = List (List Line × StoreReason)

-- ---- the plan is the model's import

-- the model's import state for this plan, starting at the book
abbrev tally_by_header : Book → Importing Pairs → Importing Book
tally_by_header book plan = import_state (fold book_with_pair book plan.book) plan.added plan.edited
    plan.same

one_more : (book : Book) (pairs : Pairs) (card : List Line) (why : StoreReason)
    → book_after_store (fold book_with_pair book pairs) card why ≡ fold book_with_pair book
    (planning pairs card why)
one_more book pairs card why = sym (fold-append book_with_pair book pairs ((card, why) ∷ []))

tally_of_planned : (book : Book) (plan : Importing Pairs) (card : List Line) (why :
    Option StoreReason) → import_with_reason book_after_store (tally_by_header book plan) card why
    ≡ tally_by_header book (import_with_reason planning plan card why)
tally_of_planned book plan card None = refl
tally_of_planned book plan card (Some Creation) =
    ap (λ (b : Book). import_state b plan.added (plan.edited + 1) plan.same)
    (one_more book plan.book card Creation)
tally_of_planned book plan card (Some Edit) =
    ap (λ (b : Book). import_state b plan.added (plan.edited + 1) plan.same)
    (one_more book plan.book card Edit)
tally_of_planned book plan card (Some Import) =
    ap (λ (b : Book). import_state b (plan.added + 1) plan.edited plan.same)
    (one_more book plan.book card Import)
tally_of_planned book plan card (Some ImportEdit) =
    ap (λ (b : Book). import_state b plan.added (plan.edited + 1) plan.same)
    (one_more book plan.book card ImportEdit)
tally_of_planned book plan card (Some MoveIn) =
    ap (λ (b : Book). import_state b plan.added (plan.edited + 1) plan.same)
    (one_more book plan.book card MoveIn)

-- the live card of another UID stays
other_card_stays : (state : Importing Book) (card : List Line) (why : Option StoreReason) (uid :
    List ℕ) → same_name (uid_of card) uid ≡ false
    → live_at (import_with_reason book_after_store state card why).book uid ≡ live_at state.book uid
other_card_stays state card None uid e = refl
other_card_stays state card (Some Creation) uid e = row_apart state.book card Creation uid e
other_card_stays state card (Some Edit) uid e = row_apart state.book card Edit uid e
other_card_stays state card (Some Import) uid e = row_apart state.book card Import uid e
other_card_stays state card (Some ImportEdit) uid e = row_apart state.book card ImportEdit uid e
other_card_stays state card (Some MoveIn) uid e = row_apart state.book card MoveIn uid e

-- the live cards of these UIDs are those from before the import
abbrev IsLiveAsAtFirst : Book → Book → List (List Line) → Type 0
IsLiveAsAtFirst first book cards =
    AllByRecursion (λ card. live_at book (uid_of card) ≡ live_at first (uid_of card)) cards

other_cards_stay : (first : Book) (state : Importing Book) (card : List Line) (why :
    Option StoreReason) (cards : List (List Line))
    → AllByRecursion (λ uid. same_name (uid_of card) uid ≡ false) (map uid_of cards)
    → IsLiveAsAtFirst first state.book cards
    → IsLiveAsAtFirst first (import_with_reason book_after_store state card why).book cards
other_cards_stay first state card why [] apart all = tt
other_cards_stay first state card why (other ∷ cards) apart all = (
  other_card_stays state card why (uid_of other) apart.0
      ∙ all.0,
  other_cards_stay first state card why cards apart.1 all.1,
)

all_live : (first : Book) (cards : List (List Line)) → IsLiveAsAtFirst first first cards
all_live first [] = tt
all_live first (card ∷ cards) = (refl, all_live first cards)

all_done : (cards : List (List Line)) (first : Book) (plan : Importing Pairs) (state :
    Importing Book) → HaveDistinctUids cards → state ≡ tally_by_header first plan
    → IsLiveAsAtFirst first state.book cards
    → fold (import_card live_at book_after_store) state cards ≡ tally_by_header first
    (fold (plan_next_card first) plan cards)
unfolding IsDistinct
all_done [] first plan state distinct is live = is
all_done (card ∷ cards) first plan state distinct is live =
    let why = import_reason card (live_at first (uid_of card)) in
    let here : import_card live_at book_after_store state card ≡ import_with_reason book_after_store
    state card why = ap (λ o. import_with_reason book_after_store state card
    (import_reason card o)) live.0 in
    let next : import_card live_at book_after_store state card ≡ tally_by_header first
    (plan_next_card first plan card) =
    here ∙ ap (λ (s : Importing Book). import_with_reason book_after_store s card why) is
    ∙ tally_of_planned first plan card why in
    all_done cards first (plan_next_card first plan card) (import_card live_at book_after_store
    state card) distinct.1 next
    (subst (λ (s : Importing Book). IsLiveAsAtFirst first s.book cards) (sym here)
    (other_cards_stay first state card why cards distinct.0 live.1))

pub plan_is_import : (book : Book) (cards : List (List Line)) → HaveDistinctUids cards
    → import_cards live_at book_after_store book cards ≡ tally_by_header book
    (planned_import book cards)
plan_is_import book cards distinct =
    all_done cards book (import_state [] 0 0 0) (import_state book 0 0 0) distinct refl
    (all_live book cards)

-- ---- the answer

-- by the book's header alone
abbrev tally_by : Bounds → ℕ → ℕ → ℕ → ℕ → ℕ → Result ImportTally Refusal
tally_by limits added edited same cards number =
    import_tally limits (imported_so_far added edited same) cards number

five_same : (limits : Bounds) (a a' b b' c c' d d' e e' : ℕ) → a ≡ a' → b ≡ b' → c ≡ c' → d ≡ d'
    → e ≡ e' → tally_by limits a b c d e ≡ tally_by limits a' b' c' d' e'
five_same limits a a' b b' c c' d d' e e' p q r s t =
    ap (λ x. tally_by limits x b c d e) p ∙ ap (λ x. tally_by limits a' x c d e) q
    ∙ ap (λ x. tally_by limits a' b' x d e) r ∙ ap (λ x. tally_by limits a' b' c' x e) s
    ∙ ap (tally_by limits a' b' c' d') t

-- the answer of the planned import
module _ (limits : Bounds) (book : Book) (cards : List (List Line)) (distinct :
    HaveDistinctUids cards) (plan : Importing Pairs) (is : plan ≡ planned_import book cards) where
  abbrev done : Importing Book
  done = import_cards live_at book_after_store book cards

  pub planned_book : done.book ≡ fold book_with_pair book plan.book
  planned_book = ap (λ (s : Importing Book). s.book) (plan_is_import book cards distinct)
      ∙ ap (λ (p : Importing Pairs). fold book_with_pair book p.book) (sym is)

  pub planned_tally : tally_by limits plan.added plan.edited plan.same
      (live_count (record book.counts {
        imported = book.counts.imported + plan.added;
        import_edited = book.counts.import_edited + plan.edited;
      }))
      (book.number + plan.added + plan.edited) ≡ book_import_tally limits done
  planned_tally =
      let whole : done ≡ tally_by_header book plan = plan_is_import book cards distinct
      ∙ ap (tally_by_header book) (sym is) in
      let added : plan.added ≡ done.added = sym (ap (λ (s : Importing Book). s.added) whole) in
      let edited : plan.edited ≡ done.edited = sym (ap (λ (s : Importing Book). s.edited) whole) in
      let same : plan.same ≡ done.same = sym (ap (λ (s : Importing Book). s.same) whole) in
      let takes = imports_take_numbers book cards in
      let arrived = takes.arrived in
      let departed = takes.departed in
      let number = takes.number in
      five_same limits plan.added done.added plan.edited done.edited plan.same done.same _
      (live_count done.book.counts) _ done.book.number added edited same
      (omega (arith, arrived, departed, added)) (omega (arith, number, added, edited))

-- equal tallies have the same answer
pub tally_is_exact : (due wanted : Result ImportTally Refusal) (tally : ImportTally) → due ≡ wanted
    → FollowsStep {T = ImportTally} {A = ImportTally} IsExactly (Ok tally) due → wanted ≡ Ok tally
tally_is_exact (Ok asked) wanted tally same returned = sym same ∙ ap Ok (sym returned)
tally_is_exact (Err refusal) wanted tally same returned = absurd returned

pub refused_tally : (due wanted : Result ImportTally Refusal) (denied : Denied) → due ≡ wanted
    → FollowsStep {T = ImportTally} {A = ImportTally} IsExactly (Err denied) due
    → IsImportRefusal denied wanted
refused_tally (Ok asked) wanted (Refused refusal) same returned = absurd returned
refused_tally (Err due) wanted (Refused refusal) same returned = sym same ∙ ap Err (sym returned)
refused_tally due wanted (Fault fault) same returned = tt

-- ---- the step

-- for the book that was found
abbrev import_of : Bounds → Books → List ℕ → List ℕ → List (List Line) → Book
    → Result (ImportTally × Books) Refusal
import_of limits books name key cards book =
    refuse_unless (is_legal_key key) BadKey >>= λ _. import_under_key limits books name book key
    cards (finite.get book.imports key)

module _ (limits : Bounds) (rows : TableRows) (name key : List ℕ) (cards : List (List Line))
    (header : HeaderRow) (kept : Option ImportTally) (found : IsImportKeyLookup rows name key
    (Ok (header, kept))) where
  abbrev here : Book
  here = row_book rows (line_row name header)

  abbrev books : Books
  books = books_of rows

  step_under : import_step limits books name key cards ≡ import_under_key limits books name here key
      cards kept
  step_under =
      ap (λ o. option_map_or Ok o (Err NoSuchBook) >>= import_of limits books name key cards)
      found.0.book
      ∙ ap (λ legal. refuse_unless legal BadKey >>= λ _. import_under_key limits books name here key
      cards (finite.get here.imports key)) found.1
      ∙ ap (import_under_key limits books name here key cards) found.2

  -- an answer is kept
  pub kept_step : (tally : ImportTally) → kept ≡ Some tally
      → import_step limits books name key cards ≡ Ok (tally, books)
  kept_step tally is = step_under ∙ ap (import_under_key limits books name here key cards) is

  abbrev done_here : Importing Book
  done_here = import_cards live_at book_after_store here cards

  under_none : kept ≡ None → import_step limits books name key cards
      ≡ (book_import_tally limits done_here >>= λ tally. Ok (
        tally,
        finite.insert books name (book_with_kept_import done_here.book key tally),
      ))
  under_none is = step_under ∙ ap (import_under_key limits books name here key cards) is

  -- none is kept, and the cards are planned
  pub new_step : (stored : List PlannedCard) (tally : ImportTally) → kept ≡ None
      → done_here.book ≡ book_with_stored here stored → book_import_tally limits done_here
      ≡ Ok tally
      → import_step limits books name key cards ≡ Ok (
        tally,
        finite.insert books name (book_with_import here stored key tally),
      )
  new_step stored tally is book due =
      under_none is
      ∙ ap (λ r. r >>= λ t. Ok (
        t,
        finite.insert books name (book_with_kept_import done_here.book
            key t),
      )) due
      ∙ ap (λ b. Ok (tally, finite.insert books name (book_with_kept_import b key tally))) book

  pub refused_step : (denied : Denied) → kept ≡ None
      → IsImportRefusal denied (book_import_tally limits done_here)
      → IsImportRefusal denied (import_step limits books name key cards)
  refused_step (Refused refusal) is due = under_none is
      ∙ ap (λ r. r >>= λ t. Ok (
        t,
        finite.insert books name (book_with_kept_import done_here.book
            key t),
      )) due
  refused_step (Fault fault) is due = tt

-- ---- cards that are stored one after another

fold_map : (stored : List PlannedCard) (book : Book) → book_with_stored book stored
    ≡ fold (λ b s. book_with_pair b (planned_pair s)) book stored
fold_map [] book = refl
fold_map (s ∷ ss) book = fold_map ss (book_with_pair book (planned_pair s))

pub stored_more : (book : Book) (stored : List PlannedCard) (i : ℕ) (card : PlannedCard)
    → i < length stored → card ≡ get_or stored i card
    → book_with_pair (book_with_stored book (take i stored)) (planned_pair card)
    ≡ book_with_stored book (take (i + 1) stored)
stored_more book stored i card l is =
    ap (λ b. book_with_pair b (planned_pair card)) (fold_map (take i stored) book)
    ∙ ap (λ s. book_with_pair (fold (λ b s. book_with_pair b (planned_pair s)) book (take i stored))
    (planned_pair s)) is
    ∙ sym (fold_more (λ b s. book_with_pair b (planned_pair s)) book stored i card l)
    ∙ sym (fold_map (take (i + 1) stored) book)

-- they leave the kept answers unchanged
pub stored_imports : (stored : List PlannedCard) (book : Book)
    → (book_with_stored book stored).imports ≡ book.imports
stored_imports [] book = refl
stored_imports (s ∷ ss) book = stored_imports ss (book_with_pair book (planned_pair s))

-- a refused or failed import changed nothing
pub refused_does : (step : Result (ImportTally × Books) Refusal) (denied : Denied) (old new : Books)
    → IsImportRefusal denied step → new ≡ old → MatchesStep (Err denied) step old new
refused_does step (Refused refusal) old new due same =
    subst (λ r. MatchesStep (Err (Refused refusal)) r old new) (sym due) (refl, same)
refused_does step (Fault fault) old new due same = same

pub answered_does : (step : Result (ImportTally × Books) Refusal) (tally : ImportTally)
    (books old new : Books) → step ≡ Ok (tally, books) → new ≡ books
    → MatchesStep (Ok tally) step old new
answered_does step tally books old new is same =
    subst (λ r. MatchesStep (Ok tally) r old new) (sym is) (refl, same)

pub answered_holds : (step : Result (ImportTally × Books) Refusal) (tally : ImportTally) (books :
    Books) (db : Trees) → step ≡ Ok (tally, books) → TreesHold books db → HoldBooksAfter step db
answered_holds step tally books db is held = subst (λ r. HoldBooksAfter r db) (sym is) held

-- the row of the book that was found
pub line_of : (db : Database) (rows : TableRows) (name : List ℕ) (header : HeaderRow)
    → HoldsRows db rows → AreSoundRows rows → IsBookNamed rows name header
    → HasBookRow db rows name header
line_of db rows name header holds sound named = record {
  holds = holds;
  sound = sound;
  there = named.there;
}
