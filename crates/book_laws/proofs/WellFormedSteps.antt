-- Each step keeps the books well formed, by what its tests leave. Given here: for each step what
-- its tests leave, one after the other (`after_test`, `after_known`), so that a lemma of
-- `WellFormedBooks` applies; of an import an induction over its cards, with the invariant
-- `IsImporting`.
use Rattle.std.proofs.Common.{◌≡◌, ℕ, ◌+◌, ◌<◌, ◌≤◌, true, false, cond, not, ◌⊎◌, inl, inr, ◌||◌}
use Rattle.std.proofs.Common.{◌==◌, List, [], ◌∷◌, fold, Option, Some, None, is_some, nat_lt}
use Rattle.std.proofs.Common.{nat_le, Result, Ok, refl, sym, ap, ◌∙◌, subst, ⊎_elim, arith}
use Rattle.std.specs.Result.{IfOk}
use Rattle.std.specs.Option.{option_map, option_and_then}
use Rattle.std.specs.FinMap as finite
use Rattle.std.specs.FinMap.{get-insert}
use Rattle.std.proofs.lemmas.Bool.{cond-false, and_parts, or_cases, ltb-true, leb-true, eqb-true}
use Rattle.std.proofs.lemmas.Bool.{not-true}
use Rattle.std.proofs.lemmas.Option.{same_Some}
use Rattle.std.proofs.lemmas.Result.{IfOk-weaker}
use Rattle.vcard_lines.specs.declared.line.Line.{Line}
use Rattle.vcard_text.specs.Cards.{uid_of}
use Rattle.book_model.specs.declared.answers.ImportTally.{ImportTally}
use Rattle.book_model.specs.declared.answers.Moved.{Moved}
use Rattle.book_model.specs.declared.answers.PutAnswer.{PutAnswer}
use Rattle.book_model.specs.declared.answers.PutAnswer.TheVariants.{Created, Edited, Unchanged}
use Rattle.book_model.specs.declared.answers.Stored.{Stored}
use Rattle.book_model.specs.declared.change.Change.TheVariants.{Stores, TakesAway}
use Rattle.book_model.specs.declared.change.StoreReason.{StoreReason}
use Rattle.book_model.specs.declared.change.StoreReason.TheVariants.{Creation, Edit, Import}
use Rattle.book_model.specs.declared.change.StoreReason.TheVariants.{ImportEdit, MoveIn}
use Rattle.book_model.specs.declared.change.RemovalReason.TheVariants.{Deletion, MoveOut}
use Rattle.book_model.specs.declared.refusal.Refusal.{Refusal}
use Rattle.book_model.specs.declared.refusal.Refusal.TheVariants.{BadBookName, BookExists}
use Rattle.book_model.specs.declared.refusal.Refusal.TheVariants.{TooManyBooks, VersionMismatch}
use Rattle.book_model.specs.declared.refusal.Refusal.TheVariants.{UidTaken, SameBook, BookFull}
use Rattle.book_model.specs.declared.refusal.Refusal.TheVariants.{ChangesSpent, BadKey, BadForget}
use Rattle.book_model.specs.declared.row.Row.{Row}
use Rattle.book_model.specs.Bounds.{Bounds, bounds_of}
use Rattle.book_model.specs.BookNames.{is_legal_name}
use Rattle.book_model.specs.Books.{Book, Books, fresh_book, live_at, live_or_no_such_card}
use Rattle.book_model.specs.Books.{same_name, stored_in_row}
use Rattle.book_model.specs.BookChanges.{book_after_change}
use Rattle.book_model.specs.Counting.{live_count}
use Rattle.book_model.specs.Creating.{new_id}
use Rattle.book_model.specs.Forgetting.{book_after_forget, may_forget}
use Rattle.book_model.specs.Importing.{Importing, import_state, import_card, import_cards}
use Rattle.book_model.specs.Importing.{import_tally, import_under_key, is_legal_key}
use Rattle.book_model.specs.Importing.{book_with_kept_import, book_after_store, import_with_reason}
use Rattle.book_model.specs.Importing.{import_reason}
use Rattle.book_model.specs.Moving.{Moving, move_numbers, move_answer, books_after_move}
use Rattle.book_model.specs.CallOutcomes.{◌>>=◌, refuse_unless}
use Rattle.book_model.specs.Putting.{FoundMember, answer_over_live, books_after_put, found_in_book}
use Rattle.book_model.specs.Putting.{is_expected, next_number, put_answer, put_store_reason}
use Rattle.book_model.specs.Putting.{version_of}
use Rattle.book_model.specs.Removing.{remove_number}
use Rattle.book_model.specs.SameCards.{same_card}
use Rattle.book_model.specs.WellFormed.{IsWellFormedBook, IsWellFormed}
use Rattle.book_laws.specs.WellFormedLaws.{AreWithin, LeavesWellFormed, CreateKeepsWellFormed}
use Rattle.book_laws.specs.WellFormedLaws.{PutKeepsWellFormed, RemoveKeepsWellFormed}
use Rattle.book_laws.specs.WellFormedLaws.{MoveKeepsWellFormed, ImportKeepsWellFormed}
use Rattle.book_laws.specs.WellFormedLaws.{ForgetKeepsWellFormed}
use Rattle.base_types.proofs.TextLemmas.{text_total}
use Rattle.book_laws.proofs.AcceptedLemmas.{after_test, after_known, after_named}
use Rattle.book_laws.proofs.WellFormedBooks.{Fits, well_changed, within, well_kept, well_forgotten}
use Rattle.book_laws.proofs.WellFormedBooks.{well_over, well_new}

-- there was a number left
abbrev HasNumberLeft : Bounds → ℕ → Type 0
HasNumberLeft limits number = number + 1 ≤ limits.changes_max

number_left : (limits : Bounds) (number : ℕ)
    → IfOk (next_number limits number) (λ _. HasNumberLeft limits number)
number_left limits number = after_test (λ _. HasNumberLeft limits number)
    (nat_lt number limits.changes_max) ChangesSpent (Ok (number + 1))
    (λ left. let l = ltb-true number limits.changes_max left in omega (arith, l))

-- and so there is one by greater limits
left_within : (limits most : Bounds) (number : ℕ) → AreWithin limits most
    → HasNumberLeft limits number → HasNumberLeft most number
left_within limits most number fits left = let le = fits.changes in omega (arith, le, left)

-- ---- creating a book

record IsNewId (limits : Bounds) (books : Books) (name : List ℕ) (id : ℕ) : Type 0 where
  legal : is_legal_name name ≡ true
  free : finite.contains_key books name ≡ false
  room : finite.len books < limits.books_max
  id_is : finite.len books + 1 ≡ id

new_id_is : (limits : Bounds) (books : Books) (name : List ℕ)
    → IfOk (new_id limits name (finite.contains_key books name) (finite.len books))
    (IsNewId limits books name)
new_id_is limits books name =
    let P = IsNewId limits books name in
    after_test P (is_legal_name name) BadBookName _ (λ legal.
    after_test P (not (finite.contains_key books name)) BookExists _ (λ free.
    after_test P (nat_lt (finite.len books) limits.books_max) TooManyBooks _ (λ room.
    record {
      legal = legal;
      free = not-true (finite.contains_key books name) free;
      room = ltb-true (finite.len books) limits.books_max room;
      id_is = refl;
    })))

pub creating_keeps_form : CreateKeepsWellFormed
creating_keeps_form limits most books name range fits is =
    after_known (λ (done : ℕ × Books). IsWellFormed most done.1) (IsNewId limits books name)
    (new_id limits name (finite.contains_key books name) (finite.len books))
    (λ id. Ok (id, finite.insert books name (fresh_book id limits.keep)))
    (new_id_is limits books name)
    (λ id new.
    let le = fits.books in
    let room = new.room in
    subst (λ (n : ℕ). IsWellFormed most (finite.insert books name (fresh_book n limits.keep)))
    new.id_is (well_new most books name is limits.keep range.keep_least new.free new.legal
    (omega (arith, le, room))))

-- ---- storing a card

-- where the card is stored, the reason fits what was live, and there was a number left
abbrev PutsWell : Bounds → ℕ → List Line → Option Stored → PutAnswer → Type 0
PutsWell limits number card live answer = (why : StoreReason) → put_store_reason answer ≡ Some why
    → Fits (Stores card why) live × HasNumberLeft limits number

put_over : (limits : Bounds) (found : FoundMember) (card : List Line) (live : Option Stored)
    → IfOk (answer_over_live limits found card live) (PutsWell limits found.number card live)
put_over limits found card None =
    let P = PutsWell limits found.number card None in
    after_test P (nat_lt found.cards limits.cards_max) BookFull _ (λ room.
    after_known P (λ (_ : ℕ). HasNumberLeft limits found.number) (next_number limits found.number)
    (λ version. Ok (Created version)) (number_left limits found.number)
    (λ version left why e. (
      subst (λ (w : StoreReason). Fits (Stores card w) None)
          (same_Some Creation why e) refl,
      left,
    )))
put_over limits found card (Some stored) =
    elim (same_card stored.card card) as
    (λ b. IfOk (cond b (Ok (Unchanged stored.version)) (next_number limits found.number >>=
    λ version. Ok (Edited version))) (PutsWell limits found.number card (Some stored))) [
      | true ↦ λ why e. absurd (no_reason why e)
      | false ↦ after_known (PutsWell limits found.number card (Some stored))
          (λ (_ : ℕ). HasNumberLeft limits found.number) (next_number limits found.number)
          (λ version. Ok (Edited version)) (number_left limits found.number)
          (λ version left why e. (
            subst (λ (w : StoreReason). Fits (Stores card w) (Some stored))
                (same_Some Edit why e) refl,
            left,
          ))
    ]
  where
    no_reason : (why : StoreReason) → ◌≡◌ {A = Option StoreReason} None (Some why) → ⊥
    no_reason why e = cc

module _ (limits most : Bounds) (within_most : AreWithin limits most) (books : Books) (name :
    List ℕ) (is : IsWellFormed most books) where
  put_written : (book : Book) (card : List Line) → finite.get books name ≡ Some book
      → (o : Option StoreReason)
      → ((why : StoreReason) → o ≡ Some why → Fits (Stores card why) (live_at book (uid_of card))
      × HasNumberLeft limits book.number)
      → IsWellFormed most (books_after_put books name book card o)
  put_written book card at None fits = is
  put_written book card at (Some why) fits =
      let f = fits why refl in
      well_over most books name is book (book_after_change book (uid_of card) (Stores card why)) at
      refl
      (well_changed most most book (uid_of card) (Stores card why) (is.each name book at)
      (left_within limits most book.number within_most f.1) f.0 refl)

pub putting_keeps_form : PutKeepsWellFormed
putting_keeps_form limits most books name card expect fits is =
    let P : PutAnswer × Books → Type 0 = λ done. IsWellFormed most done.1 in
    after_named P books name _ (λ book at.
    let found = found_in_book book (uid_of card) in
    let Q = PutsWell limits book.number card (live_at book (uid_of card)) in
    after_known P Q (put_answer limits found card expect) _
    (after_test Q (is_expected expect (version_of found.live))
    (VersionMismatch (version_of found.live)) (answer_over_live limits found card found.live)
    (λ expected. put_over limits found card found.live))
    (λ answer well. put_written limits most fits books name is book card at
    (put_store_reason answer) well))

-- ---- removing a card

remove_over : (limits : Bounds) (number : ℕ) (expect : Option ℕ) (live : Option Stored)
    → IfOk (live_or_no_such_card live >>= λ stored. refuse_unless
    (is_expected expect stored.version) (VersionMismatch stored.version) >>= λ _. next_number
    limits number) (λ _. (is_some live ≡ true) × HasNumberLeft limits number)
remove_over limits number expect None = tt
remove_over limits number expect (Some stored) =
    let Q : ℕ → Type 0 = λ _. (is_some (Some stored) ≡ true) × HasNumberLeft limits number in
    after_test Q (is_expected expect stored.version) (VersionMismatch stored.version)
    (next_number limits number) (λ expected.
    IfOk-weaker (next_number limits number) (λ _. HasNumberLeft limits number) Q
    (λ version left. (refl, left)) (number_left limits number))

pub removing_keeps_form : RemoveKeepsWellFormed
removing_keeps_form limits most books name uid expect fits is =
    let P : ℕ × Books → Type 0 = λ done. IsWellFormed most done.1 in
    after_named P books name _ (λ book at.
    after_known P (λ (_ : ℕ). (is_some (live_at book uid) ≡ true)
    × HasNumberLeft limits book.number) (remove_number limits (found_in_book book uid) expect) _
    (remove_over limits book.number expect (live_at book uid))
    (λ number found. well_over most books name is book
    (book_after_change book uid (TakesAway Deletion)) at refl
    (well_changed most most book uid (TakesAway Deletion) (is.each name book at)
    (left_within limits most book.number fits found.1) found.0 tt)))

-- ---- moving a card

record FitsMove (limits : Bounds) (source target : FoundMember) (moving : Moving) : Type 0 where
  stored : Stored
  live : source.live ≡ Some stored
  free : target.live ≡ None
  card_is : stored.card ≡ moving.card
  source_left : HasNumberLeft limits source.number
  target_left : HasNumberLeft limits target.number

abbrev HaveNumbersLeft : Bounds → ℕ → ℕ → Type 0
HaveNumbersLeft limits a b = HasNumberLeft limits a × HasNumberLeft limits b

numbers_left : (limits : Bounds) (cards a b : ℕ)
    → IfOk (move_numbers limits cards a b) (λ _. HaveNumbersLeft limits a b)
numbers_left limits cards a b =
    let Q : Moved → Type 0 = λ _. HaveNumbersLeft limits a b in
    after_test Q (nat_lt cards limits.cards_max) BookFull _ (λ room.
    after_known Q (λ (_ : ℕ). HasNumberLeft limits a) (next_number limits a) _
    (number_left limits a) (λ from left.
    after_known Q (λ (_ : ℕ). HasNumberLeft limits b) (next_number limits b) _
    (number_left limits b) (λ version also. (left, also))))

module _ (limits : Bounds) (a b : FoundMember) (expect : Option ℕ) where
  abbrev expected : Stored → Result Moving Refusal
  expected stored = refuse_unless (is_expected expect stored.version)
      (VersionMismatch stored.version) >>= λ _. move_numbers limits b.cards a.number b.number >>=
      λ numbers. Ok (record { card = stored.card; numbers = numbers })

  move_over : (live free : Option Stored) → a.live ≡ live → b.live ≡ free
      → IfOk (live_or_no_such_card live >>= λ stored. refuse_unless (not (is_some free)) UidTaken
      >>= λ _. expected stored) (FitsMove limits a b)
  move_over None free p q = tt
  move_over (Some stored) (Some other) p q = tt
  move_over (Some stored) None p q =
      after_test (FitsMove limits a b) (is_expected expect stored.version)
      (VersionMismatch stored.version) _ (λ expected.
      after_known (FitsMove limits a b) (λ (_ : Moved). HaveNumbersLeft limits a.number b.number)
      (move_numbers limits b.cards a.number b.number) _ (numbers_left limits b.cards a.number
      b.number)
      (λ numbers left. record {
        stored = stored;
        live = p;
        free = q;
        card_is = refl;
        source_left = left.0;
        target_left = left.1;
      }))

-- a live card of a well-formed book has its UID
own_live : (limits : Bounds) (book : Book) (uid : List ℕ) (stored : Stored)
    → IsWellFormedBook limits book → live_at book uid ≡ Some stored → uid_of stored.card ≡ uid
own_live limits book uid stored is e = by_row (finite.get book.members uid) refl e
  where
    no_card : ◌≡◌ {A = Option Stored} None (Some stored) → ⊥
    no_card e = cc

    by_card : (row : Row) → finite.get book.members uid ≡ Some row → (o : Option (List Line))
        → row.card ≡ o → option_map (λ (card : List Line). let s :
        Stored = record { version = row.changed; card = card } in s) o ≡ Some stored
        → uid_of stored.card ≡ uid
    by_card row at (Some card) c e = sym (ap (λ (s : Stored). uid_of s.card) (same_Some _ stored e))
        ∙ (is.rows uid row at).own_card card c
    by_card row at None c e = absurd (no_card e)

    by_row : (o : Option Row) → finite.get book.members uid ≡ o → option_and_then stored_in_row o
        ≡ Some stored → uid_of stored.card ≡ uid
    by_row (Some row) at e = by_card row at row.card refl e
    by_row None at e = absurd (no_card e)

module _ (limits most : Bounds) (within_most : AreWithin limits most) (books : Books) (from to uid :
    List ℕ) (source target : Book) (moving : Moving) (is : IsWellFormed most books)
    (at : finite.get books from ≡ Some source) (there : finite.get books to ≡ Some target) (apart :
    same_name from to ≡ false) (fits : FitsMove limits (found_in_book source uid)
    (found_in_book target uid) moving) where
  abbrev target_after : Book
  target_after = book_after_change target uid (Stores moving.card MoveIn)

  abbrev removed_up_to_base : Book
  removed_up_to_base = book_after_change source uid (TakesAway MoveOut)

  own_moved : uid_of moving.card ≡ uid
  own_moved = ap uid_of (sym fits.card_is)
      ∙ own_live most source uid fits.stored (is.each from source at) fits.live

  well_come : IsWellFormed most (finite.insert books to target_after)
  well_come = well_over most books to is target target_after there refl
      (well_changed most most target uid (Stores moving.card MoveIn) (is.each to target there)
      (left_within limits most target.number within_most fits.target_left) fits.free own_moved)

  still_at : finite.get (finite.insert books to target_after) from ≡ Some source
  still_at = get-insert text_total books to target_after from ∙ cond-false _ _ _ apart ∙ at

  well_moved : IsWellFormed most (books_after_move books from to uid source target moving.card)
  well_moved = well_over most (finite.insert books to target_after) from well_come source
      removed_up_to_base still_at refl (well_changed most most source uid (TakesAway MoveOut)
      (is.each from source at) (left_within limits most source.number within_most fits.source_left)
      (ap is_some fits.live) tt)

pub moving_keeps_form : MoveKeepsWellFormed
moving_keeps_form limits most books from to uid expect within_most is =
    let P : Moved × Books → Type 0 = λ done. IsWellFormed most done.1 in
    after_named P books from _ (λ source at.
    after_named P books to _ (λ target there.
    after_test P (not (same_name from to)) SameBook _ (λ apart.
    after_known P (FitsMove limits (found_in_book source uid) (found_in_book target uid))
    (move_answer limits (found_in_book source uid) (found_in_book target uid) expect) _
    (move_over limits (found_in_book source uid) (found_in_book target uid) expect
    (live_at source uid) (live_at target uid) refl refl)
    (λ moving fits. well_moved limits most within_most books from to uid source target moving is at
    there (not-true (same_name from to) apart) fits))))

-- ---- importing cards

-- the book after the cards imported so far
record IsImporting (start : Book) (state : Importing Book) : Type 0 where
  limits : Bounds
  form : IsWellFormedBook limits state.book
  same_id : state.book.id ≡ start.id
  number_is : state.book.number ≡ start.number + (state.added + state.edited)

abbrev one_more : ℕ → Bounds
one_more number = bounds_of 0 0 (number + 1) 0

module _ (start : Book) (state : Importing Book) (card : List Line) (is : IsImporting start state)
  where
    import_stored : (why : StoreReason) → Fits (Stores card why) (live_at state.book (uid_of card))
        → IsWellFormedBook (one_more state.book.number) (book_after_store state.book card why)
    import_stored why fits = well_changed is.limits (one_more state.book.number) state.book
        (uid_of card) (Stores card why) is.form (omega arith) fits refl

    over : (o : Option Stored) → live_at state.book (uid_of card) ≡ o
        → IsImporting start (import_with_reason book_after_store state card (import_reason card o))
    over None none =
        let n = is.number_is in
        record {
          limits = one_more state.book.number;
          form = import_stored Import none;
          same_id = is.same_id;
          number_is = omega (arith, n);
        }
    over (Some stored) some = elim (same_card stored.card card) as
        (λ b. IsImporting start (import_with_reason book_after_store state card
        (cond b None (Some ImportEdit)))) [
          | true ↦ record {
            limits = is.limits;
            form = is.form;
            same_id = is.same_id;
            number_is = is.number_is;
          }
          | false ↦
              let n = is.number_is in
              record {
                limits = one_more state.book.number;
                form = import_stored ImportEdit (ap is_some some);
                same_id = is.same_id;
                number_is = omega (arith, n);
              }
        ]

all_cards : (start : Book) (cards : List (List Line)) (state : Importing Book)
    → IsImporting start state → IsImporting start (fold (import_card live_at book_after_store) state
    cards)
all_cards start [] state is = is
all_cards start (card ∷ cards) state is =
    all_cards start cards (import_card live_at book_after_store state card)
    (over start state card is (live_at state.book (uid_of card)) refl)

-- nothing was stored, or there were numbers left for it
record FitsTally (limits : Bounds) (state : Importing Book) (number : ℕ) (tally : ImportTally) :
    Type 0 where
  number_is : tally.number ≡ number
  room : (state.added + state.edited ≡ 0) ⊎ (number ≤ limits.changes_max)

tally_fits : (limits : Bounds) (state : Importing Book) (cards number : ℕ)
    → IfOk (import_tally limits state cards number) (FitsTally limits state number)
tally_fits limits state cards number =
    let P = FitsTally limits state number in
    after_test P ((state.added == 0) || nat_le cards limits.cards_max) BookFull _ (λ room.
    after_test P ((state.added + state.edited == 0) || nat_le number limits.changes_max)
    ChangesSpent _ (λ left. record {
      number_is = refl;
      room = ⊎_elim (λ none. inl (eqb-true _ _ none))
          (λ le. inr (leb-true number limits.changes_max le)) (or_cases _ _ left);
    }))

module _ (limits most : Bounds) (within_most : AreWithin limits most) (books : Books) (name key :
    List ℕ) (book : Book) (cards : List (List Line)) (is : IsWellFormed most books) (at :
    finite.get books name ≡ Some book) (legal : is_legal_key key ≡ true) where
  abbrev imported : Importing Book
  imported = import_cards live_at book_after_store book cards

  imported_well : IsImporting book imported
  imported_well = all_cards book cards (import_state book 0 0 0) (record {
    limits = most;
    form = is.each name book at;
    same_id = refl;
    number_is = omega arith;
  })

  tally_room : (tally : ImportTally) → FitsTally limits imported imported.book.number tally
      → imported.book.number ≤ most.changes_max
  tally_room tally fits =
      let n = imported_well.number_is in
      let old = (is.each name book at).within_limit in
      let raised = within_most.changes in
      ⊎_elim (λ none. omega (arith, n, old, none)) (λ le. omega (arith, le, raised)) fits.room

  import_kept : (kept : Option ImportTally)
      → LeavesWellFormed most (import_under_key limits books name book key cards kept)
  import_kept (Some kept) = is
  import_kept None =
      let P : ImportTally × Books → Type 0 = λ done. IsWellFormed most done.1 in
      after_known P (FitsTally limits imported imported.book.number) (import_tally limits imported
      (live_count imported.book.counts) imported.book.number) _
      (tally_fits limits imported (live_count imported.book.counts) imported.book.number)
      (λ tally fits.
      let known = fits.number_is in
      well_over most books name is book (book_with_kept_import imported.book key tally) at
      imported_well.same_id
      (well_kept most imported.book key tally legal (omega (arith, known))
      (within imported_well.limits most imported.book (tally_room tally fits)
      imported_well.form)))

pub importing_keeps_form : ImportKeepsWellFormed
importing_keeps_form limits most books name key cards fits is =
    let P : ImportTally × Books → Type 0 = λ done. IsWellFormed most done.1 in
    after_named P books name _ (λ book at.
    after_test P (is_legal_key key) BadKey _ (λ legal.
    import_kept limits most fits books name key book cards is at legal
    (finite.get book.imports key)))

-- ---- forgetting

pub forgetting_keeps_form : ForgetKeepsWellFormed
forgetting_keeps_form limits books name upto is =
    let P : ℕ × Books → Type 0 = λ done. IsWellFormed limits done.1 in
    after_named P books name _ (λ book at.
    after_test P (may_forget book.horizon book.number upto) BadForget _ (λ allowed.
    well_over limits books name is book (book_after_forget book upto) at refl
    (well_forgotten limits book upto (is.each name book at)
    (leb-true book.horizon upto (and_parts _ _ allowed).0)
    (leb-true upto book.number (and_parts _ _ allowed).1))))
