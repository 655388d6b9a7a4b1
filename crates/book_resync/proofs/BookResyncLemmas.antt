-- The commands of a resync are accepted, and leave the book in closed form. Given here: inductions
-- over the pairs (`with_room`, `renewed_again`), by the closed form of the book with one pair less
-- (`closed`); that a tombstone which is dropped on the way makes no difference, since the last
-- forget drops it too; and whether the book has room, and which card is its first live one.
use Rattle.std.proofs.Common.{◌≡◌, ℕ, zero, suc, ◌+◌, ◌<◌, ◌≤◌, Bool, true, false, cond, ◌||◌, List}
use Rattle.std.proofs.Common.{[], ◌∷◌, ◌++◌, slice_get, length, Option, Some, None, is_some, nat_lt}
use Rattle.std.proofs.Common.{nat_le, Result, Ok, Err, refl, sym, ap, ◌∙◌, subst, ⊎_elim, arith}
use Rattle.std.specs.Option.{option_map, option_map_or, option_and_then}
use Rattle.std.specs.FinMap as finite
use Rattle.std.specs.FinMap.{get-insert, get-retain_keys, same_map}
use Rattle.std.specs.FinMap.Entries.{find}
use Rattle.std.proofs.lemmas.Bool.{cases_Bool, cond-true, cond-false, lt-ltb, le-leb, ltb-true}
use Rattle.std.proofs.lemmas.Bool.{ltb-false}
use Rattle.std.proofs.lemmas.Map.Lookups.{exact_bytes}
use Rattle.std.proofs.lemmas.Option.{same_Some}
use Rattle.base_types.specs.TextMaps.{text_cmp}
use Rattle.vcard_lines.specs.declared.line.Line.{Line}
use Rattle.vcard_text.specs.Cards.{uid_of}
use Rattle.book_model.specs.declared.answers.PutAnswer.{PutAnswer}
use Rattle.book_model.specs.declared.answers.PutAnswer.TheVariants.{Created}
use Rattle.book_model.specs.declared.answers.Stored.{Stored}
use Rattle.book_model.specs.declared.change.Change.TheVariants.{Stores, TakesAway}
use Rattle.book_model.specs.declared.change.StoreReason.TheVariants.{Creation}
use Rattle.book_model.specs.declared.change.RemovalReason.TheVariants.{Deletion}
use Rattle.book_model.specs.declared.refusal.Refusal.{Refusal}
use Rattle.book_model.specs.declared.refusal.Refusal.TheVariants.{NoSuchBook, BookFull}
use Rattle.book_model.specs.declared.refusal.Refusal.TheVariants.{ChangesSpent, BadForget}
use Rattle.book_model.specs.declared.row.Row.{Row}
use Rattle.book_model.specs.Bounds.{Bounds}
use Rattle.book_model.specs.Books.{Book, Books, book_named, live_at, same_name, stored_in_row}
use Rattle.book_model.specs.BookChanges.{book_with_row, forced_horizon, horizon_after_drop}
use Rattle.book_model.specs.BookChanges.{rows_after_drop, book_after_change}
use Rattle.book_model.specs.BookQueries.{live_cards}
use Rattle.book_model.specs.Counting.{live_count}
use Rattle.book_model.specs.Forgetting.{is_row_kept, rows_after_forget, book_after_forget}
use Rattle.book_model.specs.Forgetting.{may_forget, dropped_row_count}
use Rattle.book_model.specs.CallOutcomes.{◌>>=◌, refuse_unless}
use Rattle.book_model.specs.Putting.{FoundMember, found_in_book, put_answer, put_store_reason}
use Rattle.book_model.specs.Putting.{books_after_put}
use Rattle.book_model.specs.Removing.{remove_number}
use Rattle.book_resync.specs.Resyncing.{number_after_resync, first_live_card, rows_after_renewal}
use Rattle.book_resync.specs.Resyncing.{book_after_pairs}
use Rattle.book_model.specs.WellFormed.{IsWellFormedBook}
use Rattle.book_laws.specs.Calls.{Call, PutCall, RemoveCall, ForgetCall}
use Rattle.book_laws.specs.RowsAfterCalls.{rows_of_step, rows_after_accepted_call}
use Rattle.book_resync.specs.ResyncCalls.{rows_after_accepted_calls, creations_and_removals}
use Rattle.book_resync.specs.ResyncCalls.{removals_and_creations, pairs_of_calls}
use Rattle.book_resync.specs.ResyncCalls.{resync_calls_of_book}
use Rattle.book_resync.specs.ResyncLaws.{BookResyncsAreCommands}
use Rattle.book_model.proofs.BasicLemmas.{both}
use Rattle.base_types.proofs.TextLemmas.{text_total, same_self, same-equal, insert_over}
use Rattle.base_types.proofs.TextLemmas.{get-insert_here}
use Rattle.book_laws.proofs.WellFormedBooks.{well_changed}
use Rattle.book_resync.proofs.BookLemmas.{get-live_cards, own_live}

-- ---- accepted calls

-- the step of the book of the name
step_named : {A : Type 0} (books : Books) (name : List ℕ) (book : Book) (f : Book
    → Result (A × Books) Refusal) → finite.get books name ≡ Some book
    → rows_of_step (book_named books name >>= f) ≡ rows_of_step (f book)
step_named books name book f at =
    ap (λ (o : Option Book). rows_of_step (option_map_or Ok o (Err NoSuchBook) >>= f)) at

created : (limits : Bounds) (found : FoundMember) (card : List Line) (o : Option Stored)
    → found.live ≡ o → o ≡ None → found.cards < limits.cards_max → found.number < limits.changes_max
    → put_answer limits found card None ≡ Ok (Created (found.number + 1))
created limits found card o is none room left = by found.live (is ∙ none)
  where
    P : Bool → Bool → Result PutAnswer Refusal
    P a b = refuse_unless a BookFull >>= λ _. (refuse_unless b ChangesSpent >>= λ _. Ok
        (found.number + 1)) >>= λ version. Ok (Created version)

    by : (live : Option Stored) → live ≡ None
        → put_answer limits (record { live = live; cards = found.cards; number = found.number })
        card None ≡ Ok (Created (found.number + 1))
    by live e =
        ap (λ (l : Option Stored). put_answer limits (record {
          live = l;
          cards = found.cards;
          number = found.number;
        }) card None) e
        ∙ ap (λ b. P b (nat_lt found.number limits.changes_max)) (lt-ltb _ _ room)
        ∙ ap (P true) (lt-ltb _ _ left)

removed : (limits : Bounds) (found : FoundMember) (stored : Stored) → found.live ≡ Some stored
    → found.number < limits.changes_max → remove_number limits found None ≡ Ok (found.number + 1)
removed limits found stored is left =
    ap (λ (l : Option Stored). remove_number limits (record {
      live = l;
      cards = found.cards;
      number = found.number;
    }) None) is
    ∙ ap (λ b. refuse_unless b ChangesSpent >>= λ _. Ok (found.number + 1)) (lt-ltb _ _ left)

module _ (limits : Bounds) (books : Books) (name : List ℕ) (book : Book) (at : finite.get books name
    ≡ Some book) where
  pub put_accepted : (card : List Line) → live_at book (uid_of card) ≡ None
      → live_count book.counts < limits.cards_max → book.number < limits.changes_max
      → rows_after_accepted_call limits books (PutCall name card None)
      ≡ Ok (finite.insert books name (book_after_change book (uid_of card)
      (Stores card Creation)))
  put_accepted card none room left =
      step_named books name book _ at
      ∙ ap (λ (r : Result PutAnswer Refusal). rows_of_step (r >>= λ answer. Ok (
        answer,
        books_after_put books name book card (put_store_reason answer),
      )))
      (created limits (found_in_book book (uid_of card)) card None none refl room left)

  pub remove_accepted : (uid : List ℕ) (stored : Stored) → live_at book uid ≡ Some stored
      → book.number < limits.changes_max
      → rows_after_accepted_call limits books (RemoveCall name uid None)
      ≡ Ok (finite.insert books name (book_after_change book uid (TakesAway Deletion)))
  remove_accepted uid stored is left =
      step_named books name book _ at
      ∙ ap (λ (r : Result ℕ Refusal). rows_of_step (r >>= λ number. Ok (
        number,
        finite.insert books name (book_after_change book uid (TakesAway Deletion)),
      )))
      (removed limits (found_in_book book uid) stored is left)

  pub forget_accepted : (upto : ℕ) → may_forget book.horizon book.number upto ≡ true
      → rows_after_accepted_call limits books (ForgetCall name upto)
      ≡ Ok (finite.insert books name (book_after_forget book upto))
  forget_accepted upto may =
      step_named books name book _ at
      ∙ ap (λ b. rows_of_step (refuse_unless b BadForget >>= λ _. Ok (
        dropped_row_count book.members
            upto,
        finite.insert books name (book_after_forget book upto),
      ))) may

-- ---- rows that a forget keeps

abbrev pub Rows : Type 0
Rows = finite.FinMap text_cmp Row

-- what is left under a UID
abbrev pub kept : ℕ → Option Row → Option Row
kept upto o = cond (option_map_or (is_row_kept upto) o false) o None

pub get-forgotten : (members : Rows) (upto : ℕ) (q : List ℕ)
    → finite.get (rows_after_forget members upto) q ≡ kept upto (finite.get members q)
get-forgotten members upto q =
    let test : List ℕ → Bool = λ uid. option_map_or (is_row_kept upto) (finite.get members uid)
    false in
    get-retain_keys members test q (λ x e. ap test (sym (exact_bytes q x e)))

same_forgotten : (m n : Rows) (upto : ℕ)
    → ((q : List ℕ) → kept upto (finite.get m q) ≡ kept upto (finite.get n q))
    → rows_after_forget m upto ≡ rows_after_forget n upto
same_forgotten m n upto same = same_map text_total exact_bytes _ _ (λ q. get-forgotten m upto q
    ∙ same q ∙ sym (get-forgotten n upto q))

not_later : (upto n : ℕ) → n ≤ upto → nat_lt upto n ≡ false
not_later upto n le = by (nat_lt upto n) refl
  where
    by : (b : Bool) → nat_lt upto n ≡ b → b ≡ false
    by false e = refl
    by true e = let lt : upto < n = ltb-true upto n e in absurd (omega (arith, lt, le))

-- a row without a card goes
gone : (upto : ℕ) (row : Row) → row.card ≡ None → row.changed ≤ upto → kept upto (Some row) ≡ None
gone upto row none le =
    ap (λ (o : Option (List Line)). cond (is_some o || nat_lt upto row.changed) (Some row) None)
    none
    ∙ ap (λ b. cond b (Some row) None) (not_later upto row.changed le)

-- an earlier forget makes no difference
kept_later : (upto later : ℕ) (o : Option Row) → upto ≤ later
    → kept later (kept upto o) ≡ kept later o
kept_later upto later None le = refl
kept_later upto later (Some row) le = by row.card refl
  where
    by : (o : Option (List Line)) → row.card ≡ o → kept later (kept upto (Some row))
        ≡ kept later (Some row)
    by (Some card) e = ap (kept later)
        (ap (λ (o : Option (List Line)). cond (is_some o || nat_lt upto row.changed) (Some row)
        None) e)
    by None e = early (nat_lt upto row.changed) refl
      where
        at_most : (b : Bool) → nat_lt upto row.changed ≡ b → b ≡ false → row.changed ≤ later
        at_most b is before = let no : row.changed ≤ upto =
            ltb-false upto row.changed (is ∙ before) in omega (arith, no, le)

        early : (b : Bool) → nat_lt upto row.changed ≡ b → kept later (kept upto (Some row))
            ≡ kept later (Some row)
        early true since = ap (kept later)
            (ap (λ (o : Option (List Line)). cond (is_some o || nat_lt upto row.changed) (Some row)
            None) e ∙ ap (λ b. cond b (Some row) None) since)
        early false before =
            ap (kept later) (ap (λ (o : Option (List Line)). cond (is_some o
            || nat_lt upto row.changed) (Some row) None) e
            ∙ ap (λ b. cond b (Some row) None) before)
            ∙ sym (gone later row e (at_most (nat_lt upto row.changed) refl before))

-- so a drop makes none
kept-dropped : (members : Rows) (horizon : ℕ) (drop : Option ℕ) (upto : ℕ) (q : List ℕ)
    → horizon_after_drop horizon drop ≤ upto
    → kept upto (finite.get (rows_after_drop members drop) q) ≡ kept upto (finite.get members q)
kept-dropped members horizon None upto q le = refl
kept-dropped members horizon (Some n) upto q le = ap (kept upto) (get-forgotten members n q)
    ∙ kept_later n upto (finite.get members q) le

-- the row of a member that isn't live goes
module _ (book : Book) (uid : List ℕ) where
  no_card : (row : Row) → stored_in_row row ≡ None → row.card ≡ None
  no_card row e = by row.card refl e
    where
      by : (o : Option (List Line)) → row.card ≡ o
          → option_map (λ (card : List Line). let s : Stored = record {
            version = row.changed;
            card = card;
          } in s) o ≡ None → row.card ≡ None
      by None is e = is
      by (Some card) is e = cc

  not_live_gone : (limits : Bounds) (upto : ℕ) → IsWellFormedBook limits book → book.number ≤ upto
      → live_at book uid ≡ None → kept upto (finite.get book.members uid) ≡ None
  not_live_gone limits upto is le none = by (finite.get book.members uid) refl none
    where
      by : (o : Option Row) → finite.get book.members uid ≡ o → option_and_then stored_in_row o
          ≡ None → kept upto o ≡ None
      by None at e = refl
      by (Some row) at e = let known = (is.rows uid row at).known in
          gone upto row (no_card row e) (omega (arith, known, le))

-- ---- one pair

-- equal parts make equal books
module _ (book : Book) where
  abbrev with_parts : ℕ → ℕ → ℕ → Rows → Book
  with_parts number created deleted members = record book {
    number = number;
    horizon = number;
    counts = record book.counts { created = created; deleted = deleted };
    members = members;
  }

  same_parts : (n m : ℕ) (a b c d : ℕ) (x y : Rows) → n ≡ m → a ≡ b → c ≡ d → x ≡ y
      → with_parts n a c x ≡ with_parts m b d y
  same_parts n m a b c d x y e f g h =
      ap (λ k. with_parts k a c x) e ∙ ap (λ k. with_parts m k c x) f
      ∙ ap (λ k. with_parts m b k x) g ∙ ap (with_parts m b d) h

-- the closed form, with the card that is renewed
abbrev closed : Book → Option (List ℕ × Stored) → ℕ → Book
closed book renewed pairs = book_after_forget (book_after_pairs book renewed pairs)
    (number_after_resync book pairs)

-- what each pair needs
record IsReady (limits : Bounds) (book : Book) (pairs : ℕ) : Type 0 where
  form : IsWellFormedBook limits book
  left : number_after_resync book pairs ≤ limits.changes_max

-- a card whose UID isn't live is created and removed
module _ (limits : Bounds) (book : Book) (card : List Line) (pairs : ℕ) (ready :
    IsReady limits book (suc pairs)) (none : live_at book (uid_of card) ≡ None) where
  abbrev uid : List ℕ
  uid = uid_of card

  abbrev with_card : Book
  with_card = book_after_change book uid (Stores card Creation)

  abbrev after : Book
  after = book_after_change with_card uid (TakesAway Deletion)

  abbrev stored : Stored
  stored = record { version = book.number + 1; card = card }

  abbrev stored_row : Row
  stored_row = record { changed = book.number + 1; card = Some card }

  abbrev removed_row : Row
  removed_row = record { changed = book.number + 1 + 1; card = None }

  abbrev drop : Option ℕ
  drop = forced_horizon (TakesAway Deletion) (book_with_row with_card uid (TakesAway Deletion))

  live_then : live_at with_card uid ≡ Some stored
  live_then = ap (option_and_then stored_in_row) (get-insert_here book.members uid stored_row)

  form_then : IsWellFormedBook limits with_card
  form_then = let left = ready.left in well_changed limits limits book uid (Stores card Creation)
      ready.form (omega (arith, left)) none refl

  form_after : IsWellFormedBook limits after
  form_after = let left = ready.left in
      well_changed limits limits with_card uid (TakesAway Deletion) form_then (omega (arith, left))
      (ap is_some live_then) tt

  ready_after : IsReady limits after pairs
  ready_after = let left = ready.left in record { form = form_after; left = omega (arith, left) }

  abbrev last : ℕ
  last = number_after_resync book (suc pairs)

  -- the rows, once the tombstones are gone
  rows_at : (q : List ℕ) → kept last (finite.get after.members q)
      ≡ kept last (finite.get book.members q)
  rows_at q =
      let within = form_after.horizon_known in
      kept-dropped (finite.insert (finite.insert book.members uid stored_row) uid removed_row)
      with_card.horizon drop last q (omega (arith, within))
      ∙ ap (kept last) (get-insert text_total (finite.insert book.members uid stored_row) uid
      removed_row q)
      ∙ ⊎_elim
      (λ here.
      ap (kept last) (cond-true _ _ _ here) ∙ gone last removed_row refl (omega arith)
      ∙ sym (ap (λ (u : List ℕ). kept last (finite.get book.members u)) (same-equal q uid here)
      ∙ not_live_gone book uid limits last ready.form (omega arith) none))
      (λ other.
      ap (kept last) (cond-false _ _ _ other ∙ get-insert text_total book.members uid stored_row q
      ∙ cond-false _ _ _ other))
      (cases_Bool (same_name q uid))

  pair_closed : closed after None pairs ≡ closed book None (suc pairs)
  pair_closed =
      let n : number_after_resync after pairs ≡ last = omega arith in
      same_parts book (number_after_resync after pairs) last (book.counts.created + 1 + pairs)
      (book.counts.created + suc pairs) (book.counts.deleted + 1 + pairs)
      (book.counts.deleted + suc pairs) _ _
      n (omega arith) (omega arith)
      (ap (rows_after_forget after.members) n ∙ same_forgotten after.members book.members last
      rows_at)

  live_after : live_at after uid ≡ None
  live_after = by drop
    where
      row_then : finite.get (finite.insert (finite.insert book.members uid stored_row) uid
          removed_row) uid ≡ Some removed_row
      row_then = get-insert_here (finite.insert book.members uid stored_row) uid removed_row

      by : (drop : Option ℕ) → option_and_then stored_in_row
          (finite.get (rows_after_drop (finite.insert (finite.insert book.members uid stored_row)
          uid removed_row) drop) uid) ≡ None
      by None = ap (option_and_then stored_in_row) row_then
      by (Some n) =
          ap (option_and_then stored_in_row)
          (get-forgotten (finite.insert (finite.insert book.members uid stored_row) uid
          removed_row) n uid ∙ ap (kept n) row_then)
          ∙ either (nat_lt n removed_row.changed)
        where
          either : (b : Bool) → option_and_then stored_in_row (cond b (Some removed_row) None)
              ≡ None
          either true = refl
          either false = refl

-- a live card is removed and created again
module _ (limits : Bounds) (book : Book) (uid : List ℕ) (old : Stored) (pairs : ℕ) (ready :
    IsReady limits book (suc pairs)) (is : live_at book uid ≡ Some old) where
  abbrev without : Book
  without = book_after_change book uid (TakesAway Deletion)

  abbrev renewed : Book
  renewed = book_after_change without uid (Stores old.card Creation)

  abbrev gone_row : Row
  gone_row = record { changed = book.number + 1; card = None }

  abbrev new_row : Row
  new_row = record { changed = book.number + 1 + 1; card = Some old.card }

  abbrev new_stored : Stored
  new_stored = record { version = book.number + 1 + 1; card = old.card }

  abbrev dropped : Option ℕ
  dropped = forced_horizon (TakesAway Deletion) (book_with_row book uid (TakesAway Deletion))

  own : uid_of old.card ≡ uid
  own = own_live limits book uid old ready.form is

  without_none : live_at without uid ≡ None
  without_none = by dropped
    where
      row_then : finite.get (finite.insert book.members uid gone_row) uid ≡ Some gone_row
      row_then = get-insert_here book.members uid gone_row

      by : (drop : Option ℕ) → option_and_then stored_in_row
          (finite.get (rows_after_drop (finite.insert book.members uid gone_row) drop) uid) ≡ None
      by None = ap (option_and_then stored_in_row) row_then
      by (Some n) =
          ap (option_and_then stored_in_row)
          (get-forgotten (finite.insert book.members uid gone_row) n uid ∙ ap (kept n) row_then)
          ∙ either (nat_lt n gone_row.changed)
        where
          either : (b : Bool) → option_and_then stored_in_row (cond b (Some gone_row) None) ≡ None
          either true = refl
          either false = refl

  without_form : IsWellFormedBook limits without
  without_form = let left = ready.left in
      well_changed limits limits book uid (TakesAway Deletion) ready.form (omega (arith, left))
      (ap is_some is) tt

  renewed_form : IsWellFormedBook limits renewed
  renewed_form = let left = ready.left in
      well_changed limits limits without uid (Stores old.card Creation) without_form
      (omega (arith, left)) without_none own

  renewed_ready : IsReady limits renewed pairs
  renewed_ready = let left = ready.left in record {
    form = renewed_form;
    left = omega (arith, left);
  }

  renewed_live : live_at renewed uid ≡ Some new_stored
  renewed_live = ap (option_and_then stored_in_row) (get-insert_here without.members uid new_row)

  -- its version is the number of the book
  renewed_row : finite.get renewed.members uid ≡ Some new_row
  renewed_row = get-insert_here without.members uid new_row

  abbrev end : ℕ
  end = number_after_resync book (suc pairs)

  abbrev end_row : Row
  end_row = record { changed = end; card = Some old.card }

  renewed_at : (q : List ℕ) → kept end (finite.get (finite.insert renewed.members uid end_row) q)
      ≡ kept end (finite.get (finite.insert book.members uid end_row) q)
  renewed_at q =
      ap (kept end) (get-insert text_total renewed.members uid end_row q)
      ∙ ⊎_elim
      (λ here. ap (kept end) (cond-true _ _ _ here ∙ sym (cond-true _ _ _ here)))
      (λ other.
      let within = without_form.horizon_known in
      ap (kept end) (cond-false _ _ _ other ∙ get-insert text_total without.members uid new_row q
      ∙ cond-false _ _ _ other)
      ∙ kept-dropped (finite.insert book.members uid gone_row) book.horizon dropped end q
      (omega (arith, within))
      ∙ ap (kept end) (get-insert text_total book.members uid gone_row q ∙ cond-false _ _ _ other
      ∙ sym (cond-false _ _ _ other)))
      (cases_Bool (same_name q uid))
      ∙ sym (ap (kept end) (get-insert text_total book.members uid end_row q))

  renewed_closed : closed renewed (Some (uid, new_stored)) pairs ≡ closed book (Some (uid, old))
      (suc pairs)
  renewed_closed =
      let n : number_after_resync renewed pairs ≡ end = omega arith in
      same_parts book (number_after_resync renewed pairs) end (book.counts.created + 1 + pairs)
      (book.counts.created + suc pairs) (book.counts.deleted + 1 + pairs)
      (book.counts.deleted + suc pairs) _ _
      n (omega arith) (omega arith)
      (ap (λ k. rows_after_forget (rows_after_renewal renewed.members (Some (uid, new_stored)) k) k)
      n ∙ same_forgotten (finite.insert renewed.members uid end_row) (finite.insert book.members
      uid end_row) end renewed_at)

-- overwriting a value with itself changes nothing
insert_same : {X : Type 0} (m : finite.FinMap text_cmp X) (k : List ℕ) (w : X)
    → finite.get m k ≡ Some w → finite.insert m k w ≡ m
insert_same m k w here = same_map text_total exact_bytes _ _ (λ q.
    get-insert text_total m k w q
    ∙ ⊎_elim
    (λ same. cond-true _ _ _ same ∙ sym (ap (finite.get m) (same-equal q k same) ∙ here))
    (λ other. cond-false _ _ _ other)
    (cases_Bool (same_name q k)))

-- ---- all pairs of one book

-- with no pair left, the book forgets
module _ (limits : Bounds) (base : Books) (name : List ℕ) (book : Book) (renewed :
    Option (List ℕ × Stored)) (upto : ℕ) (form : IsWellFormedBook limits book) where
  no_pairs : rows_after_renewal book.members renewed book.number ≡ book.members → upto ≡ book.number
      → rows_after_accepted_calls limits (finite.insert base name book) (ForgetCall name upto ∷ [])
      ≡ Ok (finite.insert base name (closed book renewed zero))
  no_pairs rows is =
      ap (λ (r : Result Books Refusal). r >>= λ after. Ok after)
      (forget_accepted limits (finite.insert base name book) name book
      (get-insert_here base name book) upto may)
      ∙ ap (λ (b : Books). Ok b) (insert_over base name book (book_after_forget book upto)
      ∙ ap (finite.insert base name) same)
    where
      may : may_forget book.horizon book.number upto ≡ true
      may = let within = form.horizon_known in
          both (nat_le book.horizon upto) (nat_le upto book.number)
          (le-leb _ _ (omega (arith, within, is))) (le-leb _ _ (omega (arith, is)))

      n : book.number ≡ number_after_resync book zero
      n = omega arith

      same : book_after_forget book upto ≡ closed book renewed zero
      same =
          ap (book_after_forget book) is
          ∙ same_parts book book.number (number_after_resync book zero) book.counts.created
          (book.counts.created + zero) book.counts.deleted (book.counts.deleted + zero) _ _
          n (omega arith) (omega arith)
          (ap (λ (m : Rows). rows_after_forget m book.number) (sym rows)
          ∙ ap (λ k. rows_after_forget (rows_after_renewal book.members renewed k) k) n)

-- one more call
one_call : (limits : Bounds) (books left : Books) (call : Call) (calls : List Call)
    → rows_after_accepted_call limits books call ≡ Ok left
    → rows_after_accepted_calls limits books (call ∷ calls) ≡ rows_after_accepted_calls limits left
    calls
one_call limits books left call calls e =
    ap (λ (r : Result Books Refusal). r >>= λ (b : Books). rows_after_accepted_calls limits b calls)
    e

module _ (limits : Bounds) (base : Books) (name : List ℕ) (card : List Line) where
  abbrev of_book : Book → Books
  of_book book = finite.insert base name book

  -- in a book with room
  with_room : (pairs upto : ℕ) (book : Book) → IsReady limits book pairs
      → live_at book (uid_of card) ≡ None → live_count book.counts < limits.cards_max
      → upto ≡ number_after_resync book pairs
      → rows_after_accepted_calls limits (of_book book) (creations_and_removals name card pairs
      ++ ForgetCall name upto ∷ []) ≡ Ok (of_book (closed book None pairs))
  with_room zero upto book ready none room is =
      no_pairs limits base name book None upto ready.form refl (omega (arith, is))
  with_room (suc pairs) upto book ready none room is =
      let left = ready.left in
      let then = with_card limits book card pairs ready none in
      let next = after limits book card pairs ready none in
      let rest = creations_and_removals name card pairs ++ ForgetCall name upto ∷ [] in
      one_call limits (of_book book) (of_book then) (PutCall name card None)
      (RemoveCall name (uid_of card) None ∷ rest)
      (put_accepted limits (of_book book) name book (get-insert_here base name book) card none room
      (omega (arith, left))
      ∙ ap (λ (b : Books). Ok b) (insert_over base name book then))
      ∙ one_call limits (of_book then) (of_book next) (RemoveCall name (uid_of card) None) rest
      (remove_accepted limits (of_book then) name then (get-insert_here base name then)
      (uid_of card) (stored limits book card pairs ready none) (live_then limits book card pairs
      ready none) (omega (arith, left))
      ∙ ap (λ (b : Books). Ok b) (insert_over base name then next))
      ∙ with_room pairs upto next (ready_after limits book card pairs ready none)
      (live_after limits book card pairs ready none) (omega (arith, room)) (omega (arith, is))
      ∙ ap (λ (b : Book). Ok (of_book b)) (pair_closed limits book card pairs ready none)

  -- in a full book: one pair
  abbrev of_version : ℕ → Stored
  of_version version = record { version = version; card = card }

  one_renewal : (pairs version : ℕ) (calls : List Call) (book : Book) (ready :
      IsReady limits book (suc pairs)) (is : live_at book (uid_of card) ≡ Some (of_version version))
      → live_count book.counts ≤ limits.cards_max → 1 ≤ limits.cards_max
      → rows_after_accepted_calls limits (of_book book) (RemoveCall name (uid_of card) None ∷
      PutCall name card None ∷ calls) ≡ rows_after_accepted_calls limits
      (of_book (renewed limits book (uid_of card) (of_version version) pairs ready is)) calls
  one_renewal pairs version calls book ready is room least =
      let left = ready.left in
      let then = without limits book (uid_of card) (of_version version) pairs ready is in
      let next = renewed limits book (uid_of card) (of_version version) pairs ready is in
      one_call limits (of_book book) (of_book then) (RemoveCall name (uid_of card) None)
      (PutCall name card None ∷ calls)
      (remove_accepted limits (of_book book) name book (get-insert_here base name book)
      (uid_of card) (of_version version) is (omega (arith, left))
      ∙ ap (λ (b : Books). Ok b) (insert_over base name book then))
      ∙ one_call limits (of_book then) (of_book next) (PutCall name card None) calls
      (put_accepted limits (of_book then) name then (get-insert_here base name then) card
      (without_none limits book (uid_of card) (of_version version) pairs ready is)
      (omega (arith, room, least)) (omega (arith, left))
      ∙ ap (λ (b : Books). Ok b) (insert_over base name then next))

  -- all pairs after the first: the version is the number of the book
  renewed_again : (pairs upto : ℕ) (book : Book) → IsReady limits book pairs
      → finite.get book.members (uid_of card) ≡ Some (record {
        changed = book.number;
        card = Some card;
      }) → live_count book.counts ≤ limits.cards_max → 1 ≤ limits.cards_max
      → upto ≡ number_after_resync book pairs
      → rows_after_accepted_calls limits (of_book book) (removals_and_creations name card pairs
      ++ ForgetCall name upto ∷ []) ≡ Ok
      (of_book (closed book (Some (uid_of card, of_version book.number)) pairs))
  renewed_again zero upto book ready row room least is =
      no_pairs limits base name book (Some (uid_of card, of_version book.number)) upto ready.form
      (insert_same book.members (uid_of card) _ row) (omega (arith, is))
  renewed_again (suc pairs) upto book ready row room least is =
      let live : live_at book (uid_of card) ≡ Some (of_version book.number) =
      ap (option_and_then stored_in_row) row in
      let next = renewed limits book (uid_of card) (of_version book.number) pairs ready live in
      let rest = removals_and_creations name card pairs ++ ForgetCall name upto ∷ [] in
      one_renewal pairs book.number rest book ready live room least
      ∙ renewed_again pairs upto next (renewed_ready limits book (uid_of card)
      (of_version book.number) pairs ready live) (next_row book pairs ready live)
      (omega (arith, room)) least (omega (arith, is))
      ∙ ap (λ (b : Book). Ok (of_book b)) (next_closed book pairs ready live)
    where
      next_row : (book : Book) (pairs : ℕ) (ready : IsReady limits book (suc pairs)) (live :
          live_at book (uid_of card) ≡ Some (of_version book.number))
          → finite.get (renewed limits book (uid_of card) (of_version book.number) pairs ready
          live).members (uid_of card) ≡ Some (record {
            changed = book.number + 1 + 1;
            card = Some card;
          })
      next_row book pairs ready live =
          renewed_row limits book (uid_of card) (of_version book.number) pairs ready live

      next_closed : (book : Book) (pairs : ℕ) (ready : IsReady limits book (suc pairs)) (live :
          live_at book (uid_of card) ≡ Some (of_version book.number))
          → closed (renewed limits book (uid_of card) (of_version book.number) pairs ready live)
          (Some (uid_of card, of_version (book.number + 1 + 1))) pairs
          ≡ closed book (Some (uid_of card, of_version book.number)) (suc pairs)
      next_closed book pairs ready live =
          renewed_closed limits book (uid_of card) (of_version book.number) pairs ready live

  when_full : (pairs upto version : ℕ) (book : Book) → IsReady limits book (suc pairs)
      → live_at book (uid_of card) ≡ Some (of_version version)
      → live_count book.counts ≤ limits.cards_max → 1 ≤ limits.cards_max
      → upto ≡ number_after_resync book (suc pairs)
      → rows_after_accepted_calls limits (of_book book) (removals_and_creations name card
      (suc pairs) ++ ForgetCall name upto ∷ [])
      ≡ Ok (of_book (closed book (Some (uid_of card, of_version version)) (suc pairs)))
  when_full pairs upto version book ready live room least is =
      let next = renewed limits book (uid_of card) (of_version version) pairs ready live in
      one_renewal pairs version (removals_and_creations name card pairs ++ ForgetCall name upto ∷
      []) book ready live room least
      ∙ renewed_again pairs upto next (renewed_ready limits book (uid_of card) (of_version version)
      pairs ready live) (renewed_row limits book (uid_of card) (of_version version) pairs ready
      live) (omega (arith, room)) least (omega (arith, is))
      ∙ ap (λ (b : Book). Ok (of_book b)) (renewed_closed limits book (uid_of card)
      (of_version version) pairs ready live)

-- ---- which card is renewed

-- the first live card is live, and there is one in a full book
module _ (limits : Bounds) (book : Book) (form : IsWellFormedBook limits book) where
  pub first_is_live : (renewed : List ℕ × Stored) → first_live_card book ≡ Some renewed
      → live_at book renewed.0 ≡ Some renewed.1
  first_is_live renewed is =
      sym (get-live_cards book renewed.0) ∙ finite.get-entries (live_cards book) renewed.0
      ∙ by (finite.entries (live_cards book)) is
    where
      by : (es : List (List ℕ × Stored)) → slice_get es 0 ≡ Some renewed
          → find text_cmp renewed.0 es ≡ Some renewed.1
      by [] e = cc
      by (card ∷ es) e =
          let first : card ≡ renewed = same_Some card renewed e in
          subst (λ (c : List ℕ × Stored). find text_cmp renewed.0 (c ∷ es) ≡ Some renewed.1)
          (sym first)
          (cond-true (same_name renewed.0 renewed.0) (Some renewed.1) _ (same_self renewed.0))

  full_has_first : limits.cards_max ≤ live_count book.counts → 1 ≤ limits.cards_max
      → first_live_card book ≡ None → ⊥
  full_has_first full least none =
      let no_cards : length (finite.entries (live_cards book)) ≡ 0 =
      by (finite.entries (live_cards book)) none in
      let size = finite.len-entries (live_cards book) in
      let counted = form.cards_counted in
      omega (arith, no_cards, size, counted, full, least)
    where
      by : (es : List (List ℕ × Stored)) → slice_get es 0 ≡ None → length es ≡ 0
      by [] e = refl
      by (card ∷ es) e = cc

pub book_resyncs_are_commands : BookResyncsAreCommands
book_resyncs_are_commands limits books name book spare pairs range at form none some left room =
    ap (λ (b : Books). rows_after_accepted_calls limits b (resync_calls_of_book limits spare pairs
    (name, book))) (sym (insert_same books name book at))
    ∙ by_room (nat_lt (live_count book.counts) limits.cards_max) refl
  where
    by_card : (pairs : ℕ) (o : Option (List ℕ × Stored)) → 1 ≤ pairs
        → number_after_resync book pairs ≤ limits.changes_max
        → limits.cards_max ≤ live_count book.counts → first_live_card book ≡ o
        → rows_after_accepted_calls limits (finite.insert books name book)
        (pairs_of_calls name spare o pairs ++ ForgetCall name (number_after_resync book pairs) ∷
        []) ≡ Ok (finite.insert books name (closed book o pairs))
    by_card pairs None some left full first =
        absurd (full_has_first limits book form full range.cards_least first)
    by_card zero (Some renewed) some left full first = absurd (omega (arith, some))
    by_card (suc pairs) (Some renewed) some left full first =
        let live = first_is_live limits book form renewed first in
        let own = own_live limits book renewed.0 renewed.1 form live in
        subst (λ (u : List ℕ). live_at book u ≡ Some renewed.1
        → rows_after_accepted_calls limits (finite.insert books name book)
        (removals_and_creations name renewed.1.card (suc pairs) ++ ForgetCall name
        (number_after_resync book (suc pairs)) ∷ [])
        ≡ Ok (finite.insert books name (closed book (Some (u, renewed.1)) (suc pairs)))) own
        (λ is. when_full limits books name renewed.1.card pairs
        (number_after_resync book (suc pairs)) renewed.1.version book (record {
          form = form;
          left = left;
        }) is room range.cards_least refl)
        live

    by_room : (b : Bool) → nat_lt (live_count book.counts) limits.cards_max ≡ b
        → rows_after_accepted_calls limits (finite.insert books name book)
        (pairs_of_calls name spare (cond b None (first_live_card book)) pairs ++ ForgetCall name
        (number_after_resync book pairs) ∷ [])
        ≡ Ok (finite.insert books name (closed book (cond b None (first_live_card book)) pairs))
    by_room true more = with_room limits books name spare pairs (number_after_resync book pairs)
        book (record { form = form; left = left }) none (ltb-true _ _ more) refl
    by_room false full = by_card pairs (first_live_card book) some left (ltb-false _ _ full) refl
