-- A book stays well formed by a change that fits what is live, and by forgetting; and books do when
-- one is written over. Given here: that a value in a map after a write is the one that was written,
-- or was there before (`written_or_there`); a case for each reason of a change; of a removal,
-- whether the oldest tombstone is dropped.
use Rattle.std.proofs.Common.{◌≡◌, ℕ, ◌+◌, ◌<◌, ◌≤◌, Bool, true, false, cond, ◌⊎◌, ◌||◌, nat_lt}
use Rattle.std.proofs.Common.{nat_le, not, inl, inr, List, [], length, filter, Option, Some, None}
use Rattle.std.proofs.Common.{is_some, refl, sym, ap, ◌∙◌, subst, ⊎_elim, arith}
use Rattle.std.specs.Option.{option_and_then, option_map_or}
use Rattle.std.specs.FinMap as finite
use Rattle.std.specs.FinMap.{get-empty, get-insert, get-remove, get-retain_keys, get-from_entries}
use Rattle.std.specs.FinMap.{len-insert, len-empty, same_map}
use Rattle.std.proofs.lemmas.Bool.{cases_Bool, and_parts, cond-true, cond-false, leb-true, ltb-true}
use Rattle.std.proofs.lemmas.List.{length-map, nil_from_length}
use Rattle.std.proofs.lemmas.Map.Lookups.{exact_bytes}
use Rattle.std.proofs.lemmas.Option.{same_Some, cond_some}
use Rattle.base_types.specs.TextMaps.{text_cmp}
use Rattle.vcard_lines.specs.declared.line.Line.{Line}
use Rattle.vcard_text.specs.Cards.{uid_of}
use Rattle.book_model.specs.declared.answers.ImportTally.{ImportTally}
use Rattle.book_model.specs.declared.answers.Stored.{Stored}
use Rattle.book_model.specs.declared.change.Change.{Change}
use Rattle.book_model.specs.declared.change.Change.TheVariants.{Stores, TakesAway}
use Rattle.book_model.specs.declared.change.StoreReason.{StoreReason}
use Rattle.book_model.specs.declared.change.StoreReason.TheVariants.{Creation, Edit, Import}
use Rattle.book_model.specs.declared.change.StoreReason.TheVariants.{ImportEdit, MoveIn}
use Rattle.book_model.specs.declared.change.RemovalReason.{RemovalReason}
use Rattle.book_model.specs.declared.change.RemovalReason.TheVariants.{Deletion, MoveOut}
use Rattle.book_model.specs.declared.row.Row.{Row}
use Rattle.book_model.specs.Bounds.{Bounds}
use Rattle.book_model.specs.BookNames.{is_legal_name}
use Rattle.book_model.specs.Books.{Book, Books, LiveCards, fresh_book, live_at, same_name}
use Rattle.book_model.specs.Books.{stored_in_row}
use Rattle.book_model.specs.BookChanges.{card_after, book_with_row, oldest_tombstone}
use Rattle.book_model.specs.BookChanges.{book_after_drop, book_after_change}
use Rattle.book_model.specs.Counting.{arrived_cards, departed_cards}
use Rattle.book_model.specs.Forgetting.{book_after_forget}
use Rattle.book_model.specs.Importing.{is_legal_key, book_with_kept_import}
use Rattle.book_model.specs.BookQueries.{is_tombstone_after, live_cards, tombstone_count}
use Rattle.book_model.specs.WellFormed.{IsWellFormedRow, IsWellFormedImport, IsWellFormedBook}
use Rattle.book_model.specs.WellFormed.{IsWellFormed}
use Rattle.book_model.proofs.LiveCardLemmas.{Members, find_live}
use Rattle.base_types.proofs.TextLemmas.{text_total, same-equal}
use Rattle.book_laws.proofs.CountLemmas.{len-removed}
use Rattle.book_model.proofs.ChangeCountLemmas.{total-counted}
use Rattle.book_laws.proofs.DropLemmas.{numbers}
use Rattle.book_laws.proofs.FilterLemmas.{least_among, none_least}
use Rattle.book_laws.proofs.RememberLemmas.{not_below}
use Rattle.book_laws.proofs.RemovedRows.{removed_written, removed_kept, removed_higher}
use Rattle.book_laws.proofs.RemovedRows.{removed_dropped, row_among}
use Rattle.book_laws.proofs.ReportLemmas.{each_found}

-- a value in a map after a write was written, or was there before
pub written_or_there : {X : Type 0} (m : finite.FinMap text_cmp X) (k : List ℕ) (v : X) (q : List ℕ)
    (x : X) → finite.get (finite.insert m k v) q ≡ Some x → ((q ≡ k) × (v ≡ x))
    ⊎ (finite.get m q ≡ Some x)
written_or_there m k v q x e =
    let is = sym (get-insert text_total m k v q) ∙ e in
    ⊎_elim (λ here. inl (same-equal q k here, same_Some v x (sym (cond-true _ _ _ here) ∙ is)))
    (λ there. inr (sym (cond-false _ _ _ there) ∙ is)) (cases_Bool (same_name q k))

-- ---- the live cards of a book

get-live_cards : (book : Book) (q : List ℕ) → finite.get (live_cards book) q ≡ live_at book q
get-live_cards book q = get-from_entries text_total _ q
    ∙ find_live q (finite.entries book.members) (finite.entries_sorted book.members)
    ∙ ap (option_and_then stored_in_row) (sym (finite.get-entries book.members q))

-- books with the same at each UID have the same live cards
same_live : (cards : LiveCards) (book : Book) → ((q : List ℕ) → live_at book q ≡ finite.get cards q)
    → live_cards book ≡ cards
same_live cards book is = same_map text_total exact_bytes _ _ (λ q. get-live_cards book q ∙ is q)

module _ (book : Book) (uid : List ℕ) where
  chosen : (q : List ℕ) (row : Row) (b : Bool)
      → option_and_then stored_in_row (cond b (Some row) (finite.get book.members q))
      ≡ cond b (stored_in_row row) (live_at book q)
  chosen q row true = refl
  chosen q row false = refl

  at_change : (change : Change) (q : List ℕ) → live_at (book_with_row book uid change) q
      ≡ cond (same_name q uid) (stored_in_row (record {
        changed = book.number + 1;
        card = card_after change;
      })) (finite.get (live_cards book) q)
  at_change change q =
      let row : Row = record { changed = book.number + 1; card = card_after change } in
      ap (option_and_then stored_in_row) (get-insert text_total book.members uid row q)
      ∙ chosen q row (same_name q uid) ∙ ap (cond (same_name q uid) (stored_in_row row))
      (sym (get-live_cards book q))

  after_store : (card : List Line) (why : StoreReason)
      → live_cards (book_with_row book uid (Stores card why)) ≡ finite.insert (live_cards book) uid
      (record { version = book.number + 1; card = card })
  after_store card why = same_live (finite.insert (live_cards book) uid
      (record { version = book.number + 1; card = card }))
      (book_with_row book uid (Stores card why)) (λ q. at_change (Stores card why) q
      ∙ sym (get-insert text_total (live_cards book) uid (record {
        version = book.number + 1;
        card = card;
      }) q))

  after_removal : (why : RemovalReason) → live_cards (book_with_row book uid (TakesAway why))
      ≡ finite.remove (live_cards book) uid
  after_removal why = same_live (finite.remove (live_cards book) uid)
      (book_with_row book uid (TakesAway why)) (λ q. at_change (TakesAway why) q
      ∙ sym (get-remove text_total (live_cards book) uid q))

  one_more : (card : List Line) (why : StoreReason) → live_at book uid ≡ None
      → finite.len (live_cards (book_with_row book uid (Stores card why)))
      ≡ finite.len (live_cards book) + 1
  one_more card why none = ap finite.len (after_store card why)
      ∙ len-insert text_total (live_cards book) uid _
      ∙ cond-false _ _ _ (ap is_some (get-live_cards book uid ∙ none))

  same_card_count : (card : List Line) (why : StoreReason) → is_some (live_at book uid) ≡ true
      → finite.len (live_cards (book_with_row book uid (Stores card why)))
      ≡ finite.len (live_cards book)
  same_card_count card why some = ap finite.len (after_store card why)
      ∙ len-insert text_total (live_cards book) uid _
      ∙ cond-true _ _ _ (ap is_some (get-live_cards book uid) ∙ some)

  one_less : (why : RemovalReason) → is_some (live_at book uid) ≡ true
      → finite.len (live_cards (book_with_row book uid (TakesAway why))) + 1
      ≡ finite.len (live_cards book)
  one_less why some = ap (λ cards. finite.len cards + 1) (after_removal why)
      ∙ len-removed (live_cards book) uid (ap is_some (get-live_cards book uid) ∙ some)

-- ---- one change

-- a card is added where nothing is live, and otherwise something is live
abbrev pub Fits : Change → Option Stored → Type 0
Fits (Stores card Creation) live = live ≡ None
Fits (Stores card Edit) live = is_some live ≡ true
Fits (Stores card Import) live = live ≡ None
Fits (Stores card ImportEdit) live = is_some live ≡ true
Fits (Stores card MoveIn) live = live ≡ None
Fits (TakesAway why) live = is_some live ≡ true

abbrev AreCounted : Book → Type 0
AreCounted book = finite.len (live_cards book) + departed_cards book.counts
    ≡ arrived_cards book.counts

still_counted : (book : Book) (uid : List ℕ) (change : Change) → Fits change (live_at book uid)
    → AreCounted book → AreCounted (book_with_row book uid change)
still_counted book uid (Stores card Creation) fits so = let n =
    one_more book uid card Creation fits in omega (arith, n, so)
still_counted book uid (Stores card Edit) fits so = let n =
    same_card_count book uid card Edit fits in omega (arith, n, so)
still_counted book uid (Stores card Import) fits so = let n = one_more book uid card Import fits in
    omega (arith, n, so)
still_counted book uid (Stores card ImportEdit) fits so = let n =
    same_card_count book uid card ImportEdit fits in omega (arith, n, so)
still_counted book uid (Stores card MoveIn) fits so = let n = one_more book uid card MoveIn fits in
    omega (arith, n, so)
still_counted book uid (TakesAway Deletion) fits so = let n = one_less book uid Deletion fits in
    omega (arith, n, so)
still_counted book uid (TakesAway MoveOut) fits so = let n = one_less book uid MoveOut fits in
    omega (arith, n, so)

-- the change is under the UID of the card that it stores, if it stores one
abbrev pub IsOwn : Change → List ℕ → Type 0
IsOwn (Stores card why) uid = uid_of card ≡ uid
IsOwn (TakesAway why) uid = Unit {0}

module _ (limits after : Bounds) (book : Book) (uid : List ℕ) (change : Change) (is :
    IsWellFormedBook limits book) (room : book.number + 1 ≤ after.changes_max) (fits :
    Fits change (live_at book uid)) (own : IsOwn change uid) where
  abbrev pub next : Book
  next = book_with_row book uid change

  abbrev row : Row
  row = record { changed = book.number + 1; card = card_after change }

  own_card : (change : Change) → IsOwn change uid → (card : List Line)
      → card_after change ≡ Some card → uid_of card ≡ uid
  own_card (Stores stored why) own card e = ap uid_of (sym (same_Some stored card e)) ∙ own
  own_card (TakesAway why) own card e = cc

  new_row : IsWellFormedRow next uid row
  new_row = let within_log = is.horizon_known in record {
    first = omega arith;
    known = omega arith;
    own_card = own_card change own;
    remembered = λ e. omega (arith, within_log);
  }

  old_row : (q : List ℕ) (r : Row) → IsWellFormedRow book q r → IsWellFormedRow next q r
  old_row q r old = let le = old.known in record {
    first = old.first;
    known = omega (arith, le);
    own_card = old.own_card;
    remembered = old.remembered;
  }

  rows : (q : List ℕ) (r : Row) → finite.get next.members q ≡ Some r → IsWellFormedRow next q r
  rows q r e = ⊎_elim
      (λ here. subst (λ (u : List ℕ). IsWellFormedRow next u r) (sym here.0)
      (subst (λ (x : Row). IsWellFormedRow next uid x) here.1 new_row))
      (λ there. old_row q r (is.rows q r there))
      (written_or_there book.members uid row q r e)

  rows_apart : (a b : List ℕ) (x y : Row) → finite.get next.members a ≡ Some x
      → finite.get next.members b ≡ Some y → x.changed ≡ y.changed → a ≡ b
  rows_apart a b x y p q same = ⊎_elim
      (λ here. ⊎_elim
      (λ also. here.0 ∙ sym also.0)
      (λ there. let new = ap (λ (r : Row). r.changed) here.1 in
      let old = (is.rows b y there).known in absurd (omega (arith, new, old, same)))
      (written_or_there book.members uid row b y q))
      (λ there. ⊎_elim
      (λ here. let new = ap (λ (r : Row). r.changed) here.1 in
      let old = (is.rows a x there).known in absurd (omega (arith, new, old, same)))
      (λ also. is.rows_apart a b x y there also same)
      (written_or_there book.members uid row b y q))
      (written_or_there book.members uid row a x p)

  -- with room for one more tombstone
  abbrev pub roomy : Book
  roomy = record next { keep = book.keep + 1 }

  pub one_more_removed : tombstone_count next ≤ tombstone_count book + 1
  one_more_removed =
      let more = removed_written book.members uid row book.horizon in
      let one = at_most_one (is_tombstone_after book.horizon row) in
      omega (arith, more, one)
    where
      at_most_one : (b : Bool) → cond b 1 0 ≤ 1
      at_most_one true = omega arith
      at_most_one false = omega arith

  pub well_roomy : IsWellFormedBook after roomy
  well_roomy =
      let once = is.counted_once in
      let one = total-counted change book.counts in
      let within_log = is.horizon_known in
      let more = one_more_removed in
      let within = is.within_keep in
      record {
        counted_once = omega (arith, once, one);
        within_limit = room;
        horizon_known = omega (arith, within_log);
        keep_least = omega arith;
        within_keep = omega (arith, more, within);
        cards_counted = still_counted book uid change fits is.cards_counted;
        rows = λ q r e. let old = rows q r e in record {
          first = old.first;
          known = old.known;
          own_card = old.own_card;
          remembered = old.remembered;
        };
        rows_apart = rows_apart;
        imports = λ key tally e. let old = is.imports key tally e in let le = old.known in
            record { legal = old.legal; known = omega (arith, le) };
      }

-- a book is well formed under any limit that its number keeps
pub within : (limits after : Bounds) (book : Book) → book.number ≤ after.changes_max
    → IsWellFormedBook limits book → IsWellFormedBook after book
within limits after book room is = record {
  counted_once = is.counted_once;
  within_limit = room;
  horizon_known = is.horizon_known;
  keep_least = is.keep_least;
  within_keep = is.within_keep;
  cards_counted = is.cards_counted;
  rows = is.rows;
  rows_apart = is.rows_apart;
  imports = is.imports;
}

-- well-formed books are so by greater limits
pub wider : (limits after : Bounds) (books : Books) → limits.changes_max ≤ after.changes_max
    → limits.books_max ≤ after.books_max → IsWellFormed limits books → IsWellFormed after books
wider limits after books changes more is =
    let few = is.within_limit in
    record {
      within_limit = omega (arith, few, more);
      legal_names = is.legal_names;
      first_id = is.first_id;
      last_id = is.last_id;
      ids_apart = is.ids_apart;
      each = λ name book at.
          let form = is.each name book at in
          let low = form.within_limit in
          within limits after book (omega (arith, low, changes)) form;
    }

-- and with any tombstone limit that is enough for its tombstones
pub with_other_keep : (limits : Bounds) (book : Book) (keep : ℕ) → 1 ≤ keep
    → tombstone_count book ≤ keep → IsWellFormedBook limits book
    → IsWellFormedBook limits (record book { keep = keep })
with_other_keep limits book keep least enough is = record {
  counted_once = is.counted_once;
  within_limit = is.within_limit;
  horizon_known = is.horizon_known;
  keep_least = least;
  within_keep = enough;
  cards_counted = is.cards_counted;
  rows = λ q r e. let old = is.rows q r e in record {
    first = old.first;
    known = old.known;
    own_card = old.own_card;
    remembered = old.remembered;
  };
  rows_apart = is.rows_apart;
  imports = λ key tally e. let old = is.imports key tally e in
      record { legal = old.legal; known = old.known };
}

-- ---- a new book, a book that keeps an import, and a book that forgets

module _ (id keep : ℕ) (limits : Bounds) where
  no_row : (q : List ℕ) (r : Row) → finite.get (fresh_book id keep).members q ≡ Some r → ⊥
  no_row q r e = none r (sym (get-empty text_cmp q) ∙ e)
    where
      none : (r : Row) → ◌≡◌ {A = Option Row} None (Some r) → ⊥
      none r e = cc

  no_import : (q : List ℕ) (t : ImportTally) → finite.get (fresh_book id keep).imports q ≡ Some t
      → ⊥
  no_import q t e = none t (sym (get-empty text_cmp q) ∙ e)
    where
      none : (t : ImportTally) → ◌≡◌ {A = Option ImportTally} None (Some t) → ⊥
      none t e = cc

  none_live : live_cards (fresh_book id keep) ≡ finite.empty
  none_live = same_live finite.empty (fresh_book id keep) (λ q. ap (option_and_then stored_in_row)
      (get-empty text_cmp q) ∙ sym (get-empty text_cmp q))

  none_removed : tombstone_count (fresh_book id keep) ≡ 0
  none_removed =
      let none : finite.entries (fresh_book id keep).members ≡ [] =
      nil_from_length _ (sym (finite.len-entries (fresh_book id keep).members)
      ∙ len-empty text_cmp Row) in
      ap (λ (es : Members). length (filter (λ (e : List ℕ × Row). is_tombstone_after 0 e.1) es))
      none

  pub well_empty : 1 ≤ keep → IsWellFormedBook limits (fresh_book id keep)
  well_empty least =
      let none = ap finite.len none_live ∙ len-empty text_cmp Stored in
      let forgotten = none_removed in
      record {
        counted_once = refl;
        within_limit = omega arith;
        horizon_known = omega arith;
        keep_least = least;
        within_keep = omega (arith, forgotten);
        cards_counted = omega (arith, none);
        rows = λ q r e. absurd (no_row q r e);
        rows_apart = λ a b x y p q same. absurd (no_row a x p);
        imports = λ key tally e. absurd (no_import key tally e);
      }

pub well_kept : (limits : Bounds) (book : Book) (key : List ℕ) (tally : ImportTally)
    → is_legal_key key ≡ true → tally.number ≤ book.number → IsWellFormedBook limits book
    → IsWellFormedBook limits (book_with_kept_import book key tally)
well_kept limits book key tally legal known is = record {
  counted_once = is.counted_once;
  within_limit = is.within_limit;
  horizon_known = is.horizon_known;
  keep_least = is.keep_least;
  within_keep = is.within_keep;
  cards_counted = is.cards_counted;
  rows = λ uid row e. let old = is.rows uid row e in record {
    first = old.first;
    known = old.known;
    own_card = old.own_card;
    remembered = old.remembered;
  };
  rows_apart = is.rows_apart;
  imports = λ q t e. ⊎_elim
      (λ here.
      subst (λ (k : List ℕ). IsWellFormedImport (book_with_kept_import book key tally) k t)
      (sym here.0)
      (subst (λ (x : ImportTally). IsWellFormedImport (book_with_kept_import book key tally) key x)
      here.1 (record { legal = legal; known = known })))
      (λ there. let old = is.imports q t there in record { legal = old.legal; known = old.known })
      (written_or_there book.imports key tally q t e);
}

-- a row is kept where its member is live or was removed after the number
abbrev stays : ℕ → Row → Bool
stays upto row = is_some row.card || nat_lt upto row.changed

module _ (limits : Bounds) (book : Book) (upto : ℕ) (is : IsWellFormedBook limits book) (rises :
    book.horizon ≤ upto) (within_log : upto ≤ book.number) where
  abbrev less : Book
  less = book_after_forget book upto

  abbrev test : List ℕ → Bool
  test uid = option_map_or (stays upto) (finite.get book.members uid) false

  kept : (q : List ℕ) → finite.get less.members q ≡ cond (test q) (finite.get book.members q) None
  kept q = get-retain_keys book.members test q (λ x e. ap test (sym (exact_bytes q x e)))

  -- a row that is kept was there before, and isn't below the new horizon
  left : (q : List ℕ) (r : Row) → finite.get less.members q ≡ Some r
      → (finite.get book.members q ≡ Some r) × (stays upto r ≡ true)
  left q r e = by (finite.get book.members q) (sym (kept q) ∙ e)
    where
      by : (o : Option Row) → cond (option_map_or (stays upto) o false) o None ≡ Some r
          → (o ≡ Some r) × (stays upto r ≡ true)
      by None e = cc
      by (Some x) e =
          let is = cond_some (stays upto x) x r e in
          (ap Some is.1, subst (λ (y : Row). stays upto y ≡ true) is.1 is.0)

  later : (r : Row) → stays upto r ≡ true → r.card ≡ None → upto < r.changed
  later r e none = ltb-true upto r.changed
      (subst (λ (o : Option (List Line)). stays upto (record { changed = r.changed; card = o })
      ≡ true) none e)

  live_still : live_cards less ≡ live_cards book
  live_still = same_live (live_cards book) less (λ q. ap (option_and_then stored_in_row) (kept q)
      ∙ by (finite.get book.members q) ∙ sym (get-live_cards book q))
    where
      row_by : (x : Row) (o : Option (List Line)) → x.card ≡ o
          → option_and_then stored_in_row (cond (stays upto x) (Some x) None) ≡ stored_in_row x
      row_by x (Some card) e = ap (option_and_then stored_in_row) (cond-true (stays upto x) (Some x)
          None (subst (λ (o : Option (List Line)). stays upto (record {
            changed = x.changed;
            card = o;
          }) ≡ true) (sym e) refl))
      row_by x None e = removed_up_to_base (stays upto x)
        where
          none : stored_in_row x ≡ None
          none = subst (λ (o : Option (List Line)). stored_in_row (record {
            changed = x.changed;
            card = o;
          }) ≡ None) (sym e) refl

          removed_up_to_base : (b : Bool) → option_and_then stored_in_row (cond b (Some x) None)
              ≡ stored_in_row x
          removed_up_to_base true = refl
          removed_up_to_base false = sym none

      by : (o : Option Row) → option_and_then stored_in_row
          (cond (option_map_or (stays upto) o false) o None) ≡ option_and_then stored_in_row o
      by None = refl
      by (Some x) = row_by x x.card refl

  pub well_forgotten : IsWellFormedBook limits less
  well_forgotten = let counted = is.cards_counted in let same = ap finite.len live_still in
      let within = is.within_keep in let fewer = removed_kept book.members upto upto in let higher =
      removed_higher book.members book.horizon upto rises in record {
        counted_once = is.counted_once;
        within_limit = is.within_limit;
        horizon_known = within_log;
        keep_least = is.keep_least;
        within_keep = omega (arith, within, fewer, higher);
        cards_counted = omega (arith, counted, same);
        rows = λ q r e. let l = left q r e in let old = is.rows q r l.0 in
            record {
              first = old.first;
              known = old.known;
              own_card = old.own_card;
              remembered = later r l.1;
            };
        rows_apart = λ a b x y p q same. is.rows_apart a b x y (left a x p).0 (left b y q).0 same;
        imports = λ key tally e. let old = is.imports key tally e in
            record { legal = old.legal; known = old.known };
      }

-- ---- a change and what it drops

drops : (after : Bounds) (next : Book) (keep : ℕ) (drop : Option ℕ)
    → IsWellFormedBook after (record next { keep = keep + 1 }) → oldest_tombstone next ≡ drop
    → 1 ≤ keep → keep < tombstone_count next
    → IsWellFormedBook after (record (book_after_drop next drop) { keep = keep })
drops after next keep None is first least more =
    let none =
    ap length (none_least (numbers (is_tombstone_after next.horizon)
    (finite.entries next.members)) first) in
    let many = length-map (filter (λ (e : List ℕ × Row). is_tombstone_after next.horizon e.1)
    (finite.entries next.members)) (λ e. e.1.changed) in
    absurd (omega (arith, none, many, more))
drops after next keep (Some n) is first least more =
    let among = least_among (numbers (is_tombstone_after next.horizon)
    (finite.entries next.members)) n first in
    let found = row_among (λ e. finite.get next.members e.0 ≡ Some e.1)
    (is_tombstone_after next.horizon) n (finite.entries next.members) (each_found next.members)
    among in
    let row = is.rows found.0.0 found.0.1 found.1 in
    let above : next.horizon < found.0.1.changed =
    ltb-true next.horizon found.0.1.changed (and_parts (not (is_some found.0.1.card))
    (nat_lt next.horizon found.0.1.changed) found.2).1 in
    let number = found.3 in
    let known = row.known in
    let less = removed_dropped next.members next.horizon n (omega (arith, above, number)) among in
    let within = is.within_keep in
    with_other_keep after (book_after_forget (record next { keep = keep + 1 }) n) keep least
    (omega (arith, less, within))
    (well_forgotten after (record next { keep = keep + 1 }) n is (omega (arith, above, number))
    (omega (arith, known, number)))

module _ (limits after : Bounds) (book : Book) (uid : List ℕ) where
  pub well_changed : (change : Change) → IsWellFormedBook limits book
      → book.number + 1 ≤ after.changes_max → Fits change (live_at book uid) → IsOwn change uid
      → IsWellFormedBook after (book_after_change book uid change)
  well_changed (Stores card why) is room fits own =
      let more = removed_written book.members uid (record {
        changed = book.number + 1;
        card = Some card;
      }) book.horizon in
      let within = is.within_keep in
      with_other_keep after (roomy limits after book uid (Stores card why) is room fits own)
      book.keep is.keep_least (omega (arith, more, within))
      (well_roomy limits after book uid (Stores card why) is room fits own)
  well_changed (TakesAway why) is room fits own =
      by_test (nat_le (tombstone_count removed) book.keep) refl
    where
      removed : Book
      removed = book_with_row book uid (TakesAway why)

      by_test : (b : Bool) → nat_le (tombstone_count removed) book.keep ≡ b
          → IsWellFormedBook after (book_after_drop removed
          (cond b None (oldest_tombstone removed)))
      by_test true few = with_other_keep after (roomy limits after book uid (TakesAway why) is room
          fits own) book.keep is.keep_least (leb-true _ _ few) (well_roomy limits after book uid
          (TakesAway why) is room fits own)
      by_test false many = drops after removed book.keep (oldest_tombstone removed)
          (well_roomy limits after book uid (TakesAway why) is room fits own) refl is.keep_least
          (not_below (tombstone_count removed) book.keep many)

-- ---- books

module _ (limits : Bounds) (books : Books) (name : List ℕ) (is : IsWellFormed limits books) where
  -- what holds of each book and of the one that is written
  for_each : (P : List ℕ → Book → Type 0) (book : Book)
      → ((q : List ℕ) (x : Book) → finite.get books q ≡ Some x → P q x) → P name book
      → (q : List ℕ) (x : Book) → finite.get (finite.insert books name book) q ≡ Some x → P q x
  for_each P book old new q x e = ⊎_elim
      (λ here. subst (λ (u : List ℕ). P u x) (sym here.0) (subst (λ (b : Book). P name b) here.1
      new))
      (λ there. old q x there)
      (written_or_there books name book q x e)

  -- ids stay apart where the id of the book that is written is no other book's
  apart : (book : Book) → ((q : List ℕ) (x : Book) → finite.get books q ≡ Some x → book.id ≡ x.id
      → name ≡ q) → (a b : List ℕ) (x y : Book)
      → finite.get (finite.insert books name book) a ≡ Some x
      → finite.get (finite.insert books name book) b ≡ Some y → x.id ≡ y.id → a ≡ b
  apart book own a b x y p q same = ⊎_elim
      (λ here. ⊎_elim
      (λ also. here.0 ∙ sym also.0)
      (λ there. here.0 ∙ own b y there (ap (λ (k : Book). k.id) here.1 ∙ same))
      (written_or_there books name book b y q))
      (λ there. ⊎_elim
      (λ here. sym (here.0 ∙ own a x there (ap (λ (k : Book). k.id) here.1 ∙ sym same)))
      (λ also. is.ids_apart a b x y there also same)
      (written_or_there books name book b y q))
      (written_or_there books name book a x p)

  -- a book is written over
  pub well_over : (old book : Book) → finite.get books name ≡ Some old → book.id ≡ old.id
      → IsWellFormedBook limits book → IsWellFormed limits (finite.insert books name book)
  well_over old book at same form =
      let n : finite.len (finite.insert books name book) ≡ finite.len books =
      len-insert text_total books name book ∙ cond-true _ _ _ (ap is_some at) in
      let most = is.within_limit in
      let low = is.first_id name old at in
      let high = is.last_id name old at in
      record {
        within_limit = omega (arith, n, most);
        legal_names = for_each (λ q x. is_legal_name q ≡ true) book is.legal_names
            (is.legal_names name old at);
        first_id = for_each (λ q x. 1 ≤ x.id) book is.first_id (omega (arith, low, same));
        last_id = for_each (λ q x. x.id ≤ finite.len (finite.insert books name book)) book
            (λ q x e. let le = is.last_id q x e in omega (arith, le, n)) (omega (
              arith,
              high,
              same,
              n,
            ));
        ids_apart = apart book (λ q x e same_id. is.ids_apart name q old x at e (sym same
            ∙ same_id));
        each = for_each (λ q x. IsWellFormedBook limits x) book is.each form;
      }

  -- a book is new
  pub well_new : (keep : ℕ) → 1 ≤ keep → finite.contains_key books name ≡ false
      → is_legal_name name ≡ true → finite.len books < limits.books_max
      → IsWellFormed limits (finite.insert books name (fresh_book (finite.len books + 1) keep))
  well_new keep least free legal room =
      let book : Book = fresh_book (finite.len books + 1) keep in
      let n : finite.len (finite.insert books name book) ≡ finite.len books + 1 =
      len-insert text_total books name book ∙ cond-false _ _ _ free in
      record {
        within_limit = omega (arith, n, room);
        legal_names = for_each (λ q x. is_legal_name q ≡ true) book is.legal_names legal;
        first_id = for_each (λ q x. 1 ≤ x.id) book is.first_id (omega arith);
        last_id = for_each (λ q x. x.id ≤ finite.len (finite.insert books name book)) book
            (λ q x e. let le = is.last_id q x e in omega (arith, le, n)) (omega (arith, n));
        ids_apart = apart book (λ q x e same_id. let le = is.last_id q x e in
            absurd (omega (arith, le, same_id)));
        each = for_each (λ q x. IsWellFormedBook limits x) book is.each
            (well_empty (finite.len books + 1) keep limits least);
      }

abbrev no_books : Books
no_books = finite.empty

pub well_none : (limits : Bounds) → IsWellFormed limits no_books
well_none limits =
    let n = len-empty text_cmp Book in
    record {
      within_limit = omega (arith, n);
      legal_names = λ name book e. absurd (no_book name book e);
      first_id = λ name book e. absurd (no_book name book e);
      last_id = λ name book e. absurd (no_book name book e);
      ids_apart = λ a b x y p q same. absurd (no_book a x p);
      each = λ name book e. absurd (no_book name book e);
    }
  where
    none : (book : Book) → ◌≡◌ {A = Option Book} None (Some book) → ⊥
    none book e = cc

    no_book : (name : List ℕ) (book : Book) → finite.get no_books name ≡ Some book → ⊥
    no_book name book e = none book (sym (get-empty text_cmp name) ∙ e)
