-- The commands of a resync of all books, one book after the other. Given here: inductions over the
-- sorted list of the books, with the invariant `Ready`: those not reached yet are as they were.
-- Maps are compared name by name. The spare card has a UID that is longer than each one there.
use Rattle.std.proofs.Common.{◌≡◌, ℕ, zero, suc, ◌+◌, ◌<◌, ◌≤◌, Bool, true, false, cond, T, List}
use Rattle.std.proofs.Common.{[], ◌∷◌, ◌++◌, map, flat_map, length, fold, max, Option, Some, None}
use Rattle.std.proofs.Common.{codes, Result, Ok, Err, refl, sym, ap, ◌∙◌, subst, ⊎_elim, arith}
use Rattle.std.specs.Option.{option_map, option_map_or, option_and_then}
use Rattle.std.specs.Result.{result_unwrap_or}
use Rattle.std.specs.FinMap as finite
use Rattle.std.specs.FinMap.{get-insert, get-from_sorted, same_map}
use Rattle.std.specs.FinMap.Entries.{find, below_all, is_sorted}
use Rattle.std.proofs.lemmas.Bool.{cases_Bool, cond-true, cond-false, leb-true}
use Rattle.std.proofs.lemmas.Map.Lookups.{exact_bytes}
use Rattle.std.proofs.lemmas.Option.{same_Some}
use Rattle.base_types.specs.TextMaps.{text_cmp}
use Rattle.vcard_lines.specs.declared.line.Line.{Line}
use Rattle.vcard_text.specs.Cards.{uid_of}
use Rattle.book_model.specs.declared.refusal.Refusal.{Refusal}
use Rattle.book_model.specs.declared.refusal.Refusal.TheVariants.{ChangesSpent, BookFull}
use Rattle.book_model.specs.Bounds.{Bounds, IsInRange}
use Rattle.book_model.specs.Books.{Book, Books, live_at, same_name, stored_in_row}
use Rattle.book_model.specs.CallOutcomes.{◌>>=◌, refuse_unless}
use Rattle.book_model.specs.Counting.{live_count}
use Rattle.book_resync.specs.Resyncing.{number_after_resync, book_after_resync, books_after_resync}
use Rattle.book_resync.specs.Resyncing.{has_pairs_left, is_within_room, last_number_of}
use Rattle.book_resync.specs.Resyncing.{accept_books, resync_step}
use Rattle.book_model.specs.WellFormed.{IsWellFormedBook, IsWellFormed}
use Rattle.book_laws.specs.Calls.{Call}
use Rattle.book_laws.specs.RowsAfterCalls.{rows_after_accepted_call, rows_after_calls}
use Rattle.book_resync.specs.ResyncCalls.{rows_after_accepted_calls, resync_calls_of_book}
use Rattle.book_resync.specs.ResyncCalls.{resync_calls}
use Rattle.book_resync.specs.ResyncLaws.{SpareCardsExist, IsResync, ResyncsAreCommands}
use Rattle.book_resync.specs.ResyncLaws.{ResyncsMatchHistories, ResyncsKeepWellFormed}
use Rattle.book_resync.specs.ResyncLaws.{ResyncsChangeEachBook}
use Rattle.book_laws.specs.StoreHistories.{rows_of}
use Rattle.book_model.proofs.BasicLemmas.{T_parts, T_both, less_differs}
use Rattle.base_types.proofs.TextLemmas.{text_total, same, same_self, same-equal}
use Rattle.book_laws.proofs.RunLemmas.{rows_match_histories_after_calls}
use Rattle.book_laws.specs.WellFormedLaws.{AreWithin}
use Rattle.book_laws.proofs.WellFormedBooks.{wider}
use Rattle.book_laws.proofs.WellFormedCalls.{calls_keep_form}
use Rattle.book_resync.proofs.BookResyncLemmas.{book_resyncs_are_commands}

-- ---- maps over the values

abbrev Named : Type 0
Named = List ℕ × Book

module _ (f : Book → Book) where
  abbrev named : Named → Named
  named e = (e.0, f e.1)

  below-mapped : (name : List ℕ) (es : List Named) → T (below_all text_cmp name es)
      → T (below_all text_cmp name (map named es))
  below-mapped name [] h = h
  below-mapped name (e ∷ es) h = let parts = T_parts _ _ h in
      T_both _ _ parts.0 (below-mapped name es parts.1)

  sorted-mapped : (es : List Named) → T (is_sorted text_cmp es)
      → T (is_sorted text_cmp (map named es))
  sorted-mapped [] h = h
  sorted-mapped (e ∷ es) h = let parts = T_parts _ _ h in
      T_both _ _ (below-mapped e.0 es parts.0) (sorted-mapped es parts.1)

  find-mapped : (q : List ℕ) (es : List Named) → find text_cmp q (map named es)
      ≡ option_map f (find text_cmp q es)
  find-mapped q [] = refl
  find-mapped q (e ∷ es) = elim (same q e.0) as
      (λ b. cond b (Some (f e.1)) (find text_cmp q (map named es))
      ≡ option_map f (cond b (Some e.1) (find text_cmp q es))) [
        | true ↦ refl
        | false ↦ find-mapped q es
      ]

  pub get-mapped : (books : Books) (q : List ℕ)
      → finite.get (finite.from_sorted {R = text_cmp} (map named (finite.entries books))) q
      ≡ option_map f (finite.get books q)
  get-mapped books q =
      get-from_sorted text_cmp (map named (finite.entries books)) q
      (sorted-mapped (finite.entries books) (finite.entries_sorted books))
      ∙ find-mapped q (finite.entries books) ∙ ap (option_map f) (sym (finite.get-entries books q))

  -- the values written one by one
  abbrev written : Books → List Named → Books
  written books es = fold (λ (b : Books) (e : Named). finite.insert b e.0 (f e.1)) books es

pub find-below : (q : List ℕ) (es : List Named) → T (below_all text_cmp q es)
    → find text_cmp q es ≡ None
find-below q [] h = refl
find-below q (e ∷ es) h = let parts = T_parts _ _ h in
    cond-false (same q e.0) (Some e.1) _ (less_differs (text_cmp q e.0) parts.0)
    ∙ find-below q es parts.1

-- ---- accepted commands, one list after the other

accepted-append : (limits : Bounds) (books : Books) (calls others : List Call)
    → rows_after_accepted_calls limits books (calls ++ others)
    ≡ (rows_after_accepted_calls limits books calls >>= λ (b : Books). rows_after_accepted_calls
    limits b others)
accepted-append limits books [] others = refl
accepted-append limits books (call ∷ calls) others =
    by (λ (b : Books). accepted-append limits b calls others) (rows_after_accepted_call limits books
    call)
  where
    by : ((b : Books) → rows_after_accepted_calls limits b (calls ++ others)
        ≡ (rows_after_accepted_calls limits b calls >>= λ (b : Books). rows_after_accepted_calls
        limits b others)) → (r : Result Books Refusal)
        → (r >>= λ (b : Books). rows_after_accepted_calls limits b (calls ++ others))
        ≡ ((r >>= λ (b : Books). rows_after_accepted_calls limits b calls) >>= λ (b : Books).
        rows_after_accepted_calls limits b others)
    by rest (Ok b) = rest b
    by rest (Err refusal) = refl

-- where no command is refused, the books after them are those after the list of calls
accepted_rows : (limits : Bounds) (books after : Books) (calls : List Call)
    → rows_after_accepted_calls limits books calls ≡ Ok after → rows_after_calls limits books calls
    ≡ after
accepted_rows limits books left [] e = same_Ok e
  where
    same_Ok : ◌≡◌ {A = Result Books Refusal} (Ok books) (Ok left) → books ≡ left
    same_Ok e = cc
accepted_rows limits books left (call ∷ calls) e =
    by (λ (b : Books). accepted_rows limits b left calls) (rows_after_accepted_call limits books
    call) refl e
  where
    by : ((b : Books) → rows_after_accepted_calls limits b calls ≡ Ok left
        → rows_after_calls limits b calls ≡ left) → (r : Result Books Refusal)
        → rows_after_accepted_call limits books call ≡ r
        → (r >>= λ (b : Books). rows_after_accepted_calls limits b calls) ≡ Ok left
        → rows_after_calls limits books (call ∷ calls) ≡ left
    by rest (Ok b) is e = ap (λ (r : Result Books Refusal). rows_after_calls limits
        (result_unwrap_or r books) calls) is ∙ rest b e
    by rest (Err refusal) is e = cc

-- ---- the books one by one

-- what the commands of a book need
record FitsResync (limits : Bounds) (spare : List Line) (pairs : ℕ) (book : Book) : Type 0 where
  form : IsWellFormedBook limits book
  unused : live_at book (uid_of spare) ≡ None
  left : number_after_resync book pairs ≤ limits.changes_max
  room : live_count book.counts ≤ limits.cards_max

module _ (limits : Bounds) (spare : List Line) (pairs : ℕ) (range : IsInRange limits) (some :
    1 ≤ pairs) where
  abbrev step : Book → Book
  step book = book_after_resync limits book pairs

  abbrev Ready : Books → List Named → Type 0
  Ready books es = (q : List ℕ) (book : Book) → find text_cmp q es ≡ Some book
      → (finite.get books q ≡ Some book) × FitsResync limits spare pairs book

  one_by_one : (books : Books) (es : List Named) → T (is_sorted text_cmp es) → Ready books es
      → rows_after_accepted_calls limits books (flat_map (resync_calls_of_book limits spare pairs)
      es) ≡ Ok (written step books es)
  one_by_one books [] sorted ready = refl
  one_by_one books (e ∷ es) sorted ready =
      let parts = T_parts _ _ sorted in
      let here = ready e.0 e.1 (cond-true _ _ _ (same_self e.0)) in
      let fits = here.1 in
      let calls = flat_map (resync_calls_of_book limits spare pairs) es in
      accepted-append limits books (resync_calls_of_book limits spare pairs e) calls
      ∙ ap (λ (r : Result Books Refusal). r >>= λ (b : Books). rows_after_accepted_calls limits b
      calls) (book_resyncs_are_commands limits books e.0 e.1 spare pairs range here.0 fits.form
      fits.unused some fits.left fits.room)
      ∙ one_by_one (finite.insert books e.0 (step e.1)) es parts.1 (still parts.0)
    where
      -- the other books are the same
      still : T (below_all text_cmp e.0 es) → Ready (finite.insert books e.0 (step e.1)) es
      still below q book at = ⊎_elim
          (λ here. absurd (none_some (sym (find-below e.0 es below)
          ∙ ap (λ (u : List ℕ). find text_cmp u es) (sym (same-equal q e.0 here)) ∙ at)))
          (λ other.
          let was = ready q book (cond-false _ _ _ other ∙ at) in
          (get-insert text_total books e.0 (step e.1) q ∙ cond-false _ _ _ other ∙ was.0, was.1))
          (cases_Bool (same_name q e.0))
        where
          none_some : ◌≡◌ {A = Option Book} None (Some book) → ⊥
          none_some e = cc

  -- what was written under a name
  get-written : (books : Books) (es : List Named) (q : List ℕ) → T (is_sorted text_cmp es)
      → finite.get (written step books es) q ≡ option_map_or (λ (b : Book). Some (step b))
      (find text_cmp q es) (finite.get books q)
  get-written books [] q sorted = refl
  get-written books (e ∷ es) q sorted =
      let parts = T_parts _ _ sorted in
      get-written (finite.insert books e.0 (step e.1)) es q parts.1
      ∙ ap (option_map_or (λ (b : Book). Some (step b)) (find text_cmp q es))
      (get-insert text_total books e.0 (step e.1) q)
      ∙ ⊎_elim
      (λ here.
      ap (option_map_or (λ (b : Book). Some (step b)) (find text_cmp q es)) (cond-true _ _ _ here)
      ∙ ap (λ (o : Option Book). option_map_or (λ (b : Book). Some (step b)) o (Some (step e.1)))
      (ap (λ (u : List ℕ). find text_cmp u es) (same-equal q e.0 here)
      ∙ find-below e.0 es parts.0)
      ∙ sym (ap (λ (o : Option Book). option_map_or (λ (b : Book). Some (step b)) o
      (finite.get books q)) (cond-true (same q e.0) (Some e.1) (find text_cmp q es) here)))
      (λ other.
      ap (option_map_or (λ (b : Book). Some (step b)) (find text_cmp q es)) (cond-false _ _ _ other)
      ∙ sym (ap (λ (o : Option Book). option_map_or (λ (b : Book). Some (step b)) o
      (finite.get books q)) (cond-false (same q e.0) (Some e.1) (find text_cmp q es) other)))
      (cases_Bool (same_name q e.0))

  all_written : (books : Books) → written step books (finite.entries books) ≡ books_after_resync
      limits books pairs
  all_written books = same_map text_total exact_bytes _ _ (λ q.
      get-written books (finite.entries books) q (finite.entries_sorted books)
      ∙ ap (λ (o : Option Book). option_map_or (λ (b : Book). Some (step b)) o (finite.get books q))
      (sym (finite.get-entries books q))
      ∙ by (finite.get books q) ∙ sym (get-mapped step books q))
    where
      by : (o : Option Book) → option_map_or (λ (b : Book). Some (step b)) o o ≡ option_map step o
      by (Some b) = refl
      by None = refl

-- ---- what an accepted resync says

-- a book that isn't refused
record IsAcceptedBook (limits : Bounds) (pairs : ℕ) (book : Book) : Type 0 where
  left : number_after_resync book pairs ≤ limits.changes_max
  room : live_count book.counts ≤ limits.cards_max

accepted_book : (limits : Bounds) (pairs : ℕ) (book : Book) (n : ℕ)
    → last_number_of limits pairs book ≡ Ok n → IsAcceptedBook limits pairs book
accepted_book limits pairs book n e =
    by (has_pairs_left limits book.number pairs) (is_within_room limits (live_count book.counts))
    refl refl e
  where
    by : (a b : Bool) → has_pairs_left limits book.number pairs ≡ a
        → is_within_room limits (live_count book.counts) ≡ b
        → (refuse_unless a ChangesSpent >>= λ _. refuse_unless b BookFull >>= λ _. Ok
        (number_after_resync book pairs)) ≡ Ok n → IsAcceptedBook limits pairs book
    by true true p q e = record {
      left = leb-true (number_after_resync book pairs)
          limits.changes_max p;
      room = leb-true (live_count book.counts) limits.cards_max q;
    }
    by true false p q e = cc
    by false b p q e = cc

-- each book is accepted where all are
each_accepted : (limits : Bounds) (pairs : ℕ) (q : List ℕ) (book : Book) (es : List Named)
    → accept_books limits pairs es ≡ Ok tt → find text_cmp q es ≡ Some book
    → IsAcceptedBook limits pairs book
each_accepted limits pairs q book [] all at = absurd (none_some at)
  where
    none_some : ◌≡◌ {A = Option Book} None (Some book) → ⊥
    none_some e = cc
each_accepted limits pairs q book (e ∷ es) all at =
    by (λ rest below. each_accepted limits pairs q book es rest below) (last_number_of limits pairs
    e.1) refl all
  where
    by : (accept_books limits pairs es ≡ Ok tt → find text_cmp q es ≡ Some book
        → IsAcceptedBook limits pairs book)
        → (r : Result ℕ Refusal) → last_number_of limits pairs e.1 ≡ r
        → (r >>= λ _. accept_books limits pairs es) ≡ Ok tt → IsAcceptedBook limits pairs book
    by next (Err refusal) is rest = cc
    by next (Ok n) is rest = ⊎_elim
        (λ here.
        let own : e.1 ≡ book = same_Some e.1 book (sym (cond-true _ _ _ here) ∙ at) in
        subst (IsAcceptedBook limits pairs) own (accepted_book limits pairs e.1 n is))
        (λ other. next rest (sym (cond-false _ _ _ other) ∙ at))
        (cases_Bool (same_name q e.0))

pub record IsAccepted (limits : Bounds) (books : Books) (pairs : ℕ) (after : Books) : Type 0 where
  pub all : accept_books limits pairs (finite.entries books) ≡ Ok tt
  pub after_is : books_after_resync limits books pairs ≡ after

-- the answer and the books
abbrev done : Bounds → Books → ℕ → ℕ × Books
done limits books pairs = (finite.len books, books_after_resync limits books pairs)

pub accepted_is : (limits : Bounds) (books left : Books) (pairs : ℕ)
    → IsResync limits books pairs left → IsAccepted limits books pairs left
accepted_is limits books left pairs is =
    by (accept_books limits pairs (finite.entries books)) refl is.accepted
  where
    same_done : ◌≡◌ {A = Result (ℕ × Books) Refusal} (Ok (done limits books pairs))
        (Ok (finite.len books, left)) → books_after_resync limits books pairs ≡ left
    same_done e = ap (λ (r : Result (ℕ × Books) Refusal). elim r [
      | Ok p ↦ p.1
      | Err refusal ↦
          left
    ]) e

    by : (r : Result (Unit {0}) Refusal) → accept_books limits pairs (finite.entries books) ≡ r
        → (r >>= λ _. Ok (done limits books pairs)) ≡ Ok (finite.len books, left)
        → IsAccepted limits books pairs left
    by (Ok x) p e = record { all = p; after_is = same_done e }
    by (Err refusal) p e = cc

pub resyncs_change_each_book : ResyncsChangeEachBook
resyncs_change_each_book limits books left pairs name is =
    ap (λ (b : Books). finite.get b name) (sym (accepted_is limits books left pairs is).after_is)
    ∙ get-mapped (λ (book : Book). book_after_resync limits book pairs) books name

pub resyncs_are_commands : ResyncsAreCommands
resyncs_are_commands limits books left spare pairs range form unused is =
    let known = accepted_is limits books left pairs is in
    one_by_one limits spare pairs range is.some books (finite.entries books)
    (finite.entries_sorted books) (λ q book at.
    let there : finite.get books q ≡ Some book = finite.get-entries books q ∙ at in (
      there,
      record {
        form = form.each q book there;
        unused = unused q book there;
        left = (each_accepted limits pairs q book (finite.entries books) known.all at).left;
        room = (each_accepted limits pairs q book (finite.entries books) known.all at).room;
      },
    ))
    ∙ ap (λ (b : Books). Ok b) (all_written limits spare pairs range is.some books ∙ known.after_is)

pub resyncs_match_histories : ResyncsMatchHistories
resyncs_match_histories store left spare pairs range sound form unused is =
    let calls = resync_calls store.limits spare pairs (rows_of store.books) in
    sym (accepted_rows store.limits (rows_of store.books) left calls
    (resyncs_are_commands store.limits (rows_of store.books) left spare pairs range form unused
    is))
    ∙ rows_match_histories_after_calls store calls range sound

-- ---- a card whose UID is longer than each in the books

longest : {X : Type 0} → List (List ℕ × X) → ℕ
longest [] = 0
longest (e ∷ es) = max (length e.0) (longest es)

find-long : {X : Type 0} (q : List ℕ) (es : List (List ℕ × X)) → longest es < length q
    → find text_cmp q es ≡ None
unfolding longest
find-long q [] lt = refl
find-long q (e ∷ es) lt = ⊎_elim
    (λ here. let n = ap (λ (u : List ℕ). length u) (same-equal q e.0 here) in
    absurd (omega (arith, n, lt)))
    (λ other. cond-false _ _ _ other ∙ find-long q es (omega (arith, lt)))
    (cases_Bool (same q e.0))

longest_in : List Named → ℕ
longest_in [] = 0
longest_in (e ∷ es) = max (longest (finite.entries e.1.members)) (longest_in es)

no_longer : (name : List ℕ) (book : Book) (es : List Named) → find text_cmp name es ≡ Some book
    → longest (finite.entries book.members) ≤ longest_in es
unfolding longest_in
no_longer name book [] at = absurd (none_some at)
  where
    none_some : ◌≡◌ {A = Option Book} None (Some book) → ⊥
    none_some e = cc
no_longer name book (e ∷ es) at = ⊎_elim
    (λ here.
    let own : e.1 ≡ book = same_Some e.1 book (sym (cond-true _ _ _ here) ∙ at) in
    let n = ap (λ (b : Book). longest (finite.entries b.members)) own in omega (arith, n))
    (λ other. let rest = no_longer name book es (sym (cond-false _ _ _ other) ∙ at) in
    omega (arith, rest))
    (cases_Bool (same name e.0))

octets : ℕ → List ℕ
octets zero = []
octets (suc n) = 97 ∷ octets n

length-octets : (n : ℕ) → length (octets n) ≡ n
unfolding octets
length-octets zero = refl
length-octets (suc n) = let rest = length-octets n in omega (arith, rest)

abbrev card_of_uid : List ℕ → List Line
card_of_uid uid = record { group = None; name = codes "UID"; params = []; value = uid } ∷ []

uid-card_of_uid : (uid : List ℕ) → uid_of (card_of_uid uid) ≡ uid
uid-card_of_uid uid = refl

abbrev long : Books → List ℕ
long books = octets (longest_in (finite.entries books) + 1)

shorter : (books : Books) (name : List ℕ) (book : Book) → finite.get books name ≡ Some book
    → longest (finite.entries book.members) < length (long books)
shorter books name book at =
    let n = length-octets (longest_in (finite.entries books) + 1) in
    let within = no_longer name book (finite.entries books) (sym (finite.get-entries books name)
    ∙ at) in
    omega (arith, n, within)

pub spare_cards_exist : SpareCardsExist
spare_cards_exist books = (
  card_of_uid (long books),
  λ name book at.
      ap (live_at book) (uid-card_of_uid (long books))
      ∙ ap (option_and_then stored_in_row) (finite.get-entries book.members (long books)
      ∙ find-long (long books) (finite.entries book.members) (shorter books name book at)),
)

keeps_form : (limits : Bounds) (books left : Books) (pairs : ℕ) → IsInRange limits
    → IsWellFormed limits books → IsResync limits books pairs left → IsWellFormed limits left
keeps_form limits books left pairs range form is =
    let spare = spare_cards_exist books in
    let calls = resync_calls limits spare.0 pairs books in
    subst (λ (b : Books). IsWellFormed limits b) (accepted_rows limits books left calls
    (resyncs_are_commands limits books left spare.0 pairs range form spare.1 is))
    (calls_keep_form limits books calls range form)

-- the limits with those of changes and books raised: a resync that they accept is the same by both
abbrev raised : Bounds → Bounds → Bounds
raised limits most = record limits { changes_max = most.changes_max; books_max = most.books_max }

raised_range : (limits most : Bounds) → IsInRange limits → IsInRange most
    → IsInRange (raised limits most)
raised_range limits most a b = record {
  page_least = a.page_least;
  page_most = a.page_most;
  cards_least = a.cards_least;
  cards_most = a.cards_most;
  changes_least = b.changes_least;
  changes_most = b.changes_most;
  books_least = b.books_least;
  books_most = b.books_most;
  keep_least = a.keep_least;
  keep_most = a.keep_most;
}

accepted_raised : (limits most : Bounds) (pairs : ℕ) → AreWithin limits most → (es : List Named)
    → accept_books limits pairs es ≡ Ok tt → accept_books (raised limits most) pairs es ≡ Ok tt
accepted_raised limits most pairs fits [] ok = refl
accepted_raised limits most pairs fits (e ∷ es) ok =
    by (has_pairs_left limits e.1.number pairs) (is_within_room limits (live_count e.1.counts)) refl
    refl (accepted_raised limits most pairs fits es)
  where
    by : (s t : Bool) → has_pairs_left limits e.1.number pairs ≡ s
        → is_within_room limits (live_count e.1.counts) ≡ t
        → (accept_books limits pairs es ≡ Ok tt → accept_books (raised limits most) pairs es
        ≡ Ok tt) → accept_books (raised limits most) pairs (e ∷ es) ≡ Ok tt
    by false t p q others = absurd (let bad = rw p at ok in cc)
    by true false p q others = absurd (let bad = rw (p, q) at ok in cc)
    by true true p q others =
        let le = fits.changes in
        let left : has_pairs_left (raised limits most) e.1.number pairs ≡ true =
        grind (arith, p, le) in
        rw (left, q) (others (rw (p, q) at ok))

was_accepted : {X : Type 0} (r : Result (Unit {0}) Refusal) (x y : X) → (r >>= λ _. Ok x) ≡ Ok y
    → r ≡ Ok tt
was_accepted (Ok done) x y is = refl
was_accepted (Err refusal) x y is = absurd (let bad = is in cc)

pub resyncs_keep_well_formed : ResyncsKeepWellFormed
resyncs_keep_well_formed limits most books left pairs range widest fits form is =
    let big = raised limits most in
    let after : ℕ × Books = (finite.len books, books_after_resync limits books pairs) in
    let accepted = accepted_raised limits most pairs fits (finite.entries books)
    (was_accepted (accept_books limits pairs (finite.entries books)) after (
      finite.len books,
      left,
    ) is.accepted) in
    let before = was_accepted (accept_books limits pairs (finite.entries books)) after
    (finite.len books, left) is.accepted in
    let same : resync_step big books pairs ≡ resync_step limits books pairs =
    ap (λ r. r >>= λ _. Ok after) accepted ∙ sym (ap (λ r. r >>= λ _. Ok after) before) in
    wider big most left (omega arith) (omega arith)
    (keeps_form big books left pairs (raised_range limits most range widest)
    (wider most big books (omega arith) (omega arith) form) (record {
      some = is.some;
      accepted = same ∙ is.accepted;
    }))
