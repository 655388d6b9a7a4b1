-- The books of rows of which some books are left out. Given here: inductions over lists of items
-- and of names (`any_has`, `has_kept`, `mapped_has`), and whether the book that is looked at is one
-- of those that are left out.
use Rattle.std.proofs.Common.{◌≡◌, inl, inr, ◌⊎◌, ◌-◌, ℕ, suc, ℤ, Bool, true, false, not, ◌&&◌}
use Rattle.std.proofs.Common.{◌||◌, List, [], ◌∷◌, map, filter, find, length, Option, Some, None}
use Rattle.std.proofs.Common.{nat_lt, int_eq, IsPermutation, refl, sym, ap, ap₂, subst, ◌∙◌}
use Rattle.std.proofs.Common.{true≢false, cond, arith}
use Rattle.std.specs.Prelude.{if◌then◌else◌}
use Rattle.std.specs.List.{AllByRecursion, list_any, count_by}
use Rattle.std.specs.Option.{option_map, option_map_or, option_and_then}
use Rattle.std.specs.FinMap as finite
use Rattle.std.proofs.lemmas.List.Sums.{length-filter}
use Rattle.std.proofs.lemmas.List.Sorted.{length_permutation}
use Rattle.sqlite_rules.specs.Lists.{Has}
use Rattle.sqlite_trees.specs.Tree.{IsAscending}
use Rattle.sqlite_trees.proofs.ListLemmas.{all_of, all_weaker, filter_none, ascending_from_map}
use Rattle.sqlite_trees.proofs.ListLemmas.{IsPermutation-filter}
use Rattle.base_types.proofs.TextLemmas.{same_text, text_total}
use Rattle.std.proofs.lemmas.Map.Lookups.{exact_bytes}
use Rattle.book_model.specs.Books.{Book, Books}
use Rattle.store_tables.specs.Books.{BookRow, has_id, has_name}
use Rattle.store_tables.specs.Members.{MemberRow}
use Rattle.store_tables.specs.Imports.{ImportRow}
use Rattle.store_tables.specs.Keeps.{KeepRow}
use Rattle.store_tables.proofs.KeyedRows.{same_int, int_itself, turned}
use Rattle.store_rows.specs.SoundTables.{AreSoundRows, HasBookId}
use Rattle.store_rows.specs.TableBooks.{member_entry, import_entry, row_book, book_entry, books_of}
use Rattle.store_rows.specs.TableRows.{TableRows}
use Rattle.store_rows.specs.Values.{natural}
use Rattle.store_rows.proofs.KeyedEntries.{find_left, found_has, has_filtered, entries_are}
use Rattle.store_rows.proofs.RowLemmas.{get-books_of, single_named, once_books, each_book, name_of}
use Rattle.store_rows.proofs.RowLemmas.{every, books_map}
use Rattle.store_copy.specs.BooksWithout.{is_named, named_before, moved_up, AreBooksWithout}
use Rattle.store_copy.specs.BooksWithout.{NothingIsLeftOut}
use Rattle.store_copy.specs.RowsWithout.{is_left_out, id_after, named_ids, rest, rows_without}

-- ---- lists

any_has : {X : Type 0} (p : X → Bool) (xs : List X) → list_any p xs ≡ true → (x : X) × Has xs x
    × (p x ≡ true)
any_has p [] h = absurd cc
any_has p (x ∷ xs) h = step (p x) refl h (any_has p xs)
  where
    step : (b : Bool) → p x ≡ b → list_any p (x ∷ xs) ≡ true
        → (list_any p xs ≡ true → (y : _) × Has xs y × (p y ≡ true)) → (y : _) × Has (x ∷ xs) y
        × (p y ≡ true)
    step true e h more = (x, inl refl, e)
    step false e h more = let it = more (rw e at h) in (it.0, inr it.1, it.2)

has_any : {X : Type 0} (p : X → Bool) (xs : List X) (x : X) → Has xs x → p x ≡ true
    → list_any p xs ≡ true
has_any p [] x h is = absurd h
has_any p (y ∷ ys) x (inl same) is = ap (λ b. b || list_any p ys) (ap p (sym same) ∙ is)
has_any p (y ∷ ys) x (inr h) is = rw (has_any p ys x h is) (or_true (p y))
  where
    or_true : (b : Bool) → (b || true) ≡ true
    or_true true = refl
    or_true false = refl

has_kept : {X : Type 0} (p : X → Bool) (xs : List X) (x : X) → Has xs x → p x ≡ true
    → Has (filter p xs) x
has_kept p [] x h is = absurd h
has_kept p (y ∷ ys) x h is = step (p y) refl h (λ k. has_kept p ys x k is)
  where
    step : (b : Bool) → p y ≡ b → Has (y ∷ ys) x → (Has ys x → Has (filter p ys) x)
        → Has (filter p (y ∷ ys)) x
    step true e (inl same) more = rw e (inl same)
    step true e (inr k) more = rw e (inr (more k))
    step false e (inl same) more = absurd (true≢false (sym is ∙ ap p same ∙ e))
    step false e (inr k) more = rw e (more k)

has_mapped : {X Y : Type 0} (f : X → Y) (xs : List X) (x : X) → Has xs x → Has (map f xs) (f x)
has_mapped f [] x h = absurd h
has_mapped f (y ∷ ys) x (inl same) = inl (ap f same)
has_mapped f (y ∷ ys) x (inr h) = inr (has_mapped f ys x h)

mapped_has : {X Y : Type 0} (f : X → Y) (xs : List X) (y : Y) → Has (map f xs) y → (x : X)
    × Has xs x × (y ≡ f x)
mapped_has f [] y h = absurd h
mapped_has f (x ∷ xs) y (inl same) = (x, inl refl, same)
mapped_has f (x ∷ xs) y (inr h) = let it = mapped_has f xs y h in (it.0, inr it.1, it.2)

-- two items are the same, or differ as all items do
module _ {X : Type 0} (R : X → X → Type 0) (swapped : (a b : X) → R a b → R b a) where
  of_all : (xs : List X) (a b : X) → AllByRecursion (R a) xs → Has xs b → R a b
  of_all [] a b all h = absurd h
  of_all (x ∷ xs) a b all (inl same) = subst (R a) (sym same) all.0
  of_all (x ∷ xs) a b all (inr h) = of_all xs a b all.1 h

  same_or_apart : (xs : List X) → IsAscending R xs → (a b : X) → Has xs a → Has xs b → (a ≡ b)
      ⊎ R a b
  same_or_apart [] apart a b h k = absurd h
  same_or_apart (x ∷ xs) apart a b (inl s) (inl t) = inl (s ∙ sym t)
  same_or_apart (x ∷ xs) apart a b (inl s) (inr k) =
      inr (subst (λ y. R y b) (sym s) (of_all xs x b apart.0 k))
  same_or_apart (x ∷ xs) apart a b (inr h) (inl t) =
      inr (swapped b a (subst (λ y. R y a) (sym t) (of_all xs x a apart.0 h)))
  same_or_apart (x ∷ xs) apart a b (inr h) (inr k) = same_or_apart xs apart.1 a b h k

count_permuted : {X : Type 0} (p : X → Bool) (xs ys : List X) → IsPermutation xs ys
    → count_by p xs ≡ count_by p ys
count_permuted p xs ys h = sym (length-filter p xs)
    ∙ sym (length_permutation _ _ (IsPermutation-filter p xs ys h)) ∙ length-filter p ys

-- ---- the items of one book

-- the items of the book `id` get the new id of the book `own` only if they are its items; this
-- book isn't left out
pub record Separates (ids : List ℤ) (own id : ℤ) : Type 0 where
  pub stays : is_left_out ids id ≡ false → int_eq (id_after ids id) (id_after ids own)
      ≡ int_eq id own
  pub gone : is_left_out ids id ≡ true → int_eq id own ≡ false

module _ {X : Type 0} (id_of : X → ℤ) (with_id : ℤ → X → X) (given : (id : ℤ) (x : X)
    → id_of (with_id id x) ≡ id) (ids : List ℤ) (own : ℤ) where
  abbrev pub Apart : List X → Type 0
  Apart = AllByRecursion (λ x. Separates ids own (id_of x))

  moved : (x : X) (b : Bool) → Separates ids own (id_of x) → is_left_out ids (id_of x) ≡ false
      → int_eq (id_of x) own ≡ b → int_eq (id_of (with_id (id_after ids (id_of x)) x))
      (id_after ids own) ≡ b
  moved x b h e k = ap (λ i. int_eq i (id_after ids own)) (given (id_after ids (id_of x)) x)
      ∙ h.stays e ∙ k

  module _ {V : Type 0} (value : X → V) (same : (id : ℤ) (x : X) → value (with_id id x) ≡ value x)
    where
      pub same_values : (xs : List X) → Apart xs
          → map value (filter (λ x. int_eq (id_of x) (id_after ids own))
          (rest id_of with_id ids xs))
          ≡ map value (filter (λ x. int_eq (id_of x) own) xs)
      same_values [] h = refl
      same_values (x ∷ xs) h = step (is_left_out ids (id_of x)) (int_eq (id_of x) own) refl refl
          (same_values xs h.1)
        where
          step : (a b : Bool) → is_left_out ids (id_of x) ≡ a → int_eq (id_of x) own ≡ b
              → map value (filter (λ x. int_eq (id_of x) (id_after ids own))
              (rest id_of with_id ids xs)) ≡ map value (filter (λ x. int_eq (id_of x) own) xs)
              → map value (filter (λ x. int_eq (id_of x) (id_after ids own))
              (rest id_of with_id ids (x ∷ xs))) ≡ map value (filter (λ x. int_eq (id_of x) own)
              (x ∷ xs))
          step true true e k more = absurd (true≢false (sym k ∙ h.0.gone e))
          step true false e k more = rw (e, k) more
          step false true e k more = rw (
            e,
            moved x true h.0 e k,
            k,
          ) (ap₂ (λ a l. a ∷ l) (same _ x) more)
          step false false e k more = rw (e, moved x false h.0 e k, k) more

      pub same_found : (d : V) (xs : List X) → Apart xs
          → option_map_or value (find (λ x. int_eq (id_of x) (id_after ids own))
          (rest id_of with_id ids xs)) d ≡ option_map_or value (find (λ x. int_eq (id_of x) own) xs)
          d
      same_found d [] h = refl
      same_found d (x ∷ xs) h = step (is_left_out ids (id_of x)) (int_eq (id_of x) own) refl refl
          (same_found d xs h.1)
        where
          step : (a b : Bool) → is_left_out ids (id_of x) ≡ a → int_eq (id_of x) own ≡ b
              → option_map_or value (find (λ x. int_eq (id_of x) (id_after ids own))
              (rest id_of with_id ids xs)) d ≡ option_map_or value
              (find (λ x. int_eq (id_of x) own) xs) d
              → option_map_or value (find (λ x. int_eq (id_of x) (id_after ids own))
              (rest id_of with_id ids (x ∷ xs))) d ≡ option_map_or value
              (find (λ x. int_eq (id_of x) own) (x ∷ xs)) d
          step true true e k more = absurd (true≢false (sym k ∙ h.0.gone e))
          step true false e k more = rw (e, k) more
          step false true e k more = rw (e, moved x true h.0 e k, k) (same _ x)
          step false false e k more = rw (e, moved x false h.0 e k, k) more

-- ---- the books

module _ (names : List (List ℕ)) (rows : TableRows) (sound : AreSoundRows rows) where
  abbrev left : List ℤ
  left = named_ids names rows.books

  abbrev after : TableRows
  after = rows_without left rows

  abbrev Differ : BookRow → BookRow → Type 0
  Differ a b = (int_eq a.id b.id ≡ false) × (has_name a.name b ≡ false)

  swap_differ : (a b : BookRow) → int_eq a.id b.id ≡ false → int_eq b.id a.id ≡ false
  swap_differ a b h = turned a.id b.id h

  -- books with one id are the same
  one_id : (a b : BookRow) → Has rows.books a → Has rows.books b → int_eq a.id b.id ≡ true → a ≡ b
  one_id a b h k e = elim (same_or_apart (λ (x y : BookRow). int_eq x.id y.id ≡ false) swap_differ
      rows.books
      (Rattle.sqlite_trees.proofs.ListLemmas.ascending_weaker Differ (λ (x y : BookRow). int_eq x.id
      y.id ≡ false) (λ x y d. d.0) rows.books sound.books) a b h k) [
        | inl same ↦ same
        | inr apart ↦ absurd (true≢false (sym e ∙ apart))
      ]

  -- a book is left out exactly if it has one of the names
  left_is_named : (b : BookRow) → Has rows.books b → is_left_out left b.id ≡ is_named names b.name
  left_is_named b h = go (is_left_out left b.id) (is_named names b.name) refl refl
    where
      go : (x y : Bool) → is_left_out left b.id ≡ x → is_named names b.name ≡ y → x ≡ y
      go true true e k = refl
      go false false e k = refl
      go false true e k = sym e ∙ has_any (λ each. int_eq each b.id) left b.id
          (has_mapped (λ (c : BookRow). c.id) _ b (has_kept (λ (c : BookRow). is_named names c.name)
          rows.books b h k)) (int_itself b.id)
      go true false e k =
          let it = any_has (λ each. int_eq each b.id) left e in
          let from = mapped_has (λ (c : BookRow). c.id) _ it.0 it.1 in
          let kept = has_filtered (λ (c : BookRow). is_named names c.name) rows.books from.0
          from.1 in
          let same = one_id from.0 b kept.0 h (ap (λ i. int_eq i b.id) (sym from.2) ∙ it.2) in
          sym kept.1 ∙ ap (λ (c : BookRow). is_named names c.name) same ∙ k

  -- as many of these ids as books with these names are smaller
  module _ (id : ℤ) where
    abbrev smaller : ℤ → Bool
    smaller each = nat_lt (natural each) (natural id)

    abbrev named_smaller : List ℕ × Book → Bool
    named_smaller e = is_named names e.0 && nat_lt e.1.id (natural id)

    same_length : (bs : List BookRow) → length (filter smaller (named_ids names bs))
        ≡ length (filter named_smaller (map (book_entry rows) bs))
    same_length [] = refl
    same_length (b ∷ bs) = step (is_named names b.name) (smaller b.id) refl refl (same_length bs)
      where
        step : (t u : Bool) → is_named names b.name ≡ t → smaller b.id ≡ u
            → length (filter smaller (named_ids names bs))
            ≡ length (filter named_smaller (map (book_entry rows) bs))
            → length (filter smaller (named_ids names (b ∷ bs)))
            ≡ length (filter named_smaller (map (book_entry rows) (b ∷ bs)))
        step true true e k more = rw (e, k) (ap suc more)
        step true false e k more = rw (e, k) more
        step false u e k more = rw e more

    counts_ids : (bs : List BookRow) → count_by smaller (named_ids names bs)
        ≡ count_by named_smaller (map (book_entry rows) bs)
    counts_ids bs = sym (length-filter smaller (named_ids names bs)) ∙ same_length bs
        ∙ length-filter named_smaller (map (book_entry rows) bs)

  entries_moved : IsPermutation (map (book_entry rows) rows.books) (finite.entries (books_of rows))
  entries_moved =
      subst (λ l. IsPermutation (map (book_entry rows) l) (finite.entries (books_of rows)))
      (every rows.books)
      (subst (λ m. IsPermutation (map (book_entry rows) (filter (λ _. true) rows.books))
      (finite.entries m)) (books_map rows rows.books)
      (entries_are each_book name_of (row_book rows) rows.books
      (once_books rows rows.books sound.books)))

  pub counts_before : (id : ℤ) → count_by (λ each. nat_lt (natural each) (natural id)) left
      ≡ named_before names (books_of rows) (natural id)
  counts_before id = counts_ids id rows.books
      ∙ count_permuted (λ (e : List ℕ × Book). is_named names e.0 && nat_lt e.1.id (natural id)) _ _
      entries_moved

  module _ (still : AreSoundRows after) (b : BookRow) (has : Has rows.books b) (kept :
      is_left_out left b.id ≡ false) where
    -- two books that stay have different new ids
    new_ids_apart : (c : BookRow) → Has rows.books c → is_left_out left c.id ≡ false
        → int_eq c.id b.id ≡ false → int_eq (id_after left c.id) (id_after left b.id) ≡ false
    new_ids_apart c h k e =
        let stays = λ (x : BookRow). not (is_left_out left x.id) in
        let P = λ (x y : BookRow). int_eq (id_after left x.id) (id_after left y.id) ≡ false in
        elim (same_or_apart P (λ x y d. turned (id_after left x.id) (id_after left y.id) d)
        (filter stays rows.books)
        (Rattle.sqlite_trees.proofs.ListLemmas.ascending_weaker
        (λ (x y : BookRow). Differ (record x { id = id_after left x.id })
        (record y { id = id_after left y.id })) P (λ x y d. d.0) _
        (ascending_from_map Differ (λ (x : BookRow). record x { id = id_after left x.id })
        (filter stays rows.books) still.books))
        c b (has_kept stays rows.books c h (ap not k)) (has_kept stays rows.books b has
        (ap not kept))) [
          | inl same ↦ absurd (true≢false (sym (int_itself b.id)
              ∙ ap (λ (x : BookRow). int_eq x.id b.id) (sym same) ∙ e))
          | inr apart ↦ apart
        ]

    separates : (id : ℤ) → HasBookId rows.books id → Separates left b.id id
    separates id listed = record {
      stays = λ k. go (int_eq id b.id) refl k;
      gone = λ k. out (int_eq id b.id) refl k;
    }
      where
        go : (t : Bool) → int_eq id b.id ≡ t → is_left_out left id ≡ false
            → int_eq (id_after left id) (id_after left b.id) ≡ int_eq id b.id
        go true e k = ap (λ i. int_eq (id_after left i) (id_after left b.id)) (same_int id b.id e)
            ∙ int_itself (id_after left b.id) ∙ sym e
        go false e k =
            let it = any_has (has_id id) rows.books listed in
            let same : it.0.id ≡ id = same_int it.0.id id it.2 in
            ap (λ i. int_eq (id_after left i) (id_after left b.id)) (sym same)
            ∙ new_ids_apart it.0 it.1 (ap (is_left_out left) same ∙ k) (ap (λ i. int_eq i b.id) same
            ∙ e) ∙ sym e

        out : (t : Bool) → int_eq id b.id ≡ t → is_left_out left id ≡ true → int_eq id b.id ≡ false
        out false e k = e
        out true e k = absurd (true≢false (sym k ∙ ap (is_left_out left) (same_int id b.id e)
            ∙ kept))

    pub same_rest : row_book after (record b { id = id_after left b.id })
        ≡ moved_up names (books_of rows) (row_book rows b)
    same_rest =
        let members = ap finite.from_entries (same_values (λ (m : MemberRow). m.book)
        (λ id m. record m { book = id }) (λ _ _. refl) left b.id member_entry (λ _ _. refl)
        rows.members
        (all_weaker (λ (m : MemberRow). HasBookId rows.books m.book) (λ (m : MemberRow). Separates
        left b.id m.book) (λ m h. separates m.book h) rows.members sound.listed_members)) in
        let imports = ap finite.from_entries (same_values (λ (i : ImportRow). i.book)
        (λ id i. record i { book = id }) (λ _ _. refl) left b.id import_entry (λ _ _. refl)
        rows.imports
        (all_weaker (λ (i : ImportRow). HasBookId rows.books i.book) (λ (i : ImportRow). Separates
        left b.id i.book) (λ i h. separates i.book h) rows.imports sound.listed_imports)) in
        let keep = same_found (λ (k : KeepRow). k.book) (λ id k. record k { book = id })
        (λ _ _. refl) left b.id (λ (k : KeepRow). natural k.keep) (λ _ _. refl) 0 rows.keeps
        (all_weaker (λ (k : KeepRow). HasBookId rows.books k.book) (λ (k : KeepRow). Separates left
        b.id k.book) (λ k h. separates k.book h) rows.keeps sound.listed_keeps) in
        let id = ap (λ n. natural b.id - n) (counts_before b.id) in
        λ i. record (row_book rows b) {
          id = id i;
          keep = keep i;
          members = members i;
          imports = imports i;
        }

  -- the first book with the name
  pub books_without : AreSoundRows after → AreBooksWithout names (books_of rows) (books_of after)
  books_without still name =
      get-books_of after name ∙ ap (option_map (row_book after)) (moved_find rows.books
      ∙ ap (option_map up) (find_left (has_name name) stays rows.books
      (single_named name rows.books sound.books)))
      ∙ go (find (has_name name) rows.books) refl
      ∙ ap (λ (o : Option Book). if is_named names name then None
      else option_map (moved_up names (books_of rows)) o) (sym (get-books_of rows name))
    where
      stays : BookRow → Bool
      stays x = not (is_left_out left x.id)

      up : BookRow → BookRow
      up x = record x { id = id_after left x.id }

      moved_find : (bs : List BookRow) → find (has_name name) (map up (filter stays bs))
          ≡ option_map up (find (has_name name) (filter stays bs))
      moved_find bs = find_mapped (filter stays bs)
        where
          find_mapped : (cs : List BookRow) → find (has_name name) (map up cs)
              ≡ option_map up (find (has_name name) cs)
          find_mapped [] = refl
          find_mapped (c ∷ cs) = step (has_name name c) refl (find_mapped cs)
            where
              step : (t : Bool) → has_name name c ≡ t → find (has_name name) (map up cs)
                  ≡ option_map up (find (has_name name) cs) → find (has_name name) (map up (c ∷ cs))
                  ≡ option_map up (find (has_name name) (c ∷ cs))
              step true e more = rw e refl
              step false e more = rw e more

      nothing : Option Book
      nothing = None

      none : (t : Bool) → nothing ≡ (if t then nothing else nothing)
      none true = refl
      none false = refl

      go : (o : Option BookRow) → find (has_name name) rows.books ≡ o
          → option_map (row_book after) (option_map up
          (option_and_then (λ x. cond (stays x) (Some x) None) o)) ≡ (if is_named names name
          then None else option_map (moved_up names (books_of rows)) (option_map (row_book rows)
          o))
      go None e = none (is_named names name)
      go (Some b) e =
          let it = found_has (has_name name) rows.books b e in
          let is : b.name ≡ name = same_text b.name name it.1 in
          let named : is_left_out left b.id ≡ is_named names name = left_is_named b it.0
          ∙ ap (is_named names) is in
          split (is_named names name) refl named it.0
        where
          split : (t : Bool) → is_named names name ≡ t → is_left_out left b.id ≡ is_named names name
              → Has rows.books b
              → option_map (row_book after) (option_map up (cond (stays b) (Some b) None))
              ≡ (if is_named names name then None
              else Some (moved_up names (books_of rows) (row_book rows b)))
          split true k named has = rw (named, k) refl
          split false k named has = rw (named, k) (ap Some (same_rest still b has (named ∙ k)))

-- ---- nothing is left out

none_before : (books : Books) (id : ℕ) → named_before [] books id ≡ 0
none_before books id =
    let none : List ℕ × Book → Bool = λ _. false in
    sym (length-filter none (finite.entries books))
    ∙ ap (λ l. length l) (filter_none none (finite.entries books) (all_of (λ e. none e ≡ false)
    (λ _. refl) (finite.entries books)))

not_moved : (books : Books) (o : Option Book) → option_map (moved_up [] books) o ≡ o
not_moved books None = refl
not_moved books (Some book) =
    let same : book.id - named_before [] books book.id ≡ book.id =
    ap (λ n. book.id - n) (none_before books book.id) ∙ (omega arith) in
    ap Some (λ i. record book { id = same i })

pub nothing_left_out : NothingIsLeftOut
nothing_left_out old new h = finite.same_map text_total exact_bytes new old (λ name. h name
    ∙ not_moved old (finite.get old name))
