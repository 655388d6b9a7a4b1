-- The lines of all books.
use Rattle.std.proofs.Common.{◌≡◌, ℕ, pos, suc, ◌+◌, min, false, List, [], ◌∷◌, map, filter, length}
use Rattle.std.proofs.Common.{Ordering, Less, Equal, Greater, is_lt, is_eq, slice_index_or}
use Rattle.std.proofs.Common.{bytes_eq, IsPermutation, refl, sym, ap, ap₂, subst, ◌∙◌, true≢false}
use Rattle.std.proofs.Common.{arith}
use Rattle.std.specs.List.{AllByRecursion}
use Rattle.std.specs.List.Sorted.{IsSorted}
use Rattle.std.specs.Ordering.{ordering_reverse}
use Rattle.std.specs.FinMap as finite
use Rattle.std.specs.FinMap.Entries.{put, by_order}
use Rattle.std.proofs.lemmas.List.{length-map, nil_from_length}
use Rattle.std.proofs.lemmas.List.Sorted.{length_permutation}
use Rattle.sqlite.specs.Order.{column}
use Rattle.sqlite_trees.specs.Tree.{IsAscending}
use Rattle.sqlite_trees.proofs.ListLemmas.{all_weaker}
use Rattle.base_types.specs.TextMaps.{text_cmp}
use Rattle.base_types.proofs.TextLemmas.{text_total}
use Rattle.book_model.specs.declared.answers.BookLine.{BookLine}
use Rattle.book_model.specs.Books.{Book}
use Rattle.book_model.specs.BookQueries.{book_line_in_rows}
use Rattle.store_tables.specs.Books.{BookRow, AreBooks, has_name, book_shown, by_name}
use Rattle.store_tables.proofs.KeyedRows.{text_itself}
use Rattle.store_rows.specs.Values.{text_or_empty}
use Rattle.store_rows.specs.TableRows.{TableRows}
use Rattle.store_rows.specs.TableBooks.{row_book, book_entry, books_of}
use Rattle.store_rows.specs.ReadLaws.{ShowsLine, ShowLines, AllBooksAreListed, AllBooksAreCounted}
use Rattle.store_rows.proofs.KeyedEntries.{Single, single_moved, same_maps, entries_are, key_is}
use Rattle.store_rows.proofs.KeyedEntries.{text_turned}
use Rattle.store_rows.proofs.RowLemmas.{each_book, name_of, every, books_map, once_books}
use Rattle.store_rows.proofs.RowLemmas.{single_named}
use Rattle.store_rows.proofs.LookupLemmas.{natural_of}
use Rattle.store_rows.proofs.RemovedLemmas.{count_is}

-- ---- sorted names

abbrev IsBefore : BookRow → BookRow → Type 0
IsBefore a b = text_cmp a.name b.name ≡ Less

-- no other book has the name
abbrev OtherNames : List BookRow → Type 0
OtherNames = IsAscending (λ a b. bytes_eq a.name b.name ≡ false)

later : (a b c : List ℕ) → text_cmp a b ≡ Less → text_cmp b c ≡ Less → text_cmp a c ≡ Less
later a b c = text_total.trans a b c

-- a key that is neither greater nor equal is less
before : (a b : List ℕ) → is_lt (text_cmp b a) ≡ false → bytes_eq a b ≡ false → text_cmp a b ≡ Less
before a b not_above apart = go (text_cmp b a) refl
  where
    turned : text_cmp a b ≡ ordering_reverse (text_cmp b a)
    turned = text_total.antisymm a b

    go : (o : Ordering) → text_cmp b a ≡ o → text_cmp a b ≡ Less
    go Less e = absurd (true≢false (ap is_lt (sym e) ∙ not_above))
    go Equal e = absurd (true≢false (ap is_eq (sym e) ∙ key_is b a ∙ text_turned b a ∙ apart))
    go Greater e = turned ∙ ap ordering_reverse e

sorted_tail : (b : BookRow) (bs : List BookRow) → IsSorted by_name (b ∷ bs) → IsSorted by_name bs
sorted_tail b bs sorted k d low below =
    let next : suc k + 1 ≡ suc (k + 1) = omega arith in
    ap (λ n. is_lt (by_name (slice_index_or (b ∷ bs) n d) (slice_index_or bs k d))) (sym next)
    ∙ sorted (suc k) d (omega arith) (omega (arith, below))

rising : (bs : List BookRow) → IsSorted by_name bs → OtherNames bs → IsAscending IsBefore bs
rising [] sorted apart = tt
rising (b ∷ []) sorted apart = (tt, tt)
rising (b ∷ c ∷ bs) sorted apart =
    let rest = rising (c ∷ bs) (sorted_tail b (c ∷ bs) sorted) apart.1 in
    let first : IsBefore b c = before b.name c.name (sorted 0 b (omega arith) (omega arith))
    apart.0.0 in
    ((first, all_weaker _ (IsBefore b) (λ x h. later b.name c.name x.name first h) bs rest.0), rest)

-- a map made of sorted entries lists them in the same order
entries_in_order : (rows : TableRows) (bs : List BookRow) → IsAscending IsBefore bs
    → finite.entries (finite.from_entries {R = text_cmp} (map (book_entry rows) bs))
    ≡ map (book_entry rows) bs
entries_in_order rows [] h = nil_from_length _
    (sym (finite.len-entries (finite.empty {X = Book} {R = text_cmp}))
    ∙ finite.len-empty text_cmp Book)
entries_in_order rows (b ∷ bs) h =
    finite.entries-insert text_total (finite.from_entries (map (book_entry rows) bs)) b.name
    (row_book rows b)
    ∙ ap (put text_cmp b.name (row_book rows b)) (entries_in_order rows bs h.1) ∙ first bs h.0
  where
    first : (cs : List BookRow) → AllByRecursion (IsBefore b) cs
        → put text_cmp b.name (row_book rows b) (map (book_entry rows) cs) ≡ book_entry rows b ∷ map
        (book_entry rows) cs
    first [] a = refl
    first (c ∷ cs) a =
        ap (λ o. by_order o (book_entry rows b ∷ book_entry rows c ∷ map (book_entry rows) cs)
        ((c.name, row_book rows b) ∷ map (book_entry rows) cs) (book_entry rows c ∷ put text_cmp
        b.name (row_book rows b) (map (book_entry rows) cs))) a.0

-- ---- books read from result rows

line_is : (rows : TableRows) (b : BookRow) (line : BookLine) → ShowsLine (book_shown b) line
    → book_line_in_rows (book_entry rows b) ≡ line
line_is rows b line h =
    let name : b.name ≡ line.name = ap text_or_empty h.name_is in
    let id = natural_of b.id line.id h.id in
    let number = natural_of b.numbers.number line.number h.number in
    let horizon = natural_of b.numbers.horizon line.horizon h.horizon in
    λ i. record { name = name i; id = id i; number = number i; horizon = horizon i }

lines_are : (rows : TableRows) (bs : List BookRow) (lines : List BookLine)
    → ShowLines (map book_shown bs) lines → map book_line_in_rows (map (book_entry rows) bs) ≡ lines
lines_are rows [] [] h = refl
lines_are rows [] (line ∷ lines) h = absurd h
lines_are rows (b ∷ bs) [] h = absurd h
lines_are rows (b ∷ bs) (line ∷ lines) h =
    ap₂ (λ e l. e ∷ l) (line_is rows b line h.0) (lines_are rows bs lines h.1)

-- ---- the laws

pub all_listed : AllBooksAreListed
all_listed rows items lines sound h shows =
    let once = once_books rows rows.books sound.books in
    let same : books_of rows ≡ finite.from_entries (map (book_entry rows) h.ordered) =
    sym (books_map rows rows.books) ∙ same_maps each_book name_of (row_book rows) rows.books
    h.ordered h.same once ∙ books_map rows h.ordered in
    ap (map book_line_in_rows) (ap finite.entries same
    ∙ entries_in_order rows h.ordered
    (rising h.ordered h.rises (other_names h.ordered (moved rows.books h.ordered h.same
    (apart rows.books sound.books)))))
    ∙ lines_are rows h.ordered lines (subst (λ l. ShowLines l lines) h.shown shows)
  where
    Apart : List BookRow → Type 0
    Apart bs = (name : List ℕ) → Single (has_name name) bs

    apart : (bs : List BookRow) → AreBooks bs → Apart bs
    apart bs kept name = single_named name bs kept

    moved : (xs ys : List BookRow) → IsPermutation xs ys → Apart xs → Apart ys
    moved xs ys same h name = single_moved (has_name name) xs ys same (h name)

    other_names : (bs : List BookRow) → Apart bs → OtherNames bs
    other_names [] h = tt
    other_names (b ∷ bs) h = (
      all_weaker _ (λ (x : BookRow). bytes_eq b.name x.name ≡ false)
          (λ x f. text_turned b.name x.name ∙ f (text_itself b.name)) bs (h b.name).0,
      other_names bs (λ name. (h name).1),
    )

pub all_counted : AllBooksAreCounted
all_counted rows row n sound outcome shows =
    let is : min (length rows.books) 9223372036854775807 ≡ n =
    natural_of (pos (min (length rows.books) 9223372036854775807)) n
    (ap (λ r. column r 0) (sym outcome) ∙ shows.is) in
    ap finite.len (sym (books_map rows rows.books)) ∙ finite.len-entries _
    ∙ length_permutation _ _ (entries_are each_book name_of (row_book rows) rows.books
    (once_books rows rows.books sound.books))
    ∙ length-map (filter each_book rows.books) (book_entry rows) ∙ ap length (every rows.books)
    ∙ count_is (length rows.books) n is shows.below
