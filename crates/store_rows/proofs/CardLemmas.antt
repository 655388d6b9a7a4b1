-- All cards of a book.
use Rattle.std.proofs.Common.{◌≡◌, ℕ, Bool, true, false, cond, List, [], ◌∷◌, map, filter, find}
use Rattle.std.proofs.Common.{fold, flat_map, Option, Some, None, IsPermutation, refl, sym, ap, ap₂}
use Rattle.std.proofs.Common.{subst, ◌∙◌, true≢false}
use Rattle.std.specs.List.{AllByRecursion}
use Rattle.std.specs.Option.{option_map, option_map_or, option_and_then, option_or}
use Rattle.std.specs.Ordering.{eq_by_cmp}
use Rattle.std.specs.FinMap as finite
use Rattle.std.proofs.lemmas.List.Sorted.{IsPermutation-map}
use Rattle.std.proofs.lemmas.Map.Lookups.{exact_bytes}
use Rattle.sqlite_trees.proofs.ListLemmas.{ascending-filter, ascending-map, ascending_weaker}
use Rattle.base_types.specs.TextMaps.{text_cmp}
use Rattle.base_types.proofs.TextLemmas.{text_total}
use Rattle.book_model.specs.declared.answers.Stored.{Stored}
use Rattle.book_model.specs.declared.row.Row.{Row as Kept}
use Rattle.book_model.specs.Books.{LiveCards, stored_in_row}
use Rattle.book_model.specs.Pages.{MemberWithRow}
use Rattle.book_model.specs.BookQueries.{live_card_entry, live_cards, with_live}
use Rattle.book_model.proofs.LiveCardLemmas.{find_live}
use Rattle.store_tables.specs.Members.{MemberRow, AreMembers, is_in_book, has_uid}
use Rattle.store_rows.specs.TableBooks.{model_row, member_entry, members_in, row_book}
use Rattle.store_rows.specs.ShownRows.{ShowMembers}
use Rattle.store_rows.specs.ReadLaws.{MembersAreCards}
use Rattle.store_rows.proofs.KeyedEntries.{Single, find_moved, single_moved, entries_are}
use Rattle.store_rows.proofs.KeyedEntries.{once_single, key_is, text_turned}
use Rattle.store_rows.proofs.RowLemmas.{once_members, uid_of_row}
use Rattle.store_rows.proofs.ReportLemmas.{members_are}

-- the entry is at this key
abbrev is_key : List ℕ → MemberWithRow → Bool
is_key q e = eq_by_cmp text_cmp q e.0

find_key : (q : List ℕ) (es : List MemberWithRow)
    → finite.find text_cmp q es ≡ option_map (λ (e : MemberWithRow). e.1) (find (is_key q) es)
find_key q [] = refl
find_key q (e ∷ es) = step (is_key q e) refl (find_key q es)
  where
    step : (t : Bool) → is_key q e ≡ t
        → finite.find text_cmp q es ≡ option_map (λ (e : MemberWithRow). e.1) (find (is_key q) es)
        → finite.find text_cmp q (e ∷ es) ≡ option_map (λ (e : MemberWithRow). e.1)
        (find (is_key q) (e ∷ es))
    step true h more = rw h refl
    step false h more = rw h more

none_else : (q : List ℕ) (es : List MemberWithRow) → AllByRecursion (λ e. is_key q e ≡ false) es
    → finite.find text_cmp q es ≡ None
none_else q [] h = refl
none_else q (e ∷ es) h = rw h.0 (none_else q es h.1)

-- ---- the fold over the members

get-with_live : (m : LiveCards) (e : MemberWithRow) (q : List ℕ) → finite.get (with_live m e) q
    ≡ cond (is_key q e) (option_or (stored_in_row e.1) (finite.get m q)) (finite.get m q)
get-with_live m e q = step (stored_in_row e.1) (is_key q e) refl
  where
    step : (o : Option Stored) (t : Bool) → is_key q e ≡ t
        → finite.get (option_map_or (λ s. finite.insert m e.0 s) o m) q
        ≡ cond t (option_or o (finite.get m q)) (finite.get m q)
    step (Some s) t h = finite.get-insert text_total m e.0 s q
        ∙ ap (λ b. cond b (Some s) (finite.get m q)) h
    step None true h = refl
    step None false h = refl

folded : (q : List ℕ) (es : List MemberWithRow) (m : LiveCards) → Single (is_key q) es
    → finite.get (fold with_live m es) q
    ≡ option_or (option_and_then stored_in_row (finite.find text_cmp q es)) (finite.get m q)
folded q [] m one = refl
folded q (e ∷ es) m one = step (is_key q e) refl (folded q es (with_live m e) one.1)
  where
    step : (t : Bool) → is_key q e ≡ t → finite.get (fold with_live (with_live m e) es) q
        ≡ option_or (option_and_then stored_in_row (finite.find text_cmp q es))
        (finite.get (with_live m e) q)
        → finite.get (fold with_live (with_live m e) es) q
        ≡ option_or (option_and_then stored_in_row (finite.find text_cmp q (e ∷ es)))
        (finite.get m q)
    step true h more =
        let rest : finite.find text_cmp q es ≡ None =
        none_else q es (Rattle.sqlite_trees.proofs.ListLemmas.all_weaker _
        (λ (y : MemberWithRow). is_key q y ≡ false) (λ y f. f h) es one.0) in
        more ∙ ap (λ o. option_or (option_and_then stored_in_row o) (finite.get (with_live m e) q))
        rest ∙ get-with_live m e q
        ∙ ap (λ b. cond b (option_or (stored_in_row e.1) (finite.get m q)) (finite.get m q)) h
        ∙ sym (ap (λ b. option_or (option_and_then stored_in_row
        (cond b (Some e.1) (finite.find text_cmp q es))) (finite.get m q)) h)
    step false h more =
        more ∙ ap (option_or (option_and_then stored_in_row (finite.find text_cmp q es)))
        (get-with_live m e q ∙ ap (λ b. cond b (option_or (stored_in_row e.1) (finite.get m q))
        (finite.get m q)) h)
        ∙ sym (ap (λ b. option_or (option_and_then stored_in_row
        (cond b (Some e.1) (finite.find text_cmp q es))) (finite.get m q)) h)

-- ---- the book's cards

pub get-live_cards : (members : finite.FinMap text_cmp Kept) (q : List ℕ)
    → finite.get (finite.from_entries {R = text_cmp}
    (flat_map live_card_entry (finite.entries members))) q ≡ option_and_then stored_in_row
    (finite.get members q)
get-live_cards members q =
    finite.get-from_entries text_total (flat_map live_card_entry (finite.entries members)) q
    ∙ find_live q (finite.entries members) (finite.entries_sorted members)
    ∙ ap (option_and_then stored_in_row) (sym (finite.get-entries members q))

-- at most one entry of a book's members has a key
single_entry : (book : Rattle.std.proofs.Common.ℤ) (q : List ℕ) (ms : List MemberRow)
    → AreMembers ms → Single (is_key q) (map member_entry (filter (is_in_book book) ms))
single_entry book q ms kept = ascending-map (λ (a b : MemberWithRow). is_key q a ≡ true
    → is_key q b ≡ false) member_entry (filter (is_in_book book) ms)
    (go ms (once_single (is_in_book book) uid_of_row model_row q ms (once_members book ms kept)))
  where
    same : (m : MemberRow) → is_key q (member_entry m) ≡ Rattle.std.proofs.Common.bytes_eq m.uid q
    same m = key_is q m.uid ∙ text_turned q m.uid

    all : (m : MemberRow) (ns : List MemberRow) → is_in_book book m ≡ true
        → AllByRecursion (λ n. has_uid book q m ≡ true → has_uid book q n ≡ false) ns
        → AllByRecursion (λ n. is_key q (member_entry m) ≡ true → is_key q (member_entry n) ≡ false)
        (filter (is_in_book book) ns)
    all m [] mine h = tt
    all m (n ∷ ns) mine h = step (is_in_book book n) refl (all m ns mine h.1)
      where
        step : (t : Bool) → is_in_book book n ≡ t
            → AllByRecursion (λ n. is_key q (member_entry m) ≡ true → is_key q (member_entry n)
            ≡ false) (filter (is_in_book book) ns)
            → AllByRecursion (λ n. is_key q (member_entry m) ≡ true → is_key q (member_entry n)
            ≡ false) (filter (is_in_book book) (n ∷ ns))
        step false e more = rw e more
        step true e more = rw e (at, more)
          where
            at : is_key q (member_entry m) ≡ true → is_key q (member_entry n) ≡ false
            at here =
                same n
                ∙ sym (ap (λ b. Rattle.std.proofs.Common.◌&&◌ b
                (Rattle.std.proofs.Common.bytes_eq n.uid q)) e)
                ∙ h.0 (ap₂ Rattle.std.proofs.Common.◌&&◌ mine (sym (same m) ∙ here))

    go : (ns : List MemberRow) → Single (has_uid book q) ns
        → Rattle.sqlite_trees.specs.Tree.IsAscending (λ a b. is_key q (member_entry a) ≡ true
        → is_key q (member_entry b) ≡ false) (filter (is_in_book book) ns)
    go [] h = tt
    go (m ∷ ns) h = step (is_in_book book m) refl (go ns h.1)
      where
        step : (t : Bool) → is_in_book book m ≡ t
            → Rattle.sqlite_trees.specs.Tree.IsAscending (λ a b. is_key q (member_entry a) ≡ true
            → is_key q (member_entry b) ≡ false) (filter (is_in_book book) ns)
            → Rattle.sqlite_trees.specs.Tree.IsAscending (λ a b. is_key q (member_entry a) ≡ true
            → is_key q (member_entry b) ≡ false) (filter (is_in_book book) (m ∷ ns))
        step true e more = rw e (all m ns e h.0, more)
        step false e more = rw e more

pub members_cards : MembersAreCards
members_cards rows b items members sound h shows =
    let are = members_are h.ordered members (subst (λ l. ShowMembers l members) h.shown shows) in
    ap (fold with_live finite.empty) (sym are)
    ∙ finite.same_map text_total exact_bytes _ _ (λ q. at q)
  where
    at : (q : List ℕ) → finite.get (fold with_live finite.empty (map member_entry h.ordered)) q
        ≡ finite.get (live_cards (row_book rows b)) q
    at q =
        let all = map member_entry (filter (is_in_book b.id) rows.members) in
        let ordered = IsPermutation-map member_entry _ _ h.same in
        let one = single_entry b.id q rows.members sound.members in
        let entries = entries_are (is_in_book b.id) uid_of_row model_row rows.members
        (once_members b.id rows.members sound.members) in
        let same : find (is_key q) (map member_entry h.ordered)
        ≡ find (is_key q) (finite.entries (members_in b.id rows.members)) =
        sym (find_moved (is_key q) all (map member_entry h.ordered) ordered one)
        ∙ find_moved (is_key q) all (finite.entries (members_in b.id rows.members)) entries
        one in
        folded q (map member_entry h.ordered) finite.empty (single_moved (is_key q) all
        (map member_entry h.ordered) ordered one)
        ∙ ap (option_or (option_and_then stored_in_row
        (finite.find text_cmp q (map member_entry h.ordered)))) (finite.get-empty text_cmp q)
        ∙ or_none (option_and_then stored_in_row
        (finite.find text_cmp q (map member_entry h.ordered)))
        ∙ ap (option_and_then stored_in_row) (find_key q (map member_entry h.ordered)
        ∙ ap (option_map (λ (e : MemberWithRow). e.1)) same
        ∙ sym (find_key q (finite.entries (members_in b.id rows.members)))
        ∙ sym (finite.get-entries (members_in b.id rows.members) q))
        ∙ sym (get-live_cards (members_in b.id rows.members) q)
      where
        or_none : (o : Option Stored) → option_or o None ≡ o
        or_none None = refl
        or_none (Some s) = refl
