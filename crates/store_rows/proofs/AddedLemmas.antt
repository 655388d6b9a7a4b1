-- Inserted rows.
use Rattle.std.proofs.Common.{◌≡◌, ℤ, pos, Bool, true, false, ◌||◌, cond, List, [], ◌∷◌, map}
use Rattle.std.proofs.Common.{filter, find, Some, int_eq, refl, sym, ap, ap₂, subst, ◌∙◌}
use Rattle.std.proofs.Common.{true≢false}
use Rattle.std.specs.List.{AllByRecursion, list_any}
use Rattle.std.specs.Option.{option_map_or}
use Rattle.std.specs.FinMap as finite
use Rattle.sqlite_trees.proofs.ListLemmas.{all_weaker, all_both}
use Rattle.book_model.specs.Books.{fresh_book}
use Rattle.store_tables.specs.Books.{BookRow, HoldBooks, has_name, has_id}
use Rattle.store_tables.specs.Members.{MemberRow, HoldMembers, is_in_book}
use Rattle.store_tables.specs.Imports.{ImportRow, HoldImports, has_key}
use Rattle.store_tables.specs.Keeps.{KeepRow, HoldKeeps, is_keep_of}
use Rattle.store_tables.specs.Meta.{meta_listed}
use Rattle.store_tables.proofs.KeyedRows.{same_int, int_itself}
use Rattle.store_rows.specs.Values.{natural}
use Rattle.store_rows.specs.TableRows.{TableRows, new_book_rows, keep_rows}
use Rattle.store_rows.specs.TableBooks.{model_row, row_tally, keep_of_book, row_book, book_entry}
use Rattle.store_rows.specs.TableBooks.{line_row}
use Rattle.store_rows.specs.SoundTables.{HasBookId}
use Rattle.store_rows.specs.AddLaws.{BooksAreAdded, KeepsAreAdded, NewBooksAreEmpty}
use Rattle.store_rows.specs.AddLaws.{ImportsAreAdded, ImportsAreKept, import_tally_row}
use Rattle.book_model.specs.Counting.{no_counts}
use Rattle.store_rows.proofs.BookLemmas.{naturals_row}
use Rattle.store_rows.proofs.KeyedEntries.{none_mine, added_mine, added_other}
use Rattle.store_rows.proofs.RowLemmas.{int_turned, uid_of_row, key_of, import_of}
use Rattle.store_rows.proofs.WriteLemmas.{listed}

none_passes : {X : Type 0} (p : X → Bool) (xs : List X) → filter p xs ≡ []
    → AllByRecursion (λ x. p x ≡ false) xs
none_passes p [] h = tt
none_passes p (x ∷ xs) h = step (p x) refl h (none_passes p xs)
  where
    step : (b : Bool) → p x ≡ b → filter p (x ∷ xs) ≡ []
        → (filter p xs ≡ [] → AllByRecursion (λ x. p x ≡ false) xs)
        → AllByRecursion (λ x. p x ≡ false) (x ∷ xs)
    step true e h more = absurd (let k = rw e at h in cc)
    step false e h more = (e, more (rw e at h))

-- ---- a book

or_right : (a b : Bool) → b ≡ true → (a || b) ≡ true
or_right true b h = refl
or_right false b h = h

still_listed : (new : BookRow) (bs : List BookRow) (id : ℤ) → HasBookId bs id
    → HasBookId (new ∷ bs) id
still_listed new bs id h = or_right (has_id id new) (list_any (has_id id) bs) h

pub book_added : BooksAreAdded
book_added old new rows id name h sound natural free added w = record {
  holds = record {
    schema = w.schema;
    obeys = w.obeys;
    meta = ap (map meta_listed) (w.other_tables.0 (λ e. cc)) ∙ h.meta;
    books = added.hold;
    members = subst (λ t. HoldMembers t rows.members) (sym (w.other_tables.1.1.0 (λ e. cc)))
        h.members;
    imports = subst (λ t. HoldImports t rows.imports) (sym (w.other_tables.1.1.1.0 (λ e. cc)))
        h.imports;
    keeps = subst (λ t. HoldKeeps t rows.keeps) (sym (w.other_tables.1.1.1.1.0 (λ e. cc))) h.keeps;
  };
  sound = record {
    books = (
      all_both _ _ (λ (x : BookRow). (int_eq id x.id ≡ false) × (has_name name x ≡ false))
          (λ x p q. (int_turned id x.id ∙ p, q)) rows.books added.free (none_passes (has_name name)
          rows.books free),
      sound.books,
    );
    members = sound.members;
    imports = sound.imports;
    keeps = sound.keeps;
    listed_members = all_weaker _ _ (λ m l. still_listed (Rattle.store_tables.specs.Books.blank_book
        id name) rows.books m.book l) rows.members sound.listed_members;
    listed_imports = all_weaker _ _ (λ i l. still_listed (Rattle.store_tables.specs.Books.blank_book
        id name) rows.books i.book l) rows.imports sound.listed_imports;
    listed_keeps = all_weaker _ _ (λ k l. still_listed (Rattle.store_tables.specs.Books.blank_book
        id name) rows.books k.book l) rows.keeps sound.listed_keeps;
    readable = record {
      books = (
        record { id = natural; numbers = naturals_row 0 0 no_counts },
        sound.readable.books,
      );
      members = sound.readable.members;
      imports = sound.readable.imports;
      keeps = sound.readable.keeps;
    };
  };
}

pub keep_added : KeepsAreAdded
keep_added old new rows b keep h sound there natural added w = record {
  holds = record {
    schema = w.schema;
    obeys = w.obeys;
    meta = ap (map meta_listed) (w.other_tables.0 (λ e. cc)) ∙ h.meta;
    books = subst (λ t. HoldBooks t rows.books) (sym (w.other_tables.1.0 (λ e. cc))) h.books;
    members = subst (λ t. HoldMembers t rows.members) (sym (w.other_tables.1.1.0 (λ e. cc)))
        h.members;
    imports = subst (λ t. HoldImports t rows.imports) (sym (w.other_tables.1.1.1.0 (λ e. cc)))
        h.imports;
    keeps = added.hold;
  };
  sound = record {
    books = sound.books;
    members = sound.members;
    imports = sound.imports;
    keeps = (
      all_weaker _ (λ (k : KeepRow). int_eq b.id k.book ≡ false)
          (λ k e. int_turned b.id k.book ∙ e) rows.keeps added.free,
      sound.keeps,
    );
    listed_members = sound.listed_members;
    listed_imports = sound.listed_imports;
    listed_keeps = (listed rows.books b there, sound.listed_keeps);
    readable = record {
      books = sound.readable.books;
      members = sound.readable.members;
      imports = sound.readable.imports;
      keeps = (natural, sound.readable.keeps);
    };
  };
}

-- an item of a listed book belongs to no other book
not_of : (id : ℤ) (bs : List BookRow) (book : ℤ)
    → AllByRecursion (λ (b : BookRow). int_eq id b.id ≡ false) bs → HasBookId bs book
    → int_eq book id ≡ false
not_of id bs book free is = go (int_eq book id) refl
  where
    none : (cs : List BookRow) → AllByRecursion (λ (b : BookRow). int_eq id b.id ≡ false) cs
        → list_any (has_id id) cs ≡ false
    none [] h = refl
    none (c ∷ cs) h = ap₂ (λ a b. a || b) (int_turned c.id id ∙ h.0) (none cs h.1)

    go : (t : Bool) → int_eq book id ≡ t → t ≡ false
    go false e = refl
    go true e = absurd (true≢false (sym is ∙ ap (λ i. list_any (has_id i) bs) (same_int book id e)
        ∙ none bs free))

pub new_book_empty : NewBooksAreEmpty
new_book_empty rows id name keep old sound =
    let free = all_weaker _ (λ (b : BookRow). int_eq (pos id) b.id ≡ false) (λ b h. h.0) rows.books
    sound.books.0 in
    let members = none_mine (is_in_book (pos id)) uid_of_row model_row rows.members
    (all_weaker _ (λ (m : MemberRow). is_in_book (pos id) m ≡ false)
    (λ m l. not_of (pos id) rows.books m.book free l) rows.members old.listed_members) in
    let imports = none_mine (import_of (pos id)) key_of row_tally rows.imports
    (all_weaker _ (λ (i : ImportRow). import_of (pos id) i ≡ false)
    (λ i l. not_of (pos id) rows.books i.book free l) rows.imports old.listed_imports) in
    let its_keep : keep_of_book (pos id) next.keeps ≡ keep =
    ap (λ t. option_map_or (λ (k : KeepRow). natural k.keep)
    (cond t (Some first) (find (is_keep_of (pos id)) rows.keeps)) 0) (int_itself (pos id)) in
    let its_book : row_book next (Rattle.store_tables.specs.Books.blank_book (pos id) name)
    ≡ fresh_book id keep = λ i. record (fresh_book id keep) {
      keep = its_keep i;
      members = members i;
      imports = imports i;
    } in
    ap₂ (λ m b. finite.insert m name b) (ap finite.from_entries (same rows.books free)) its_book
  where
    next : TableRows
    next = keep_rows (pos id) (pos keep) (new_book_rows (pos id) name rows)

    first : KeepRow
    first = Rattle.store_tables.specs.Keeps.keep_row_of (pos id) (pos keep)

    same : (bs : List BookRow) → AllByRecursion (λ (b : BookRow). int_eq (pos id) b.id ≡ false) bs
        → map (book_entry next) bs ≡ map (book_entry rows) bs
    same [] h = refl
    same (b ∷ bs) h = ap₂ (λ e l. e ∷ l)
        (ap (λ t. (
          b.name,
          record (row_book rows b) {
            keep = option_map_or
                (λ (k : KeepRow). natural k.keep)
                (cond t (Some first) (find (is_keep_of b.id) rows.keeps)) 0;
          },
        )) h.0) (same bs h.1)

-- ---- an import

pub import_added : ImportsAreAdded
import_added old new rows b row h sound there its readable free added w = record {
  holds = record {
    schema = w.schema;
    obeys = w.obeys;
    meta = ap (map meta_listed) (w.other_tables.0 (λ e. cc)) ∙ h.meta;
    books = subst (λ t. HoldBooks t rows.books) (sym (w.other_tables.1.0 (λ e. cc))) h.books;
    members = subst (λ t. HoldMembers t rows.members) (sym (w.other_tables.1.1.0 (λ e. cc)))
        h.members;
    imports = added.hold;
    keeps = subst (λ t. HoldKeeps t rows.keeps) (sym (w.other_tables.1.1.1.1.0 (λ e. cc))) h.keeps;
  };
  within = record {
    sound = record {
      books = sound.books;
      members = sound.members;
      imports = (
        all_both _ _ (λ (i : ImportRow). (int_eq row.id i.id ≡ false)
            × (has_key row.book row.key i ≡ false)) (λ i p q. (int_turned row.id i.id ∙ p, q))
            rows.imports added.free (none_passes (has_key row.book row.key) rows.imports free),
        sound.imports,
      );
      keeps = sound.keeps;
      listed_members = sound.listed_members;
      listed_imports = (
        ap (λ i. list_any (has_id i) rows.books) its ∙ listed rows.books b there,
        sound.listed_imports,
      );
      listed_keeps = sound.listed_keeps;
      readable = record {
        books = sound.readable.books;
        members = sound.readable.members;
        imports = (readable, sound.readable.imports);
        keeps = sound.readable.keeps;
      };
    };
    books = refl;
    others = λ x e. ap (λ m. record (row_book rows x) { imports = m }) (added_other (import_of x.id)
        key_of row_tally row rows.imports (int_turned row.book x.id ∙ e));
  };
}

pub import_kept : ImportsAreKept
import_kept rows name header id key tally =
    let imports = added_mine (import_of (pos header.id)) key_of row_tally
    (import_tally_row id header.id key tally) rows.imports (int_itself (pos header.id)) in
    λ i. record (row_book rows (line_row name header)) { imports = imports i }
