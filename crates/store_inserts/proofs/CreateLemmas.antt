-- The rows after creating a book, and the creation against the model.
use Rattle.std.proofs.Common.{◌≡◌, inl, ℕ, pos, Bool, true, false, is_some, List, [], ◌∷◌, length}
use Rattle.std.proofs.Common.{Result, Ok, Err, IfOk, refl, sym, ap, ap₂, subst, ◌∙◌}
use Rattle.std.specs.Option.{option_map}
use Rattle.std.specs.FinMap as finite
use Rattle.sqlite.specs.Order.{Row}
use Rattle.sqlite.specs.State.{State}
use Rattle.sqlite.specs.Tree.{Trees}
use Rattle.book_model.specs.declared.denied.Denied.{Denied}
use Rattle.book_model.specs.declared.denied.Denied.TheVariants.{Refused}
use Rattle.book_model.specs.declared.refusal.Refusal.{Refusal}
use Rattle.book_model.specs.declared.refusal.Refusal.TheVariants.{BookExists, BadBookName}
use Rattle.book_model.specs.BookNames.{is_legal_name}
use Rattle.book_model.specs.Books.{Books, fresh_book}
use Rattle.book_model.specs.Bounds.{Bounds}
use Rattle.book_model.specs.Creating.{create_step, new_id}
use Rattle.book_model.specs.CallOutcomes.{MatchesStep}
use Rattle.store_tables.specs.QueryResults.{FindsRow, count_value}
use Rattle.store_tables.specs.Books.{AddsBook, has_name, numbers_shown, blank_book as new_book}
use Rattle.store_tables.specs.Keeps.{AddsKeep}
use Rattle.store_tables.specs.SchemaCreation.{HoldsInTx}
use Rattle.store_tables.specs.StatementEffects.{KeepsOtherTables, WritesOnly}
use Rattle.store_rows.specs.ShownRows.{ShowsCount}
use Rattle.store_rows.specs.SoundTables.{AreSoundRows}
use Rattle.store_rows.specs.TableBooks.{row_book, books_of}
use Rattle.store_rows.specs.TableRows.{TableRows, keep_rows, new_book_rows}
use Rattle.store_rows.proofs.AddedLemmas.{book_added, keep_added, new_book_empty}
use Rattle.store_rows.proofs.HeldRows.{books_held}
use Rattle.store_rows.proofs.LineLemmas.{all_counted}
use Rattle.store_rows.proofs.LookupLemmas.{the_one}
use Rattle.store_rows.proofs.RowLemmas.{get-books_of, single_named}
use Rattle.store_lookups.specs.Faults.{IsDeniedFault}
use Rattle.store_writes.specs.TableChanges.{HoldBooksAfter, HoldsBooks, LacksBookRow, TreesHold}
use Rattle.store_inserts.specs.internal.Creating.{IsCreationPlanned, IsNameFound, new_id_among}
use Rattle.store_lookups.specs.StoredBooks.{stored_books}
use Rattle.store_writes.proofs.ForgetLemmas.{writes_table}
use Rattle.store_writes.proofs.PlanLemmas.{refusal_is_exact}

-- ---- the rows after creating a book

pub spares_keeps : (old new : Trees) → KeepsOtherTables 2 old new → new 9 ≡ old 9
spares_keeps old new h = h.1.1.1.1.0 (λ e. cc)

module _ (old mid new : State) (rows : TableRows) (name : List ℕ) (id keep : ℕ) where
  pub rows_created : LacksBookRow old.now rows name → AddsBook mid (pos id) name rows.books
      → WritesOnly 2 old mid → AddsKeep new (pos id) (pos keep) rows.keeps → WritesOnly 9 mid new
      → HoldsInTx new (λ db. HoldsBooks db (finite.insert (books_of rows) name
      (fresh_book id keep)))
  rows_created line book first kept second =
      let with_it = new_book_rows (pos id) name rows in
      let one = book_added old.now mid.now rows (pos id) name line.holds line.sound refl
      line.free.none book (writes_table 2 old mid first) in
      let two = keep_added mid.now new.now with_it (new_book (pos id) name) (pos keep) one.holds
      one.sound (inl refl) refl kept (writes_table 9 mid new second) in
      record {
        holds = record {
          sound = record {
            rows = keep_rows (pos id) (pos keep) with_it;
            holds = two.holds;
            sound = two.sound;
          };
          books_are = books_held new.now (keep_rows (pos id) (pos keep) with_it) two.holds two.sound
              ∙ new_book_empty rows id name keep line.sound one.sound;
        };
        inside = second.inside;
      }

-- ---- whether the name is free

pub name_exists : (rows : TableRows) (name : List ℕ) (row : Row) → AreSoundRows rows
    → FindsRow (has_name name) numbers_shown rows.books (Ok row)
    → finite.contains_key (books_of rows) name ≡ true
name_exists rows name row sound finds =
    ap is_some (get-books_of rows name
    ∙ ap (option_map (row_book rows)) (the_one (has_name name) numbers_shown rows.books row
    (single_named name rows.books sound.books) finds))

pub name_found : (rows : TableRows) (name : List ℕ) (taken : Bool) → IsNameFound rows name taken
    → finite.contains_key (books_of rows) name ≡ taken
name_found rows name true there = there
name_found rows name false free = ap is_some free.book

pub books_counted : (rows : TableRows) (row : Row) (r : Result ℕ Denied) → AreSoundRows rows
    → row ≡ count_value (length rows.books) ∷ [] → IfOk r (ShowsCount row)
    → IfOk r (λ count. finite.len (books_of rows) ≡ count)
books_counted rows row (Ok count) sound is shows = all_counted rows row count sound is shows
books_counted rows row (Err denied) sound is shows = tt

-- ---- the id

pub fault_planned : (limits : Bounds) (rows : TableRows) (name : List ℕ) (denied : Denied)
    → IsDeniedFault denied → IsCreationPlanned limits rows name (Err denied)
fault_planned limits rows name denied fault =
    subst (λ d. IsCreationPlanned limits rows name (Err d)) (sym fault.1) tt

pub never_existing : (limits : Bounds) (name : List ℕ) (books id : ℕ)
    → new_id limits name true books ≡ Ok id → ⊥
never_existing limits name books id is = go (is_legal_name name) refl
  where
    go : (t : Bool) → is_legal_name name ≡ t → ⊥
    go true e = let k : ◌≡◌ {A = Result ℕ Refusal} (Err BookExists) (Ok id) = rw e at is in cc
    go false e = let k : ◌≡◌ {A = Result ℕ Refusal} (Err BadBookName) (Ok id) = rw e at is in cc

module _ (limits : Bounds) (rows : TableRows) (name : List ℕ) where
  among : (taken : Bool) (books : ℕ) → IsNameFound rows name taken
      → finite.len (books_of rows) ≡ books → new_id_among limits name (books_of rows)
      ≡ new_id limits name taken books
  among taken books returned len = ap₂ (λ t n. new_id limits name t n)
      (name_found rows name taken returned) len

  pub id_planned : (taken : Bool) (books id : ℕ) → IsNameFound rows name taken
      → finite.len (books_of rows) ≡ books → Ok id ≡ new_id limits name taken books
      → IsCreationPlanned limits rows name (Ok id)
  id_planned true books id returned len is = absurd (never_existing limits name books id (sym is))
  id_planned false books id returned len is = (returned, among false books returned len ∙ sym is)

  pub refusal_planned : (taken : Bool) (books : ℕ) (refusal : Refusal) → IsNameFound rows name taken
      → finite.len (books_of rows) ≡ books → Err refusal ≡ new_id limits name taken books
      → IsCreationPlanned limits rows name (Err (Refused refusal))
  refusal_planned taken books refusal returned len is =
      refusal_is_exact (new_id_among limits name (books_of rows)) refusal
      (among taken books returned len ∙ sym is)

-- ---- the step of the books

module _ (limits : Bounds) (rows : TableRows) (name : List ℕ) (id : ℕ) (is :
    new_id_among limits name (books_of rows) ≡ Ok id) where
  pub created_does : (new : State) (old : Books)
      → HoldsBooks new.now (finite.insert (books_of rows) name (fresh_book id limits.keep))
      → MatchesStep (Ok id) (create_step limits (books_of rows) name) old (stored_books new)
  created_does new old held = rw is (refl, held.books_are)

  pub created_holds : (db : Trees) → TreesHold (finite.insert (books_of rows) name
      (fresh_book id limits.keep)) db → HoldBooksAfter (create_step limits (books_of rows) name) db
  created_holds db held = rw is held
