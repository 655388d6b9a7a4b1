-- The clauses of the statements that write the tables `book`, `import_key` and `keeping`.
use Rattle.std.specs.Int.{w64}
use Rattle.std.specs.Prelude.{FitsSigned, IsTrue}
use Rattle.std.proofs.Common.{◌≡◌, refl, subst, ℕ, ℤ, List, [], ◌∷◌, Result}
use Rattle.std.proofs.lemmas.Result.{on_ok_weaker}
use Rattle.sqlite.specs.Command.TheVariants.{Update}
use Rattle.sqlite.specs.Held.{state}
use Rattle.sqlite.specs.Order.{Row}
use Rattle.sqlite.specs.State.{ExecutesInside, HasCleanDisk, State, Survives}
use Rattle.sqlite.specs.declared.error.Error.{Error}
use Rattle.sqlite.specs.declared.transaction.Transaction.{Transaction}
use Rattle.sqlite.specs.declared.types.Value.TheVariants.{Int, Text}
use Rattle.sqlite_trees.specs.declared.store.Store.{Ghosts}
use Rattle.store_tables.specs.Books.{Numbers, book_table, number_cells}
use Rattle.store_tables.specs.Imports.{ImportRow, import_cells, import_row, import_table}
use Rattle.store_tables.specs.Keeps.{keep_table}
use Rattle.store_tables.specs.OnConnections as on
use Rattle.store_tables.specs.Writes.{GivenAcceptedBook, GivenAcceptedImport, GivenAcceptedKeep}
use Rattle.store_tables.specs.Writes.{InsertsRow, RenumbersBook}
use Rattle.store_tables.proofs.IdLemmas.{have_ids, next_fits, next_unused}
use Rattle.store_tables.proofs.InsertFailures.{book_fails, import_fails, keep_fails}
use Rattle.store_tables.proofs.InsertLemmas.{adds_book_inside, adds_import_inside, adds_keep_inside}
use Rattle.store_tables.proofs.Queries.{add_book_command, add_book_text, add_import_command}
use Rattle.store_tables.proofs.Queries.{add_import_text, add_keep_command, add_keep_text}
use Rattle.store_tables.proofs.Queries.{update_query, update_text}
use Rattle.store_tables.proofs.Texts.{add_book_is, add_import_is, add_keep_is, update_is}
use Rattle.store_tables.proofs.UpdateFailures.{update_fails}
use Rattle.store_tables.proofs.UpdateLemmas.{updates_rows}
use Rattle.store_tables.proofs.WriteLemmas.{only_wrote, writes_row}

module _ {S : Type 0} (store : Ghosts S) (old new : Transaction S)
    (same : new.conn.ghost_name ≡ old.conn.ghost_name) (r : Result ℕ Error)
    (survives : Survives (state store old.conn.now) (state store new.conn.now) (λ _. ⊥)) where
  abbrev a : State
  a = state store old.conn.now

  abbrev b : State
  b = state store new.conn.now

  -- the statement ran
  abbrev Ran : List ℕ → Row → Type 0
  Ran sql params = HasCleanDisk b → IsTrue a.in_transaction → ExecutesInside 0 sql params a b r

  pub inserts_book : (id : ℤ) (name : List ℕ) → FitsSigned w64 id
      → Ran add_book_text (Int id ∷ Text name ∷ [])
      → InsertsRow store old new book_table r (on.AddsBook store new.conn.now id name)
      (GivenAcceptedBook store old new id name)
  inserts_book id name fits runs = writes_row store old new same add_book_text
      (Int id ∷ Text name ∷ []) r runs survives 2 _ _ _
      (λ bs clean inside has kept rows. on_ok_weaker r (λ h. h.1)
      (adds_book_inside a b id name bs r has rows (runs clean inside)))
      (λ bs clean inside has kept rows. only_wrote add_book_text (Int id ∷ Text name ∷ [])
      add_book_command add_book_is tt 2 a b r has (runs clean inside)
      (on_ok_weaker r (λ h. (h.0, h.2)) (adds_book_inside a b id name bs r has rows
      (runs clean inside))))
      (λ bs clean inside has kept rows accepts _ _ _ obeys. book_fails a b id name bs r has rows
      accepts.id_unused accepts.name_unused fits accepts.short obeys.obeys (runs clean inside))

  pub inserts_import : (book : ℤ) (key : List ℕ) (added edited same number : ℤ)
      → Ran add_import_text
      (Int book ∷ Text key ∷ Int added ∷ Int edited ∷ Int same ∷ Int number ∷ [])
      → InsertsRow store old new import_table r
      (on.AddsImport store new.conn.now book key added edited same number)
      (GivenAcceptedImport store old new book key)
  inserts_import book key added edited equal number runs =
      let params : Row = Int book ∷ Text key ∷ Int added ∷ Int edited ∷ Int equal ∷ Int number ∷ []
      in
      writes_row store old new same add_import_text params r runs survives 7 _ _ _
      (λ imports clean inside has kept rows. on_ok_weaker r (λ h. h.1)
      (adds_import_inside a b book key added edited equal number imports r has rows
      (runs clean inside)))
      (λ imports clean inside has kept rows. only_wrote add_import_text params add_import_command
      add_import_is tt 7 a b r has (runs clean inside) (on_ok_weaker r (λ h. (h.0, h.2))
      (adds_import_inside a b book key added edited equal number imports r has rows
      (runs clean inside))))
      (λ imports clean inside has kept rows bs books ids accepts _ _ _ obeys. import_fails a b book
      key added edited equal number bs imports r has books rows accepts.listed accepts.unused
      accepts.short (next_fits 0 (a.now.trees 7) ids) (next_unused 1 (a.now.trees 7)
      (have_ids import_row import_cells (λ _. refl) (λ (i : ImportRow). i.id) (λ _. refl) imports
      (a.now.trees 7) rows) ids) obeys.obeys (runs clean inside))

  pub inserts_keep : (book keep : ℤ) → FitsSigned w64 book
      → Ran add_keep_text (Int book ∷ Int keep ∷ [])
      → InsertsRow store old new keep_table r (on.AddsKeep store new.conn.now book keep)
      (GivenAcceptedKeep store old new book)
  inserts_keep book keep fits runs = writes_row store old new same add_keep_text
      (Int book ∷ Int keep ∷ []) r runs survives 9 _ _ _
      (λ keeps clean inside has kept rows. on_ok_weaker r (λ h. h.1)
      (adds_keep_inside a b book keep keeps r has rows (runs clean inside)))
      (λ keeps clean inside has kept rows. only_wrote add_keep_text (Int book ∷ Int keep ∷ [])
      add_keep_command add_keep_is tt 9 a b r has (runs clean inside)
      (on_ok_weaker r (λ h. (h.0, h.2)) (adds_keep_inside a b book keep keeps r has rows
      (runs clean inside))))
      (λ keeps clean inside has kept rows bs books accepts _ _ _ obeys. keep_fails a b book keep bs
      keeps r has books rows accepts.listed accepts.unused fits obeys.obeys (runs clean inside))

  pub renumbers_book : (id : ℤ) (numbers : Numbers) → FitsSigned w64 id
      → Ran update_text (Int id ∷ number_cells numbers)
      → RenumbersBook store old new id numbers r
  renumbers_book id numbers fits runs =
      let ran : (x : ℤ) → id ≡ x → HasCleanDisk b → IsTrue a.in_transaction
      → ExecutesInside 0 update_text (Int x ∷ number_cells numbers) a b r =
      λ x is clean inside. subst (λ i. ExecutesInside 0 update_text
      (Int i ∷ number_cells numbers) a b r) is (runs clean inside) in
      writes_row store old new same update_text (Int id ∷ number_cells numbers) r runs survives 2 _
      _
      _
      (λ bs clean inside has kept rows x there is. rw is (on_ok_weaker r (λ h. h.1)
      (updates_rows a b numbers bs x r has kept there rows (ran x.id is clean inside))))
      (λ bs clean inside has kept rows x there is. only_wrote update_text
      (Int x.id ∷ number_cells numbers) (Update 1 (record { lets = []; body = update_query }))
      update_is tt 2 a b r has (ran x.id is clean inside) (on_ok_weaker r (λ h. (h.0, h.2))
      (updates_rows a b numbers bs x r has kept there rows (ran x.id is clean inside))))
      (λ bs clean inside has kept rows accepts _ _ _ obeys. update_fails a b numbers bs accepts.0 r
      has kept rows accepts.1 (subst (FitsSigned w64) accepts.2 fits) accepts.3 obeys.obeys
      (ran accepts.0.id accepts.2 clean inside))
