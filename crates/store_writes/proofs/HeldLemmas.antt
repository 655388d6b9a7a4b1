-- A change of one book leaves the others unchanged.
use Rattle.std.proofs.Common.{◌≡◌, inl, inr, ℤ, false, List, [], ◌∷◌, int_eq, sym, ap, subst, ◌∙◌}
use Rattle.sqlite.specs.Effect.{Database}
use Rattle.sqlite.specs.State.{State}
use Rattle.sqlite_rules.specs.Lists.{Has}
use Rattle.book_model.specs.Books.{Books}
use Rattle.store_tables.specs.Books.{BookRow, Numbers, has_id, with_book_numbers}
use Rattle.store_tables.specs.SchemaCreation.{HoldsInTx}
use Rattle.store_rows.specs.TableRows.{TableRows}
use Rattle.store_rows.proofs.HeldRows.{books_held}
use Rattle.store_writes.specs.TableChanges.{HoldsBooks, HoldsChange, TreesHold}

-- updating one book's numbers keeps the rows of the other books
pub row_remains : (id : ℤ) (numbers : Numbers) (bs : List BookRow) (b : BookRow) → Has bs b
    → int_eq b.id id ≡ false → Has (with_book_numbers id numbers bs) b
row_remains id numbers [] b h apart = absurd h
row_remains id numbers (x ∷ xs) b (inl same) apart =
    let away : has_id id x ≡ false = ap (has_id id) (sym same) ∙ apart in
    inl (rw away same)
row_remains id numbers (x ∷ xs) b (inr h) apart = inr (row_remains id numbers xs b h apart)

pub change_holds : (db : Database) (rows : TableRows) (id : ℤ) (books : Books)
    → HoldsChange db rows id books → HoldsBooks db books
change_holds db rows id books h = record {
  sound = record { rows = h.rows_after; holds = h.holds; sound = h.sound };
  books_are = books_held db h.rows_after h.holds h.sound ∙ h.books_are;
}

pub change_inside : (s : State) (rows : TableRows) (id : ℤ) (books : Books)
    → HoldsInTx s (λ db. HoldsChange db rows id books) → HoldsInTx s (λ db. HoldsBooks db books)
change_inside s rows id books h = record {
  holds = change_holds s.now rows id books h.holds;
  inside = h.inside;
}

-- the contents of the tables, by the trees alone
pub trees_held : (db : Database) (books : Books) → HoldsBooks db books → TreesHold books db.trees
trees_held db books held = subst (λ schema. HoldsBooks (record {
  schema = schema;
  trees = db.trees;
}) books) held.sound.holds.schema held
