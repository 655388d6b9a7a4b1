-- Tables that are compared with rows.
use Rattle.std.proofs.Common.{◌≡◌, ℤ, Bool, IsTrue, IfOk, List, [], map, IsPermutation, Result, Ok}
use Rattle.std.proofs.Common.{Err, subst}
use Rattle.sqlite.specs.Order.{Row}
use Rattle.sqlite.specs.Program.{overlay}
use Rattle.sqlite.specs.State.{State, IsUnchanged, Shown}
use Rattle.sqlite.proofs.Callers.{reads_as}
use Rattle.sqlite.specs.declared.error.Error.{Error}
use Rattle.store_tables.specs.Members.{member_cells}
use Rattle.store_tables.specs.StatementEffects.{OnlyReads, GivenTables}
use Rattle.store_tables.specs.Tables.{book_schema}
use Rattle.store_tables.proofs.CountLemmas.{every}
use Rattle.store_tables.proofs.Picks.{picked}
use Rattle.store_tables.proofs.Queries.{all_members_text, all_members_terms}
use Rattle.store_tables.proofs.Texts.{all_members_is}
use Rattle.store_tables.proofs.SchemaCreationLemmas.{clean_before}
use Rattle.store_check.specs.ListedRows.{AreBookRows}
use Rattle.store_check.proofs.OpenLemmas.{over_then}
use Rattle.store_copy.specs.RowsWithout.{HaveNewIds, HaveNewBooks, HasNewRows}
use Rattle.store_copy.specs.declared.reading.BookRows.{BookRows}
use Rattle.store_copy.specs.declared.reading.StoredRows.{StoredRows}

-- a query for all members shows the rows of the table
pub members_listed : (old new : State) (rows : List Row) → old.now.schema ≡ book_schema
    → Shown all_members_text [] old new rows → IsPermutation (map member_cells (old.now.trees 4))
    rows
members_listed old new rows schema h =
    let answer = (reads_as all_members_text [] old new book_schema schema _ all_members_is.0
    all_members_is.2 all_members_is.1 rows h).answer in
    subst (λ l. IsPermutation (map member_cells l) rows) (every (old.now.trees 4))
    (picked 4 [] all_members_terms (overlay old.now.trees []) [] rows answer)

-- the members are these with their new ids
abbrev pub HaveNewMembers : List ℤ → List Row → List Row → Type 0
HaveNewMembers ids table members = (found : List Row) × IsPermutation (map member_cells table) found
    × HaveNewIds 1 5 ids found members

pub holds_all : (ids : List ℤ) (a b c : State) (found : BookRows) (rows : StoredRows) (r :
    Result Bool Error) → GivenTables a b (IsUnchanged a b) → OnlyReads b c
    → GivenTables a b (AreBookRows a.now found.books.items found.imports.items found.keeps.items)
    → HaveNewBooks ids found rows.others
    → GivenTables b c (IfOk r (λ same. IsTrue same
    → HaveNewMembers ids (b.now.trees 4) rows.members.items))
    → GivenTables a c (IfOk r (λ same. IsTrue same → HasNewRows ids a.now rows))
holds_all ids a b c found rows (Ok same) unchanged left first alike second = λ clean has yes.
    let early = clean_before _ b c left.survives clean in
    let others = first early has in
    let members = over_then a b c (λ db. HaveNewMembers ids (db.trees 4) rows.members.items)
    unchanged left (λ late there. second late there yes) clean has in
    record {
      others = found;
      members = members.0;
      listed = record {
        all_books = others.all_books;
        all_members = members.1;
        all_imports = others.all_imports;
        all_keeps = others.all_keeps;
      };
      new_others = alike;
      new_members = members.2;
    }
holds_all ids a b c found rows (Err e) unchanged left first alike second = λ clean has. tt
