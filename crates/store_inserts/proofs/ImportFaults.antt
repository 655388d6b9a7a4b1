-- The tables accept a planned import.
use Rattle.std.proofs.Common.{◌≡◌, ◌+◌, ℕ, pos, true, List, length, None, Some, int_eq, sym, ap}
use Rattle.std.proofs.Common.{subst, ◌∙◌, arith}
use Rattle.std.specs.Prelude.{nat_le}
use Rattle.std.specs.Option.{option_map}
use Rattle.std.specs.FinMap as finite
use Rattle.std.specs.List.{AllByRecursion, list_any, list_all}
use Rattle.sqlite.specs.Effect.{Database}
use Rattle.sqlite.specs.Tree.{Trees}
use Rattle.sqlite_rules.specs.Lists.{Has}
use Rattle.sqlite_rules.proofs.ListLemmas.{some_from}
use Rattle.book_model.specs.Books.{Book}
use Rattle.book_model.specs.Importing.{is_key_octet, is_legal_key}
use Rattle.store_tables.specs.Acceptance.{AcceptsImport, AcceptsMember, IsShort}
use Rattle.store_tables.specs.Books.{has_id}
use Rattle.store_tables.specs.Imports.{has_key}
use Rattle.store_tables.specs.StatementEffects.{KeepsOtherTables}
use Rattle.store_tables.proofs.KeyedRows.{int_itself}
use Rattle.store_rows.specs.TableBooks.{HeaderRow, line_row, row_tally}
use Rattle.store_rows.specs.TableRows.{TableRows}
use Rattle.store_rows.proofs.RowLemmas.{get-imports_in}
use Rattle.store_lookups.specs.ChangeFaults.{KnowsMembers}
use Rattle.store_writes.proofs.AcceptLemmas.{accepts_next, at_most, middle_true}
use Rattle.store_inserts.specs.internal.Importing.{IsImportKeyFree, WritesBook}
use Rattle.store_inserts.proofs.CreateFaults.{none_passes}
use Rattle.store_inserts.proofs.WroteLemmas.{found_none, row_remains}

pub key_short : (key : List ℕ) → is_legal_key key ≡ true → IsShort key
key_short key legal = let low = at_most (length key) 64 (middle_true (nat_le 1 (length key))
    (nat_le (length key) 64) (list_all is_key_octet key) legal) in omega (arith, low)

pub spares_imports : (old new : Trees) → KeepsOtherTables 4 old new → new 7 ≡ old 7
spares_imports old new h = h.1.1.1.0 (λ e. cc)

-- rows of the book were written
module _ (db : Database) (rows : TableRows) (name : List ℕ) (header : HeaderRow) (book : Book)
    (wrote : WritesBook db rows name header book) where
  there : Has wrote.now.books (line_row name wrote.line)
  there = row_remains rows wrote.now name wrote.line wrote.within.books wrote.there

  pub accepts_card : KnowsMembers book → (uid text : List ℕ) → IsShort uid → IsShort text
      → AcceptsMember wrote.now.books wrote.now.members (pos header.id) uid
      (pos (header.number + 1)) (Some text)
  accepts_card known uid text short slim =
      accepts_next wrote.now name header uid (Some text) wrote.within.sound
      (subst KnowsMembers (sym wrote.is) known) (line_row name wrote.line) there
      (ap pos wrote.same_id) short slim

  pub accepts_key : (key : List ℕ) → IsImportKeyFree book key → IsShort key
      → AcceptsImport wrote.now.books wrote.now.imports (pos header.id) key
  accepts_key key free short =
      let none : option_map row_tally (Rattle.std.specs.Prelude.find (has_key (pos header.id) key)
      wrote.now.imports) ≡ None =
      sym (get-imports_in (pos header.id) wrote.now.imports key)
      ∙ ap (λ (b : Book). finite.get b.imports key) wrote.is ∙ free in
      record {
        listed = some_from (has_id (pos header.id)) wrote.now.books (line_row name wrote.line) there
            (ap (λ n. int_eq (pos n) (pos header.id)) wrote.same_id ∙ int_itself (pos header.id));
        unused = none_passes (has_key (pos header.id) key) wrote.now.imports
            (found_none (has_key (pos header.id) key) wrote.now.imports none);
        short = short;
      }
