-- Listing the rows of a store leaves its invariant, its limits and its books.
-- Given here: `list_tables` only reads, so what holds of the connection holds afterwards
-- (`still_store`, `still_counts`, `still_books`). The clauses speak of the view of the store, and
-- `view_is` leads there from its fields. It is given twice, for rows and for an error.
-- All of it rests on the clause `reads_only` of `list_tables`.
use Rattle.std.proofs.Common.{refl, subst}
use Rattle.store_lookups.specs.StoredBooks.{IsOpenOnHonestDisk}
use Rattle.sqlite.specs.Held.{state}
use Rattle.sync_core.specs.StoreModels.{KeepsBooks, KeepsTerms}
use Rattle.store_tables.specs.StatementEffects.{OnlyReads}
use Rattle.store_writes.proofs.CallLemmas.{read_before}
use Rattle.book_store.specs.StoreViews.{StoreView, table_model}
use Rattle.book_store.specs.Copies.{AreStoreRows}
use Rattle.book_store.proofs.CopyLemmas.{listed_rows, still_books}
use Rattle.book_store.proofs.CountLemmas.{still_counts}
use Rattle.book_store.proofs.StoreLemmas.{still_store}
use Rattle.book_store.proofs.sql_store.SqlStore.list_rows.Goals as goal

pub invariant_of-self : goal.invariant_of-self
invariant_of-self g c =
    let old = state g.S.Store c.self.inside.conn in
    let new = state g.S.Store c.list_tables.new.conn in (
      still_store old new c.self.inside.limits c.self.invariant.0 c.list_tables.ensures.reads_only,
      still_counts old new c.self.inside.limits c.self.inside.counts c.self.invariant.0
          c.list_tables.ensures.reads_only c.self.invariant.1,
    )

pub returns-clause-terms : goal.returns-clause-terms
returns-clause-terms g c =
    let new : StoreView _ = record {
      conn = c.list_tables.new.conn;
      limits = c.self.inside.limits;
    } in
    subst (λ (v : StoreView _). KeepsTerms (table_model g.S.Store) v new) c.self.view_is (record {
      premise = read_before (state g.S.Store c.self.inside.conn)
          (state g.S.Store c.list_tables.new.conn) c.list_tables.ensures.reads_only;
      limits = refl;
      range = c.self.invariant.0.range;
    })

pub returns-clause-keeps_books : goal.returns-clause-keeps_books
returns-clause-keeps_books g c =
    let new : StoreView _ = record {
      conn = c.list_tables.new.conn;
      limits = c.self.inside.limits;
    } in
    subst (λ (v : StoreView _). KeepsBooks (table_model g.S.Store) v new) c.self.view_is
    (still_books (state g.S.Store c.self.inside.conn) (state g.S.Store c.list_tables.new.conn)
    c.self.inside.limits c.self.invariant.0 c.list_tables.ensures.reads_only)

pub returns-clause-reads_only : goal.returns-clause-reads_only
returns-clause-reads_only g c =
    subst (λ (v : StoreView _). OnlyReads (state g.S.Store v.conn)
    (state g.S.Store c.list_tables.new.conn)) c.self.view_is c.list_tables.ensures.reads_only

pub returns-in-Err-clause-terms : goal.returns-in-Err-clause-terms
returns-in-Err-clause-terms g c =
    let new : StoreView _ = record {
      conn = c.list_tables.new.conn;
      limits = c.self.inside.limits;
    } in
    subst (λ (v : StoreView _). KeepsTerms (table_model g.S.Store) v new) c.self.view_is (record {
      premise = read_before (state g.S.Store c.self.inside.conn)
          (state g.S.Store c.list_tables.new.conn) c.list_tables.ensures.reads_only;
      limits = refl;
      range = c.self.invariant.0.range;
    })

pub returns-in-Err-clause-keeps_books : goal.returns-in-Err-clause-keeps_books
returns-in-Err-clause-keeps_books g c =
    let new : StoreView _ = record {
      conn = c.list_tables.new.conn;
      limits = c.self.inside.limits;
    } in
    subst (λ (v : StoreView _). KeepsBooks (table_model g.S.Store) v new) c.self.view_is
    (still_books (state g.S.Store c.self.inside.conn) (state g.S.Store c.list_tables.new.conn)
    c.self.inside.limits c.self.invariant.0 c.list_tables.ensures.reads_only)

pub returns-in-Err-clause-reads_only : goal.returns-in-Err-clause-reads_only
returns-in-Err-clause-reads_only g c =
    subst (λ (v : StoreView _). OnlyReads (state g.S.Store v.conn)
    (state g.S.Store c.list_tables.new.conn)) c.self.view_is c.list_tables.ensures.reads_only

pub invariant_of-self-2 : goal.invariant_of-self-2
invariant_of-self-2 g c =
    let old = state g.S.Store c.self.inside.conn in
    let new = state g.S.Store c.list_tables.new.conn in (
      still_store old new c.self.inside.limits c.self.invariant.0 c.list_tables.ensures.reads_only,
      still_counts old new c.self.inside.limits c.self.inside.counts c.self.invariant.0
          c.list_tables.ensures.reads_only c.self.invariant.1,
    )

pub returns-clause-lists : goal.returns-clause-lists
returns-clause-lists g c =
    let old = state g.S.Store c.self.inside.conn in
    let new = state g.S.Store c.list_tables.new.conn in
    subst (λ (v : StoreView _). IsOpenOnHonestDisk new
    → AreStoreRows (state g.S.Store v.conn) c.in-Ok.rows) c.self.view_is
    (listed_rows old new c.self.inside.limits c.in-Ok.rows c.self.invariant.0
    c.list_tables.ensures.reads_only c.in-Ok.ensures.lists)
