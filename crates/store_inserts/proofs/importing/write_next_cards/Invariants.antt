use Rattle.std.proofs.Common.{◌≡◌, ◌+◌, ℕ, take}
use Rattle.sqlite.specs.Held.{state}
use Rattle.sqlite.specs.State.{KeepsCommit, Survives}
use Rattle.store_inserts.specs.internal.Importing.{InWrittenBookTx, WritesBook, book_with_stored}
use Rattle.store_tables.specs.Acceptance.{HasFreeIds}
use Rattle.store_tables.specs.Tables.{ObeyTables}
use Rattle.store_tables.specs.SchemaCreation.{HoldsInTx}
use Rattle.store_inserts.proofs.importing.write_next_cards.Given as goal

-- the cards so far are stored, each under the next number
abbrev pub invariant-loop-card : goal.invariant-loop-card
invariant-loop-card g l =
    let old = state g.S.Store l.fn.tx.conn.now in
    let now = state g.S.Store l.tx.conn.now in
    record {
      same_reference : l.tx.conn.ghost_name ≡ l.fn.tx.conn.ghost_name;
      holds : InWrittenBookTx old now l.fn.header (λ rows name book. HoldsInTx now
          (λ db. WritesBook db rows name l.so_far
          (book_with_stored book (take l.card-index l.stored))));
      number : l.so_far.number ≡ l.fn.header.number + l.card-index;
      same_id : l.so_far.id ≡ l.fn.header.id;
      kept : InWrittenBookTx old now l.fn.header (λ rows name book. KeepsCommit old now);
      survives : Survives old now (λ _. ⊥);
      obeys : InWrittenBookTx old now l.fn.header (λ rows name book. ObeyTables old.now.trees
          → ObeyTables now.now.trees);
      ids : InWrittenBookTx old now l.fn.header (λ rows name book. (count : ℕ)
          → HasFreeIds (count + l.card-index) (old.now.trees 4)
          → HasFreeIds count (now.now.trees 4));
      imports : InWrittenBookTx old now l.fn.header (λ rows name book. now.now.trees 7
          ≡ old.now.trees 7);
    }
