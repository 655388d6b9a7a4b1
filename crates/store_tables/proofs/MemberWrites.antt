-- The clauses of the statements that write the table `member`.
use Rattle.std.specs.Prelude.{IfErr, IsTrue, OnOk}
use Rattle.std.specs.List.{AllByRecursion}
use Rattle.std.proofs.Common.{◌≡◌, refl, ℕ, ℤ, true, false, List, [], ◌∷◌, Option, Ok, Err}
use Rattle.std.proofs.Common.{Result}
use Rattle.std.proofs.lemmas.Result.{on_ok_weaker}
use Rattle.sqlite.specs.Command.TheVariants.{Delete, Update}
use Rattle.sqlite.specs.Held.{state}
use Rattle.sqlite.specs.Order.{Row}
use Rattle.sqlite.specs.State.{ExecutesInside, HasCleanDisk, State, Survives}
use Rattle.sqlite.specs.Tree.{Trees}
use Rattle.sqlite.specs.Values.{or_null}
use Rattle.sqlite.specs.declared.error.Error.{Error}
use Rattle.sqlite.specs.declared.transaction.Transaction.{Transaction}
use Rattle.sqlite.specs.declared.types.Value.TheVariants.{Int, Text}
use Rattle.sqlite_rules.specs.Edit.{is_taken, next_rowid}
use Rattle.sqlite_sql.specs.Ops.{fits_i64}
use Rattle.sqlite_trees.specs.declared.store.Store.{Ghosts}
use Rattle.store_tables.specs.Acceptance.{HasFreeIds, IsViolation}
use Rattle.store_tables.specs.Members.{HoldMembers, MemberRow, PutsRow, member_cells}
use Rattle.store_tables.specs.Members.{member_row, member_table}
use Rattle.store_tables.specs.OnConnections as on
use Rattle.store_tables.specs.StatementEffects.{KeepsOtherTables}
use Rattle.store_tables.specs.Tables.{book_schema}
use Rattle.store_tables.specs.Writes.{ForgetsMembers, PutsIntoMembers, PutsMember, UpdatesMember}
use Rattle.store_tables.specs.Writes.{WritesRow}
use Rattle.store_tables.proofs.AddFailures.{add_fails}
use Rattle.store_tables.proofs.AddLemmas.{adds_member_inside}
use Rattle.store_tables.proofs.ChangeFailures.{change_fails}
use Rattle.store_tables.proofs.ChangeLemmas.{changes_inside}
use Rattle.store_tables.proofs.ForgetFailures.{forget_fails}
use Rattle.store_tables.proofs.ForgetLemmas.{counts_inside, forgets_inside}
use Rattle.store_tables.proofs.IdLemmas.{column_ids, have_ids, next_fits, next_unused}
use Rattle.store_tables.proofs.PutFailures.{put_fails}
use Rattle.store_tables.proofs.PutLemmas.{TakesOneId, puts_rows}
use Rattle.store_tables.proofs.Queries.{add_member_command, add_member_text, change_query}
use Rattle.store_tables.proofs.Queries.{change_text, forget_query, forget_text, put_command}
use Rattle.store_tables.proofs.Queries.{put_text}
use Rattle.store_tables.proofs.ReturningLemmas.{if_ok_weaker, on_ok_of}
use Rattle.store_tables.proofs.RowLemmas.{member_id}
use Rattle.store_tables.proofs.Texts.{add_member_is, change_is, forget_is, put_is}
use Rattle.store_tables.proofs.WriteLemmas.{only_wrote, writes_row}

-- what an accepted put may assume of the ids
pub id_fits : (trees : Trees) → HasFreeIds 1 (trees 4) → fits_i64 (next_rowid (trees 4)) ≡ true
id_fits trees ids = next_fits 0 (trees 4) ids

pub id_unused : (trees : Trees) (ms : List MemberRow) → HoldMembers (trees 4) ms
    → HasFreeIds 1 (trees 4) → is_taken (trees 4) (Int (next_rowid (trees 4)) ∷ []) ≡ false
id_unused trees ms rows ids = next_unused 1 (trees 4)
    (have_ids member_row member_cells (λ _. refl) member_id (λ _. refl) ms (trees 4) rows) ids

pub ids_fit : (trees : Trees) (ms : List MemberRow) → HoldMembers (trees 4) ms
    → HasFreeIds 1 (trees 4) → AllByRecursion (λ m. fits_i64 m.id ≡ true) ms
ids_fit trees ms rows ids =
    column_ids member_row member_cells (λ _. refl) member_id (λ _. refl) ms (trees 4) rows 1 ids

unless : (C : Error → Type 0) (r : Result ℕ Error) → IfErr r (λ e. IsViolation e → ⊥)
    → IfErr r (λ e. (IsViolation e → ⊥) → C e) → IfErr r C
unless C (Ok n) allowed h = tt
unless C (Err e) allowed h = h allowed

module _ {S : Type 0} (store : Ghosts S) (old new : Transaction S)
    (same : new.conn.ghost_name ≡ old.conn.ghost_name) (r : Result ℕ Error)
    (survives : Survives (state store old.conn.now) (state store new.conn.now) (λ _. ⊥)) where
  abbrev a : State
  a = state store old.conn.now

  abbrev b : State
  b = state store new.conn.now

  -- the statement ran
  abbrev Ran : List ℕ → Row → Type 0
  Ran sql params = HasCleanDisk b → IsTrue a.in_transaction → ExecutesInside 0 sql params a b r

  module _ (book : ℤ) (uid : List ℕ) (changed : ℤ) (card : Option (List ℕ)) where
    abbrev params : Row
    params = Int book ∷ Text uid ∷ Int changed ∷ or_null Text card ∷ []

    put_into : (ms : List MemberRow) → OnOk r ((b.now.schema ≡ book_schema)
        × PutsRow b.now.trees book uid changed card ms
        × KeepsOtherTables 4 a.now.trees b.now.trees × TakesOneId (a.now.trees 4) (b.now.trees 4))
        → PutsIntoMembers store old new book uid changed card r ms
    put_into ms did = record {
      puts = on_ok_weaker r (λ h. h.1) did;
      takes_one_id = λ count ids. on_ok_weaker r (λ h. h.3 count ids) did;
    }

    -- an upsert
    pub puts_row : Ran put_text params → PutsMember store old new book uid changed card r
    puts_row runs = writes_row store old new same put_text params r runs survives 4 _ _ _
        (λ ms clean inside has kept rows. put_into ms (puts_rows a b book uid changed card ms r has
        kept rows (runs clean inside)))
        (λ ms clean inside has kept rows. only_wrote put_text params put_command put_is tt 4 a b r
        has (runs clean inside) (on_ok_weaker r (λ h. (h.0, h.2)) (puts_rows a b book uid changed
        card ms r has kept rows (runs clean inside))))
        (λ ms clean inside has kept rows bs books ids accepts _ _ _ obeys. put_fails a b book uid
        changed card bs ms r has kept books rows accepts.listed accepts.unused accepts.short_uid
        accepts.short_card (id_fits a.now.trees ids) (id_unused a.now.trees ms rows ids)
        (ids_fit a.now.trees ms rows ids) obeys.obeys (runs clean inside))

    -- a plain INSERT, which may also be refused
    pub inserts_row : Ran add_member_text params → WritesRow store old new 4 r
        (on.GivenTx store old.conn.now new.conn.now member_table)
        (PutsIntoMembers store old new book uid changed card r)
        (λ Then. on.GivenAcceptedMember store old.conn.now new.conn.now book uid changed card
        (IfErr r (λ e. IsViolation e → ⊥) → Then))
    inserts_row runs = writes_row store old new same add_member_text params r runs survives 4 _ _ _
        (λ ms clean inside has kept rows. put_into ms (adds_member_inside a b book uid changed card
        ms r has kept rows (runs clean inside)))
        (λ ms clean inside has kept rows. only_wrote add_member_text params add_member_command
        add_member_is tt 4 a b r has (runs clean inside) (on_ok_weaker r (λ h. (h.0, h.2))
        (adds_member_inside a b book uid changed card ms r has kept rows (runs clean inside))))
        (λ ms clean inside has kept rows bs books ids accepts allowed _ _ _ obeys. unless _ r allowed
        (add_fails a b book uid changed card r has accepts.short_uid accepts.short_card
        (id_fits a.now.trees ids) (runs clean inside)))

    -- a plain UPDATE, which may find no row
    pub updates_row : Ran change_text params → WritesRow store old new 4 r
        (on.GivenTx store old.conn.now new.conn.now member_table)
        (UpdatesMember store old new book uid changed card r)
        (on.GivenAcceptedMember store old.conn.now new.conn.now book uid changed card)
    updates_row runs = writes_row store old new same change_text params r runs survives 4 _ _ _
        (λ ms clean inside has kept rows. let all = changes_inside a b book uid changed card ms r
        has kept rows (runs clean inside) in record {
          counts = if_ok_weaker r (λ count h. h.counts) all;
          updates = if_ok_weaker r (λ count h. h.put) all;
          missed = if_ok_weaker r (λ count h. h.missed) all;
          takes_one_id = λ count ids. on_ok_of r (λ n h. h.ids count ids) all;
        })
        (λ ms clean inside has kept rows. only_wrote change_text params
        (Update 2 (record { lets = []; body = change_query })) change_is tt 4 a b r has
        (runs clean inside) (on_ok_of r (λ count h. (h.schema, h.others)) (changes_inside a b book
        uid changed card ms r has kept rows (runs clean inside))))
        (λ ms clean inside has kept rows bs books ids accepts _ _ _ obeys. change_fails a b book uid
        changed card bs ms r has kept books rows accepts.listed accepts.unused accepts.short_uid
        accepts.short_card (id_fits a.now.trees ids) (id_unused a.now.trees ms rows ids)
        (ids_fit a.now.trees ms rows ids) obeys.obeys (runs clean inside))

  -- a DELETE of removed members
  pub forgets_rows : (book upto : ℤ) → Ran forget_text (Int book ∷ Int upto ∷ [])
      → ForgetsMembers store old new book upto r
  forgets_rows book upto runs = writes_row store old new same forget_text
      (Int book ∷ Int upto ∷ []) r runs survives 4 _ _ _
      (λ ms clean inside has kept rows. record {
        forgets = on_ok_weaker r (λ h. h.1) (forgets_inside a b book upto ms r has kept rows
            (runs clean inside));
        dropped = counts_inside a b book upto ms r has kept rows (runs clean inside);
      })
      (λ ms clean inside has kept rows. only_wrote forget_text (Int book ∷ Int upto ∷ [])
      (Delete 2 (record { lets = []; body = forget_query })) forget_is tt 4 a b r has
      (runs clean inside) (on_ok_weaker r (λ h. (h.0, h.2)) (forgets_inside a b book upto ms r has
      kept rows (runs clean inside))))
      (λ clean inside has obeys. forget_fails a b book upto r has obeys.obeys (runs clean inside))
