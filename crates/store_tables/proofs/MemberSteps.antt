-- A put of a member by two statements, of which the first changed no row of `member`.
use Rattle.std.specs.Prelude.{IfErr, IsTrue, OnErr}
use Rattle.std.proofs.Common.{◌≡◌, ◌≢◌, inl, inr, ◌+◌, ℕ, ℤ, List, Option, Ok, Err, Result, sym}
use Rattle.std.proofs.Common.{subst, ◌∙◌, arith}
use Rattle.std.proofs.lemmas.Result.{on_ok_weaker}
use Rattle.sqlite.specs.Held.{state}
use Rattle.sqlite.specs.State.{HasCleanDisk, IsUnchanged, State}
use Rattle.sqlite.specs.Tree.{Trees}
use Rattle.sqlite.specs.declared.error.Error.{Error}
use Rattle.sqlite.specs.declared.transaction.Transaction.{Transaction}
use Rattle.sqlite.proofs.Callers.{unchanged_then}
use Rattle.sqlite.proofs.InsideLemmas.{keeps_then}
use Rattle.sqlite.proofs.StateLemmas.{survives_then}
use Rattle.sqlite_trees.specs.declared.store.Store.{Ghosts}
use Rattle.store_tables.specs.Acceptance.{HasFreeIds, IsViolation}
use Rattle.store_tables.specs.Books.{HoldBooks}
use Rattle.store_tables.specs.Members.{HoldMembers, member_table}
use Rattle.store_tables.specs.OnConnections as on
use Rattle.store_tables.specs.StatementEffects.{IsUndone, KeepsOtherTables, NoCommit, WritesOnly}
use Rattle.store_tables.specs.Tables.{ObeyTables, book_schema}
use Rattle.store_tables.specs.Writes.{PutsIntoMembers, PutsMember, PutsMemberInSteps}
use Rattle.store_tables.specs.Writes.{UpdatesMember, WritesRow}
use Rattle.store_tables.proofs.FailureLemmas.{outside_later}
use Rattle.store_tables.proofs.ReturningLemmas.{if_err_weaker, still, still_inside}
use Rattle.store_tables.proofs.SchemaCreationLemmas.{clean_before}

-- both succeeded, or failed with the same error
abbrev pub EndAlike : {X Y : Type 0} → Result X Error → Result Y Error → Type 0
EndAlike (Ok x) (Ok y) = Unit
EndAlike (Ok x) (Err e) = ⊥
EndAlike (Err e) (Ok y) = ⊥
EndAlike (Err e) (Err f) = e ≡ f

pub others_then : (tree : ℕ) (a b c : Trees) → KeepsOtherTables tree a b → KeepsOtherTables tree b c
    → KeepsOtherTables tree a c
others_then tree a b c one two = (
  λ other. two.0 other ∙ one.0 other,
  (
    λ other. two.1.0 other ∙ one.1.0 other,
    (
      λ other. two.1.1.0 other ∙ one.1.1.0 other,
      (
        λ other. two.1.1.1.0 other ∙ one.1.1.1.0 other,
        (λ other. two.1.1.1.1.0 other ∙ one.1.1.1.1.0 other, tt),
      ),
    ),
  ),
)

module _ (old mid new : State) (same : IsUnchanged old mid) where
  -- an error after a statement that changed nothing
  undone_after : IsUndone mid new → IsUndone old new
  undone_after (inl none) = inl (unchanged_then old mid new same none)
  undone_after (inr back) = inr (record {
    was_open = λ up. same.0.was_open;
    undone = λ up. (
      (back.undone up).0 ∙ same.0.committed_is,
      (back.undone up).1 ∙ same.0.committed_is,
    );
    autocommit = back.autocommit;
    unmarked = back.unmarked;
    counts = record {
      changes = back.counts.changes ∙ same.1.changes;
      last_rowid = back.counts.last_rowid ∙ same.1.last_rowid;
    };
  })

  wrote_after : (tree : ℕ) → WritesOnly tree mid new → WritesOnly tree old new
  wrote_after tree wrote = record {
    schema = wrote.schema;
    obeys = wrote.obeys;
    other_tables = subst (λ db. KeepsOtherTables tree db.trees new.now.trees) same.0.now_is
        wrote.other_tables;
    inside = wrote.inside;
  }

module _ {S : Type 0} (store : Ghosts S) (book : ℤ) (uid : List ℕ) (changed : ℤ)
    (card : Option (List ℕ)) where
  -- what an UPDATE does
  abbrev pub Updates : Transaction S → Transaction S → Result ℕ Error → Type 0
  Updates old new r = WritesRow store old new 4 r
      (on.GivenTx store old.conn.now new.conn.now member_table)
      (UpdatesMember store old new book uid changed card r)
      (on.GivenAcceptedMember store old.conn.now new.conn.now book uid changed card)

  -- a put by one statement is one by one or two
  pub in_steps : {X Y : Type 0} (old new : Transaction S) (r : Result X Error) (s : Result Y Error)
      → EndAlike r s → PutsMember store old new book uid changed card r
      → PutsMemberInSteps store old new book uid changed card s
  in_steps old new (Ok x) (Ok y) alike h = record {
    same_reference = h.same_reference;
    changes = λ ms clean inside has kept rows.
        let it = h.changes ms clean inside has kept rows in
        record { puts = it.puts; takes_one_id = it.takes_one_id };
    writes = h.writes;
    keeps_commit = λ ms clean inside has kept rows. h.no_commit.kept clean inside has;
    survives = h.no_commit.survives;
    fails_from_outside = λ ms clean inside has kept rows bs books ids accepts _ _ _ _. tt;
  }
  in_steps old new (Ok x) (Err e) alike h = absurd alike
  in_steps old new (Err e) (Ok y) alike h = absurd alike
  in_steps {X} {Y} old new (Err e) (Err f) alike h =
      subst (λ e. PutsMemberInSteps store old new {T = Y} book uid changed card (Err e)) alike
      (record {
        same_reference = h.same_reference;
        changes = λ ms clean inside has kept rows. record {
          puts = tt;
          takes_one_id = λ count ids. tt;
        };
        writes = λ ms clean inside has kept rows. tt;
        keeps_commit = λ ms clean inside has kept rows. h.no_commit.kept clean inside has;
        survives = h.no_commit.survives;
        fails_from_outside = h.fails_from_outside;
      })

  -- what an INSERT does, if the error of `r` may also be that it was refused
  abbrev pub Inserts : Transaction S → Transaction S → Result ℕ Error → Type 0
  Inserts old new r = WritesRow store old new 4 r
      (on.GivenTx store old.conn.now new.conn.now member_table)
      (PutsIntoMembers store old new book uid changed card r)
      (λ Then. on.GivenAcceptedMember store old.conn.now new.conn.now book uid changed card
      (IfErr r (λ e. IsViolation e → ⊥) → Then))

  -- an INSERT that was not refused is a put
  pub inserted : (old new : Transaction S) (r : Result ℕ Error) → IfErr r (λ e. IsViolation e → ⊥)
      → Inserts old new r → PutsMember store old new book uid changed card r
  inserted old new r allowed h = record {
    same_reference = h.same_reference;
    changes = h.changes;
    writes = h.writes;
    no_commit = h.no_commit;
    rolled_back = h.rolled_back;
    fails_from_outside = λ ms clean inside has kept rows bs books ids accepts.
        h.fails_from_outside ms clean inside has kept rows bs books ids accepts allowed;
  }

  module _ (old mid new : Transaction S) where
    abbrev a : State
    a = state store old.conn.now

    abbrev m : State
    m = state store mid.conn.now

    abbrev b : State
    b = state store new.conn.now

    -- a put after an INSERT that was refused
    pub puts_after_refusal : (r : Result ℕ Error) → mid.conn.ghost_name ≡ old.conn.ghost_name
        → NoCommit a m → (HasCleanDisk m → IsTrue a.in_transaction → IsUnchanged a m)
        → PutsMember store mid new book uid changed card r
        → PutsMember store old new book uid changed card r
    puts_after_refusal r name first stays h =
        let last = h.no_commit.survives in
        let early = clean_before _ m b last in
        record {
          same_reference = h.same_reference ∙ name;
          changes = λ ms clean inside has kept rows.
              let same = stays (early clean) inside in
              let it = h.changes ms clean (still_inside a m same inside)
              (still a m same (λ db. db.schema ≡ book_schema) has) kept
              (still a m same (λ db. HoldMembers (db.trees 4) ms) rows) in
              record {
                puts = it.puts;
                takes_one_id = λ count ids. it.takes_one_id count
                    (still a m same (λ db. HasFreeIds (count + 1) (db.trees 4)) ids);
              };
          writes = λ ms clean inside has kept rows.
              let same = stays (early clean) inside in
              on_ok_weaker r (wrote_after a m b same 4) (h.writes ms clean
              (still_inside a m same inside) (still a m same (λ db. db.schema ≡ book_schema) has)
              kept (still a m same (λ db. HoldMembers (db.trees 4) ms) rows));
          no_commit = record {
            kept = λ clean inside has.
                let same = stays (early clean) inside in
                keeps_then a m b (first.kept (early clean) inside has) (h.no_commit.kept clean
                (still_inside a m same inside)
                (still a m same (λ db. db.schema ≡ book_schema) has));
            was_open = λ clean inside up.
                let same = stays (early clean) inside in
                first.was_open (early clean) inside
                (h.no_commit.was_open clean (still_inside a m same inside) up);
            survives = survives_then a m b _ _ (λ _. ⊥) (λ _ db none. none) (λ _ db none. none)
                first.survives last;
          };
          rolled_back = λ clean inside.
              let same = stays (early clean) inside in
              undone_on_err r same (h.rolled_back clean (still_inside a m same inside));
          fails_from_outside = λ ms clean inside has kept rows bs books ids accepts _ _ _ obeys.
              let same = stays (early clean) inside in
              let on = still_inside a m same inside in
              let named = still a m same (λ db. db.schema ≡ book_schema) has in
              if_err_weaker r (λ e outside room. outside_later a m b _ _ first.survives
              (early clean) last (outside room))
              (h.fails_from_outside ms clean on named kept
              (still a m same (λ db. HoldMembers (db.trees 4) ms) rows) bs
              (still a m same (λ db. HoldBooks (db.trees 2) bs) books)
              (still a m same (λ db. HasFreeIds 1 (db.trees 4)) ids) accepts clean on named
              (still a m same (λ db. ObeyTables db.trees) obeys));
        }
      where
        undone_on_err : (r : Result ℕ Error) → IsUnchanged a m
            → OnErr r (IsUndone m b)
            → OnErr r (IsUndone a b)
        undone_on_err (Ok x) same h = tt
        undone_on_err (Err e) same h = undone_after a m b same h

    -- a put after an UPDATE that found no row
    pub puts_after_miss : {Y : Type 0} (count : ℕ) (r : Result ℕ Error) (s : Result Y Error)
        → count ≡ 0 → EndAlike r s → Updates old mid (Ok count)
        → PutsMember store mid new book uid changed card r
        → PutsMemberInSteps store old new book uid changed card s
    puts_after_miss count r s none alike one put =
        let two = in_steps mid new r s alike put in
        let early = clean_before _ m b two.survives in
        record {
          same_reference = two.same_reference ∙ one.same_reference;
          changes = λ ms clean inside has kept rows.
              let wrote = one.writes ms (early clean) inside has kept rows in
              let gone = (one.changes ms (early clean) inside has kept rows).missed none in
              let it = two.changes ms clean wrote.inside wrote.schema kept
              (subst (λ l. HoldMembers l ms) (sym gone) rows) in
              record {
                puts = it.puts;
                takes_one_id = λ n ids. it.takes_one_id n
                    (subst (HasFreeIds (n + 1)) (sym gone) ids);
              };
          writes = λ ms clean inside has kept rows.
              let wrote = one.writes ms (early clean) inside has kept rows in
              let gone = (one.changes ms (early clean) inside has kept rows).missed none in
              on_ok_weaker s (λ more. record {
                schema = more.schema;
                obeys = more.obeys;
                other_tables = others_then 4 a.now.trees m.now.trees b.now.trees
                    wrote.other_tables more.other_tables;
                inside = more.inside;
              }) (two.writes ms clean wrote.inside wrote.schema kept
              (subst (λ l. HoldMembers l ms) (sym gone) rows));
          keeps_commit = λ ms clean inside has kept rows.
              let wrote = one.writes ms (early clean) inside has kept rows in
              let gone = (one.changes ms (early clean) inside has kept rows).missed none in
              keeps_then a m b (one.no_commit.kept (early clean) inside has)
              (two.keeps_commit ms clean wrote.inside wrote.schema kept
              (subst (λ l. HoldMembers l ms) (sym gone) rows));
          survives = survives_then a m b _ _ (λ _. ⊥) (λ _ db none. none) (λ _ db none. none)
              one.no_commit.survives two.survives;
          fails_from_outside = λ ms clean inside has kept rows bs books ids accepts _ _ _ obeys.
              let wrote = one.writes ms (early clean) inside has kept rows in
              let gone = (one.changes ms (early clean) inside has kept rows).missed none in
              if_err_weaker s (λ e outside room. outside_later a m b _ _ one.no_commit.survives
              (early clean) two.survives (outside room))
              (two.fails_from_outside ms clean wrote.inside wrote.schema kept
              (subst (λ l. HoldMembers l ms) (sym gone) rows) bs (subst (λ l. HoldBooks l bs)
              (sym (wrote.other_tables.1.0 (λ e. omega (arith, e)))) books)
              (subst (HasFreeIds 1) (sym gone) ids) accepts clean wrote.inside wrote.schema
              wrote.obeys);
        }

  -- an UPDATE that changed the member
  pub updated : {Y : Type 0} (old new : Transaction S) (count : ℕ) (y : Y) → count ≢ 0
      → Updates old new (Ok count)
      → PutsMemberInSteps store old new {T = Y} book uid changed card (Ok y)
  updated old new count y some h = record {
    same_reference = h.same_reference;
    changes = λ ms clean inside has kept rows.
        let it = h.changes ms clean inside has kept rows in
        record { puts = it.updates some; takes_one_id = it.takes_one_id };
    writes = h.writes;
    keeps_commit = λ ms clean inside has kept rows. h.no_commit.kept clean inside has;
    survives = h.no_commit.survives;
    fails_from_outside = λ ms clean inside has kept rows bs books ids accepts _ _ _ _. tt;
  }

  -- an UPDATE that failed
  pub failed_update : {Y : Type 0} (old new : Transaction S) (e : Error) → Updates old new (Err e)
      → PutsMemberInSteps store old new {T = Y} book uid changed card (Err e)
  failed_update old new e h = record {
    same_reference = h.same_reference;
    changes = λ ms clean inside has kept rows. record {
      puts = tt;
      takes_one_id = λ count ids. tt;
    };
    writes = λ ms clean inside has kept rows. tt;
    keeps_commit = λ ms clean inside has kept rows. h.no_commit.kept clean inside has;
    survives = h.no_commit.survives;
    fails_from_outside = h.fails_from_outside;
  }
