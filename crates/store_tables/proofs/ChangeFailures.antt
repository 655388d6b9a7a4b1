-- The cause of an error of the update of a member.
use Rattle.std.proofs.Common.{◌≡◌, ◌≢◌, inl, inr, ℕ, ℤ, ◌≤◌, ◌^◌, true, false, List, [], ◌∷◌}
use Rattle.std.proofs.Common.{length, Option, Some, None, Ok, Err, Result, IfErr, IsSome, refl, sym}
use Rattle.std.proofs.Common.{ap, subst, ◌∙◌, arith}
use Rattle.std.specs.Prelude.{IfSome}
use Rattle.std.specs.List.{AllByRecursion, list_any}
use Rattle.sqlite.specs.Command.TheVariants.{Update}
use Rattle.sqlite.specs.Does.{OnRows}
use Rattle.sqlite.specs.Edit.{Edit}
use Rattle.sqlite.specs.Listing.{understood}
use Rattle.sqlite.specs.Order.{Row}
use Rattle.sqlite.specs.Program.{overlay}
use Rattle.sqlite.specs.Rows.{Edited, Updates, Written}
use Rattle.sqlite.specs.State.{State, ExecutesInside}
use Rattle.sqlite.specs.Tree.{Trees}
use Rattle.sqlite.specs.Values.{or_null}
use Rattle.sqlite.specs.declared.error.Error.{Error}
use Rattle.sqlite.specs.declared.error.Error.TheVariants.{SqliteFailure}
use Rattle.sqlite.specs.declared.error.ErrorCode.TheVariants.{OutOfMemory}
use Rattle.sqlite.specs.declared.types.Value.TheVariants.{Int, Text}
use Rattle.sqlite.proofs.Callers.{one_step}
use Rattle.sqlite_rules.specs.Edit.{is_referred, is_taken, next_rowid}
use Rattle.sqlite_rules.specs.Lists.{Has}
use Rattle.sqlite_schema.specs.declared.schema.Among.TheVariants.{All}
use Rattle.sqlite_schema.specs.declared.schema.Keys.TheVariants.{Enforced}
use Rattle.sqlite_schema.specs.Rules.{Obeys, Refers}
use Rattle.sqlite_sql.specs.Ops.{fits_i64}
use Rattle.sqlite_tied.specs.Compute.{everything}
use Rattle.sqlite_typing.specs.Types.{accepts_program}
use Rattle.store_tables.specs.Acceptance.{has_number}
use Rattle.store_tables.specs.Books.{BookRow, HoldBooks, has_id}
use Rattle.store_tables.specs.Failures.{HasOutsideCause}
use Rattle.store_tables.specs.Members.{AreMembers, HoldMembers, MemberRow, has_uid, member_row}
use Rattle.store_tables.specs.Tables.{book_schema, member}
use Rattle.store_tables.proofs.ChangeLemmas.{edit_by, f, no_rows, rows_for, some_or_none}
use Rattle.store_tables.proofs.EditLemmas.{IsAdmitted, admits_no_rows, edit_never_stops}
use Rattle.store_tables.proofs.EditLemmas.{never_stops, stops}
use Rattle.store_tables.proofs.Picks.{picked}
use Rattle.store_tables.proofs.PutFailures.{later_admitted, refers_with}
use Rattle.store_tables.proofs.PutLemmas.{cast_same, same_value, went_on}
use Rattle.store_tables.proofs.Queries.{change_query, change_text}
use Rattle.store_tables.proofs.ReferenceLemmas.{refers_after, same_books}
use Rattle.store_tables.proofs.RowLemmas.{at_parts}
use Rattle.store_tables.proofs.StopLemmas.{concludes_quietly, outside, query_stops, task}
use Rattle.store_tables.proofs.Texts.{change_is}
use Rattle.store_tables.proofs.WriteFailures.{execute_fails}

module _ (limit : Option ℕ) (book : ℤ) (uid : List ℕ) (changed : ℤ) (card : Option (List ℕ)) (bs :
    List BookRow) (ms : List MemberRow) (kept : AreMembers ms) (db : Trees)
    (holds : HoldBooks (db 2) bs) (has : HoldMembers (db 4) ms) (some : list_any (has_id book) bs
    ≡ true)
    (alone : AllByRecursion (λ m. has_uid book uid m ≡ false → has_number book changed m ≡ false)
    ms)
    (short : length uid ≤ 2 ^ 20) (slim : IfSome card (λ text. length text ≤ 2 ^ 20))
    (fits : fits_i64 (next_rowid (db 4)) ≡ true) (free :
    is_taken (db 4) (Int (next_rowid (db 4)) ∷ []) ≡ false)
    (old_fits : AllByRecursion (λ m. fits_i64 m.id ≡ true) ms) (obeys : Obeys book_schema db) where
  abbrev params : Row
  params = Int book ∷ Text uid ∷ Int changed ∷ or_null Text card ∷ []

  abbrev by_rows : List Row → Edit
  by_rows = edit_by limit book uid changed card ms kept db has

  abbrev later : MemberRow → MemberRow
  later m = record m { changed = changed; card = card }

  abbrev placing : MemberRow → Edit
  placing m = record { table = member; gone = m.id ∷ []; news = member_row (later m) ∷ [] }

  abbrev nothing : Edit
  nothing = record { table = member; gone = []; news = [] }

  found : (rows : List Row) (m : MemberRow) → Has ms m → has_uid book uid m ≡ true
      → rows ≡ f limit book uid changed card ms kept db has (member_row m) ∷ []
      → by_rows rows ≡ placing m
  found rows m there here is = ap by_rows is
      ∙ ap (λ (r : Row). record (placing m) { news = r ∷ [] }) (cast_same (later m))

  nothing_referred : is_referred book_schema Enforced nothing ≡ true
  unfolding everything
  nothing_referred = refl

  nothing_admitted : IsAdmitted db nothing
  nothing_admitted = admits_no_rows db [] nothing_referred

  asks : (card : Option (List ℕ)) → accepts_program book_schema [] change_query
      (Int book ∷ Text uid ∷ Int changed ∷ or_null Text card ∷ []) ≡ true
  asks None = refl
  asks (Some text) = refl

  updates : (stop : Option Error) → Updates (task limit member params) (record {
    lets = [];
    body = change_query;
  }) params db (Err stop) → IsSome limit
  updates stop h =
      stops h (λ s k. query_stops limit db change_query params (asks card) (λ all k. k) refl s k)
      (λ it.
      let shown = picked 4 change_query.filter change_query.project (overlay db []) params it.0
      it.1.answer in
      stops it.2 (λ s k. elim (some_or_none book uid ms) [
        | inl m ↦ edit_never_stops db (placing m.0) (later_admitted limit book uid changed card bs
            ms kept db holds has some alone short slim fits free old_fits obeys m.0 m.1 m.2) obeys
            refl s
            (subst (λ e. Edited book_schema Enforced db e (Err s))
            (found it.0 m.0 m.1 m.2 (rows_for limit book uid changed card ms kept db has m.0 m.1
            m.2 it.0 shown)) k)
        | inr none ↦ edit_never_stops db nothing nothing_admitted obeys refl s
            (subst (λ e. Edited book_schema Enforced db e (Err s))
            (ap by_rows (no_rows limit book uid changed card ms kept db has none it.0 shown)) k)
      ]) (λ on. never_stops _ stop on.2))

  after : (w : Written) → Updates (task limit member params) (record {
    lets = [];
    body = change_query;
  }) params db (Ok w) → Refers All book_schema w.trees
  after w h =
      let went = went_on h in
      let shown = picked 4 change_query.filter change_query.project (overlay db []) params went.0
      went.1.answer in
      let wrote = went_on went.2 in
      let is = same_value wrote.2 in
      let refers : Refers All book_schema wrote.0 = elim (some_or_none book uid ms) [
        | inl m ↦
            let step = one_step book_schema Enforced db wrote.0 (placing m.0) refl
            (subst (λ e. Edited book_schema Enforced db e (Ok wrote.0))
            (found went.0 m.0 m.1 m.2 (rows_for limit book uid changed card ms kept db has m.0
            m.1 m.2 went.0 shown)) wrote.1) in
            refers_with limit book uid changed card bs ms kept db holds has some alone short slim
            fits free old_fits obeys wrote.0 (later m.0) (m.0.id ∷ [])
            (at_parts book uid m.0 m.2).0 step
        | inr none ↦
            let step = one_step book_schema Enforced db wrote.0 nothing refl
            (subst (λ e. Edited book_schema Enforced db e (Ok wrote.0))
            (ap by_rows (no_rows limit book uid changed card ms kept db has none went.0 shown))
            wrote.1) in
            let books = step.tables.1.0 (λ e. omega (arith, e)) in
            refers_after db wrote.0 (same_books db wrote.0 books) member (inr (inr (inl refl)))
            step.tables obeys (λ r there. inl (subst (λ l. Has l r) step.rows there))
      ] in
      subst (Refers All book_schema) (sym (ap (λ (it : Written). it.trees) is)) refers

  pub change_stops : (stop : Option Error)
      → OnRows (task limit member params) outside None (Update 2 (record {
        lets = [];
        body = change_query;
      })) db (Err stop) → IsSome limit
  change_stops stop h = stops h (λ s k. updates s k) (λ it. concludes_quietly limit member params
      it.0 (after it.0 it.1) stop it.2)

pub change_fails : (old new : State) (book : ℤ) (uid : List ℕ) (changed : ℤ) (card :
    Option (List ℕ)) (bs : List BookRow) (ms : List MemberRow) (r : Result ℕ Error)
    → old.now.schema ≡ book_schema
    → AreMembers ms → HoldBooks (old.now.trees 2) bs → HoldMembers (old.now.trees 4) ms
    → list_any (has_id book) bs ≡ true → AllByRecursion (λ m. has_uid book uid m ≡ false
    → has_number book changed m ≡ false) ms
    → length uid ≤ 2 ^ 20 → IfSome card (λ text. length text ≤ 2 ^ 20)
    → fits_i64 (next_rowid (old.now.trees 4)) ≡ true
    → is_taken (old.now.trees 4) (Int (next_rowid (old.now.trees 4)) ∷ []) ≡ false
    → AllByRecursion (λ m. fits_i64 m.id ≡ true) ms → Obeys book_schema old.now.trees
    → ExecutesInside 0 change_text (Int book ∷ Text uid ∷ Int changed ∷ or_null Text card ∷ []) old
    new r
    → IfErr r (λ e. e ≢ SqliteFailure OutOfMemory → HasOutsideCause old new)
unfolding understood everything
change_fails old new book uid changed card bs ms (Ok count) schema kept holds has some alone short
    slim fits free wide obeys h = tt
change_fails old new book uid changed card bs ms (Err e) schema kept holds has some alone short slim
    fits free wide obeys h =
    execute_fails change_text (Int book ∷ Text uid ∷ Int changed ∷ or_null Text card ∷ []) old new
    schema (Update 2 (record { lets = []; body = change_query })) None change_is.0 tt refl refl
    (refl, refl)
    (λ stop did. change_stops old.step_limit book uid changed card bs ms kept old.now.trees holds
    has some alone short slim fits free wide obeys stop did) refl e h
