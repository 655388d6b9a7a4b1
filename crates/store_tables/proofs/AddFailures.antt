-- The cause of an error of the INSERT of a member, where no constraint is broken.
use Rattle.std.proofs.Common.{◌≡◌, ◌≢◌, ◌⊎◌, inl, inr, ℕ, ℤ, ◌≤◌, ◌^◌, true, List, [], ◌∷◌, length}
use Rattle.std.proofs.Common.{option_map, Option, Some, None, Ok, Err, Result, IfErr, IsSome, refl}
use Rattle.std.proofs.Common.{sym, ap, subst, ◌∙◌, true≢false}
use Rattle.std.specs.Prelude.{IfSome}
use Rattle.sqlite.specs.Does.{Concludes, OnRows}
use Rattle.sqlite.specs.Edit.{Edit, edit_of}
use Rattle.sqlite.specs.Effect.{edit_error}
use Rattle.sqlite.specs.Listing.{understood}
use Rattle.sqlite.specs.Order.{Row}
use Rattle.sqlite.specs.Rowids.TheVariants.{Chosen}
use Rattle.sqlite.specs.Rows.{Edited, Inserts, Written}
use Rattle.sqlite.specs.Source.TheVariants.{Values}
use Rattle.sqlite.specs.State.{State, ExecutesInside}
use Rattle.sqlite.specs.Tree.{Trees}
use Rattle.sqlite.specs.Values.{or_null}
use Rattle.sqlite.specs.declared.error.Error.{Error}
use Rattle.sqlite.specs.declared.error.Error.TheVariants.{SqliteFailure}
use Rattle.sqlite.specs.declared.error.ErrorCode.TheVariants.{OutOfMemory}
use Rattle.sqlite.specs.declared.types.Value.TheVariants.{Null, Int, Text}
use Rattle.sqlite_rules.specs.Action.{Writes}
use Rattle.sqlite_rules.specs.Edit.{IsRefused, is_referred, next_rowid}
use Rattle.sqlite_rules.specs.declared.error.Refusal.{Refusal}
use Rattle.sqlite_rules.specs.declared.error.Refusal.TheVariants.{Violates, Mismatch, NoRowid}
use Rattle.sqlite_rules.specs.declared.error.Refusal.TheVariants.{BadReference, TooDeep}
use Rattle.sqlite_schema.specs.declared.schema.Constraint.TheVariants.{ForeignKey}
use Rattle.sqlite_schema.specs.declared.schema.Keys.TheVariants.{Enforced}
use Rattle.sqlite_sql.specs.Ops.{fits_i64}
use Rattle.sqlite_tied.specs.Compute.{everything}
use Rattle.sqlite_typed.proofs.TestLemmas.{last_term}
use Rattle.store_tables.specs.Acceptance.{IsViolation}
use Rattle.store_tables.specs.Failures.{HasOutsideCause}
use Rattle.store_tables.specs.Members.{MemberRow, member_row}
use Rattle.store_tables.specs.Tables.{book_schema, member}
use Rattle.store_tables.proofs.EditLemmas.{never_stops, unsettled}
use Rattle.store_tables.proofs.PutFailures.{member_fits, values_typed}
use Rattle.store_tables.proofs.PutLemmas.{cast_new}
use Rattle.store_tables.proofs.Queries.{add_member_command, add_member_text, put_terms}
use Rattle.store_tables.proofs.StopLemmas.{outside, task, values_stop}
use Rattle.store_tables.proofs.Texts.{add_member_is}
use Rattle.store_tables.proofs.WriteFailures.{IsExcused, execute_fails_unless}

same_error : {B E : Type 0} {a b : E} → ◌≡◌ {A = Result B E} (Err a) (Err b) → a ≡ b
same_error e = cc

-- a statement that stops at some part stops as that part does
stops_at : {B E : Type 0} {stop : E} {Stops : E → Type 0} {R : Type 0} (Q : E → Type 0)
    → ((s : E) × Stops s × (◌≡◌ {A = Result B E} (Err stop) (Err s))) ⊎ R
    → ((s : E) → Stops s → Q s) → (R → Q stop) → Q stop
stops_at Q (inl h) first next = subst Q (sym (same_error h.2)) (first h.0 h.1)
stops_at Q (inr h) first next = next h

module _ (limit : Option ℕ) (book : ℤ) (uid : List ℕ) (changed : ℤ) (card : Option (List ℕ)) (db :
    Trees) (short : length uid ≤ 2 ^ 20) (slim : IfSome card (λ text. length text ≤ 2 ^ 20)) (fits :
    fits_i64 (next_rowid (db 4)) ≡ true) where
  abbrev params : Row
  params = Int book ∷ Text uid ∷ Int changed ∷ or_null Text card ∷ []

  abbrev new : MemberRow
  new = record { id = next_rowid (db 4); book = book; uid = uid; changed = changed; card = card }

  abbrev placing : Row → Edit
  placing row = record { table = member; gone = []; news = row ∷ [] }

  abbrev Ends : Option Error → Type 0
  Ends stop = IsSome limit ⊎ IsExcused IsViolation stop

  referred : is_referred book_schema Enforced (placing (member_row new)) ≡ true
  unfolding everything
  referred = refl

  by_rule : (why : Refusal) → IsRefused book_schema Enforced db (placing (member_row new)) why
      → Ends (Some (edit_error why))
  by_rule (Violates rule) h = inr (rule, refl)
  by_rule Mismatch h = absurd (true≢false h)
  by_rule NoRowid h = absurd (true≢false (sym (last_term fits) ∙ h))
  by_rule BadReference h = absurd (true≢false (sym referred ∙ h))
  by_rule TooDeep h = absurd h

  refused : (stop : Option Error) (why : Option Refusal) → stop ≡ option_map edit_error why
      → Writes book_schema Enforced db (placing (member_row new)) (Err why) → Ends stop
  refused stop why is (inl h) = subst Ends (sym (is ∙ ap (option_map edit_error) (same_error h.2)))
      (by_rule h.0 h.1)
  refused stop why is (inr (inl big)) = absurd (member_fits new short slim big.0 big.1 big.2)
  refused stop why is (inr (inr went)) = absurd (unsettled went.2.0 went.0 why went.2.1)

  edit_is : edit_of db member [] Chosen 0 ((Null ∷ params) ∷ []) ≡ placing (member_row new)
  edit_is = ap (λ (row : Row). placing (Rattle.sqlite_rules.specs.Edit.with_rowid Chosen (db 4)
      row)) (cast_new book uid changed card)

  inserts : (stop : Option Error) → Inserts (task limit member params) (Values put_terms 5) db
      (Err stop) → Ends stop
  inserts stop h =
      stops_at Ends h (λ s k. inl (values_stop limit (record { schema = book_schema; trees = db })
      params put_terms 5 (values_typed book uid changed card) s k))
      (λ given. stops_at Ends given.2 (λ s k. never_stops _ s k)
      (λ counter. stops_at Ends counter.2
      (λ s k.
      let did = subst (λ e. Edited book_schema Enforced db e (Err s)) edit_is
      (subst (λ rows. Edited book_schema Enforced db (edit_of db member [] Chosen 0 rows)
      (Err s)) given.1.1 k) in
      refused s did.0 did.2 did.1)
      (λ mid. stops_at Ends mid.2 (λ s k. never_stops _ s k) (λ next. never_stops _ stop next.2))))

  concludes : (w : Written) (stop : Option Error)
      → Concludes (task limit member params) outside None w (Err stop) → Ends stop
  concludes w stop h =
      stops_at Ends h (λ s k. subst Ends (sym k.1) (inr (ForeignKey, refl)))
      (λ it. stops_at Ends it.2 (λ s k. never_stops _ s k) (λ on. never_stops _ stop on.2))

  pub add_stops : (stop : Option Error) → OnRows (task limit member params) outside None
      add_member_command db (Err stop) → Ends stop
  add_stops stop h = stops_at Ends h (λ s k. inserts s k) (λ it. concludes it.0 stop it.2)

pub add_fails : (old new : State) (book : ℤ) (uid : List ℕ) (changed : ℤ) (card : Option (List ℕ))
    (r : Result ℕ Error) → old.now.schema ≡ book_schema
    → length uid ≤ 2 ^ 20 → IfSome card (λ text. length text ≤ 2 ^ 20)
    → fits_i64 (next_rowid (old.now.trees 4)) ≡ true
    → ExecutesInside 0 add_member_text (Int book ∷ Text uid ∷ Int changed ∷ or_null Text card ∷ [])
    old new r
    → IfErr r (λ e. (IsViolation e → ⊥) → e ≢ SqliteFailure OutOfMemory → HasOutsideCause old new)
unfolding understood everything
add_fails old new book uid changed card (Ok count) schema short slim fits h = tt
add_fails old new book uid changed card (Err e) schema short slim fits h =
    execute_fails_unless add_member_text (Int book ∷ Text uid ∷ Int changed ∷ or_null Text card ∷
    []) old new schema add_member_command None add_member_is.0 tt refl refl (refl, refl)
    IsViolation (λ stop did. add_stops old.step_limit book uid changed card old.now.trees short slim
    fits stop did) refl e h
