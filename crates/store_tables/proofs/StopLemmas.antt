-- Where a statement stops: at the limit on steps, if there is one.
use Rattle.std.proofs.Common.{◌≡◌, inl, inr, ℕ, true, false, List, [], ◌∷◌, Option, Some, None, Err}
use Rattle.std.proofs.Common.{IsSome, sym, ◌∙◌, true≢false}
use Rattle.sqlite.specs.Does.{Concludes, Tested}
use Rattle.sqlite.specs.Effect.{Database}
use Rattle.sqlite.specs.Order.{Row}
use Rattle.sqlite.specs.Query.{Query}
use Rattle.sqlite.specs.Rows.{Task, Queried, Sourced, Written}
use Rattle.sqlite.specs.Source.TheVariants.{Values}
use Rattle.sqlite.specs.Term.{Env, Term}
use Rattle.sqlite.specs.Tree.{Trees}
use Rattle.sqlite.specs.declared.error.Error.{Error}
use Rattle.sqlite.specs.declared.run.Mode.{Mode}
use Rattle.sqlite_schema.specs.declared.schema.Among.TheVariants.{All}
use Rattle.sqlite_schema.specs.declared.schema.Keys.TheVariants.{Enforced}
use Rattle.sqlite_schema.specs.declared.schema.Table.{Table}
use Rattle.sqlite_schema.specs.Rules.{Refers}
use Rattle.sqlite_sql.specs.Group.{Overflows}
use Rattle.sqlite_sql.specs.Query.{has_no_fold}
use Rattle.sqlite_sql.proofs.QueryLemmas.{no_fold_overflows}
use Rattle.sqlite_typing.specs.Types.{accepts_program, accepts_terms}
use Rattle.store_tables.specs.Tables.{book_schema}
use Rattle.store_tables.proofs.EditLemmas.{never_stops, stops}

abbrev pub outside : Mode
outside = record { keys = Enforced; in_doubt = false; may_wait = false }

pub query_stops : (limit : Option ℕ) (db : Trees) (q : Query) (params : Row)
    → accepts_program book_schema [] q params ≡ true → ((all : List Env) → Overflows q.group all
    → ⊥) → has_no_fold q.from ≡ true
    → (stop : Option Error) → Queried limit (record { schema = book_schema; trees = db })
    (record { lets = []; body = q }) params (Err stop) → IsSome limit
query_stops limit db q params typed calm unfolded None h = absurd h
query_stops limit db q params typed calm unfolded (Some e) (inl h) =
    absurd (true≢false (sym typed ∙ h.1))
query_stops limit db q params typed calm unfolded (Some e) (inr (inl h)) = elim h.1 [
  | inl over ↦ absurd (calm _ over)
  | inr fold ↦ absurd (no_fold_overflows _ q.from (params ∷ []) unfolded fold)
]
query_stops limit db q params typed calm unfolded (Some e) (inr (inr h)) = h.1

pub values_stop : (limit : Option ℕ) (db : Database) (params : Row) (terms : List Term) (width : ℕ)
    → accepts_terms terms params ≡ true → (stop : Option Error)
    → Sourced limit db params (Values terms width) (Err stop) → IsSome limit
values_stop limit db params terms width typed None h = absurd h
values_stop limit db params terms width typed (Some e) (inl h) =
    absurd (true≢false (sym typed ∙ h.1))
values_stop limit db params terms width typed (Some e) (inr h) = h.1

module _ (limit : Option ℕ) (table : Table) (params : Row) where
  abbrev pub task : Task
  task = record {
    limit = limit;
    keys = Enforced;
    schema = book_schema;
    table = table;
    params = params;
  }

  tested : {Q : Type 0} (trees : Trees) → Refers All book_schema trees → (stop : Option Error)
      → Tested outside (λ among. Refers among book_schema trees) (Err stop) → Q
  tested trees refers stop h = absurd (h.0 refers)

  -- a write that shows nothing
  pub concludes_quietly : (w : Written) → Refers All book_schema w.trees → (stop : Option Error)
      → Concludes task outside None w (Err stop) → IsSome limit
  concludes_quietly w refers stop h =
      stops h (λ s k. tested w.trees refers s k) (λ it. stops it.2 (λ s k. never_stops _ s k)
      (λ on. never_stops _ stop on.2))
