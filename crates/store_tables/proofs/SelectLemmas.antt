-- A text that is a SELECT commits nothing, whatever tables are declared.
use Rattle.std.proofs.Common.{◌≡◌, ℕ, Bool, true, false, if◌then◌else◌, List, None, Ok, Err, IfOk}
use Rattle.std.proofs.Common.{refl, sym, subst}
use Rattle.sqlite_ast.specs.declared.Statement.{Statement}
use Rattle.sqlite_ast.specs.declared.Statement.TheVariants as written
use Rattle.sqlite_syntax.specs.declared.statement.Parsed.{Parsed}
use Rattle.sqlite_schema.specs.declared.schema.Schema.{Schema}
use Rattle.sqlite_resolve.specs.declared.compiled.Compiled.{Compiled}
use Rattle.sqlite_resolve.specs.declared.error.CompileError.{CompileError}
use Rattle.sqlite_resolve.specs.declared.error.CompileError.TheVariants.{NoSuchTable}
use Rattle.sqlite_resolve.specs.Lowering.{Checked, and_then}
use Rattle.sqlite_resolve.specs.Compile.{first, returning, command, meaning, planned, compiled}
use Rattle.sqlite.specs.Listing.{understood, reads_listing, if_select, listing_schema, is_select}
use Rattle.sqlite.specs.Order.{Row}
use Rattle.sqlite.specs.Tree.{Trees}
use Rattle.sqlite.specs.State.{State, CommitsShowing}

abbrev pub is_select_statement : Statement → Bool
is_select_statement (written.Select s) = true
is_select_statement _ = false

abbrev pub is_select_parsed : Checked Parsed → Bool
is_select_parsed (Ok p) = is_select_statement p.statement
is_select_parsed (Err e) = false

-- the first statement of the text is a SELECT; `refl` finds it for a text that is written out
abbrev pub IsSelectText : List ℕ → Type 0
IsSelectText text = is_select_parsed (first text) ≡ true

if_then : {A B : Type 0} (r : Checked A) (f : A → Checked B) (P : A → Type 0) (Q : B → Type 0)
    → IfOk r P → ((a : A) → P a → IfOk (f a) Q) → IfOk (and_then r f) Q
if_then (Ok a) f P Q ok next = next a ok
if_then (Err e) f P Q ok next = tt

any_ok : {A : Type 0} (r : Checked A) → IfOk r (λ _. Unit {0})
any_ok (Ok a) = tt
any_ok (Err e) = tt

select_ok : (r : Checked Parsed) → is_select_parsed r ≡ true
    → IfOk r (λ p. is_select_statement p.statement ≡ true)
select_ok (Ok p) is = is
select_ok (Err e) is = tt

returns_none : (schema : Schema) (base : ℕ) (s : Statement) → is_select_statement s ≡ true
    → returning schema base s ≡ Ok None
unfolding returning
returns_none schema base (written.Select s) is = refl
returns_none schema base _ is = absurd cc

means_none : (schema : Schema) (p : Parsed) (base : ℕ) → is_select_statement p.statement ≡ true
    → IfOk (meaning schema p base) (λ m. m.1 ≡ None)
unfolding meaning
means_none schema p base is =
    if_then (returning schema base p.statement) _ (λ s. s ≡ None) _
    (subst (λ r. IfOk r (λ s. s ≡ None)) (sym (returns_none schema base p.statement is)) refl)
    (λ s none. if_then (command schema p.formats base p.statement) _ (λ _. Unit {0}) _
    (any_ok (command schema p.formats base p.statement)) (λ c any. none))

plans_none : (schema : Schema) (p : Parsed) → is_select_statement p.statement ≡ true
    → IfOk (planned schema p) (λ plan. plan.1.1 ≡ None)
unfolding planned
plans_none schema p is = if_then (meaning schema p _) _ (λ m. m.1 ≡ None) _
    (means_none schema p _ is) (λ m none. none)

compiles_none : (schema : Schema) (text : List ℕ) → IsSelectText text
    → IfOk (compiled schema text) (λ c. c.returning ≡ None)
unfolding compiled
compiles_none schema text is =
    if_then (first text) _ (λ p. is_select_statement p.statement ≡ true) _
    (select_ok (first text) is)
    (λ p select. if_then (planned schema p) _ (λ plan. plan.1.1 ≡ None) _
    (plans_none schema p select) (λ plan none. none))

if_select_ok : (r : Checked Compiled) (P : Compiled → Type 0) → IfOk r P → IfOk (if_select r) P
if_select_ok (Ok c) P ok = elim (is_select c.command) as (λ b. IfOk {E = CompileError} (if b
    then Ok c else Err NoSuchTable) P) [ true ↦ ok | false ↦ tt ]
if_select_ok (Err e) P ok = tt

understood_none : (schema : Schema) (text : List ℕ) → IsSelectText text
    → IfOk (understood schema text) (λ c. c.returning ≡ None)
unfolding understood
understood_none schema text is =
    elim (reads_listing schema text) as
    (λ b. IfOk (if b then if_select (compiled listing_schema text) else compiled schema text)
    (λ c. c.returning ≡ None)) [
      | true ↦ if_select_ok (compiled listing_schema text) _ (compiles_none listing_schema text is)
      | false ↦ compiles_none schema text is
    ]

-- Only a write with RETURNING commits as it shows rows, and a SELECT has none under any schema.
pub select_never_commits : (sql : List ℕ) (params : Row) (s : State) (db : Trees) → IsSelectText sql
    → ¬ CommitsShowing sql params s db
unfolding CommitsShowing
select_never_commits sql params s db is h =
    let none : h.0.returning ≡ None =
    subst (λ r. IfOk r (λ c. c.returning ≡ None)) h.1.is (understood_none s.now.schema sql
    is) in
    absurd (let some = rw none at h.2 in cc)
