-- An edit of a declared table that no rule refuses.
use Rattle.std.proofs.Common.{ℤ, ◌≡◌, ◌≢◌, ◌⊎◌, inl, inr, ℕ, zero, suc, ◌==◌, true, List}
use Rattle.std.proofs.Common.{[], ◌∷◌, length, Option, Ok, Err, Result, refl, sym}
use Rattle.std.proofs.Common.{ap, subst, ◌∙◌, length-append, true≢false, arith}
use Rattle.std.specs.List.{list_all}
use Rattle.std.proofs.lemmas.Bool.{cases_eq}
use Rattle.std.proofs.lemmas.Bool.{cases_Bool}
use Rattle.std.proofs.Common.{eqb-true}
use Rattle.sqlite.specs.Order.{Row}
use Rattle.sqlite.specs.Rows.{Edited}
use Rattle.sqlite.specs.Tree.{Trees}
use Rattle.sqlite.specs.declared.error.Error.{Error}
use Rattle.sqlite_rules.specs.Action.{Leads, Writes, works}
use Rattle.sqlite_rules.specs.Edit.{Edit, IsRefused, IsOversized, left_by, edited, taken_by}
use Rattle.sqlite_rules.specs.Edit.{are_fresh, have_rowids, is_referred, id_in}
use Rattle.sqlite_rules.specs.Keys.{are_unique}
use Rattle.sqlite_rules.specs.Lists.{Has}
use Rattle.sqlite_rules.specs.declared.error.Refusal.{Refusal}
use Rattle.sqlite_rules.specs.declared.error.Refusal.TheVariants.{Violates, Mismatch, NoRowid}
use Rattle.sqlite_rules.specs.declared.error.Refusal.TheVariants.{BadReference, TooDeep}
use Rattle.sqlite_rules.proofs.RuleLemmas.{Turns, unique_kept}
use Rattle.sqlite_rules.proofs.TableLemmas.{put_all_has, put_all_keeps, put_all_adds}
use Rattle.sqlite_rules.proofs.TableLemmas.{without_all_has}
use Rattle.sqlite_schema.specs.declared.schema.Constraint.TheVariants.{Datatype, NotNull, Check}
use Rattle.sqlite_schema.specs.declared.schema.Constraint.TheVariants.{PrimaryKey, Unique}
use Rattle.sqlite_schema.specs.declared.schema.Constraint.TheVariants.{ForeignKey}
use Rattle.sqlite_schema.specs.declared.schema.Keys.TheVariants.{Enforced}
use Rattle.sqlite_schema.specs.declared.schema.Table.{Table}
use Rattle.sqlite_schema.specs.Rules.{passes, Keeps, Obeys}
use Rattle.sqlite_sql.specs.Ops.{fits_i64}
use Rattle.sqlite_trees.specs.Tree.{rowid, with_tree}
use Rattle.store_tables.specs.Tables.{book_schema, member}

-- ---- the parts of a statement

-- a statement that stops at some part stops at the first, or at one after it
pub stops : {B E : Type 0} {stop : E} {Stops : E → Type 0} {R Q : Type 0}
    → ((s : E) × Stops s × (◌≡◌ {A = Result B E} (Err stop) (Err s))) ⊎ R → ((s : E) → Stops s → Q)
    → (R → Q) → Q
stops (inl h) first next = first h.0 h.1
stops (inr h) first next = next h

pub never_stops : {A : Type 0} (a : A) (stop : Option Error) {Q : Type 0}
    → ◌≡◌ {A = Result A (Option Error)} (Err stop) (Ok a) → Q
never_stops a stop h = absurd (let e = h in cc)

-- ---- an edit that passes each test

pub record IsAdmitted (db : Trees) (edit : Edit) : Type 0 where
  pub keyed : have_rowids edit.news ≡ true
  pub numbered : list_all (λ r. fits_i64 (id_in (rowid r))) edit.news ≡ true
  pub typed : list_all (passes Datatype book_schema db edit.table) edit.news ≡ true
  pub present : list_all (passes NotNull book_schema db edit.table) edit.news ≡ true
  pub checked : list_all (passes Check book_schema db edit.table) edit.news ≡ true
  pub fresh : are_fresh (left_by db edit) edit.news ≡ true
  pub unique : are_unique book_schema.indexes (with_tree db edit.table.tree (edited db edit))
      edit.table edit.news ≡ true
  pub referred : is_referred book_schema Enforced edit ≡ true
  pub storable : (row : Row) → Has edit.news row → ¬ IsOversized book_schema edit.table row
  pub listed : Has book_schema.tables edit.table

-- an edit of members that writes no row
pub admits_no_rows : (db : Trees) (gone : List ℤ)
    → is_referred book_schema Enforced (record { table = member; gone = gone; news = [] }) ≡ true
    → IsAdmitted db (record { table = member; gone = gone; news = [] })
admits_no_rows db gone referred = record {
  keyed = refl;
  numbered = refl;
  typed = refl;
  present = refl;
  checked = refl;
  fresh = refl;
  unique = refl;
  referred = referred;
  storable = λ row h. absurd h;
  listed = inr (inr (inl refl));
}

pub tables_apart : Rattle.sqlite_trees.specs.Tree.IsAscending (λ (a b : Table). a.tree ≡ b.tree
    → ⊥) book_schema.tables
tables_apart = (
  (
    (λ e. omega (arith, e)),
    (
      (λ e. omega (arith, e)),
      ((λ e. omega (arith, e)), ((λ e. omega (arith, e)), tt)),
    ),
  ),
  (
    ((λ e. omega (arith, e)), ((λ e. omega (arith, e)), ((λ e. omega (arith, e)), tt))),
    (
      ((λ e. omega (arith, e)), ((λ e. omega (arith, e)), tt)),
      (((λ e. omega (arith, e)), tt), (tt, tt)),
    ),
  ),
)

at_tree : (db : Trees) (tree : ℕ) (rows : List Row) → with_tree db tree rows tree ≡ rows
at_tree db tree rows = elim (cases_eq tree tree) [
  | inl same ↦
      rw (Rattle.std.proofs.Common.eq-eqb tree tree refl) refl
  | inr other ↦ absurd (other refl)
]

beside_tree : (db : Trees) (tree t : ℕ) (rows : List Row) → t ≢ tree
    → with_tree db tree rows t ≡ db t
beside_tree db tree t rows other = elim (cases_Bool (t == tree)) [
  | inl same ↦
      absurd (other (eqb-true t tree same))
  | inr apart ↦ rw apart refl
]

-- no action is left that could fail
pub unsettled : (n : ℕ) (trees : Trees) (why : Option Refusal)
    → Leads book_schema Enforced n trees [] (Err why) → ⊥
unsettled zero trees why h = absurd (let e = h.1 in cc)
unsettled (suc n) trees why h = absurd (omega (arith, ap length h.2, length-append h.0 (h.1 ∷ [])))

module _ (db : Trees) (edit : Edit) (it : IsAdmitted db edit) where
  abbrev next : Trees
  next = with_tree db edit.table.tree (edited db edit)

  turned : Turns book_schema db next edit.table (left_by db edit) (db edit.table.tree) edit.news
  turned =
      let at = at_tree db edit.table.tree (edited db edit) in
      record {
        apart = tables_apart;
        listed = it.listed;
        others = λ t known other. beside_tree db edit.table.tree t.tree (edited db edit) other;
        from = λ r h. put_all_has edit.news (left_by db edit) r (subst (λ l. Has l r) at h);
        stays = λ r h. subst (λ l. Has l r) (sym at) (put_all_keeps edit.news (left_by db edit) r
            it.fresh h);
        added = λ r h. subst (λ l. Has l r) (sym at) (put_all_adds edit.news (left_by db edit) r
            it.fresh h);
        was = λ r h. without_all_has edit.gone (db edit.table.tree) r h;
        split = λ r h. inr h;
      }

  unique_after : Obeys book_schema db → Keeps Unique book_schema next
  unique_after obeys = unique_kept book_schema db next edit.table (left_by db edit)
      (db edit.table.tree) edit.news turned it.unique (obeys.rules Unique)

  not_refused : Obeys book_schema db → (why : Refusal) → IsRefused book_schema Enforced db edit why
      → ⊥
  not_refused obeys (Violates Datatype) h = true≢false (sym it.typed ∙ h)
  not_refused obeys (Violates NotNull) h = true≢false (sym it.present ∙ h)
  not_refused obeys (Violates Check) h = true≢false (sym it.checked ∙ h)
  not_refused obeys (Violates PrimaryKey) h = true≢false (sym it.fresh ∙ h)
  not_refused obeys (Violates Unique) h = h (unique_after obeys)
  not_refused obeys (Violates ForeignKey) h = h
  not_refused obeys Mismatch h = true≢false (sym it.keyed ∙ h)
  not_refused obeys NoRowid h = true≢false (sym it.numbered ∙ h)
  not_refused obeys BadReference h = true≢false (sym it.referred ∙ h)
  not_refused obeys TooDeep h = h

  written : Obeys book_schema db → works book_schema Enforced 0 edit.table.tree (taken_by db edit)
      edit.news ≡ [] → (why : Option Refusal) → Writes book_schema Enforced db edit (Err why) → ⊥
  written obeys none why (inl refused) = not_refused obeys refused.0 refused.1
  written obeys none why (inr (inl big)) = it.storable big.0 big.1 big.2
  written obeys none why (inr (inr went)) = unsettled went.2.0 went.0 why (rw none at went.2.1)

  -- the edit is made
  pub edit_never_stops : {Q : Type 0} → Obeys book_schema db
      → works book_schema Enforced 0 edit.table.tree (taken_by db edit) edit.news ≡ []
      → (stop : Option Error) → Edited book_schema Enforced db edit (Err stop) → Q
  edit_never_stops obeys none stop h = absurd (written obeys none h.0 h.1)
