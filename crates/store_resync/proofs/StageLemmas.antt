-- The rows after the writes of a resync: of one book, of the first books, and of all.
use Rattle.std.proofs.Common.{◌≡◌, ◌≢◌, ◌<◌, ◌≤◌, ◌+◌, inl, inr, ℕ, ℤ, pos, Bool, true, false, List}
use Rattle.std.proofs.Common.{[], ◌∷◌, map, length, Option, Some, None, Result, Ok, Err, OnOk}
use Rattle.std.proofs.Common.{int_eq, refl, sym, ap, ap₂, subst, ◌∙◌, arith}
use Rattle.std.specs.List.{slice_get}
use Rattle.std.specs.FinMap as finite
use Rattle.std.proofs.lemmas.Bool.{cases_lt}
use Rattle.std.proofs.lemmas.Option.{same_Some, slice_get_within}
use Rattle.sqlite.specs.Effect.{Database}
use Rattle.sqlite.specs.State.{State, Survives}
use Rattle.sqlite_rules.specs.Lists.{Has}
use Rattle.book_model.specs.Books.{Book}
use Rattle.store_tables.specs.Books.{BookRow, HasBooks, Numbers, has_id, with_book_numbers}
use Rattle.store_tables.specs.Members.{HoldMembers, PutsRow, without_removed}
use Rattle.store_tables.specs.SchemaCreation.{HoldsInTx}
use Rattle.store_tables.specs.StatementEffects.{WritesOnly}
use Rattle.store_tables.specs.Tables.{book_schema}
use Rattle.store_tables.proofs.KeyedRows.{int_itself}
use Rattle.store_rows.specs.SoundTables.{AreSoundRows}
use Rattle.store_rows.specs.TableBooks.{line_row, members_in, numbers_row, row_book}
use Rattle.store_rows.specs.TableRows.{TableRows, HoldsRows, WritesTable, forgotten_rows, put_rows}
use Rattle.store_rows.specs.TableRows.{renumbered_rows}
use Rattle.store_rows.proofs.BookLemmas.{naturals_row, renumbering_held, with_numbers}
use Rattle.store_rows.proofs.MemberLemmas.{members_put}
use Rattle.store_rows.proofs.RemovedLemmas.{forgetting_forgets, forgetting_held}
use Rattle.store_rows.proofs.WriteLemmas.{no_write, put_held}
use Rattle.store_writes.specs.TableChanges.{HasBookRow}
use Rattle.store_writes.proofs.ForgetLemmas.{writes_table}
use Rattle.store_writes.proofs.HeldLemmas.{row_remains}
use Rattle.store_resync.specs.declared.planning.BookPlan.{BookPlan}
use Rattle.store_resync.specs.declared.planning.Renewal.{Renewal}
use Rattle.store_resync.specs.declared.stages.Stage.{Stage}
use Rattle.store_resync.specs.declared.stages.Stage.TheVariants.{Pairs, Forgetting}
use Rattle.store_resync.specs.internal.Plans.{HasLegalRow}
use Rattle.store_resync.specs.internal.Stages.{book_after_stage, header_after, header_before}
use Rattle.store_resync.specs.internal.Stages.{horizon_after, rows_with_renewal}
use Rattle.store_resync.specs.internal.Changes.{HasPlannedRows, HoldsMembers, HoldsResync}
use Rattle.store_resync.specs.internal.Changes.{HoldsStage, HoldsStages, IsBookAfter, IsRowAfter}
use Rattle.store_resync.specs.internal.Changes.{TreesHoldResync, book_name}

-- ---- the members of one book

module _ (old new : Database) (rows : TableRows) (name : List ℕ) (plan : BookPlan) (holds :
    HoldsRows old rows) (sound : AreSoundRows rows) where
  -- the book with its last number, with the rows of its members
  abbrev paired : Option Renewal → Book
  paired renewed = record (row_book rows (line_row name (header_before Pairs plan))) {
    number = plan.last;
    counts = plan.counts;
    members = rows_with_renewal (members_in (pos plan.header.id) rows.members) renewed plan.last;
  }

  pub renewed_members : (renewal : Renewal) → plan.renewed ≡ Some renewal → HasLegalRow renewal
      → Has rows.books (line_row name (header_before Pairs plan))
      → PutsRow new.trees (pos plan.header.id) renewal.uid (pos plan.last) (Some renewal.text)
      rows.members → WritesTable 4 old new → HoldsMembers new rows name plan Pairs
  renewed_members renewal is legal there puts w =
      let one = put_held old new rows (line_row name (header_before Pairs plan)) renewal.uid
      (pos plan.last) (Some renewal.text) holds sound there legal.uid refl legal.text puts w in
      let members = members_put one.id (pos plan.header.id) renewal.uid (pos plan.last)
      (Some renewal.text) rows.members in
      let made : IsBookAfter rows (put_rows one.id (pos plan.header.id) renewal.uid (pos plan.last)
      (Some renewal.text) rows) name plan Pairs =
      ap (λ m. record (paired None) { members = m }) members ∙ ap paired (sym is) in
      record {
        now = put_rows one.id (pos plan.header.id) renewal.uid (pos plan.last) (Some renewal.text)
            rows;
        holds = one.holds;
        within = one.within;
        is = made;
      }

  pub same_members : plan.renewed ≡ None → new ≡ old → HoldsMembers new rows name plan Pairs
  same_members is same =
      let made : IsBookAfter rows rows name plan Pairs = ap paired (sym is) in
      record {
        now = rows;
        holds = subst (λ db. HoldsRows db rows) (sym same) holds;
        within = no_write (pos plan.header.id) rows sound;
        is = made;
      }

  pub forgotten_members : HoldMembers (new.trees 4) (without_removed (pos plan.header.id)
      (pos plan.last) rows.members) → WritesTable 4 old new
      → HoldsMembers new rows name plan Forgetting
  forgotten_members members w =
      let one = forgetting_held old new rows (line_row name (header_before Forgetting plan))
      plan.last holds sound members w in
      let made : IsBookAfter rows (forgotten_rows (pos plan.header.id) (pos plan.last) rows) name
      plan Forgetting =
      forgetting_forgets rows name (header_before Forgetting plan) plan.last sound in
      record {
        now = forgotten_rows (pos plan.header.id) (pos plan.last) rows;
        holds = one.holds;
        within = one.within;
        is = made;
      }

pub renewed_in_tx : {A E : Type 0} (old new : State) (rows : TableRows) (name : List ℕ) (plan :
    BookPlan) (stage : Stage) (renewal : Renewal) (r : Result A E) → stage ≡ Pairs
    → plan.renewed ≡ Some renewal → HasLegalRow renewal
    → HasBookRow old.now rows name (header_before stage plan)
    → OnOk r (PutsRow new.now.trees (pos plan.header.id) renewal.uid (pos plan.last)
    (Some renewal.text) rows.members) → OnOk r (WritesOnly 4 old new)
    → OnOk r (HoldsInTx new (λ db. HoldsMembers db rows name plan stage))
renewed_in_tx old new rows name plan Pairs renewal (Ok x) e is legal line puts w = record {
  holds = renewed_members old.now new.now rows name plan line.holds line.sound renewal is legal
      line.there puts (writes_table 4 old new w);
  inside = w.inside;
}
renewed_in_tx old new rows name plan Pairs renewal (Err error) e is legal line puts w = tt
renewed_in_tx old new rows name plan Forgetting renewal r e is legal line puts w =
    absurd (let bad = e in cc)

pub forgotten_in_tx : (old new : State) (rows : TableRows) (name : List ℕ) (plan : BookPlan)
    (stage : Stage) → stage ≡ Forgetting → HasBookRow old.now rows name (header_before stage plan)
    → HoldMembers (new.now.trees 4) (without_removed (pos plan.header.id) (pos plan.last)
    rows.members) → WritesOnly 4 old new
    → HoldsInTx new (λ db. HoldsMembers db rows name plan stage)
forgotten_in_tx old new rows name plan Pairs e line members w = absurd (let bad = e in cc)
forgotten_in_tx old new rows name plan Forgetting e line members w = record {
  holds = forgotten_members old.now new.now rows name plan line.holds line.sound members
      (writes_table 4 old new w);
  inside = w.inside;
}

-- ---- the row of one book

renumbered_there : (id : ℤ) (numbers : Numbers) (bs : List BookRow) (b : BookRow) → Has bs b
    → has_id id b ≡ true → Has (with_book_numbers id numbers bs) (record b { numbers = numbers })
renumbered_there id numbers [] b h mine = absurd h
renumbered_there id numbers (x ∷ xs) b (inl same) mine =
    let here : has_id id x ≡ true = ap (has_id id) (sym same) ∙ mine in
    inl (rw here (ap (λ (y : BookRow). record y { numbers = numbers }) same))
renumbered_there id numbers (x ∷ xs) b (inr h) mine = inr (renumbered_there id numbers xs b h mine)

names_kept : (id : ℤ) (numbers : Numbers) (bs : List BookRow)
    → map book_name (with_book_numbers id numbers bs) ≡ map book_name bs
names_kept id numbers [] = refl
names_kept id numbers (b ∷ bs) = ap₂ (λ n ns. n ∷ ns) (step (has_id id b) refl)
    (names_kept id numbers bs)
  where
    step : (t : Bool) → has_id id b ≡ t → book_name (with_numbers id numbers b) ≡ book_name b
    step true e = rw e refl
    step false e = rw e refl

module _ (mid new : State) (rows : TableRows) (name : List ℕ) (plan : BookPlan) (stage : Stage)
  where
    abbrev last_numbers : Numbers
    last_numbers = numbers_row plan.last (horizon_after stage plan.header.horizon plan.last)
        plan.counts

    pub stage_written : Has rows.books (line_row name (header_before stage plan))
        → (one : HoldsMembers mid.now rows name plan stage)
        → HasBooks new (with_book_numbers (pos plan.header.id) last_numbers one.now.books)
        → WritesOnly 2 mid new → HoldsInTx new (λ db. HoldsStage db rows name plan stage)
    stage_written there one books w =
        let two = renumbering_held mid.now new.now one.now (pos plan.header.id) last_numbers
        one.holds
        one.within.sound (naturals_row plan.last (horizon_after stage plan.header.horizon
        plan.last) plan.counts) books (writes_table 2 mid new w) in
        let still : (b : BookRow) → Has rows.books b → Has one.now.books b =
        λ b h. subst (λ bs. Has bs b) (sym one.within.books) h in
        record {
          holds = record {
            now = renumbered_rows (pos plan.header.id) last_numbers one.now;
            holds = two.holds;
            sound = two.sound;
            names = names_kept (pos plan.header.id) last_numbers one.now.books
                ∙ ap (map book_name) one.within.books;
            row = record {
              there = renumbered_there (pos plan.header.id) last_numbers one.now.books
                  (line_row name (header_before stage plan)) (still _ there)
                  (int_itself (pos plan.header.id));
              is = one.is;
            };
            others = λ b h apart. (
              row_remains (pos plan.header.id) last_numbers one.now.books b
                  (still b h) apart,
              one.within.others b apart,
            );
          };
          inside = w.inside;
        }

-- ---- the first books

pub stages_begin : (db : Database) (rows : TableRows) (plans : List BookPlan) (stage : Stage)
    → HasPlannedRows db rows plans stage → HoldsStages db rows plans stage 0
stages_begin db rows plans stage given = record {
  now = rows;
  holds = given.holds;
  sound = given.sound;
  names = refl;
  written = λ i plan lt at. absurd (omega (arith, lt));
  unwritten = λ i plan le at. (given.each i plan at, refl);
}

module _ (start one two : Database) (rows : TableRows) (plans : List BookPlan) (stage : Stage) (k :
    ℕ) (plan : BookPlan)
    (given : HasPlannedRows start rows plans stage) (here : slice_get plans k ≡ Some plan) (so_far :
    HoldsStages one rows plans stage k) (next : HoldsStage two so_far.now plan.name plan stage)
  where
    own_row : IsRowAfter rows next.now plan.name plan stage
    own_row =
        let before = so_far.unwritten k plan (omega arith) here in
        record {
          there = next.row.there;
          is = next.row.is
              ∙ ap (book_after_stage stage plan) before.1;
        }

    earlier : (i : ℕ) (p : BookPlan) → i < k → slice_get plans i ≡ Some p
        → IsRowAfter rows next.now p.name p stage
    earlier i p lt at =
        let was = so_far.written i p lt at in
        let away = given.apart i k p plan at here (λ same. omega (arith, lt, same)) in
        let still = next.others (line_row p.name (header_after stage p)) was.there away in
        record { there = still.0; is = still.1 ∙ was.is }

    pub stages_next : HoldsStages two rows plans stage (k + 1)
    stages_next = record {
      now = next.now;
      holds = next.holds;
      sound = next.sound;
      names = next.names ∙ so_far.names;
      written = λ i p lt at. elim (cases_lt i k) [
        | inl less ↦ earlier i p less at
        | inr more ↦
            let same : i ≡ k = omega (arith, lt, more) in
            let own : plan ≡ p = same_Some plan p (sym here ∙ ap (slice_get plans) (sym same)
            ∙ at) in
            subst (λ (q : BookPlan). IsRowAfter rows next.now q.name q stage) own own_row
      ];
      unwritten = λ i p le at.
          let was = so_far.unwritten i p (omega (arith, le)) at in
          let away = given.apart i k p plan at here (λ same. omega (arith, le, same)) in
          let still = next.others (line_row p.name (header_before stage p)) was.0 away in
          (still.0, still.1 ∙ was.1);
    }

-- ---- both stages

module _ (start one : Database) (rows : TableRows) (plans : List BookPlan) (given :
    HasPlannedRows start rows plans Pairs) (paired : HoldsStages one rows plans Pairs
    (length plans)) where
  pub planned_again : HasPlannedRows one paired.now plans Forgetting
  planned_again = record {
    holds = paired.holds;
    sound = paired.sound;
    each = λ i plan at. (paired.written i plan (slice_get_within plans i plan at) at).there;
    apart = given.apart;
    legal = given.legal;
  }

  pub both_stages : (two : Database) → HoldsStages two paired.now plans Forgetting (length plans)
      → HoldsResync two rows plans
  both_stages two done = record {
    now = done.now;
    holds = done.holds;
    sound = done.sound;
    names = done.names ∙ paired.names;
    there = λ i plan at. (done.written i plan (slice_get_within plans i plan at) at).there;
    books = λ i plan at.
        let within = slice_get_within plans i plan at in
        (done.written i plan within at).is
        ∙ ap (book_after_stage Forgetting plan) (paired.written i plan within at).is;
  }

-- by the trees alone
pub trees_hold : (db : Database) (rows : TableRows) (plans : List BookPlan)
    → HoldsResync db rows plans → TreesHoldResync rows plans db.trees
trees_hold db rows plans held = subst (λ schema. HoldsResync (record {
  schema = schema;
  trees = db.trees;
}) rows plans) held.holds.schema held

-- nothing was done
pub survives_self : (s : State) → Survives s s (λ _. ⊥)
survives_self s = record {
  clean = omega arith;
  shield = λ shielded. shielded;
  counts = omega arith;
  limit = refl;
  closes = λ clean up. inl up;
  crash = λ clean db left. inl left;
}
