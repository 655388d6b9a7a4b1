use Rattle.std.proofs.Common.{◌≡◌, ◌<◌, ◌≤◌, ap, subst, sym, ◌∙◌, nat_lt, true, false, length}
use Rattle.std.proofs.Common.{arith, Some, None, refl}
use Rattle.std.proofs.lemmas.Bool.{lt-ltb}
use Rattle.sqlite.specs.Order.{column}
use Rattle.store_lookups.proofs.StoreFaultLemmas.{cell, passed_on}
use Rattle.store_rows.specs.ShownRows.{ShowsCard}
use Rattle.store_rows.specs.Values.{natural}
use Rattle.store_lookups.proofs.row_values.member_state_in.Goals as goal

pub returns-in_err-changed-clause-memory : goal.returns-in_err-changed-clause-memory
returns-in_err-changed-clause-memory c m readable is =
    passed_on c.from_residual.result c.in_err-changed.field-0.0 c.from_residual.ensures.1
    (c.in_err-changed.ensures.memory (natural m.changed) (ap (λ r. column r 0) is
    ∙ cell m.changed readable.changed))

pub returns-in_err-card-clause-memory : goal.returns-in_err-card-clause-memory
returns-in_err-card-clause-memory c m readable is =
    passed_on c.from_residual-in_err-card.result c.in_err-card.field-0.0
    c.from_residual-in_err-card.ensures.1 (c.in_err-card.ensures.memory m.card
    (subst (λ r. 1 < length r) (sym is) (omega arith)) (ap (λ r. column r 1) is) readable.card)

pub returns-in-Some-clause-state : goal.returns-in-Some-clause-state
returns-in-Some-clause-state c = record {
  member = record { changed = c.in_ok-changed.changed; card = Some c.in-Some.card };
  changed = c.in_ok-changed.ensures.number;
  card = subst (ShowsCard 1 c.args.row.now) c.in-Some.is c.in_ok-card.ensures.card;
  is = refl;
}

pub returns-in-None-clause-state : goal.returns-in-None-clause-state
returns-in-None-clause-state c = record {
  member = record { changed = c.in_ok-changed.changed; card = None };
  changed = c.in_ok-changed.ensures.number;
  card = subst (ShowsCard 1 c.args.row.now) c.in-None.is c.in_ok-card.ensures.card;
  is =
      let later : c.args.horizon < c.in_ok-changed.changed = c.if-horizon-changed.true in
      let test : nat_lt c.args.horizon c.in_ok-changed.changed ≡ true =
      lt-ltb c.args.horizon c.in_ok-changed.changed later in
      rw test refl;
}

pub returns-in-None-2-clause-state : goal.returns-in-None-2-clause-state
returns-in-None-2-clause-state c = record {
  member = record { changed = c.in_ok-changed.changed; card = None };
  changed = c.in_ok-changed.ensures.number;
  card = subst (ShowsCard 1 c.args.row.now) c.in-None-2.is c.in_ok-card.ensures.card;
  is =
      let sooner : c.in_ok-changed.changed ≤ c.args.horizon = c.if-horizon-changed.false in
      let test : nat_lt c.args.horizon c.in_ok-changed.changed ≡ false = grind (arith, sooner) in
      rw test refl;
}
