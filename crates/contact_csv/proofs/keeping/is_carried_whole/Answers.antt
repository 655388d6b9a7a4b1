use Rattle.std.proofs.Common.{◌≡◌, codes, inl, inr, refl, rules}
use Rattle.contact_csv.proofs.ResultLemmas.{ok_then}
use Rattle.contact_csv.proofs.keeping.is_carried_whole.Goals as goal

pub returns-then-branch : goal.returns-then-branch
returns-then-branch c = λ t. inl (c.in_ok-holds_text.ensures c.if-branch.true)

pub returns-then-branch-2 : goal.returns-then-branch-2
returns-then-branch-2 c = λ t. inr (
  codes " ::: ",
  c.in_ok-holds_parts.ensures c.if-branch-2.true,
  inl refl,
)

pub returns : goal.returns
returns c =
    let property : c.args.property.now ≡ codes "CATEGORIES" = search rules in
    ok_then c.holds_parts-2.result (λ carried held t. inr (codes ";", held t, inr (refl, property)))
    c.holds_parts-2.ensures
