use Rattle.std.proofs.Common.{true≢false, sym}
use Rattle.store_check.proofs.FaultLemmas.{canonical_utf8}
use Rattle.store_check.proofs.members.canonical_card.Goals as goal

pub returns-in_default-clause-canonical : goal.returns-in_default-clause-canonical
returns-in_default-clause-canonical c = (
  λ t. absurd (true≢false (sym t)),
  λ h. absurd (c.in_default.ensures.cases.0 (canonical_utf8 c.args.text.now h)),
)
