use Rattle.std.proofs.Common.{inl, inr}
use Rattle.std.specs.List.{list_all}
use Rattle.std.proofs.lemmas.Bool.{both_ways}
use Rattle.vcard_lines.specs.Grammar.{is_permitted}
use Rattle.vcard_lines.proofs.FrontLemmas.{of_class, all_of_class}
use Rattle.vcard_lines.proofs.FailLemmas.{line_fails}
use Rattle.vcard_lines.proofs.laws.unreadable_lines_have_a_fault.Goals as goal

pub returns : goal.returns
returns c = λ text fault e. elim (line_fails text fault e) [
  | inl p ↦ inl (
    p.0,
    λ a. both_ways (list_all is_permitted text) p.1
        (all_of_class is_permitted text a),
  )
  | inr p ↦ inr (p.0, of_class is_permitted text p.1)
]
