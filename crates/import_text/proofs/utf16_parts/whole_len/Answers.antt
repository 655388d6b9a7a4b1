use Rattle.std.proofs.Common.{◌≡◌, ◌<◌, ◌+◌, ◌-◌, ◌*◌, ◌/◌, ◌++◌, ℕ, List, refl, true, false}
use Rattle.std.proofs.Common.{length, get_or, take, drop, subst, rules, arith}
use Rattle.std.specs.Char.Utf16.{is_high_surrogate}
use Rattle.import_text.specs.Units.{unit_of}
use Rattle.import_text.specs.Texts.{utf16_octets}
use Rattle.import_text.proofs.CutLemmas.{cut_none, cut_before, cut_after}
use Rattle.import_text.proofs.utf16_parts.whole_len.Goals as goal

pub returns-then-units-eq0-clause-apart : goal.returns-then-units-eq0-clause-apart
returns-then-units-eq0-clause-apart c = cut_none c.args.is_big c.args.octets.now

pub returns-then-is_high-clause-apart : goal.returns-then-is_high-clause-apart
returns-then-is_high-clause-apart c =
    let octets = c.args.octets.now in
    let count : ℕ = length octets / 2 - 1 in
    let within : count * 2 + 1 < length octets = omega (arith, c.if-units-eq0.false) in
    let high : is_high_surrogate (unit_of c.args.is_big (get_or octets (count * 2) 0)
    (get_or octets (count * 2 + 1) 0)) ≡ true = search rules in
    cut_before c.args.is_big octets count within _ _ refl refl high

pub returns-else-is_high-clause-apart : goal.returns-else-is_high-clause-apart
returns-else-is_high-clause-apart c =
    let octets = c.args.octets.now in
    let count : ℕ = length octets / 2 - 1 in
    let within : count * 2 + 1 < length octets = omega (arith, c.if-units-eq0.false) in
    let other : is_high_surrogate (unit_of c.args.is_big (get_or octets (count * 2) 0)
    (get_or octets (count * 2 + 1) 0)) ≡ false = search rules in
    let len : count * 2 + 1 + 1 ≡ count * 2 + 2 = omega arith in
    subst (λ n. (more : List ℕ) → utf16_octets c.args.is_big (octets ++ more)
    ≡ utf16_octets c.args.is_big (take n octets) ++ utf16_octets c.args.is_big (drop n octets
    ++ more)) len
    (cut_after c.args.is_big octets count within _ _ refl refl other)
