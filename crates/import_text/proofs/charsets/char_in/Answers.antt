use Rattle.std.proofs.Common.{rules, ◌≡◌, ◌-◌, ◌≤◌, ◌∙◌, false, length, nat_lt, sym, subst}
use Rattle.std.proofs.lemmas.List.{get_or_past}
use Rattle.import_text.specs.Encodings.{char_in}
use Rattle.import_text.proofs.charsets.char_in.Goals as goal

pub returns-then-octet-charset : goal.returns-then-octet-charset
unfolding char_in
returns-then-octet-charset c = search rules

pub returns-in-Some : goal.returns-in-Some
unfolding char_in
returns-in-Some c = search rules

pub returns-in-None : goal.returns-in-None
unfolding char_in
returns-in-None c =
    let chars = c.args.charset.chars.now in
    let place = c.args.octet - c.args.charset.first in
    let high : nat_lt c.args.octet c.args.charset.first ≡ false = search rules in
    let past : length chars ≤ place =
    subst (λ i. length chars ≤ i) c.from-2.ensures (search rules) in
    rw high (c.from-in-None.ensures ∙ sym (get_or_past chars place c.args.octet past))
