use Rattle.std.proofs.Common.{◌≡◌, ◌∙◌, ◌&&◌, ◌||◌, ◌+◌, drop, rules, true, false, None, Some, sym}
use Rattle.std.proofs.Common.{ap, arith, subst}
use Rattle.std.proofs.lemmas.List.{get_or_default}
use Rattle.vcard_property.specs.SameLines.{AreLine, uid_line}
use Rattle.vcard_import.specs.Delimiters.{begins_card}
use Rattle.vcard_import.specs.FirstUid.{first_uid_after}
use Rattle.vcard_import.proofs.UidLemmas.{at_end, no_uid_there, second_card, uid_there}
use Rattle.vcard_import.proofs.first_uid.first_uid.Goals as goal

pub returns-then-begins_second-clause-line : goal.returns-then-begins_second-clause-line
returns-then-begins_second-clause-line c =
    let second : (c.loop-index.begun && begins_card c.index-raws-index.result.octets) ≡ true =
    search rules in
    sym (second_card c.args.version c.loop-index.begun c.args.raws.now c.loop-index.index
    c.index-raws-index.result c.loop-index-test.true c.index-raws-index.is second)
    ∙ c.loop-index.invariant

pub returns-in-Some-clause-line : goal.returns-in-Some-clause-line
returns-in-Some-clause-line c =
    let first : (c.loop-index.begun && begins_card c.index-raws-index.result.octets) ≡ false =
    search rules in
    let uid : uid_line c.args.version c.index-raws-index.result.octets ≡ Some c.in-Some.line =
    search rules in
    sym (uid_there c.args.version c.loop-index.begun c.args.raws.now c.loop-index.index
    c.index-raws-index.result c.in-Some.line c.loop-index-test.true c.index-raws-index.is first
    uid) ∙ c.loop-index.invariant

pub loop-index-preserved : goal.loop-index-preserved
loop-index-preserved c =
    let first : (c.loop-index.begun && begins_card c.index-raws-index.result.octets) ≡ false =
    search rules in
    let none : uid_line c.args.version c.index-raws-index.result.octets ≡ None = search rules in
    let begun : c.has_begun-begun.result
    ≡ (c.loop-index.begun || begins_card c.index-raws-index.result.octets) = search rules in
    ap (λ b. first_uid_after c.args.version b (drop (c.loop-index.index + 1) c.args.raws.now)) begun
    ∙ (sym (no_uid_there c.args.version c.loop-index.begun c.args.raws.now c.loop-index.index
    c.index-raws-index.result c.loop-index-test.true c.index-raws-index.is first none)
    ∙ c.loop-index.invariant)

pub returns-clause-line : goal.returns-clause-line
returns-clause-line c = sym (at_end c.args.version c.loop-index.begun c.args.raws.now
    c.loop-index.index (omega arith)) ∙ c.loop-index.invariant

pub returns-in-Some-clause-spelled : goal.returns-in-Some-clause-spelled
returns-in-Some-clause-spelled c = λ raw is.
    let spelled : AreLine c.index-raws-index.result.octets c.in-Some.line = search rules in
    subst (λ r. AreLine r.octets c.in-Some.line)
    (c.index-raws-index.is ∙ (get_or_default c.args.raws.now c.loop-index.index
    c.index-raws-index.result raw c.loop-index-test.true ∙ sym is)) spelled
