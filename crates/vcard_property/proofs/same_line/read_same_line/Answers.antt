use Rattle.std.proofs.Common.{◌≡◌, rules, true, Ok, sym}
use Rattle.std.proofs.lemmas.Bool.{false_from_ne_true}
use Rattle.std.proofs.lemmas.Str.{IsUtf8-from_is_utf8}
use Rattle.vcard_lines.specs.Parsing.{parse_line}
use Rattle.vcard_property.specs.SameLines.{is_same_in}
use Rattle.vcard_property.proofs.SameLemmas.{are_proper, none_without_utf8, same_is_found}
use Rattle.vcard_property.proofs.same_line.read_same_line.Goals as goal

pub returns-in_default-clause-line : goal.returns-in_default-clause-line
returns-in_default-clause-line c =
    sym (none_without_utf8 c.args.version c.args.octets.now
    (false_from_ne_true _ (λ e. c.in_default.ensures.cases.0
    (IsUtf8-from_is_utf8 c.args.octets.now e))))

pub returns-in-Ok-read_line-clause-line : goal.returns-in-Ok-read_line-clause-line
returns-in-Ok-read_line-clause-line c =
    let spelled : parse_line c.args.octets.now ≡ Ok c.in-Ok-read_line.line = search rules in
    let same : is_same_in c.args.version c.in-Ok-read_line.line ≡ true = search rules in
    sym (same_is_found c.args.version c.args.octets.now c.in-Ok-read_line.line
    (record { utf8 = c.in-Ok.ensures.cases.1; spelled = spelled }) same)

pub returns-in-Ok-read_line-clause-proper : goal.returns-in-Ok-read_line-clause-proper
returns-in-Ok-read_line-clause-proper c =
    let spelled : parse_line c.args.octets.now ≡ Ok c.in-Ok-read_line.line = search rules in
    are_proper c.args.octets.now c.in-Ok-read_line.line (record {
      utf8 = c.in-Ok.ensures.cases.1;
      spelled = spelled;
    })

pub returns-in-Ok-read_line-clause-spelled : goal.returns-in-Ok-read_line-clause-spelled
returns-in-Ok-read_line-clause-spelled c =
    let spelled : parse_line c.args.octets.now ≡ Ok c.in-Ok-read_line.line = search rules in
    record { utf8 = c.in-Ok.ensures.cases.1; spelled = spelled }
