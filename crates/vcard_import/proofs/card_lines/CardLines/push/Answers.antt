use Rattle.std.proofs.Common.{rules}
use Rattle.vcard_property.specs.SameLines.{AreLine}
use Rattle.vcard_import.proofs.BecomeLemmas.{kept, changed}
use Rattle.vcard_import.proofs.LeftOutLemmas.{kind_is_unjoined, kind_stays, none_more}
use Rattle.vcard_import.proofs.StepLemmas.{pushed}
use Rattle.vcard_import.specs.Labels.{is_joined}
use Rattle.vcard_import.specs.LeftOut.{is_left_out}
use Rattle.vcard_import.proofs.card_lines.CardLines.push.Goals as goal
use Rattle.vcard_import.proofs.card_lines.CardLines.push.Goals.{then-not-branch+in_ok-push}
use Rattle.vcard_import.proofs.card_lines.CardLines.push.Goals.{else-not-branch}

pub returns-clause-extends : goal.returns-clause-extends
returns-clause-extends c = λ reading proper kind allowed made.
    elim c.if-not-branch.branch [
      | then-not-branch+in_ok-push w ↦
          let differs : AreLine c.args.raw.now.octets c.args.line → ⊥ = search rules in
          rw (c.in_ok-push-2.ensures.ok, w.self-is, w.in_ok-push.ensures.ok)
          (pushed reading c.args.raw.now c.args.self.now _ c.args.line (search rules) (search rules)
          (search rules)
          (λ before b. changed reading.version before c.args.raw.now c.args.self.now.lines
          c.args.self.now.changes
          c.args.line (record { place = c.args.raw.now.place; kind = c.args.kind }) differs
          (λ _. c.args.raw.now.place) kind made b) proper allowed
          (none_more is_left_out c.args.self.now.changes (record {
            place = c.args.raw.now.place;
            kind = c.args.kind;
          }) (kind_stays c.args.kind c.args.line kind))
          (none_more is_joined c.args.self.now.changes (record {
            place = c.args.raw.now.place;
            kind = c.args.kind;
          }) (kind_is_unjoined c.args.kind c.args.line kind)))
      | else-not-branch w ↦
          let same : AreLine c.args.raw.now.octets c.args.line = search rules in
          rw (c.in_ok-push-2.ensures.ok, w.self-is)
          (pushed reading c.args.raw.now c.args.self.now _ c.args.line (search rules) (search rules)
          (search rules)
          (λ before b. kept reading.version before c.args.raw.now c.args.self.now.lines
          c.args.self.now.changes
          c.args.line same made b) proper allowed (λ none. none) (λ none. none))
    ]
