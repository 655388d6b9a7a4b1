use Rattle.std.proofs.Common.{◌+◌, rules, refl, subst, false, true, inl}
use Rattle.std.proofs.lemmas.List.{take_rest}
use Rattle.vcard_import.specs.declared.rules.Reading.{Reading}
use Rattle.vcard_import.specs.internal.Steps.{Extends}
use Rattle.vcard_import.proofs.StepLemmas.{WithUid, with_uid}
use Rattle.vcard_import.proofs.card_lines.lines_with_uid.Goals as goal

-- how the logical lines before and after the UID are read, and how the UID is
abbrev others : Reading → Reading
others reading = record {
  version = reading.version;
  takes_uid = false;
  keeps_members = reading.keeps_members;
  leaves_out = reading.leaves_out;
  joins = reading.joins;
}

abbrev takes : Reading → Reading
takes reading = record {
  version = reading.version;
  takes_uid = true;
  keeps_members = reading.keeps_members;
  leaves_out = reading.leaves_out;
  joins = reading.joins;
}

made : (c : goal.In_ok-push_raws) → WithUid (takes c.args.reading) c.args.raws.now c.args.uid.line
    c.push_raws-2.new.self
made c = with_uid (others c.args.reading) (takes c.args.reading) c.args.raws.now c.args.uid.index
    c.index-raws-index.result c.args.uid.line
    c.new-made.result c.push_raws.new.self c.push.new.self c.push_raws-2.new.self
    refl refl refl refl refl refl c.requires.within c.index-raws-index.is c.requires.legal
    (c.new-made.ensures.makes c.args.reading.version) c.new-made.ensures.uid
    c.new-made.ensures.members
    c.new-made.ensures.whole c.new-made.ensures.unjoined
    (search rules) (λ p b. c.in_ok-push.ensures.extends (takes c.args.reading) p refl b (inl (record {
      line = c.args.uid.line;
      becomes = inl (record {
        spelled = c.requires.spelled c.index-raws-index.result c.index-raws-index.is;
        same = c.requires.same;
      });
      placed = inl refl;
    })))
    c.in_ok-push.ensures.lines
    (subst (λ raws. Extends (others c.args.reading) raws c.push.new.self c.push_raws-2.new.self)
    (take_rest c.args.raws.now (c.args.uid.index + 1)) c.in_ok-push_raws.ensures)

pub returns-clause-makes : goal.returns-clause-makes
returns-clause-makes c = (made c).makes

pub returns-clause-uid : goal.returns-clause-uid
returns-clause-uid c = (made c).uid

pub returns-clause-members : goal.returns-clause-members
returns-clause-members c = (made c).members

pub returns-clause-whole : goal.returns-clause-whole
returns-clause-whole c = (made c).whole

pub returns-clause-unjoined : goal.returns-clause-unjoined
returns-clause-unjoined c = (made c).unjoined
