use Rattle.std.proofs.Common.{◌≡◌, false, ◌++◌, ◌∙◌, map, Some, rules, sym, ap, subst}
use Rattle.vcard_import.specs.Conversions.{card_raw_lines, missing_lines, addition}
use Rattle.vcard_text.specs.Cards.{uid_of}
use Rattle.vcard_import.specs.FirstUid.{first_uid}
use Rattle.vcard_import.specs.Versions.{version_of}
use Rattle.vcard_import.specs.internal.Steps.{AreFaultless, Makes}
use Rattle.vcard_import.specs.LeftOut.{has_left_out, is_left_out}
use Rattle.vcard_import.proofs.LeftOutLemmas.{none_added, none_in_both}
use Rattle.vcard_import.proofs.MissingLemmas.{all_are_faultless, uid_stays}
use Rattle.vcard_import.proofs.conversion.convert_lines.Goals as goal

lines_are : (c : goal.After-drop-raws-2) → c.add_lines.new.lines ≡ c.in_ok-lines.field-0.lines
    ++ missing_lines c.args.octets.now c.in_ok-missing.ensures.0 c.in_ok-lines.field-0.lines
lines_are c = c.in_ok-add_lines.ensures.lines
    ∙ ap (λ missing. c.in_ok-lines.field-0.lines ++ missing) (c.in_ok-missing.ensures.3
    ∙ ap (missing_lines c.args.octets.now c.in_ok-missing.ensures.0) c.as_slice-2.ensures)

changes_are : (c : goal.After-drop-raws-2) → c.add_lines.new.changes ≡ c.in_ok-lines.field-0.changes
    ++ map addition (missing_lines c.args.octets.now c.in_ok-missing.ensures.0
    c.in_ok-lines.field-0.lines)
changes_are c = search rules

raws_are : (c : goal.After-drop-raws-2) → c.in_ok-raws.raws.items ≡ card_raw_lines c.args.octets.now
raws_are c = c.in_ok-raws.ensures.lines

made : (c : goal.After-drop-raws-2) → Makes (version_of c.args.octets.now)
    (card_raw_lines c.args.octets.now) c.in_ok-lines.field-0
made c = subst (λ version. Makes version (card_raw_lines c.args.octets.now) c.in_ok-lines.field-0)
    c.version_of-version.ensures
    (subst (λ raws. Makes c.version_of-version.result raws c.in_ok-lines.field-0)
    (c.as_slice.ensures.value ∙ raws_are c) c.in_ok-lines.ensures.makes)

pub returns-clause-converted : goal.returns-clause-converted
returns-clause-converted c = record {
  lines = c.in_ok-lines.field-0.lines;
  reported = c.in_ok-lines.field-0.changes;
  become = (made c).become;
  labels = c.in_ok-lines.ensures.labels;
  name = c.in_ok-missing.ensures.0;
  card_is = lines_are c;
  changes_are = changes_are c;
  uid = λ line found.
      let there : first_uid c.version_of-version.result c.as_slice.result.now ≡ Some line =
      ap (λ version. first_uid version c.as_slice.result.now) c.version_of-version.ensures
      ∙ ap (first_uid (version_of c.args.octets.now)) (c.as_slice.ensures.value ∙ raws_are c)
      ∙ found in
      ap uid_of (lines_are c) ∙ uid_stays c.in_ok-lines.field-0.lines
      (missing_lines c.args.octets.now c.in_ok-missing.ensures.0 c.in_ok-lines.field-0.lines)
      line (c.in_ok-lines.ensures.uid line there);
}

pub returns-clause-faultless : goal.returns-clause-faultless
returns-clause-faultless c =
    subst AreFaultless (sym (lines_are c)) (all_are_faultless c.args.octets.now
    c.in_ok-missing.ensures.0 c.in_ok-lines.field-0.lines (made c).proper (made c).passed
    c.in_ok-lines.ensures.members c.in_ok-missing.ensures.2 c.in_ok-missing.ensures.1)

pub returns-clause-whole : goal.returns-clause-whole
returns-clause-whole c = λ whole.
    let missing = missing_lines c.args.octets.now c.in_ok-missing.ensures.0
    c.in_ok-lines.field-0.lines in
    subst (λ changes. has_left_out changes ≡ false) (sym (changes_are c))
    (none_in_both is_left_out c.in_ok-lines.field-0.changes (map addition missing)
    (c.in_ok-lines.ensures.whole whole) (none_added missing))
