-- What the loop over the logical lines keeps, after one more.
use Rattle.std.proofs.Common.{◌≡◌, Bool, true, false, cond, ◌||◌, List, [], ◌∷◌, ◌++◌, ◌<◌, ◌+◌}
use Rattle.std.proofs.Common.{length, take, drop, get_or, ℕ, codes, find, Option, None, Some, refl}
use Rattle.std.proofs.Common.{sym, ap, subst, ◌∙◌, append_assoc, true≢false}
use Rattle.std.specs.List.{AllByRecursion, list_any}
use Rattle.std.specs.Option.{option_or}
use Rattle.std.proofs.lemmas.List.{drop_more, take-append-drop}
use Rattle.std.proofs.lemmas.List.Folds.{find-append}
use Rattle.import_text.specs.declared.raw_line.RawLine.{RawLine}
use Rattle.vcard_lines.specs.declared.line.Line.{Line}
use Rattle.vcard_text.specs.Cards.{IsProperLine, has_line_named, line_is_named}
use Rattle.vcard_text.specs.MakingSteps.{card_line_fault, check_lines_after}
use Rattle.vcard_text.specs.Scanning.{ok_unless}
use Rattle.vcard_lines.specs.ParseSteps.{◌>>=◌}
use Rattle.vcard_changes.specs.Lines.{IsUidLine}
use Rattle.vcard_values.specs.declared.version.Version.{Version}
use Rattle.vcard_import.specs.Delimiters.{is_delimiter}
use Rattle.vcard_import.specs.declared.card_lines.CardLines.{CardLines}
use Rattle.vcard_import.specs.declared.rules.Reading.{Reading}
use Rattle.vcard_import.specs.Conversions.{BecomeCard}
use Rattle.vcard_import.specs.internal.Steps.{ArePassed, Extends, Makes, breaks_rule, found_uid}
use Rattle.vcard_import.specs.internal.Steps.{has_joined}
use Rattle.vcard_import.specs.Labels.{is_joined}
use Rattle.vcard_import.specs.LeftOut.{has_left_out, is_left_out, may_go}
use Rattle.vcard_changes.specs.declared.change.Change.{Change}
use Rattle.vcard_import.proofs.BecomeLemmas.{gone, left_out}
use Rattle.vcard_import.proofs.LeftOutLemmas.{none_more}
use Rattle.vcard_import.proofs.RuleLemmas.{body_is_free, is_no_uid, is_no_member, line_is_free}
use Rattle.vcard_import.proofs.RuleLemmas.{uid_is_allowed}

pub all_more : (lines : List Line) (line : Line) → AllByRecursion IsProperLine lines
    → IsProperLine line → AllByRecursion IsProperLine (lines ++ line ∷ [])
all_more [] line a p = (p, tt)
all_more (first ∷ lines) line a p = (a.0, all_more lines line a.1 p)

checked_more : (lines : List Line) (line : Line) (others : List Line)
    → card_line_fault lines line ≡ None → check_lines_after lines (line ∷ others)
    ≡ check_lines_after (lines ++ line ∷ []) others
unfolding check_lines_after
checked_more lines line others e =
    ap (λ f. ok_unless f (lines ++ line ∷ []) >>= (λ more. check_lines_after more others)) e

pub passed_more : (lines : List Line) (line : Line) → ArePassed lines
    → card_line_fault lines line ≡ None → ArePassed (lines ++ line ∷ [])
passed_more lines line p e = λ others. ap (check_lines_after []) (append_assoc lines (line ∷ [])
    others) ∙ p (line ∷ others) ∙ checked_more lines line others e

pub find_skips : (p : Line → Bool) (lines : List Line) (line : Line) → p line ≡ false
    → find p (lines ++ line ∷ []) ≡ find p lines
find_skips p [] line e = ap (λ t. cond t (Some line) None) e
find_skips p (first ∷ lines) line e =
    ap (λ f. cond (p first) (Some first) f) (find_skips p lines line e)

pub find_finds : (p : Line → Bool) (lines : List Line) (line : Line) → find p lines ≡ None
    → p line ≡ true → find p (lines ++ line ∷ []) ≡ Some line
find_finds p lines line n e = find-append p lines (line ∷ [])
    ∙ ap (λ f. option_or f (find p (line ∷ []))) n ∙ ap (λ t. cond t (Some line) None) e

pub any_more : {A : Type 0} (p : A → Bool) (lines : List A) (line : A)
    → list_any p (lines ++ line ∷ []) ≡ (list_any p lines || p line)
any_more p [] line = both (p line)
  where
    both : (t : Bool) → (t || false) ≡ (false || t)
    both true = refl
    both false = refl
any_more p (first ∷ lines) line = ap (λ t. p first || t) (any_more p lines line)
    ∙ assoc (p first) (list_any p lines) (p line)
  where
    assoc : (a b c : Bool) → (a || (b || c)) ≡ ((a || b) || c)
    assoc true b c = refl
    assoc false b c = refl

is_some_line : Option Line → Bool
is_some_line (Some line) = true
is_some_line None = false

-- the first line is found, or the test fails for it
none_first : (t : Bool) (first : Line) (rest : Option Line) → cond t (Some first) rest ≡ None
    → (t ≡ false) × (rest ≡ None)
unfolding is_some_line
none_first true first rest e = absurd (true≢false (ap is_some_line e))
none_first false first rest e = (refl, e)

pub none_found : (p : Line → Bool) (lines : List Line) → find p lines ≡ None
    → list_any p lines ≡ false
none_found p [] e = refl
none_found p (first ∷ lines) e =
    let n = none_first (p first) first (find p lines) e in
    ap (λ t. t || list_any p lines) n.0 ∙ none_found p lines n.1

-- ---- one more logical line

made_more : (version : Version) (before : List RawLine) (raw : RawLine) (start end : CardLines)
    (line : Line)
    → BecomeCard version (before ++ raw ∷ []) (start.lines ++ line ∷ []) end.changes
    → end.lines ≡ start.lines ++ line ∷ []
    → end.seen.uid ≡ (start.seen.uid || line_is_named (codes "UID") line)
    → end.seen.kind ≡ (start.seen.kind || line_is_named (codes "KIND") line) → IsProperLine line
    → card_line_fault start.lines line ≡ None → Makes version before start
    → Makes version (before ++ raw ∷ []) end
made_more version before raw start end line become is u k p e m = record {
  become = subst (λ l. BecomeCard version (before ++ raw ∷ []) l end.changes) (sym is) become;
  proper = subst (AllByRecursion IsProperLine) (sym is) (all_more start.lines line m.proper p);
  passed = subst ArePassed (sym is) (passed_more start.lines line m.passed e);
  seen = record {
    uid = u ∙ ap (λ t. t || line_is_named (codes "UID") line) m.seen.uid
        ∙ sym (any_more (line_is_named (codes "UID")) start.lines line)
        ∙ ap (has_line_named (codes "UID")) (sym is);
    kind = k ∙ ap (λ t. t || line_is_named (codes "KIND") line) m.seen.kind
        ∙ sym (any_more (line_is_named (codes "KIND")) start.lines line)
        ∙ ap (has_line_named (codes "KIND")) (sym is);
  };
}

both_false : (a b : Bool) → a ≡ false → b ≡ false → (a || b) ≡ false
both_false a b x y = rw (x, y) refl

pub pushed : (reading : Reading) (raw : RawLine) (start end : CardLines) (line : Line)
    → end.lines ≡ start.lines ++ line ∷ []
    → end.seen.uid ≡ (start.seen.uid || line_is_named (codes "UID") line)
    → end.seen.kind ≡ (start.seen.kind || line_is_named (codes "KIND") line)
    → ((before : List RawLine) → BecomeCard reading.version before start.lines start.changes
    → BecomeCard reading.version (before ++ raw ∷ []) (start.lines ++ line ∷ []) end.changes)
    → IsProperLine line → breaks_rule start.seen reading line ≡ false → (has_left_out start.changes ≡ false
    → has_left_out end.changes ≡ false) → (has_joined start.changes ≡ false
    → has_joined end.changes ≡ false) → Extends reading (raw ∷ []) start end
pushed reading raw start end line is u k become p h stays unjoined = record {
  makes = λ before m. made_more reading.version before raw start end line
      (become before m.become) is u k p
      (line_is_free start.lines line p (body_is_free start.lines start.seen reading line m.seen h))
      m;
  uid = λ t. ap found_uid is ∙ find_skips (line_is_named (codes "UID")) start.lines line
      (is_no_uid start.seen reading line t h);
  members = λ t none. ap (has_line_named (codes "MEMBER")) is
      ∙ any_more (line_is_named (codes "MEMBER")) start.lines line
      ∙ both_false (has_line_named (codes "MEMBER") start.lines) (line_is_named (codes "MEMBER")
      line) none (is_no_member start.seen reading line t h);
  whole = λ t none. stays none;
  unjoined = λ t none. unjoined none;
}

pub skipped : (reading : Reading) (raw : RawLine) (start : CardLines)
    → is_delimiter raw.octets ≡ true → Extends reading (raw ∷ []) start start
skipped reading raw start d = record {
  makes = λ before m. record {
    become = left_out reading.version before raw start.lines start.changes d m.become;
    proper = m.proper;
    passed = m.passed;
    seen = m.seen;
  };
  uid = λ t. refl;
  members = λ t none. none;
  whole = λ t none. none;
  unjoined = λ t none. none;
}

-- the logical line has no line of its own, and a change says why
pub left : (reading : Reading) (raw : RawLine) (start end : CardLines) (change : Change)
    → change.place ≡ raw.place → may_go change.kind raw ≡ true → (reading.leaves_out ≡ false
    → is_left_out change ≡ false) → (reading.joins ≡ false → is_joined change ≡ false)
    → end.lines ≡ start.lines → end.seen ≡ start.seen → end.changes ≡ start.changes ++ change ∷ []
    → Extends reading (raw ∷ []) start end
left reading raw start end change place may stays unjoined lines seen changes = record {
  makes = λ before m. record {
    become = subst (λ c. BecomeCard reading.version (before ++ raw ∷ []) end.lines c) (sym changes)
        (subst (λ l. BecomeCard reading.version (before ++ raw ∷ []) l
        (start.changes ++ change ∷ [])) (sym lines)
        (gone reading.version before raw start.lines start.changes change place may m.become));
    proper = subst (AllByRecursion IsProperLine) (sym lines) m.proper;
    passed = subst ArePassed (sym lines) m.passed;
    seen = record {
      uid = ap (λ s. s.uid) seen ∙ m.seen.uid ∙ ap (has_line_named (codes "UID")) (sym lines);
      kind = ap (λ s. s.kind) seen ∙ m.seen.kind ∙ ap (has_line_named (codes "KIND")) (sym lines);
    };
  };
  uid = λ t. ap found_uid lines;
  members = λ t none. ap (has_line_named (codes "MEMBER")) lines ∙ none;
  whole = λ t none. subst (λ c. has_left_out c ≡ false) (sym changes)
      (none_more is_left_out start.changes change (stays t) none);
  unjoined = λ t none. subst (λ c. has_joined c ≡ false) (sym changes)
      (none_more is_joined start.changes change (unjoined t) none);
}

-- ---- the logical lines of a card

split_whole : (raws : List RawLine) (index : ℕ) (raw : RawLine) → index < length raws
    → raw ≡ get_or raws index raw → take index raws ++ raw ∷ drop (index + 1) raws ≡ raws
split_whole raws index raw l is = ap (λ r. take index raws ++ r)
    (ap (λ x. x ∷ drop (index + 1) raws) is ∙ sym (drop_more raws index raw l))
    ∙ take-append-drop index raws

-- one of the logical lines is the UID
pub record WithUid (reading : Reading) (raws : List RawLine) (line : Line) (made : CardLines) :
    Type 0 where
  pub makes : Makes reading.version raws made
  pub uid : found_uid made.lines ≡ Some line
  pub members : reading.keeps_members ≡ false → has_line_named (codes "MEMBER") made.lines ≡ false
  pub whole : reading.leaves_out ≡ false → has_left_out made.changes ≡ false
  pub unjoined : reading.joins ≡ false → has_joined made.changes ≡ false

pub with_uid : (others reading : Reading) (raws : List RawLine) (index : ℕ) (raw : RawLine) (line :
    Line) (start a b end : CardLines) → others.version ≡ reading.version
    → others.takes_uid ≡ false → reading.takes_uid ≡ true
    → others.keeps_members ≡ reading.keeps_members → others.leaves_out ≡ reading.leaves_out
    → others.joins ≡ reading.joins → index < length raws → raw ≡ get_or raws index raw
    → IsUidLine line → Makes others.version [] start → found_uid start.lines ≡ None
    → has_line_named (codes "MEMBER") start.lines ≡ false → has_left_out start.changes ≡ false
    → has_joined start.changes ≡ false → Extends others (take index raws) start a
    → (IsProperLine line → breaks_rule a.seen reading line ≡ false → Extends reading (raw ∷ []) a b)
    → b.lines ≡ a.lines ++ line ∷ [] → Extends others (drop (index + 1) raws) b end
    → WithUid reading raws line end
with_uid others reading raws index raw line start a b end one none takes keeps leaves joins l is u
    made found members whole unjoined before push lines after =
    let at : Makes reading.version (take index raws) a =
    subst (λ v. Makes v (take index raws) a) one (before.makes [] made) in
    let unfound : found_uid a.lines ≡ None = before.uid none ∙ found in
    let unseen : a.seen.uid ≡ false = at.seen.uid ∙ none_found (line_is_named (codes "UID")) a.lines
    unfound in
    let pushed : Extends reading (raw ∷ []) a b =
    push u.proper (uid_is_allowed a.seen reading line u unseen takes) in
    record {
      makes = subst (λ r. Makes reading.version r end) (append_assoc (take index raws) (raw ∷ [])
          (drop (index + 1) raws) ∙ split_whole raws index raw l is)
          (subst (λ v. Makes v ((take index raws ++ raw ∷ []) ++ drop (index + 1) raws) end) one
          (after.makes (take index raws ++ raw ∷ [])
          (subst (λ v. Makes v (take index raws ++ raw ∷ []) b) (sym one)
          (pushed.makes (take index raws) at))));
      uid = after.uid none ∙ ap found_uid lines ∙ find_finds (line_is_named (codes "UID")) a.lines
          line unfound u.named;
      members = λ k. after.members (keeps
          ∙ k) (pushed.members k (before.members (keeps ∙ k) members));
      whole = λ k. after.whole (leaves ∙ k) (pushed.whole k (before.whole (leaves ∙ k) whole));
      unjoined = λ k. after.unjoined (joins
          ∙ k) (pushed.unjoined k (before.unjoined (joins ∙ k) unjoined));
    }
