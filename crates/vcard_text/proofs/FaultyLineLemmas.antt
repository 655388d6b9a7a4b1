-- The fault of a logical line, as the scan finds it, is the least-numbered that the line has. Given
-- here: the tests of a line in the order of their faults (`by_tests`), and at each place of the
-- scan which of them fail by themselves, since a line has one name and BEGIN and VERSION are no
-- UID, KIND or END.
use Rattle.std.proofs.Common.{◌≡◌, ℕ, ◌≤◌, Bool, true, false, cond, ◌||◌, ◌&&◌, List, [], ◌∷◌, ◌++◌}
use Rattle.std.proofs.Common.{bytes_eq, Option, Some, None, Result, Ok, Err, ⊎_elim, refl, sym, ap}
use Rattle.std.proofs.Common.{subst, ◌∙◌, lit≤}
use Rattle.std.specs.Prelude.{not, codes}
use Rattle.std.specs.List.{list_any, list_all}
use Rattle.std.proofs.lemmas.Bool.{and_parts, both_ways}
use Rattle.std.proofs.lemmas.Slice.Eq.{bytes_eq-Decides}
use Rattle.vcard_lines.specs.declared.fault.CardFault.{CardFault}
use Rattle.vcard_lines.specs.declared.fault.CardFault.TheVariants.{BadChar, BadLine, NoBegin}
use Rattle.vcard_lines.specs.declared.fault.CardFault.TheVariants.{BadVersion, BadUid, Twice}
use Rattle.vcard_lines.specs.declared.line.Line.{Line}
use Rattle.vcard_text.specs.declared.scan.Place.{Place}
use Rattle.vcard_text.specs.declared.scan.Place.TheVariants.{First, Second, Body, After}
use Rattle.vcard_lines.specs.FaultNumbers.{card_fault_number}
use Rattle.vcard_lines.specs.Grammar.{AllInClass, is_permitted, SpellsLine}
use Rattle.vcard_lines.specs.Parsing.{parse_line}
use Rattle.vcard_text.specs.Cards.{line_is_named, has_line_named, is_uid}
use Rattle.vcard_text.specs.Spelling.{is_card_delimiter, is_begin, is_version, is_end}
use Rattle.vcard_text.specs.FirstFaults.{IsLeastFault, has_no_lines, is_malformed_end}
use Rattle.vcard_text.specs.FirstFaults.{repeats_uid_or_kind, line_breaks_rule, LogicalLineHasFault}
use Rattle.vcard_text.specs.FirstFaults.{of_characters, of_grammar, of_rules}
use Rattle.vcard_text.specs.Scanning.{scan_at, fault_if, first_line_fault, second_line_fault}
use Rattle.vcard_text.specs.Scanning.{body_line_fault, line_fault, next_scan}
use Rattle.vcard_text.proofs.RuleLemmas.{no_fault}
use Rattle.vcard_lines.proofs.FrontLemmas.{of_class, all_of_class}
use Rattle.vcard_lines.proofs.LineLemmas.{line_again, one_line}
use Rattle.vcard_lines.proofs.FailLemmas.{line_fails}
use Rattle.vcard_text.proofs.LeastLemmas.{least_of, found_or_none, least_found, none_passes}
use Rattle.vcard_text.proofs.LeastLemmas.{least_again, least_along}
use Rattle.base_types.proofs.BoolLemmas.{or_false}

-- ---- names

-- a line has one name
pub other_name : (line : Line) (name other : List ℕ) → bytes_eq name other ≡ false
    → line_is_named name line ≡ true → line_is_named other line ≡ false
other_name line name other apart e =
    ap (λ n. bytes_eq n other) ((bytes_eq-Decides line.name name).0 e) ∙ apart

pub bracket_name : (name : List ℕ) (line : Line) → is_card_delimiter name line ≡ true
    → line_is_named name line ≡ true
bracket_name name line e =
    (and_parts (line_is_named name line) _ (and_parts _ _ (and_parts _ _ e).0).0).0

pub version_name : (line : Line) → is_version line ≡ true → line_is_named (codes "VERSION") line
    ≡ true
version_name line e = (and_parts (line_is_named (codes "VERSION") line) _ (and_parts _ _ e).0).0

no_bracket : (name : List ℕ) (line : Line) → line_is_named name line ≡ false
    → is_card_delimiter name line ≡ false
no_bracket name line e = rw e refl

-- ---- tests in the order of their faults

-- the first fault of a line whose tests are these
abbrev by_tests : Bool → Bool → Bool → Bool → Bool → Option CardFault
by_tests bad_line no_begin bad_version bad_uid twice =
    fault_if bad_line BadLine (fault_if no_begin NoBegin (fault_if bad_version BadVersion
    (fault_if bad_uid BadUid (fault_if twice Twice None))))

tests_of : (before : List Line) (line : Line) → least_of (line_breaks_rule before line)
    ≡ by_tests (line_breaks_rule before line BadLine) (line_breaks_rule before line NoBegin)
    (line_breaks_rule before line BadVersion) (line_breaks_rule before line BadUid)
    (line_breaks_rule before line Twice)
tests_of before line = refl

same_tests : (a b c d e a' b' c' d' e' : Bool) → a ≡ a' → b ≡ b' → c ≡ c' → d ≡ d' → e ≡ e'
    → by_tests a b c d e ≡ by_tests a' b' c' d' e'
same_tests a b c d e a' b' c' d' e' p q r s t =
    ap (λ x. by_tests x b c d e) p ∙ ap (λ x. by_tests a' x c d e) q
    ∙ ap (λ x. by_tests a' b' x d e) r ∙ ap (λ x. by_tests a' b' c' x e) s
    ∙ ap (λ x. by_tests a' b' c' d' x) t

and_false : (b : Bool) → (b && false) ≡ false
and_false true = refl
and_false false = refl

and_true : (b : Bool) → (b && true) ≡ b
and_true true = refl
and_true false = refl

-- a line that is neither named UID nor KIND is no second one
not_repeated : (before : List Line) (line : Line) → line_is_named (codes "UID") line ≡ false
    → line_is_named (codes "KIND") line ≡ false → repeats_uid_or_kind before line ≡ false
not_repeated before line u k = ap (λ b. (b && has_line_named (codes "UID") before)
    || (line_is_named (codes "KIND") line && has_line_named (codes "KIND") before)) u
    ∙ ap (λ b. b && has_line_named (codes "KIND") before) k

none_repeated : (line : Line) → repeats_uid_or_kind [] line ≡ false
none_repeated line = ap (λ b. b || (line_is_named (codes "KIND") line && false))
    (and_false (line_is_named (codes "UID") line)) ∙ and_false (line_is_named (codes "KIND") line)

-- ---- the first line

first_tests : (line : Line) → least_of (line_breaks_rule [] line) ≡ first_line_fault line
first_tests line =
    tests_of [] line
    ∙ elim (is_begin line) as (λ b. is_begin line ≡ b
    → by_tests (is_malformed_end line) (not b) (line_is_named (codes "VERSION") line)
    (line_is_named (codes "UID") line && not (is_uid line.value)) (repeats_uid_or_kind [] line)
    ≡ fault_if (is_malformed_end line) BadLine (cond b None (Some NoBegin))) [
      | true ↦ λ e.
          let named = bracket_name (codes "BEGIN") line e in
          same_tests (is_malformed_end line) false _ _ _ (is_malformed_end line) false false false
          false refl refl (other_name line (codes "BEGIN") (codes "VERSION") refl named)
          (ap (λ b. b && not (is_uid line.value)) (other_name line (codes "BEGIN") (codes "UID")
          refl named)) (none_repeated line)
      | false ↦ λ e. refl
    ] refl

-- ---- the second line

second_tests : (begin line : Line) → is_begin begin ≡ true
    → least_of (line_breaks_rule (begin ∷ []) line) ≡ second_line_fault line
second_tests begin line s =
    let named = bracket_name (codes "BEGIN") begin s in
    let no_end : list_any is_end (begin ∷ []) ≡ false =
    ap (λ b. b || false) (no_bracket (codes "END") begin (other_name begin (codes "BEGIN")
    (codes "END") refl named)) in
    tests_of (begin ∷ []) line
    ∙ ap (λ b. by_tests ((b || line_is_named (codes "BEGIN") line) || is_malformed_end line) false
    (not (is_version line) || false) (line_is_named (codes "UID") line
    && not (is_uid line.value)) (repeats_uid_or_kind (begin ∷ []) line)) no_end
    ∙ ap (λ b. by_tests (line_is_named (codes "BEGIN") line || is_malformed_end line) false b
    (line_is_named (codes "UID") line && not (is_uid line.value))
    (repeats_uid_or_kind (begin ∷ []) line)) (or_false (not (is_version line)))
    ∙ elim (is_version line) as (λ b. is_version line ≡ b
    → by_tests (line_is_named (codes "BEGIN") line || is_malformed_end line) false (not b)
    (line_is_named (codes "UID") line && not (is_uid line.value))
    (repeats_uid_or_kind (begin ∷ []) line)
    ≡ fault_if (line_is_named (codes "BEGIN") line || is_malformed_end line) BadLine
    (cond b None (Some BadVersion))) [
      | true ↦ λ e.
          let is = version_name line e in
          let no_uid = other_name line (codes "VERSION") (codes "UID") refl is in
          let no_kind = other_name line (codes "VERSION") (codes "KIND") refl is in
          same_tests (line_is_named (codes "BEGIN") line || is_malformed_end line) false false _ _
          (line_is_named (codes "BEGIN") line || is_malformed_end line) false false false false
          refl refl refl
          (ap (λ b. b && not (is_uid line.value)) no_uid) (not_repeated (begin ∷ []) line no_uid
          no_kind)
      | false ↦ λ e. refl
    ] refl

-- ---- a line between VERSION and END

-- the lines before it: BEGIN, VERSION and the card's lines so far
pub record AreBefore (lines before : List Line) : Type 0 where
  pub begin : Line
  pub version : Line
  pub is_begin_line : is_begin begin ≡ true
  pub is_version_line : is_version version ≡ true
  pub no_end : list_any is_end lines ≡ false
  pub are : before ≡ begin ∷ version ∷ lines

module _ (begin version : Line) (lines : List Line) (s : is_begin begin ≡ true) (v :
    is_version version ≡ true) where
  pub end_after : list_any is_end (begin ∷ version ∷ lines) ≡ list_any is_end lines
  end_after =
      ap (λ b. b || (is_end version || list_any is_end lines)) (no_bracket (codes "END") begin
      (other_name begin (codes "BEGIN") (codes "END") refl (bracket_name (codes "BEGIN") begin
      s)))
      ∙ ap (λ b. b || list_any is_end lines) (no_bracket (codes "END") version
      (other_name version (codes "VERSION") (codes "END") refl (version_name version v)))

  pub named_after : (name : List ℕ) → bytes_eq (codes "BEGIN") name ≡ false
      → bytes_eq (codes "VERSION") name ≡ false → has_line_named name (begin ∷ version ∷ lines)
      ≡ has_line_named name lines
  named_after name b w =
      ap (λ t. t || (line_is_named name version || has_line_named name lines))
      (other_name begin (codes "BEGIN") name b (bracket_name (codes "BEGIN") begin s))
      ∙ ap (λ t. t || has_line_named name lines) (other_name version (codes "VERSION") name w
      (version_name version v))

  repeated_after : (line : Line) → repeats_uid_or_kind (begin ∷ version ∷ lines) line
      ≡ repeats_uid_or_kind lines line
  repeated_after line =
      ap (λ b. (line_is_named (codes "UID") line && b) || (line_is_named (codes "KIND") line
      && has_line_named (codes "KIND") (begin ∷ version ∷ lines))) (named_after (codes "UID")
      refl refl)
      ∙ ap (λ b. (line_is_named (codes "UID") line && has_line_named (codes "UID") lines)
      || (line_is_named (codes "KIND") line && b)) (named_after (codes "KIND") refl refl)

  abbrev uid_test : Line → Bool
  uid_test line = line_is_named (codes "UID") line && not (is_uid line.value)

  body_tests : (line : Line) → list_any is_end lines ≡ false
      → least_of (line_breaks_rule (begin ∷ version ∷ lines) line) ≡ cond (is_end line) None
      (body_line_fault lines line)
  unfolding body_line_fault
  body_tests line none =
      tests_of (begin ∷ version ∷ lines) line
      ∙ ap (λ b. by_tests ((b || line_is_named (codes "BEGIN") line) || is_malformed_end line) false
      (line_is_named (codes "VERSION") line) (uid_test line)
      (repeats_uid_or_kind (begin ∷ version ∷ lines) line)) (end_after ∙ none)
      ∙ ap (λ b. by_tests (line_is_named (codes "BEGIN") line || is_malformed_end line) false
      (line_is_named (codes "VERSION") line) (uid_test line) b) (repeated_after line)
      ∙ elim (is_end line) as (λ b. is_end line ≡ b
      → by_tests (line_is_named (codes "BEGIN") line || (line_is_named (codes "END") line
      && not b)) false (line_is_named (codes "VERSION") line) (uid_test line)
      (repeats_uid_or_kind lines line)
      ≡ cond b None (by_tests (line_is_named (codes "BEGIN") line || line_is_named (codes "END")
      line) false (line_is_named (codes "VERSION") line) (uid_test line)
      (repeats_uid_or_kind lines line))) [
        | true ↦ λ e.
            let is = bracket_name (codes "END") line e in
            let no_uid = other_name line (codes "END") (codes "UID") refl is in
            let no_kind = other_name line (codes "END") (codes "KIND") refl is in
            same_tests _ false _ _ _ false false false false false
            (ap (λ b. b || (line_is_named (codes "END") line && false))
            (other_name line (codes "END") (codes "BEGIN") refl is)
            ∙ and_false (line_is_named (codes "END") line))
            refl (other_name line (codes "END") (codes "VERSION") refl is)
            (ap (λ b. b && not (is_uid line.value)) no_uid) (not_repeated lines line no_uid
            no_kind)
        | false ↦ λ e. ap (λ b. by_tests (line_is_named (codes "BEGIN") line || b) false
            (line_is_named (codes "VERSION") line) (uid_test line) (repeats_uid_or_kind lines line))
            (and_true (line_is_named (codes "END") line))
      ] refl

-- ---- a line after END

after_tests : (before : List Line) (line : Line) → list_any is_end before ≡ true
    → least_of (line_breaks_rule before line) ≡ Some BadLine
after_tests before line e =
    ap (λ b. by_tests ((b || (not (has_no_lines before) && line_is_named (codes "BEGIN") line))
    || is_malformed_end line) (line_breaks_rule before line NoBegin) (line_breaks_rule before line
    BadVersion) (line_breaks_rule before line BadUid) (line_breaks_rule before line Twice)) e

-- ---- the place of a line

-- the lines before a line after END
pub record AreBeforeLast (lines before : List Line) : Type 0 where
  pub begin : Line
  pub version : Line
  pub last : Line
  pub is_begin_line : is_begin begin ≡ true
  pub is_version_line : is_version version ≡ true
  pub is_end_line : is_end last ≡ true
  pub are : before ≡ begin ∷ version ∷ (lines ++ last ∷ [])

-- the place and the card's lines so far are those after the lines `before`
abbrev pub IsScanPlace : Place → List Line → List Line → Type 0
IsScanPlace First lines before = (lines ≡ []) × (before ≡ [])
IsScanPlace Second lines before = (lines ≡ []) × ((begin : Line) × (is_begin begin ≡ true)
    × (before ≡ begin ∷ []))
IsScanPlace Body lines before = AreBefore lines before
IsScanPlace After lines before = AreBeforeLast lines before

pub any_append : (p : Line → Bool) (xs ys : List Line)
    → list_any p (xs ++ ys) ≡ (list_any p xs || list_any p ys)
any_append p [] ys = refl
any_append p (x ∷ xs) ys = ap (λ b. p x || b) (any_append p xs ys)
    ∙ assoc (p x) (list_any p xs) (list_any p ys)
  where
    assoc : (a b c : Bool) → (a || (b || c)) ≡ ((a || b) || c)
    assoc true b c = refl
    assoc false b c = refl

or_true : (b : Bool) → (b || true) ≡ true
or_true true = refl
or_true false = refl

pub has_ended : (lines before : List Line) → AreBeforeLast lines before
    → list_any is_end before ≡ true
has_ended lines before a =
    ap (list_any is_end) a.are
    ∙ end_after a.begin a.version (lines ++ a.last ∷ []) a.is_begin_line a.is_version_line
    ∙ any_append is_end lines (a.last ∷ [])
    ∙ ap (λ b. list_any is_end lines || (b || false)) a.is_end_line
    ∙ or_true (list_any is_end lines)

pub same_fault : (place : Place) (lines before : List Line) → IsScanPlace place lines before
    → (line : Line) → line_fault place lines line ≡ least_of (line_breaks_rule before line)
unfolding line_fault
same_fault First lines before s line = sym (ap (λ b. least_of (line_breaks_rule b line)) s.1
    ∙ first_tests line)
same_fault Second lines before s line = sym (ap (λ b. least_of (line_breaks_rule b line)) s.1.2
    ∙ second_tests s.1.0 line s.1.1)
same_fault Body lines before a line = sym (ap (λ b. least_of (line_breaks_rule b line)) a.are
    ∙ body_tests a.begin a.version lines a.is_begin_line a.is_version_line line a.no_end)
same_fault After lines before a line = sym (after_tests before line (has_ended lines before a))

passes : (test : Bool) (fault : CardFault) → cond test None (Some fault) ≡ None → test ≡ true
passes true fault e = refl
passes false fault e = absurd (cc)

abbrev next_place : Place → List Line → Line → List Line → Type 0
next_place place lines line before =
    IsScanPlace (next_scan place lines line).place (next_scan place lines line).lines before

pub at_next_place : (place : Place) (lines before : List Line) → IsScanPlace place lines before
    → (line : Line) → line_fault place lines line ≡ None
    → next_place place lines line (before ++ line ∷ [])
unfolding line_fault next_scan
at_next_place First lines before s line e = (
  s.0,
  (
    line,
    passes (is_begin line) NoBegin (no_fault (is_malformed_end line) BadLine _ e).1,
    ap (λ b. b ++ line ∷ []) s.1,
  ),
)
at_next_place Second lines before s line e = record {
  begin = s.1.0;
  version = line;
  is_begin_line = s.1.1;
  is_version_line = passes (is_version line) BadVersion (no_fault _ BadLine _ e).1;
  no_end = ap (list_any is_end) s.0;
  are = ap (λ b. b ++ line ∷ []) s.1.2 ∙ ap (λ ls. s.1.0 ∷ line ∷ ls) (sym s.0);
}
at_next_place Body lines before a line e =
    elim (is_end line) as (λ b. is_end line ≡ b
    → IsScanPlace (cond b (scan_at After lines) (scan_at Body (lines ++ line ∷ []))).place
    (cond b (scan_at After lines) (scan_at Body (lines ++ line ∷ []))).lines
    (before ++ line ∷ [])) [
      | true ↦ λ t. record {
        begin = a.begin;
        version = a.version;
        last = line;
        is_begin_line = a.is_begin_line;
        is_version_line = a.is_version_line;
        is_end_line = t;
        are = ap (λ b. b ++ line ∷ []) a.are;
      }
      | false ↦ λ t. record {
        begin = a.begin;
        version = a.version;
        is_begin_line = a.is_begin_line;
        is_version_line = a.is_version_line;
        no_end = any_append is_end lines (line ∷ [])
            ∙ ap (λ b. b || (is_end line || false)) a.no_end ∙ ap (λ b. b || false) t;
        are = ap (λ b. b ++ line ∷ []) a.are;
      }
    ] refl
at_next_place After lines before a line e = absurd (cc)

-- ---- the logical line

-- a text that spells a line has exactly the line's faults
spelled_to : (before : List Line) (text : List ℕ) (line : Line) → SpellsLine text line
    → (fault : CardFault) → LogicalLineHasFault before text fault
    → line_breaks_rule before line fault ≡ true
spelled_to before text line s fault (of_characters is bad) = absurd (bad s.permitted)
spelled_to before text line s fault (of_grammar is none) = absurd (none line s)
spelled_to before text line s fault (of_rules other t h) =
    subst (λ l. line_breaks_rule before l fault ≡ true) (one_line text other line t s) h

pub least_of_spelled : (before : List Line) (text : List ℕ) (line : Line) (fault : CardFault)
    → SpellsLine text line → least_of (line_breaks_rule before line) ≡ Some fault
    → IsLeastFault (LogicalLineHasFault before text) fault
least_of_spelled before text line fault s e =
    least_along (λ f. line_breaks_rule before line f ≡ true) (LogicalLineHasFault before text) fault
    (λ f h. of_rules line s h) (spelled_to before text line s)
    (least_found (line_breaks_rule before line) fault e)

pub spelled_least : (before : List Line) (text : List ℕ) (line : Line) (fault : CardFault)
    → SpellsLine text line → IsLeastFault (LogicalLineHasFault before text) fault
    → least_of (line_breaks_rule before line) ≡ Some fault
spelled_least before text line fault s l =
    least_again (line_breaks_rule before line) fault (least_along (LogicalLineHasFault before text)
    (λ f. line_breaks_rule before line f ≡ true) fault (spelled_to before text line s)
    (λ f h. of_rules line s h) l)

pub spelled_none : (before : List Line) (text : List ℕ) (line : Line) → SpellsLine text line
    → ((fault : CardFault) → LogicalLineHasFault before text fault → ⊥)
    → least_of (line_breaks_rule before line) ≡ None
spelled_none before text line s none = ⊎_elim
    (λ e. e)
    (λ some. absurd (none some.0 (of_rules line s (least_found (line_breaks_rule before line) some.0
    some.1).has_it)))
    (found_or_none (least_of (line_breaks_rule before line)))

pub none_spelled : (before : List Line) (text : List ℕ) (line : Line) → SpellsLine text line
    → least_of (line_breaks_rule before line) ≡ None → (fault : CardFault)
    → LogicalLineHasFault before text fault → ⊥
none_spelled before text line s e fault h =
    both_ways (line_breaks_rule before line fault) (none_passes (line_breaks_rule before line) e
    fault) (spelled_to before text line s fault h)

-- a text that isn't read has the fault for which it isn't
not_read : (text : List ℕ) (line : Line) (fault : CardFault) → parse_line text ≡ Err fault
    → SpellsLine text line → ⊥
not_read text line fault e s = apart (sym e ∙ line_again text line s)
  where
    apart : ◌≡◌ {A = Result Line CardFault} (Err fault) (Ok line) → ⊥
    apart h = cc

no_less_number : (f g f' g' : CardFault) → f ≡ f' → g ≡ g'
    → card_fault_number f' ≤ card_fault_number g' → card_fault_number f ≤ card_fault_number g
no_less_number f g f' g' p q l = rw (p, q) l

least_character : (before : List Line) (text : List ℕ) (fault : CardFault) → fault ≡ BadChar
    → (AllInClass is_permitted text → ⊥) → (other : CardFault)
    → LogicalLineHasFault before text other → card_fault_number fault ≤ card_fault_number other
least_character before text fault e bad other (of_characters is b) =
    no_less_number fault other BadChar BadChar e is (lit≤ tt)
least_character before text fault e bad other (of_grammar is none) =
    no_less_number fault other BadChar BadLine e is (lit≤ tt)
least_character before text fault e bad other (of_rules line s h) = absurd (bad s.permitted)

least_grammar : (before : List Line) (text : List ℕ) (fault : CardFault) → fault ≡ BadLine
    → AllInClass is_permitted text → ((line : Line) → SpellsLine text line → ⊥)
    → (other : CardFault) → LogicalLineHasFault before text other
    → card_fault_number fault ≤ card_fault_number other
least_grammar before text fault e good none other (of_characters is b) = absurd (b good)
least_grammar before text fault e good none other (of_grammar is n) =
    no_less_number fault other BadLine BadLine e is (lit≤ tt)
least_grammar before text fault e good none other (of_rules line s h) = absurd (none line s)

pub least_of_unread : (before : List Line) (text : List ℕ) (fault : CardFault)
    → parse_line text ≡ Err fault → IsLeastFault (LogicalLineHasFault before text) fault
least_of_unread before text fault e = ⊎_elim
    (λ character.
    let bad : AllInClass is_permitted text → ⊥ =
    λ p. both_ways (list_all is_permitted text) character.1 (all_of_class is_permitted text
    p) in
    record {
      has_it = of_characters character.0 bad;
      least = least_character before text fault character.0 bad;
    })
    (λ grammar.
    let none : (line : Line) → SpellsLine text line → ⊥ = λ line s. not_read text line fault e s in
    record {
      has_it = of_grammar grammar.0 none;
      least = least_grammar before text fault grammar.0 (of_class is_permitted text grammar.1)
          none;
    })
    (line_fails text fault e)
