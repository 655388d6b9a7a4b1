-- The first fault that making a card finds is the first fault of the lines, and there is no other.
-- Given here: inductions over the lines, from any line on (`finds`, `pass`, `takes`), with what the
-- check finds in the first of them.
use Rattle.std.proofs.Common.{◌≡◌, ◌⊎◌, ◌↔◌, Bool, true, false, cond, ◌||◌, nat_le, List, [], ◌∷◌}
use Rattle.std.proofs.Common.{◌++◌, length, IsUtf8, Option, Some, None, Result, Ok, Err, inl, inr}
use Rattle.std.proofs.Common.{⊎_elim, refl, sym, ap, subst, ◌∙◌, append_assoc}
use Rattle.std.specs.Prelude.{not}
use Rattle.std.specs.List.{AllByRecursion, list_all}
use Rattle.std.proofs.lemmas.Bool.{both_ways}
use Rattle.std.proofs.lemmas.List.{append-nil}
use Rattle.vcard_lines.specs.declared.fault.CardFault.{CardFault}
use Rattle.vcard_lines.specs.declared.fault.CardFault.TheVariants.{TooLong, NotUtf8, BadChar}
use Rattle.vcard_lines.specs.declared.fault.CardFault.TheVariants.{BadLine, NoBegin, BadVersion}
use Rattle.vcard_lines.specs.declared.fault.CardFault.TheVariants.{NoEnd, NoName, NoUid, BadUid}
use Rattle.vcard_lines.specs.declared.fault.CardFault.TheVariants.{Twice, MemberOutsideGroup}
use Rattle.vcard_lines.specs.declared.fault.CardFault.TheVariants.{Memory}
use Rattle.vcard_lines.specs.declared.line.Line.{Line}
use Rattle.vcard_text.specs.Bounds.{text_octets_max}
use Rattle.vcard_lines.specs.ParseSteps.{◌>>=◌}
use Rattle.vcard_lines.specs.Grammar.{is_permitted, line_text}
use Rattle.vcard_text.specs.Cards.{IsCard, canonical_text}
use Rattle.vcard_text.specs.FirstFaults.{IsLeastFault, lines_break_rule}
use Rattle.vcard_text.specs.Making.{upper_lines, card_line_breaks_rule, CardLineHasFault}
use Rattle.vcard_text.specs.Making.{of_characters, of_parts, of_rules, AreFaultlessCardLines}
use Rattle.vcard_text.specs.Making.{IsOfFirstFaultyCardLine, IsFirstFaultOfLines, of_line, of_whole}
use Rattle.vcard_text.specs.Making.{of_canonical}
use Rattle.vcard_text.specs.MakingSteps.{card_line_fault, check_lines_after, make_card}
use Rattle.vcard_text.specs.MakingSteps.{first_fault_of_lines}
use Rattle.vcard_text.specs.Scanning.{fault_if, ok_unless, body_line_fault, card_rules_fault}
use Rattle.vcard_text.specs.Scanning.{check_length}
use Rattle.vcard_text.specs.CardOfText.{result_fault}
use Rattle.vcard_lines.proofs.FrontLemmas.{of_class, all_of_class}
use Rattle.vcard_text.proofs.LeastLemmas.{least_of, found_or_none, least_found, none_passes}
use Rattle.vcard_text.proofs.LeastLemmas.{least_again, least_along}
use Rattle.vcard_lines.specs.LegalParts.{has_legal_parts}
use Rattle.vcard_lines.proofs.LegalPartLemmas.{legal_from_test, legal_to_test}
use Rattle.vcard_text.proofs.MakingLemmas.{card_is_made, lines_made, made_is_card}
use Rattle.vcard_text.proofs.FirstFaultLemmas.{false_unless, some_fault, bounds_fail, longer}
use Rattle.vcard_text.proofs.FirstFaultLemmas.{unless_err, same_err}

-- ---- one line

or_true : (b : Bool) → (b || true) ≡ true
or_true true = refl
or_true false = refl

-- whether the line has the fault
abbrev test : List Line → Line → CardFault → Bool
test before line BadChar = not (list_all is_permitted (line_text line))
test before line BadLine = not (has_legal_parts line) || card_line_breaks_rule before line BadLine
test before line fault = card_line_breaks_rule before line fault

same_fault : (before : List Line) (line : Line) → card_line_fault before line
    ≡ least_of (test before line)
unfolding card_line_fault body_line_fault
same_fault before line =
    elim (not (has_legal_parts line)) as
    (λ b. fault_if (not (list_all is_permitted (line_text line))) BadChar
    (fault_if b BadLine (body_line_fault before line))
    ≡ fault_if (not (list_all is_permitted (line_text line))) BadChar
    (fault_if (b || card_line_breaks_rule before line BadLine) BadLine
    (fault_if (card_line_breaks_rule before line BadVersion) BadVersion
    (fault_if (card_line_breaks_rule before line BadUid) BadUid
    (fault_if (card_line_breaks_rule before line Twice) Twice None))))) [
      | true ↦ refl
      | false ↦
          refl
    ]

fails : (b : Bool) → not b ≡ true → b ≡ false
fails true e = absurd (cc)
fails false e = refl

rule_passes : (before : List Line) (line : Line) (fault : CardFault)
    → card_line_breaks_rule before line fault ≡ true → test before line fault ≡ true
rule_passes before line TooLong h = h
rule_passes before line NotUtf8 h = h
rule_passes before line BadChar h = absurd (cc)
rule_passes before line BadLine h = ap (λ b. not (has_legal_parts line) || b) h
    ∙ or_true (not (has_legal_parts line))
rule_passes before line NoBegin h = h
rule_passes before line BadVersion h = h
rule_passes before line NoEnd h = h
rule_passes before line NoName h = h
rule_passes before line NoUid h = h
rule_passes before line BadUid h = h
rule_passes before line Twice h = h
rule_passes before line MemberOutsideGroup h = h
rule_passes before line Memory h = h

to_test : (before : List Line) (line : Line) (fault : CardFault)
    → CardLineHasFault before line fault → test before line fault ≡ true
to_test before line fault (of_characters is bad) =
    subst (λ f. test before line f ≡ true) (sym is)
    (ap not (false_unless (list_all is_permitted (line_text line))
    (λ e. bad (of_class is_permitted (line_text line) e))))
to_test before line fault (of_parts is bad) =
    subst (λ f. test before line f ≡ true) (sym is)
    (ap (λ b. not b || card_line_breaks_rule before line BadLine)
    (false_unless (has_legal_parts line) (λ e. bad (legal_from_test line e))))
to_test before line fault (of_rules h) = rule_passes before line fault h

from_test : (before : List Line) (line : Line) (fault : CardFault) → test before line fault ≡ true
    → CardLineHasFault before line fault
from_test before line TooLong h = of_rules h
from_test before line NotUtf8 h = of_rules h
from_test before line BadChar h = of_characters refl
    (λ p. both_ways (list_all is_permitted (line_text line)) (fails _ h)
    (all_of_class is_permitted (line_text line) p))
from_test before line BadLine h = by_parts (has_legal_parts line) refl
  where
    by_parts : (b : Bool) → has_legal_parts line ≡ b → CardLineHasFault before line BadLine
    by_parts true e = of_rules (ap (λ b. not b || card_line_breaks_rule before line BadLine) (sym e)
        ∙ h)
    by_parts false e = of_parts refl (λ p. both_ways (has_legal_parts line) e
        (legal_to_test line p))
from_test before line NoBegin h = of_rules h
from_test before line BadVersion h = of_rules h
from_test before line NoEnd h = of_rules h
from_test before line NoName h = of_rules h
from_test before line NoUid h = of_rules h
from_test before line BadUid h = of_rules h
from_test before line Twice h = of_rules h
from_test before line MemberOutsideGroup h = of_rules h
from_test before line Memory h = of_rules h

least_made : (before : List Line) (line : Line) (fault : CardFault) → card_line_fault before line
    ≡ Some fault → IsLeastFault (CardLineHasFault before line) fault
least_made before line fault e =
    least_along (λ f. test before line f ≡ true) (CardLineHasFault before line) fault
    (from_test before line) (to_test before line) (least_found (test before line) fault
    (sym (same_fault before line) ∙ e))

made_least : (before : List Line) (line : Line) (fault : CardFault)
    → IsLeastFault (CardLineHasFault before line) fault → card_line_fault before line ≡ Some fault
made_least before line fault l =
    same_fault before line ∙ least_again (test before line) fault
    (least_along (CardLineHasFault before line) (λ f. test before line f ≡ true) fault
    (to_test before line) (from_test before line) l)

none_made : (before : List Line) (line : Line) → card_line_fault before line ≡ None
    → (fault : CardFault) → CardLineHasFault before line fault → ⊥
none_made before line e fault h = both_ways (test before line fault) (none_passes (test before line)
    (sym (same_fault before line) ∙ e) fault) (to_test before line fault h)

made_none : (before : List Line) (line : Line)
    → ((fault : CardFault) → CardLineHasFault before line fault → ⊥) → card_line_fault before line
    ≡ None
made_none before line none = same_fault before line ∙ ⊎_elim
    (λ e. e)
    (λ some. absurd (none some.0 (from_test before line some.0 (least_found (test before line)
    some.0 some.1).has_it)))
    (found_or_none (least_of (test before line)))

-- ---- the whole

same_whole : (lines : List Line) → card_rules_fault lines ≡ least_of (lines_break_rule lines)
unfolding card_rules_fault
same_whole lines = refl

-- ---- what is found from a line on

record IsOfFaultyFrom (start lines : List Line) (fault : CardFault) : Type 0 where
  before : List Line
  faulty : Line
  others : List Line
  lines_are : lines ≡ before ++ faulty ∷ others
  faultless : AreFaultlessCardLines start before
  least : IsLeastFault (CardLineHasFault (start ++ before) faulty) fault

record IsOfWholeFrom (start lines : List Line) (fault : CardFault) : Type 0 where
  faultless : AreFaultlessCardLines start lines
  least : IsLeastFault (λ other. lines_break_rule (start ++ lines) other ≡ true) fault

abbrev IsFoundFrom : List Line → List Line → CardFault → Type 0
IsFoundFrom start lines fault = IsOfFaultyFrom start lines fault ⊎ IsOfWholeFrom start lines fault

goes_on : (start : List Line) (line : Line) (lines : List Line) (fault : CardFault)
    → ((f : CardFault) → CardLineHasFault start line f → ⊥)
    → IsFoundFrom (start ++ line ∷ []) lines fault → IsFoundFrom start (line ∷ lines) fault
goes_on start line lines fault none found = ⊎_elim
    (λ r. inl (record {
      before = line ∷ r.before;
      faulty = r.faulty;
      others = r.others;
      lines_are = ap (λ ls. line ∷ ls) r.lines_are;
      faultless = (none, r.faultless);
      least = subst (λ ls. IsLeastFault (CardLineHasFault ls r.faulty) fault)
          (append_assoc start (line ∷ []) r.before) r.least;
    }))
    (λ w. inr (record {
      faultless = (none, w.faultless);
      least = subst (λ ls. IsLeastFault (λ other. lines_break_rule ls other ≡ true) fault)
          (append_assoc start (line ∷ []) lines) w.least;
    }))
    found

finds : (lines start : List Line) (fault : CardFault) → check_lines_after start lines ≡ Err fault
    → IsFoundFrom start lines fault
unfolding check_lines_after
finds [] start fault e = inr (record {
  faultless = tt;
  least = subst (λ ls. IsLeastFault (λ other. lines_break_rule ls other ≡ true) fault)
      (sym (append-nil start))
      (least_found (lines_break_rule start) fault (sym (same_whole start)
      ∙ unless_err (card_rules_fault start) start fault e));
})
finds (line ∷ lines) start fault e =
    elim (card_line_fault start line) as (λ o. card_line_fault start line ≡ o
    → (ok_unless o (start ++ line ∷ []) >>= λ more. check_lines_after more lines) ≡ Err fault
    → IsFoundFrom start (line ∷ lines) fault) [
      | None ↦ λ is h. goes_on start line lines fault (none_made start line is)
          (finds lines (start ++ line ∷ []) fault h)
      | Some f ↦ λ is h. inl (record {
        before = [];
        faulty = line;
        others = lines;
        lines_are = refl;
        faultless = tt;
        least = subst (λ ls. IsLeastFault (CardLineHasFault ls line) fault) (sym (append-nil start))
            (least_made start line fault (is ∙ ap (λ g. Some g) (same_err f fault h)));
      })
    ] refl e

-- ---- the converse

pass : (before start rest : List Line) → AreFaultlessCardLines start before
    → check_lines_after start (before ++ rest) ≡ check_lines_after (start ++ before) rest
unfolding check_lines_after
pass [] start rest f = ap (λ ls. check_lines_after ls rest) (sym (append-nil start))
pass (line ∷ before) start rest f =
    ap (λ o. ok_unless o (start ++ line ∷ []) >>= λ more. check_lines_after more (before ++ rest))
    (made_none start line f.0)
    ∙ pass before (start ++ line ∷ []) rest f.1
    ∙ ap (λ ls. check_lines_after ls rest) (append_assoc start (line ∷ []) before)

refused : (start : List Line) (line : Line) (lines : List Line) (fault : CardFault)
    → IsLeastFault (CardLineHasFault start line) fault → check_lines_after start (line ∷ lines)
    ≡ Err fault
unfolding check_lines_after
refused start line lines fault l =
    ap (λ o. ok_unless o (start ++ line ∷ []) >>= λ more. check_lines_after more lines)
    (made_least start line fault l)

line_refused : (lines : List Line) (fault : CardFault) → IsOfFirstFaultyCardLine lines fault
    → check_lines_after [] lines ≡ Err fault
line_refused lines fault f = ap (check_lines_after []) f.lines_are
    ∙ pass f.before [] (f.faulty ∷ f.others) f.faultless
    ∙ refused f.before f.faulty f.others fault f.least

all_taken : (lines : List Line) → AreFaultlessCardLines [] lines → (o : Option CardFault)
    → least_of (lines_break_rule lines) ≡ o → check_lines_after [] lines ≡ ok_unless o lines
unfolding check_lines_after
all_taken lines f o e = ap (check_lines_after []) (sym (append-nil lines)) ∙ pass lines [] [] f
    ∙ ap (λ p. ok_unless p lines) (same_whole lines ∙ e)

no_whole : (lines : List Line) → ((fault : CardFault) → lines_break_rule lines fault ≡ false)
    → least_of (lines_break_rule lines) ≡ None
no_whole lines none = ⊎_elim
    (λ e. e)
    (λ some. absurd (both_ways (lines_break_rule lines some.0) (none some.0)
    (least_found (lines_break_rule lines) some.0 some.1).has_it))
    (found_or_none (least_of (lines_break_rule lines)))

pub made_computed_from : (lines : List Line) (fault : CardFault) → IsFirstFaultOfLines lines fault
    → first_fault_of_lines lines ≡ Some fault
unfolding make_card
made_computed_from lines fault (of_line f) =
    ap (λ (r : Result (List Line) CardFault). result_fault (r >>= check_length))
    (line_refused (upper_lines lines) fault f)
made_computed_from lines fault (of_whole w) =
    ap (λ (r : Result (List Line) CardFault). result_fault (r >>= check_length))
    (all_taken (upper_lines lines) w.faultless (Some fault)
    (least_again (lines_break_rule (upper_lines lines)) fault w.least))
made_computed_from lines fault (of_canonical is t) =
    ap (λ (r : Result (List Line) CardFault). result_fault (r >>= check_length))
    (all_taken (upper_lines lines) t.faultless None (no_whole (upper_lines lines) t.whole))
    ∙ ap result_fault (bounds_fail (upper_lines lines) t.long) ∙ ap (λ f. Some f) (sym is)

-- lines that pass the check have no fault
record AreTaken (start lines made : List Line) : Type 0 where
  faultless : AreFaultlessCardLines start lines
  whole : least_of (lines_break_rule (start ++ lines)) ≡ None
  made_are : made ≡ start ++ lines

same_ok : (a b : List Line) → ◌≡◌ {A = Result (List Line) CardFault} (Ok a) (Ok b) → a ≡ b
same_ok a b e = cc

takes : (lines start made : List Line) → check_lines_after start lines ≡ Ok made
    → AreTaken start lines made
unfolding check_lines_after
takes [] start made e =
    elim (card_rules_fault start) as (λ o. card_rules_fault start ≡ o → ok_unless o start ≡ Ok made
    → AreTaken start [] made) [
      | None ↦ λ is h. record {
        faultless = tt;
        whole = ap (λ ls. least_of (lines_break_rule ls)) (append-nil start)
            ∙ sym (same_whole start) ∙ is;
        made_are = sym (same_ok start made h) ∙ sym (append-nil start);
      }
      | Some f ↦ λ is h. absurd (cc)
    ] refl e
takes (line ∷ lines) start made e =
    elim (card_line_fault start line) as (λ o. card_line_fault start line ≡ o
    → (ok_unless o (start ++ line ∷ []) >>= λ more. check_lines_after more lines) ≡ Ok made
    → AreTaken start (line ∷ lines) made) [
      | None ↦ λ is h.
          let t = takes lines (start ++ line ∷ []) made h in
          record {
            faultless = (none_made start line is, t.faultless);
            whole = ap (λ ls. least_of (lines_break_rule ls))
                (sym (append_assoc start (line ∷ []) lines)) ∙ t.whole;
            made_are = t.made_are ∙ append_assoc start (line ∷ []) lines;
          }
      | Some f ↦ λ is h. absurd (cc)
    ] refl e

module _ (lines : List Line) (fault : CardFault) where
  by_bounds : (made : List Line) → check_lines_after [] (upper_lines lines) ≡ Ok made → (b : Bool)
      → nat_le (length (canonical_text made)) text_octets_max ≡ b
      → result_fault {A = List Line} (cond b (Ok made) (Err TooLong)) ≡ Some fault
      → IsFirstFaultOfLines lines fault
  by_bounds made e true is h = absurd (cc)
  by_bounds made e false is h =
      let t = takes (upper_lines lines) [] made e in
      of_canonical (some_fault TooLong fault h) (record {
        faultless = t.faultless;
        whole = none_passes (lines_break_rule (upper_lines lines)) t.whole;
        long = longer _ (ap (λ ls. nat_le (length (canonical_text ls)) text_octets_max)
            (sym t.made_are) ∙ is);
      })

  by_lines : (r : Result (List Line) CardFault) → check_lines_after [] (upper_lines lines) ≡ r
      → result_fault (r >>= check_length) ≡ Some fault → IsFirstFaultOfLines lines fault
  unfolding check_length
  by_lines (Ok made) e h = by_bounds made e (nat_le (length (canonical_text made)) text_octets_max)
      refl h
  by_lines (Err f) e h = ⊎_elim
      (λ r. of_line (record {
        before = r.before;
        faulty = r.faulty;
        others = r.others;
        lines_are = r.lines_are;
        faultless = r.faultless;
        least = r.least;
      }))
      (λ w. of_whole (record { faultless = w.faultless; least = w.least }))
      (finds (upper_lines lines) [] fault (e ∙ ap (λ g. Err g) (sym (some_fault f fault h))))

pub made_fault_from_computed : (lines : List Line) (fault : CardFault)
    → first_fault_of_lines lines ≡ Some fault → IsFirstFaultOfLines lines fault
unfolding make_card
made_fault_from_computed lines fault e =
    by_lines lines fault (check_lines_after [] (upper_lines lines)) refl e

pub first_fault_of_lines_is_computed : (lines : List Line) (fault : CardFault)
    → IsFirstFaultOfLines lines fault ↔ (first_fault_of_lines lines ≡ Some fault)
first_fault_of_lines_is_computed lines fault =
    (made_computed_from lines fault, made_fault_from_computed lines fault)

pub fault_of_none_made : (lines : List Line) (fault : CardFault) → make_card lines ≡ Err fault
    → IsFirstFaultOfLines lines fault
fault_of_none_made lines fault e = made_fault_from_computed lines fault (ap result_fault e)

-- lines that are text make a card, or have a first fault, and not both
pub made_card_or_fault : (lines : List Line) → AllByRecursion (λ line. IsUtf8 (line_text line))
    (upper_lines lines) → IsCard (upper_lines lines)
    ⊎ ((fault : CardFault) × IsFirstFaultOfLines lines fault)
made_card_or_fault lines texts = by (make_card lines) refl
  where
    by : (r : Result (List Line) CardFault) → make_card lines ≡ r → IsCard (upper_lines lines)
        ⊎ ((fault : CardFault) × IsFirstFaultOfLines lines fault)
    by (Ok made) e =
        let same = lines_made lines made e in
        inl (subst IsCard same (made_is_card lines made e
        (subst (AllByRecursion (λ line. IsUtf8 (line_text line))) (sym same) texts)))
    by (Err fault) e = inr (fault, fault_of_none_made lines fault e)

pub made_not_both : (lines : List Line) (fault : CardFault) → IsCard (upper_lines lines)
    → IsFirstFaultOfLines lines fault → ⊥
made_not_both lines fault card first =
    absurd (let no : Some fault ≡ None = sym (made_computed_from lines fault first)
    ∙ ap result_fault (card_is_made lines card) in cc)
