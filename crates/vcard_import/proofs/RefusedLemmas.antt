-- Lines that are no card only since they are too long.
use Rattle.std.proofs.Common.{◌≡◌, ◌≢◌, Bool, true, false, cond, nat_le, List, [], length, Option}
use Rattle.std.proofs.Common.{Some, None, Result, Ok, Err, sym, ap, subst, ◌∙◌, true≢false}
use Rattle.std.specs.Prelude.{IfErr}
use Rattle.std.proofs.lemmas.Bool.{false≢true}
use Rattle.vcard_lines.specs.declared.fault.CardFault.{CardFault}
use Rattle.vcard_lines.specs.declared.fault.CardFault.TheVariants.{Memory, TooLong}
use Rattle.vcard_lines.specs.declared.line.Line.{Line}
use Rattle.vcard_lines.specs.ParseSteps.{◌>>=◌}
use Rattle.vcard_text.specs.Bounds.{text_octets_max}
use Rattle.vcard_text.specs.Cards.{canonical_text}
use Rattle.vcard_text.specs.CardOfText.{result_fault}
use Rattle.vcard_text.specs.Making.{IsFirstFaultOfLines, AreTooLongCardLines, CardLineHasFault}
use Rattle.vcard_text.specs.Making.{upper_lines}
use Rattle.vcard_text.specs.MakingSteps.{check_lines_after, first_fault_of_lines, make_card}
use Rattle.vcard_text.specs.Scanning.{check_length}
use Rattle.vcard_text.proofs.MadeFaultLemmas.{made_computed_from}
use Rattle.vcard_import.specs.internal.Steps.{AreFaultless}

fault_in : CardFault → Option CardFault → CardFault
fault_in other None = other
fault_in other (Some fault) = fault

is_some_fault : Option CardFault → Bool
is_some_fault None = false
is_some_fault (Some fault) = true

length_fault : (within : Bool) (lines : List Line) (fault : CardFault)
    → result_fault (cond within (Ok lines) (Err TooLong)) ≡ Some fault → fault ≡ TooLong
unfolding fault_in is_some_fault
length_fault true lines fault e = absurd (true≢false (sym (ap is_some_fault e)))
length_fault false lines fault e = sym (ap (fault_in TooLong) e)

made : (lines : List Line) → AreFaultless lines → make_card lines ≡ check_length lines
unfolding make_card
made lines f = ap (λ l. check_lines_after [] l >>= check_length) f.upper
    ∙ ap (λ r. r >>= check_length) f.checked

pub only_too_long : (lines : List Line) (fault : CardFault) → AreFaultless lines
    → first_fault_of_lines lines ≡ Some fault → fault ≡ TooLong
unfolding check_length
only_too_long lines fault f e = length_fault (nat_le (length (canonical_text lines))
    text_octets_max) lines fault (ap result_fault (sym (made lines f)) ∙ e)

names_too_long : CardFault → Bool
names_too_long TooLong = true
names_too_long _ = false

no_line_is_long : (before : List Line) (line : Line) → CardLineHasFault before line TooLong → ⊥
unfolding names_too_long
no_line_is_long before line (CardLineHasFault.of_characters e n) = true≢false (ap names_too_long e)
no_line_is_long before line (CardLineHasFault.of_parts e n) = true≢false (ap names_too_long e)
no_line_is_long before line (CardLineHasFault.of_rules e) = false≢true e

pub are_too_long : (lines : List Line) → IsFirstFaultOfLines lines TooLong
    → AreTooLongCardLines (upper_lines lines)
are_too_long lines (IsFirstFaultOfLines.of_line l) =
    absurd (no_line_is_long l.before l.faulty l.least.has_it)
are_too_long lines (IsFirstFaultOfLines.of_whole w) = absurd (false≢true w.least.has_it)
are_too_long lines (IsFirstFaultOfLines.of_canonical e l) = l

pub long_of : (lines : List Line) (card : Result (List Line) CardFault) → AreFaultless lines
    → IfErr card (λ fault. fault ≢ Memory → IsFirstFaultOfLines lines fault)
    → IfErr card (λ fault. fault ≢ Memory → (fault ≡ TooLong)
    × AreTooLongCardLines (upper_lines lines))
long_of lines (Ok card) f first = tt
long_of lines (Err fault) f first = λ n.
    let long : fault ≡ TooLong = only_too_long lines fault f (made_computed_from lines fault
    (first n)) in
    (long, are_too_long lines (subst (IsFirstFaultOfLines lines) long (first n)))
