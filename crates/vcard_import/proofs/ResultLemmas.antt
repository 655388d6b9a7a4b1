-- Results that can't be equal, and cases of what a conversion is.
use Rattle.std.proofs.Common.{◌≡◌, ◌≢◌, ◌⊎◌, Bool, true, false, List, [], ℕ, sym, ap, inr, Ok, Err}
use Rattle.std.proofs.Common.{Result}
use Rattle.std.specs.Prelude.{IfOk}
use Rattle.std.proofs.lemmas.Bool.{false≢true}
use Rattle.vcard_lines.specs.declared.fault.CardFault.{CardFault}
use Rattle.vcard_lines.specs.declared.fault.CardFault.TheVariants.{Memory}
use Rattle.vcard_lines.specs.declared.line.Line.{Line}
use Rattle.vcard_text.specs.Spelling.{Spells}
use Rattle.vcard_import.specs.Conversions.{IsConverted, IsTooLong, LeavesOutIfLong}
use Rattle.vcard_changes.specs.declared.conversion.Conversion.{Conversion}
use Rattle.vcard_changes.specs.declared.fault.ImportFault.{ImportFault}

abbrev tells_ok : Result (List Line) CardFault → Bool
tells_ok (Ok lines) = true
tells_ok (Err fault) = false

abbrev lines_in : Result (List Line) CardFault → List Line
lines_in (Ok lines) = lines
lines_in (Err fault) = []

abbrev pub ok_lines : List Line → Result (List Line) CardFault
ok_lines lines = Ok lines

abbrev pub err_fault : CardFault → Result (List Line) CardFault
err_fault fault = Err fault

pub ok_is_no_err : (lines : List Line) → ok_lines lines ≢ err_fault Memory
ok_is_no_err lines e = absurd (false≢true (sym (ap tells_ok e)))

pub err_is_no_ok : (fault : CardFault) (lines : List Line) → err_fault fault ≡ ok_lines lines → ⊥
err_is_no_ok fault lines e = absurd (false≢true (ap tells_ok e))

pub same_ok : (a b : List Line) → ok_lines a ≡ ok_lines b → a ≡ b
same_ok a b e = ap lines_in e

pub ok_either : (octets : List ℕ) (made : Result Conversion ImportFault)
    → IfOk made (λ m. IsConverted octets m.card m.changes)
    → IfOk made (λ m. (Spells octets m.card × (m.changes ≡ []))
    ⊎ IsConverted octets m.card m.changes)
ok_either octets (Ok m) q = inr q
ok_either octets (Err fault) q = tt
