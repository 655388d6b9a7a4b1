-- A line that keeps the text of a logical line, and one that breaks a rule.
use Rattle.std.proofs.Common.{◌≡◌, ◌∙◌, Bool, true, false, ◌||◌, ◌&&◌, ℕ, List, ap, refl}
use Rattle.std.proofs.Common.{codes, not}
use Rattle.std.specs.Prelude.{Result, Ok, Err, IfOk}
use Rattle.std.proofs.lemmas.Bool.{false≢true}
use Rattle.import_text.specs.Encodings.{text_of}
use Rattle.vcard_lines.specs.TextValues.{unescaped_text}
use Rattle.vcard_lines.specs.declared.line.Line.{Line}
use Rattle.vcard_values.specs.KeptTexts.{kept_text}
use Rattle.vcard_property.specs.NewLines.{KeepsText}
use Rattle.vcard_text.specs.Cards.{is_uid, line_is_named}
use Rattle.vcard_import.specs.Conversions.{may_be_aside}
use Rattle.vcard_import.specs.internal.Steps.{breaks_rule}
use Rattle.vcard_import.specs.declared.rules.Reading.{Reading}
use Rattle.vcard_import.specs.declared.rules.Seen.{Seen}

pub text_keeps : {E : Type 0} (name octets text : List ℕ) (made : Result Line E)
    → text ≡ text_of octets → IfOk made (λ line. line.name ≡ name)
    → IfOk made (λ line. unescaped_text line.value ≡ kept_text text)
    → IfOk made (KeepsText name octets)
text_keeps name octets text (Ok line) is named keeps =
    record { named = named; text = keeps ∙ ap kept_text is }
text_keeps name octets text (Err fault) is named keeps = tt

-- ---- lines that break a rule

one_of : (b e v u su k sk m km : Bool)
    → ((b || e || v) || (u && su) || (k && sk) || (m && km)) ≡ true
    → (b || e || v || u || k || m) ≡ true
one_of true e v u su k sk m km h = refl
one_of false true v u su k sk m km h = refl
one_of false false true u su k sk m km h = refl
one_of false false false true su k sk m km h = refl
one_of false false false false su true sk m km h = refl
one_of false false false false su false sk true km h = refl
one_of false false false false su false sk false km h = absurd (false≢true h)

pub breaking_may_go : (seen : Seen) (reading : Reading) (line : Line)
    → breaks_rule seen reading line ≡ true → may_be_aside line ≡ true
breaking_may_go seen reading line h = one_of (line_is_named (codes "BEGIN") line)
    (line_is_named (codes "END") line) (line_is_named (codes "VERSION") line)
    (line_is_named (codes "UID") line)
    (seen.uid || not reading.takes_uid || not (is_uid line.value))
    (line_is_named (codes "KIND") line) seen.kind (line_is_named (codes "MEMBER") line)
    (not reading.keeps_members) h
