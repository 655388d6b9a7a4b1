-- A card under a UID of its own.
use Rattle.std.proofs.Common.{◌≡◌, ◌+◌, ◌++◌, arith, ◌∷◌, [], ℕ, Bool, true, false, List, refl, sym}
use Rattle.std.proofs.Common.{ap, subst, ◌∙◌, codes, cond}
use Rattle.std.specs.List.{AllByRecursion}
use Rattle.std.specs.Str.{str_to_ascii_uppercase}
use Rattle.vcard_lines.specs.declared.line.Line.{Line}
use Rattle.std.specs.Prelude.{IfOk, ◌≢◌, count_by, Result, Ok, Err}
use Rattle.std.proofs.lemmas.List.Sums.{sum_by-cons}
use Rattle.vcard_lines.specs.declared.fault.CardFault.{CardFault}
use Rattle.vcard_lines.specs.declared.fault.CardFault.TheVariants.{Memory}
use Rattle.vcard_text.specs.Cards.{IsCard, IsProperLine, line_is_named, uid_of}
use Rattle.vcard_text.specs.Making.{upper_line, upper_lines}
use Rattle.vcard_text.specs.Cards.{canonical_text}
use Rattle.vcard_changes.specs.DerivedUid.{derived_uid}
use Rattle.vcard_changes.specs.declared.conversion.Conversion.{Conversion}
use Rattle.card_conversion.specs.Moved.{left_out_text, line_under, lines_under, own_uid}

upper_stays : (line : Line) → line.name ≡ str_to_ascii_uppercase line.name → upper_line line ≡ line
upper_stays line upper = ap (λ name. record {
  group = line.group;
  name = name;
  params = line.params;
  value = line.value;
}) (sym upper)

abbrev given : List ℕ → Line → Line
given uid line = record { group = line.group; name = line.name; params = line.params; value = uid }

-- a line with a name in upper case has it under another UID, too
line_stays : (uid : List ℕ) (line : Line) → line.name ≡ str_to_ascii_uppercase line.name
    → upper_line (line_under uid line) ≡ line_under uid line
line_stays uid line upper = cases_of (line_is_named (codes "UID") line) refl
  where
    cases_of : (is : Bool) → line_is_named (codes "UID") line ≡ is
        → upper_line (line_under uid line) ≡ line_under uid line
    cases_of true e = rw e (upper_stays (given uid line) upper)
    cases_of false e = rw e (upper_stays line upper)

pub lines_stay : (uid : List ℕ) (lines : List Line) → AllByRecursion IsProperLine lines
    → upper_lines (lines_under uid lines) ≡ lines_under uid lines
lines_stay uid [] all = refl
lines_stay uid (line ∷ lines) all =
    ap (λ l. l ∷ upper_lines (lines_under uid lines)) (line_stays uid line all.0.upper)
    ∙ ap (λ ls. line_under uid line ∷ ls) (lines_stay uid lines all.1)

pub is_own : (octets : List ℕ) (made : Conversion) (text : List ℕ) → text ≡ canonical_text made.card
    ++ left_out_text octets made.changes → derived_uid text ≡ own_uid octets made
unfolding own_uid
is_own octets made text is = ap derived_uid is

-- a card that is under a UID has it
pub has_uid : (uid : List ℕ) (lines : List Line) → count_by (line_is_named (codes "UID")) lines ≡ 1
    → uid_of (lines_under uid lines) ≡ uid
has_uid uid [] one = absurd (omega (arith, one))
has_uid uid (line ∷ lines) one = cases_of (line_is_named (codes "UID") line) refl
    (λ e. has_uid uid lines (later e))
  where
    counted : count_by (line_is_named (codes "UID")) (line ∷ lines)
        ≡ cond (line_is_named (codes "UID") line) 1 0 + count_by (line_is_named (codes "UID")) lines
    counted = sum_by-cons (λ l. cond (line_is_named (codes "UID") l) 1 0) line lines

    later : line_is_named (codes "UID") line ≡ false → count_by (line_is_named (codes "UID")) lines
        ≡ 1
    later e =
        let none : ◌≡◌ {A = ℕ} (cond (line_is_named (codes "UID") line) 1 0) 0 =
        ap (λ t. cond t 1 0) e in
        omega (arith, counted, none, one)

    cases_of : (is : Bool) → line_is_named (codes "UID") line ≡ is
        → (line_is_named (codes "UID") line ≡ false → uid_of (lines_under uid lines) ≡ uid)
        → uid_of (lines_under uid (line ∷ lines)) ≡ uid
    cases_of true e rest = rw (e, e) refl
    cases_of false e rest = rw (e, e) (rest e)

pub no_card : (uid : List ℕ) (card lines : List Line) (fault : CardFault) → IsCard card
    → lines ≡ lines_under uid card → fault ≢ Memory
    → (IsCard (upper_lines lines) → ◌≢◌ {A = Result (List Line) CardFault} (Err fault) (Err Memory)
    → ◌≡◌ {A = Result (List Line) CardFault} (Err fault) (Ok (upper_lines lines)))
    → IsCard (lines_under uid card) → ⊥
no_card uid card lines fault first are other every is =
    let upper : upper_lines lines ≡ lines_under uid card = ap upper_lines are
    ∙ lines_stay uid card first.proper in
    absurd (cc (every (subst IsCard (sym upper) is) (λ e. other (err_is fault Memory e))))
  where
    err_is : (a b : CardFault) → ◌≡◌ {A = Result (List Line) CardFault} (Err a) (Err b) → a ≡ b
    err_is a b e = cc e

-- what holds of a result for each of some things
pub for_each : {T E A : Type 0} (r : Result T E) (K : A → Type 0) (P : A → T → Type 0)
    → ((a : A) → K a → IfOk r (P a)) → IfOk r (λ t. (a : A) → K a → P a t)
for_each (Ok t) K P all = λ a k. all a k
for_each (Err e) K P all = tt
