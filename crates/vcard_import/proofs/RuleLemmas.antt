-- A line that breaks no rule has no fault after the others.
use Rattle.std.proofs.Common.{◌≡◌, ℕ, Bool, true, false, ◌||◌, ◌&&◌, not, List, codes, bytes_eq}
use Rattle.std.proofs.Common.{Option, None, refl, sym, ap, subst, ◌∙◌, true≢false}
use Rattle.std.proofs.lemmas.Slice.Eq.{bytes_eq-Decides}
use Rattle.vcard_lines.specs.declared.fault.CardFault.{CardFault}
use Rattle.vcard_lines.specs.declared.fault.CardFault.TheVariants.{BadChar, BadLine, BadVersion}
use Rattle.vcard_lines.specs.declared.fault.CardFault.TheVariants.{BadUid, Twice}
use Rattle.vcard_lines.specs.declared.line.Line.{Line}
use Rattle.vcard_lines.specs.Grammar.{is_permitted, line_text}
use Rattle.vcard_lines.specs.LegalParts.{has_legal_parts}
use Rattle.vcard_lines.proofs.FrontLemmas.{all_of_class}
use Rattle.vcard_lines.proofs.LegalPartLemmas.{legal_to_test}
use Rattle.vcard_text.specs.Cards.{IsProperLine, has_line_named, line_is_named, is_uid}
use Rattle.vcard_text.specs.MakingSteps.{card_line_fault}
use Rattle.vcard_text.specs.Scanning.{fault_if, body_line_fault}
use Rattle.vcard_changes.specs.Lines.{IsUidLine}
use Rattle.vcard_import.specs.internal.Steps.{breaks_rule, IsSeen}
use Rattle.vcard_import.specs.declared.rules.Reading.{Reading}
use Rattle.vcard_import.specs.declared.rules.Seen.{Seen}

-- ---- by tests

abbrev fault_of : (b e v u k su iu sk : Bool) → Option CardFault
fault_of b e v u k su iu sk = fault_if (b || e) BadLine
    (fault_if v BadVersion (fault_if (u && not iu) BadUid (fault_if ((u && su) || (k && sk)) Twice
    None)))

abbrev rule : (b e v u k m su tk iu sk km : Bool) → Bool
rule b e v u k m su tk iu sk km = (b || e || v) || (u && (su || not tk || not iu)) || (k && sk)
    || (m && not km)

free : (b e v u k m su tk iu sk km : Bool) → rule b e v u k m su tk iu sk km ≡ false
    → fault_of b e v u k su iu sk ≡ None
free true e v u k m su tk iu sk km h = absurd (true≢false h)
free false true v u k m su tk iu sk km h = absurd (true≢false h)
free false false true u k m su tk iu sk km h = absurd (true≢false h)
free false false false true k m true tk iu sk km h = absurd (true≢false h)
free false false false true k m false false iu sk km h = absurd (true≢false h)
free false false false true k m false true false sk km h = absurd (true≢false h)
free false false false true true m false true true true km h = absurd (true≢false h)
free false false false true true m false true true false km h = refl
free false false false true false m false true true sk km h = refl
free false false false false true m su tk iu true km h = absurd (true≢false h)
free false false false false true m su tk iu false km h = refl
free false false false false false m su tk iu sk km h = refl

no_uid : (b e v u k m su tk iu sk km : Bool) → tk ≡ false → rule b e v u k m su tk iu sk km ≡ false
    → u ≡ false
no_uid true e v u k m su tk iu sk km t h = absurd (true≢false h)
no_uid false true v u k m su tk iu sk km t h = absurd (true≢false h)
no_uid false false true u k m su tk iu sk km t h = absurd (true≢false h)
no_uid false false false false k m su tk iu sk km t h = refl
no_uid false false false true k m true tk iu sk km t h = absurd (true≢false h)
no_uid false false false true k m false false iu sk km t h = absurd (true≢false h)
no_uid false false false true k m false true iu sk km t h = absurd (true≢false t)

no_member : (b e v u k m su tk iu sk km : Bool) → km ≡ false → rule b e v u k m su tk iu sk km
    ≡ false → m ≡ false
no_member b e v u k false su tk iu sk km t h = refl
no_member b e v u k true su tk iu sk true t h = absurd (true≢false t)
no_member true e v u k true su tk iu sk false t h = absurd (true≢false h)
no_member false true v u k true su tk iu sk false t h = absurd (true≢false h)
no_member false false true u k true su tk iu sk false t h = absurd (true≢false h)
no_member false false false false false true su tk iu sk false t h = absurd (true≢false h)
no_member false false false false true true su tk iu false false t h = absurd (true≢false h)
no_member false false false false true true su tk iu true false t h = absurd (true≢false h)
no_member false false false true k true true tk iu sk false t h = absurd (true≢false h)
no_member false false false true k true false false iu sk false t h = absurd (true≢false h)
no_member false false false true k true false true false sk false t h = absurd (true≢false h)
no_member false false false true false true false true true sk false t h = absurd (true≢false h)
no_member false false false true true true false true true false false t h = absurd (true≢false h)
no_member false false false true true true false true true true false t h = absurd (true≢false h)

-- ---- lines

abbrev named : List ℕ → Line → Bool
named name line = line_is_named name line

pub body_is_free : (lines : List Line) (seen : Seen) (reading : Reading) (line : Line)
    → IsSeen seen lines → breaks_rule seen reading line ≡ false → body_line_fault lines line ≡ None
unfolding body_line_fault
body_is_free lines seen reading line s h =
    let f = free (named (codes "BEGIN") line) (named (codes "END") line)
    (named (codes "VERSION") line) (named (codes "UID") line) (named (codes "KIND") line)
    (named (codes "MEMBER") line) seen.uid reading.takes_uid (is_uid line.value) seen.kind
    reading.keeps_members h in
    subst (λ k. fault_of (named (codes "BEGIN") line) (named (codes "END") line)
    (named (codes "VERSION") line) (named (codes "UID") line) (named (codes "KIND") line)
    (has_line_named (codes "UID") lines) (is_uid line.value) k ≡ None) s.kind
    (subst (λ u. fault_of (named (codes "BEGIN") line) (named (codes "END") line)
    (named (codes "VERSION") line) (named (codes "UID") line) (named (codes "KIND") line) u
    (is_uid line.value) seen.kind ≡ None) s.uid f)

pub is_no_uid : (seen : Seen) (reading : Reading) (line : Line) → reading.takes_uid ≡ false
    → breaks_rule seen reading line ≡ false → line_is_named (codes "UID") line ≡ false
is_no_uid seen reading line t h = no_uid (named (codes "BEGIN") line) (named (codes "END") line)
    (named (codes "VERSION") line) (named (codes "UID") line) (named (codes "KIND") line)
    (named (codes "MEMBER") line) seen.uid reading.takes_uid (is_uid line.value) seen.kind
    reading.keeps_members t h

pub is_no_member : (seen : Seen) (reading : Reading) (line : Line) → reading.keeps_members ≡ false
    → breaks_rule seen reading line ≡ false → line_is_named (codes "MEMBER") line ≡ false
is_no_member seen reading line t h =
    no_member (named (codes "BEGIN") line) (named (codes "END") line) (named (codes "VERSION") line)
    (named (codes "UID") line) (named (codes "KIND") line) (named (codes "MEMBER") line) seen.uid
    reading.takes_uid (is_uid line.value) seen.kind reading.keeps_members t h

pub line_is_free : (lines : List Line) (line : Line) → IsProperLine line
    → body_line_fault lines line ≡ None → card_line_fault lines line ≡ None
unfolding card_line_fault
line_is_free lines line p e =
    ap (λ t. fault_if (not t) BadChar (fault_if (not (has_legal_parts line)) BadLine
    (body_line_fault lines line))) (all_of_class is_permitted (line_text line) p.permitted)
    ∙ ap (λ t. fault_if (not t) BadLine (body_line_fault lines line)) legal
    ∙ e
  where
    legal : has_legal_parts line ≡ true
    legal = legal_to_test line (record { name = p.name; group = p.group; params = p.params })

-- ---- lines that break no rule

-- a line whose name is known
abbrev rule_of : Seen → Reading → List ℕ → List ℕ → Bool
rule_of seen reading name value = rule (bytes_eq name (codes "BEGIN")) (bytes_eq name (codes "END"))
    (bytes_eq name (codes "VERSION")) (bytes_eq name (codes "UID")) (bytes_eq name (codes "KIND"))
    (bytes_eq name (codes "MEMBER")) seen.uid reading.takes_uid (is_uid value) seen.kind
    reading.keeps_members

legal_uid : (su tk iu : Bool) → su ≡ false → tk ≡ true → iu ≡ true
    → (su || not tk || not iu) ≡ false
legal_uid su tk iu a b c = rw (a, b, c) refl

uid_allowed : (seen : Seen) (reading : Reading) (name value : List ℕ) → name ≡ codes "UID"
    → is_uid value ≡ true → seen.uid ≡ false → reading.takes_uid ≡ true
    → rule_of seen reading name value ≡ false
uid_allowed seen reading name value n v s t =
    subst (λ w. rule_of seen reading w value ≡ false) (sym n)
    (ap (λ u. (u || false) || false) (legal_uid seen.uid reading.takes_uid (is_uid value) s t v))

pub uid_is_allowed : (seen : Seen) (reading : Reading) (line : Line) → IsUidLine line
    → seen.uid ≡ false → reading.takes_uid ≡ true → breaks_rule seen reading line ≡ false
uid_is_allowed seen reading line u s t =
    uid_allowed seen reading line.name line.value ((bytes_eq-Decides line.name (codes "UID")).0
    u.named) u.legal s t
