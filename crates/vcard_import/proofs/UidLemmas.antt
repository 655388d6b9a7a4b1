-- The first UID of logical lines, found one after another.
use Rattle.std.proofs.Common.{◌≡◌, ◌<◌, ◌≤◌, ◌+◌, ℕ, Bool, true, false, cond, ◌||◌, ◌&&◌, List, []}
use Rattle.std.proofs.Common.{◌∷◌, length, drop, get_or, Option, Some, None, refl, sym, ap, ◌∙◌}
use Rattle.std.proofs.lemmas.List.{at_drop_all, at_drop_more}
use Rattle.import_text.specs.declared.raw_line.RawLine.{RawLine}
use Rattle.vcard_lines.specs.declared.line.Line.{Line}
use Rattle.vcard_property.specs.SameLines.{uid_line}
use Rattle.vcard_values.specs.declared.version.Version.{Version}
use Rattle.vcard_import.specs.Delimiters.{begins_card}
use Rattle.vcard_import.specs.FirstUid.{first_uid_after, or_line}

-- one more logical line
abbrev pub step : Version → Bool → RawLine → List RawLine → Option Line
step version begun raw raws = cond (begun && begins_card raw.octets) None
    (or_line (uid_line version raw.octets)
    (first_uid_after version (begun || begins_card raw.octets) raws))

first_step : (version : Version) (begun : Bool) (raw : RawLine) (raws : List RawLine)
    → first_uid_after version begun (raw ∷ raws) ≡ step version begun raw raws
unfolding first_uid_after
first_step version begun raw raws = refl

pub at_step : (version : Version) (begun : Bool) (raws : List RawLine) (index : ℕ) (raw : RawLine)
    → index < length raws → raw ≡ get_or raws index raw
    → first_uid_after version begun (drop index raws) ≡ step version begun raw
    (drop (index + 1) raws)
at_step version begun raws index raw l is =
    at_drop_more (first_uid_after version begun) raws index raw l
    ∙ ap (λ r. first_uid_after version begun (r ∷ drop (index + 1) raws)) (sym is)
    ∙ first_step version begun raw (drop (index + 1) raws)

none_at_all : (version : Version) (begun : Bool) → first_uid_after version begun [] ≡ None
unfolding first_uid_after
none_at_all version begun = refl

pub second_card : (version : Version) (begun : Bool) (raws : List RawLine) (index : ℕ) (raw :
    RawLine) → index < length raws → raw ≡ get_or raws index raw → (begun && begins_card raw.octets)
    ≡ true → first_uid_after version begun (drop index raws) ≡ None
second_card version begun raws index raw l is e = at_step version begun raws index raw l is
    ∙ ap (λ t. cond t None (or_line (uid_line version raw.octets)
    (first_uid_after version (begun || begins_card raw.octets) (drop (index + 1) raws)))) e

pub uid_there : (version : Version) (begun : Bool) (raws : List RawLine) (index : ℕ) (raw : RawLine)
    (line : Line) → index < length raws → raw ≡ get_or raws index raw
    → (begun && begins_card raw.octets) ≡ false → uid_line version raw.octets ≡ Some line
    → first_uid_after version begun (drop index raws) ≡ Some line
uid_there version begun raws index raw line l is e u =
    at_step version begun raws index raw l is
    ∙ ap (λ t. cond t None (or_line (uid_line version raw.octets)
    (first_uid_after version (begun || begins_card raw.octets) (drop (index + 1) raws)))) e
    ∙ ap (λ f. or_line f (first_uid_after version (begun || begins_card raw.octets)
    (drop (index + 1) raws))) u

pub no_uid_there : (version : Version) (begun : Bool) (raws : List RawLine) (index : ℕ) (raw :
    RawLine) → index < length raws → raw ≡ get_or raws index raw → (begun && begins_card raw.octets)
    ≡ false → uid_line version raw.octets ≡ None → first_uid_after version begun (drop index raws)
    ≡ first_uid_after version (begun || begins_card raw.octets) (drop (index + 1) raws)
no_uid_there version begun raws index raw l is e u =
    at_step version begun raws index raw l is
    ∙ ap (λ t. cond t None (or_line (uid_line version raw.octets)
    (first_uid_after version (begun || begins_card raw.octets) (drop (index + 1) raws)))) e
    ∙ ap (λ f. or_line f (first_uid_after version (begun || begins_card raw.octets)
    (drop (index + 1) raws))) u

pub at_end : (version : Version) (begun : Bool) (raws : List RawLine) (index : ℕ)
    → length raws ≤ index → first_uid_after version begun (drop index raws) ≡ None
at_end version begun raws index l = at_drop_all (first_uid_after version begun) raws index l
    ∙ none_at_all version begun
