-- The lines that octets spell, and those that stay as they are.
use Rattle.std.proofs.Common.{◌≡◌, ℕ, Bool, true, false, cond, List, Option, Some, None, sym, ap}
use Rattle.std.proofs.Common.{◌∙◌, true≢false}
use Rattle.std.specs.Str.{is_utf8}
use Rattle.std.proofs.lemmas.Str.{is_utf8-from_IsUtf8}
use Rattle.vcard_lines.specs.declared.line.Line.{Line}
use Rattle.vcard_lines.specs.Parsing.{parse_line}
use Rattle.vcard_lines.proofs.LineLemmas.{line_found}
use Rattle.vcard_text.specs.Cards.{IsProperLine}
use Rattle.vcard_values.specs.declared.version.Version.{Version}
use Rattle.vcard_property.specs.SameLines.{AreLine, is_same_in, line_if, same_line}
use Rattle.vcard_text.proofs.ProperLemmas.{spelled_is_proper}

pub are_proper : (octets : List ℕ) (line : Line) → AreLine octets line → IsProperLine line
are_proper octets line a = spelled_is_proper octets line a.utf8 (line_found octets line a.spelled)

pub same_is_found : (version : Version) (octets : List ℕ) (line : Line) → AreLine octets line
    → is_same_in version line ≡ true → same_line version octets ≡ Some line
same_is_found version octets line a e =
    ap (λ t. cond t (line_if (is_same_in version) (parse_line octets)) None)
    (is_utf8-from_IsUtf8 octets a.utf8)
    ∙ ap (line_if (is_same_in version)) a.spelled
    ∙ ap (λ t. cond t (Some line) None) e

pub none_without_utf8 : (version : Version) (octets : List ℕ) → is_utf8 octets ≡ false
    → same_line version octets ≡ None
none_without_utf8 version octets e =
    ap (λ t. cond t (line_if (is_same_in version) (parse_line octets)) None) e

abbrev is_some_line : Option Line → Bool
is_some_line (Some line) = true
is_some_line None = false

pub line_is_found : (version : Version) (octets : List ℕ) (line : Line) → AreLine octets line
    → is_same_in version line ≡ true → None ≡ same_line version octets → ⊥
line_is_found version octets line a e none =
    true≢false (ap is_some_line (sym (none ∙ same_is_found version octets line a e)))
