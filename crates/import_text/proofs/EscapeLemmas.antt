-- Quoted-printable octets: what is read one after another is what is defined for all of them.
use Rattle.std.proofs.Common.{◌≡◌, ℕ, List, [], ◌∷◌, refl, ap, ◌∙◌, Option, Some, None}
use Rattle.import_text.specs.QuotedPrintable.{escaped_octet, put_octet, quoted_printable}
use Rattle.import_text.specs.internal.EscapeSteps.{and_rest, split_escape, or_first, split_octet}
use Rattle.import_text.proofs.SplitLemmas.{same_split}

decoded_by : (found : Option ℕ) (first : ℕ) (more plain : List ℕ) (octet : ℕ) (rest : List ℕ)
    → and_rest found more ≡ Some (octet, rest) → put_octet found first (quoted_printable more) plain
    ≡ octet ∷ quoted_printable rest
decoded_by None first more plain octet rest e = cc
decoded_by (Some o) first more plain octet rest e =
    ap (λ p. p.0 ∷ quoted_printable p.1) (same_split (o, more) (octet, rest) e)

kept_by : (found : Option ℕ) (first : ℕ) (more decoded plain : List ℕ) → and_rest found more ≡ None
    → put_octet found first decoded plain ≡ first ∷ plain
kept_by None first more decoded plain e = refl
kept_by (Some o) first more decoded plain e = cc

-- three octets that encode one
escape_decoded : (octets : List ℕ) (octet : ℕ) (rest : List ℕ)
    → split_escape octets ≡ Some (octet, rest) → quoted_printable octets ≡ octet ∷ quoted_printable
    rest
unfolding quoted_printable
escape_decoded [] octet rest e = cc
escape_decoded (a ∷ []) octet rest e = cc
escape_decoded (a ∷ b ∷ []) octet rest e = cc
escape_decoded (a ∷ b ∷ c ∷ more) octet rest e =
    decoded_by (escaped_octet a b c) a more (quoted_printable (b ∷ c ∷ more)) octet rest e

-- an octet that is itself
plain_decoded : (first : ℕ) (rest : List ℕ) → split_escape (first ∷ rest) ≡ None
    → quoted_printable (first ∷ rest) ≡ first ∷ quoted_printable rest
unfolding quoted_printable
plain_decoded first [] e = refl
plain_decoded first (b ∷ []) e = refl
plain_decoded first (b ∷ c ∷ more) e =
    kept_by (escaped_octet first b c) first more (quoted_printable more)
    (quoted_printable (b ∷ c ∷ more)) e

decoded_from : (octets : List ℕ) (octet : ℕ) (rest : List ℕ) (found : Option (ℕ × List ℕ))
    → split_escape octets ≡ found → or_first found octets ≡ Some (octet, rest)
    → quoted_printable octets ≡ octet ∷ quoted_printable rest
decoded_from octets octet rest (Some split) is e = escape_decoded octets octet rest (is ∙ e)
decoded_from [] octet rest None is e = cc
decoded_from (first ∷ more) octet rest None is e = plain_decoded first more is
    ∙ ap (λ p. p.0 ∷ quoted_printable p.1) (same_split (first, more) (octet, rest) e)

-- the first octet that is encoded, before what the octets after it encode
pub one_decoded : (octets : List ℕ) (octet : ℕ) (rest : List ℕ)
    → split_octet octets ≡ Some (octet, rest) → quoted_printable octets ≡ octet ∷ quoted_printable
    rest
one_decoded octets octet rest e = decoded_from octets octet rest (split_escape octets) refl e

none_from : (octets : List ℕ) (found : Option (ℕ × List ℕ)) → or_first found octets ≡ None
    → octets ≡ []
none_from octets (Some split) e = cc
none_from [] None e = refl
none_from (first ∷ more) None e = cc

none_encoded : quoted_printable [] ≡ []
unfolding quoted_printable
none_encoded = refl

pub none_decoded : (octets : List ℕ) → split_octet octets ≡ None → quoted_printable octets ≡ []
none_decoded octets e = ap quoted_printable (none_from octets (split_escape octets) e)
    ∙ none_encoded
