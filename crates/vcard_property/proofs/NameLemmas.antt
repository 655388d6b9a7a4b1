-- Legal names are text.
use Rattle.std.proofs.Common.{◌≡◌, ℕ, true, List, IsUtf8}
use Rattle.std.proofs.lemmas.Str.{IsUtf8-from_ascii}
use Rattle.vcard_lines.specs.LegalParts.{is_name}
use Rattle.vcard_lines.proofs.FrontLemmas.{name_is_ascii}
use Rattle.vcard_lines.proofs.LegalPartLemmas.{name_from_test}

pub name_is_text : (octets : List ℕ) → is_name octets ≡ true → IsUtf8 octets
name_is_text octets e =
    IsUtf8-from_ascii octets (name_is_ascii octets (name_from_test octets e).of_class)
