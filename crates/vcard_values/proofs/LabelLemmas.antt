-- The text of a label of one's own.
use Rattle.std.proofs.Common.{◌≡◌, ℕ, true, List, IsUtf8}
use Rattle.std.specs.Str.{is_utf8}
use Rattle.std.proofs.lemmas.Str.{IsUtf8-from_is_utf8}

pub label_is_text : (label : List ℕ) → is_utf8 label ≡ true → IsUtf8 label
label_is_text label e = IsUtf8-from_is_utf8 label e
