-- Words of visible ASCII are text.
use Rattle.std.proofs.Common.{◌≡◌, ◌<◌, ◌∷◌, [], ℕ, true, List, IsUtf8, arith}
use Rattle.std.specs.Char.{is_ascii_graphic}
use Rattle.std.specs.List.{list_all}
use Rattle.std.specs.Str.{IsAscii}
use Rattle.std.proofs.lemmas.Bool.{and_parts}
use Rattle.std.proofs.lemmas.Bool.Decides.{nat_tests}
use Rattle.std.proofs.lemmas.Str.{IsUtf8-from_ascii}
use Rattle.std.proofs.lemmas.Str.Ascii.{IsAscii-nil, IsAscii-cons}

below : (b : ℕ) → is_ascii_graphic b ≡ true → b < 128
below b e = grind (arith, nat_tests)

graphic_is_ascii : (word : List ℕ) → list_all is_ascii_graphic word ≡ true → IsAscii word
graphic_is_ascii [] e = IsAscii-nil
graphic_is_ascii (b ∷ bs) e =
    let parts = and_parts (is_ascii_graphic b) (list_all is_ascii_graphic bs) e in
    IsAscii-cons b bs (below b parts.0) (graphic_is_ascii bs parts.1)

pub graphic_is_text : (word : List ℕ) → list_all is_ascii_graphic word ≡ true → IsUtf8 word
graphic_is_text word e = IsUtf8-from_ascii word (graphic_is_ascii word e)
