-- What the readers of a file give, before it is known what the file has.
use Rattle.std.specs.Prelude.{ℕ, ◌≡◌, ◌++◌, List, Option, Some, None, IfSome, take, drop, option_map}
use Rattle.std.specs.Borrow.{Bor}
use Rattle.std.specs.Io.Chain.{chain_remaining}
use Rattle.std.specs.declared.io.traits.Chain.{Chain}
use Rattle.import_text.specs.Readers.{text_left}
use Rattle.import_text.specs.declared.reader.TextReader.{TextReader}
use Rattle.card_conversion.specs.LineEnds.{with_line_feeds}
use Rattle.card_conversion.specs.declared.line_ends.LineEnds.{LineEnds}
use Rattle.cli_convert.specs.declared.charset_reader.CharsetReader.{CharsetReader}
use Rattle.cli_convert.specs.declared.charset_reader.Decoding.{Decoding}
use Rattle.cli_convert.specs.declared.charset_reader.Decoding.TheVariants as decoding

-- The octets that a reader will give which decodes so, where they are known: those of the file, if
-- they are given on as they are.
abbrev pub left_after : {R : Type 0} → (R → Option (List ℕ)) → Decoding → R → Option (List ℕ)
left_after remaining decoding.Plain reader = remaining reader
left_after remaining decoding.Utf8 reader = None
left_after remaining (decoding.Octets charset) reader = None

abbrev pub charset_left : {R : Type 0} → (R → Option (List ℕ)) → CharsetReader R → Option (List ℕ)
charset_left remaining reader = left_after remaining reader.decoding reader.reader

-- These first octets were read, at most this number, and the others are left. `old` and `new` are
-- the octets that were left and are left, where they are known.
abbrev pub ReadsHead : ℕ → Option (List ℕ) → Option (List ℕ) → List ℕ → Type 0
ReadsHead size old new head =
    IfSome old (λ octets. (head ≡ take size octets) × (new ≡ Some (drop size octets)))

-- what is left of a file's text that is read through a mark and the file's first octets
abbrev pub whole_left : {R : Type 0} → (R → Option (List ℕ))
    → TextReader (CharsetReader (Chain (Chain (Bor (List ℕ)) (Bor (List ℕ))) R)) → Option (List ℕ)
whole_left remaining text = text_left (charset_left (chain_remaining (chain_remaining
    (λ (octets : Bor (List ℕ)). Some octets.now) (λ (octets : Bor (List ℕ)). Some octets.now))
    remaining)) text

-- what is left of a text that is read through what stands above it and its head, with its line ends
abbrev pub ends_left : {R : Type 0} → (R → Option (List ℕ))
    → LineEnds (Chain (Chain (Bor (List ℕ)) (Bor (List ℕ))) R) → Option (List ℕ)
ends_left remaining text = option_map (with_line_feeds text.are_returns) (chain_remaining
    (chain_remaining (λ (octets : Bor (List ℕ)). Some octets.now)
    (λ (octets : Bor (List ℕ)). Some octets.now)) remaining text.reader)
