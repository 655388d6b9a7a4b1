-- What readers have left to give. Public contracts don't cite it.
use Rattle.std.specs.Prelude.{ℕ, List, ◌++◌, Option, Some, drop, take, option_map}
use Rattle.std.specs.Io.Chain.{chain_remaining}
use Rattle.import_text.specs.Texts.{utf16_octets}
use Rattle.import_text.specs.declared.octets.Octets.{Octets}
use Rattle.import_text.specs.declared.reader.Source.{Source}
use Rattle.import_text.specs.declared.reader.Source.TheVariants.{Plain, Utf16}
use Rattle.import_text.specs.declared.utf16_reader.Utf16Reader.{Utf16Reader}

-- the octets that weren't given yet
abbrev pub octets_left : Octets → List ℕ
octets_left octets = drop octets.start octets.items.items

-- the octets that were read but not decoded yet
abbrev pub undecoded : {R : Type 0} → Utf16Reader R → List ℕ
undecoded reader = take reader.count reader.room.items

-- the text that wasn't given yet, and that of the octets after it, where they are known
abbrev pub units_left : {R : Type 0} → (R → Option (List ℕ)) → Utf16Reader R → Option (List ℕ)
units_left remaining reader = option_map
    (λ rest. octets_left reader.text ++ utf16_octets reader.is_big (undecoded reader ++ rest))
    (remaining reader.reader)

-- the octets that a source has left, where they are known
abbrev pub source_left : {R : Type 0} → (R → Option (List ℕ)) → Source R → Option (List ℕ)
source_left remaining (Plain chain) =
    chain_remaining (λ octets. Some (octets_left octets)) remaining chain
source_left remaining (Utf16 reader) = units_left remaining reader
