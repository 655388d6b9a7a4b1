use Rattle.std.proofs.Common.{◌≡◌, ◌++◌, take, flat_map, map}
use Rattle.vcard_values.specs.Types.{word_types}
use Rattle.vcard_values.proofs.types.push_types.Given as goal

-- the types of the words so far were appended
abbrev pub invariant-loop-word : goal.invariant-loop-word
invariant-loop-word l = l.types ≡ l.fn.types
    ++ flat_map word_types (map (λ word. word.now) (take l.word-index l.words))
