use Rattle.std.proofs.Common.{◌≡◌, ◌++◌, take, flat_map, map}
use Rattle.vcard_values.specs.Types.{part_types}
use Rattle.vcard_values.proofs.types.push_parts.Given as goal

-- the types of the parts so far were appended
abbrev pub invariant-loop-part : goal.invariant-loop-part
invariant-loop-part l = l.types ≡ l.fn.types
    ++ flat_map part_types (map (λ part. part.now) (take l.part-index l.parts))
