use Rattle.std.proofs.Common.{◌≡◌, ◌++◌, take, flat_map, map}
use Rattle.vcard_values.specs.ValueTexts.{decoded_component}
use Rattle.vcard_values.proofs.components.push_components.Given as goal

-- what the components so far encode was appended
abbrev pub invariant-loop-component : goal.invariant-loop-component
invariant-loop-component l = l.out.items ≡ l.fn.out.items
    ++ flat_map decoded_component (map (λ component. component.now)
    (take l.component-index l.components))
