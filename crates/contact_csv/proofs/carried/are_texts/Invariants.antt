use Rattle.std.proofs.Common.{◌≡◌, map, take}
use Rattle.contact_csv.proofs.carried.are_texts.Given as goal

-- the texts so far are the same
abbrev pub invariant-loop-place : goal.invariant-loop-place
invariant-loop-place l = take l.place (map (λ value. value.text) l.values)
    ≡ take l.place (map (λ text. text.now) l.texts)
