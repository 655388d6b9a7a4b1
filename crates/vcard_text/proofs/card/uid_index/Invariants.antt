use Rattle.std.proofs.Common.{◌≡◌, find, take, codes, None}
use Rattle.vcard_text.specs.Cards.{line_is_named}
use Rattle.vcard_text.proofs.card.uid_index.Given as goal

-- no line so far is named UID
abbrev pub invariant-loop-place : goal.invariant-loop-place
invariant-loop-place l = find (line_is_named (codes "UID")) (take l.place l.lines) ≡ None
