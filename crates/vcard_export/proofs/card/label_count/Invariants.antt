use Rattle.std.proofs.Common.{◌≡◌, ◌≤◌, take, count_by}
use Rattle.vcard_export.specs.OlderParams.{is_label}
use Rattle.vcard_export.proofs.card.label_count.Given as goal

-- the labels so far are counted
abbrev pub invariant-loop-param : goal.invariant-loop-param
invariant-loop-param l = (l.count ≡ count_by is_label (take l.param-index l.params))
    × (l.count ≤ l.param-index)
