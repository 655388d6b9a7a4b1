use Rattle.std.proofs.Common.{◌≡◌, ◌≤◌, take, count_by}
use Rattle.vcard_export.specs.Forms.{is_comma}
use Rattle.vcard_export.proofs.form.comma_count.Given as goal

-- the commas so far are counted
abbrev pub invariant-loop-octet : goal.invariant-loop-octet
invariant-loop-octet l = (l.count ≡ count_by is_comma (take l.octet-index l.octets))
    × (l.count ≤ l.octet-index)
