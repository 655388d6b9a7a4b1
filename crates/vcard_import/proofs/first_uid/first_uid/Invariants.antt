use Rattle.std.proofs.Common.{◌≡◌, drop}
use Rattle.vcard_import.specs.FirstUid.{first_uid, first_uid_after}
use Rattle.vcard_import.proofs.first_uid.first_uid.Given as goal

-- the UID of the logical lines that are left is the one of all
abbrev pub invariant-loop-index : goal.invariant-loop-index
invariant-loop-index l = first_uid_after l.version l.begun (drop l.index l.raws)
    ≡ first_uid l.version l.raws
