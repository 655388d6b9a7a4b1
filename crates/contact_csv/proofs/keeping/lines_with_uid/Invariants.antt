use Rattle.std.proofs.Common.{string_bytes}
use Rattle.contact_csv.specs.internal.Keeping.{BeginsWithUid}
use Rattle.contact_csv.proofs.keeping.lines_with_uid.Given as goal

-- the lines so far begin with that of the UID
abbrev pub invariant-loop-line : goal.invariant-loop-line
invariant-loop-line l = BeginsWithUid (string_bytes l.fn.uid) l.made
