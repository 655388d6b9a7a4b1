use Rattle.http_requests.proofs.EndLemmas.{none_reads}
use Rattle.http_requests.proofs.progress.bound_fault.Goals as goal

-- a head that stood there would have ended
pub returns-in-Ok-Complete : goal.returns-in-Ok-Complete
returns-in-Ok-Complete c =
    let of = rw c.in-Ok-Complete.field-0-is at c.in-Ok-Complete.ensures.complete in
    absurd (none_reads c.args.text.now c.requires.not_ended of.0 _ of.1.reads)
