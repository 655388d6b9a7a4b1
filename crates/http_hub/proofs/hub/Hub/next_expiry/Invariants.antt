use Rattle.std.proofs.Common.{take}
use Rattle.http_hub.specs.Hubs.{any_expired}
use Rattle.http_hub.specs.Links.{IsFirstTime}
use Rattle.http_hub.proofs.hub.Hub.next_expiry.Given as goal

abbrev pub invariant-loop-link : goal.invariant-loop-link
invariant-loop-link l = IsFirstTime (λ now. any_expired (take l.link-index l.link-items) now
    l.patience) l.next
