use Rattle.std.proofs.Common.{subst}
use Rattle.http_hub.specs.Hubs.{HubValue, any_expired}
use Rattle.http_hub.specs.Links.{IsFirstTime}
use Rattle.http_hub.proofs.bounded.BoundedHub.next_expiry.Goals as goal

pub returns : goal.returns
returns c = subst (λ (h : HubValue). IsFirstTime (λ now. any_expired h.slots now c.args.patience)
    c.next_expiry.result) c.self.view_is c.next_expiry.ensures
