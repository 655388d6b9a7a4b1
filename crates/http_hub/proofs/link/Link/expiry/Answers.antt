use Rattle.std.proofs.Common.{◌≡◌, ◌∙◌, ◌+◌, ◌||◌, ℕ, Some, ap, arith, drop, length, subst, sym}
use Rattle.http_hub.specs.Links.{IsFirstTime, LinkValue, extra_time, has_expired, is_long_ago}
use Rattle.http_hub.proofs.ExpiryLemmas.{first_time_as}
use Rattle.http_hub.proofs.link.Link.expiry.Goals as goal

plus_none : (count : ℕ) → count ≡ count + 0
plus_none count = omega arith

pub returns : goal.returns
returns c =
    let active : ℕ = c.self.inside.active_at in
    let since = c.self.inside.request_since in
    let patience : ℕ = c.args.patience in
    let seen : LinkValue = record {
      serial = c.self.inside.serial;
      session = c.self.inside.session;
      pending = drop c.self.inside.sent_count c.self.inside.out.items;
      reply_length = length c.self.inside.out.items;
      active_at = active;
      request_since = since;
      request_length = c.self.inside.request_len;
    } in
    let both = c.earlier.ensures (λ now. is_long_ago (Some active) now (patience + 0))
    (λ now. is_long_ago since now (patience + c.extra_time.result))
    c.first_after-silent.ensures c.first_after-slow.ensures in
    let same = λ (now : ℕ).
    ap (λ n. is_long_ago (Some active) now n
    || is_long_ago since now (patience + extra_time c.self.inside.request_len)) (plus_none patience)
    ∙ ap (λ n. is_long_ago (Some active) now (patience + 0) || is_long_ago since now (patience + n))
    (sym c.extra_time.ensures) in
    subst (λ (x : LinkValue). IsFirstTime (λ now. has_expired x now patience) c.earlier.result)
    c.self.view_is
    (first_time_as (λ now. is_long_ago (Some active) now (patience + 0) || is_long_ago since now
    (patience + c.extra_time.result))
    (λ now. has_expired seen now patience) c.earlier.result same both)
