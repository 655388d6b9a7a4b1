use Rattle.std.proofs.Common.{◌++◌, ◌∙◌, ap, codes, decimal}
use Rattle.cli_host.proofs.ListingLemmas.{end_apart}
use Rattle.cli_host.proofs.listing.write_row.Goals as goal

pub returns : goal.returns
returns c =
    let line = c.args.line.now in
    let whole = rw c.as_str-name.ensures at c.in_ok-row.ensures.ok in
    c.in_ok-extend_from_slice.ensures.items
    ∙ ap (λ octets. c.args.out.now.items ++ octets)
    (c.as_bytes.ensures.value ∙ whole
    ∙ ap (λ rest. codes "name " ++ rest) (end_apart line.name (decimal line.id)
    (decimal c.args.tally.now.cards) (decimal line.number) (decimal line.horizon)
    (decimal c.args.keep)))
