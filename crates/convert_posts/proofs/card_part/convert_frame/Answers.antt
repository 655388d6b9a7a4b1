use Rattle.std.proofs.Common.{◌∙◌}
use Rattle.convert_posts.proofs.PartLemmas.{cards_are_part}
use Rattle.convert_posts.proofs.card_part.convert_frame.Goals as goal

pub returns-in_ok-part-in-Some : goal.returns-in_ok-part-in-Some
returns-in_ok-part-in-Some c =
    cards_are_part c.args.body.now c.args.frame.taken c.in-Some.converted.summary
    c.in-Some.converted.rows c.in_ok-part-in-Some.part c.requires.within
    c.in_ok-part-in-Some.ensures.taken c.in_ok-part-in-Some.ensures.summary
    c.in_ok-part-in-Some.ensures.rows
    c.are_returns.result (c.in_ok-part-in-Some.ensures.kind
    ∙ c.requires.kind) (rw (c.in-Some.is, c.split_at.ensures.front) at
    c.in_ok-converted.ensures)
