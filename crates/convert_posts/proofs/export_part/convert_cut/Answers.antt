use Rattle.convert_posts.proofs.PartLemmas.{export_is_part}
use Rattle.convert_posts.proofs.export_part.convert_cut.Goals as goal

pub returns-in-Some-2 : goal.returns-in-Some-2
returns-in-Some-2 c =
    let it = rw c.in-Some-2.is at c.in_ok-converted.ensures in
    export_is_part c.args.body.now c.args.taken c.in-Some-2.converted.summary
    c.in-Some-2.converted.rows c.in_ok-part-in-Some-2.part c.requires
    c.in_ok-part-in-Some-2.ensures.taken c.in_ok-part-in-Some-2.ensures.summary
    c.in_ok-part-in-Some-2.ensures.rows
    c.in_ok-part-in-Some-2.ensures.kind it
