use Rattle.std.proofs.Common.{◌≡◌, ◌-◌, ◌∙◌, length, ap}
use Rattle.std.proofs.lemmas.List.{length-drop}
use Rattle.import_text.proofs.FillLemmas.{read_more, read_none, rest_is}
use Rattle.cli_orders.proofs.reading.fill.Goals as goal
use Rattle.cli_orders.proofs.reading.fill.Goals.{in-Ok, in-Err}

-- what one more call read follows what was read
pub loop-read-preserved : goal.loop-read-preserved
loop-read-preserved g c =
    let fills : length c.read.new.buf ≡ length c.loop-read.room - c.loop-read.count =
    c.read.auto.buf ∙ ap length (rest_is c.loop-read.count c.loop-read.room)
    ∙ length-drop c.loop-read.count c.loop-read.room in
    elim c.match-read.branch [
      | in-Ok w ↦ read_more _ _ _ c.loop-read.count w.in-Ok.more c.match-read.count
          (length c.args.room.now) c.loop-read.room c.read.new.buf w.count-is
          c.loop-read.invariant.1 fills c.loop-read.invariant.2 w.in-Ok.ensures.bound.0
          c.loop-read.invariant.0 w.in-Ok.ensures.bytes.0
      | in-Err w ↦ read_none _ _ _ c.loop-read.count c.match-read.count (length c.args.room.now)
          c.loop-read.room c.read.new.buf w.count-is c.loop-read.invariant.1 fills
          c.loop-read.invariant.2 c.loop-read.invariant.0 w.in-Err.ensures.bytes
    ]
