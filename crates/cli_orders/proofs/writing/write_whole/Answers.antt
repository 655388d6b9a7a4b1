use Rattle.cli_orders.proofs.OctetLemmas.{wrote_more, wrote_none}
use Rattle.cli_orders.proofs.writing.write_whole.Goals as goal
use Rattle.cli_orders.proofs.writing.write_whole.Goals.{in-Ok, in-Err}

-- what one more call wrote follows what was written
pub loop-write-preserved : goal.loop-write-preserved
loop-write-preserved g c = elim c.match-write.branch [
  | in-Ok w ↦ wrote_more _ _ _ c.loop-write.count w.in-Ok.more c.match-write.count c.args.octets.now
      w.count-is c.loop-write.invariant.1 w.in-Ok.ensures.bound c.loop-write.invariant.0
      w.in-Ok.ensures.bytes
  | in-Err w ↦ wrote_none _ _ _ c.loop-write.count c.match-write.count c.args.octets.now w.count-is
      c.loop-write.invariant.1 c.loop-write.invariant.0 w.in-Err.ensures.bytes
]
