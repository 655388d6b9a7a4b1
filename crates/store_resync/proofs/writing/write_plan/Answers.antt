use Rattle.std.proofs.Common.{rules, ◌≡◌, pos, to_z, of_z, w64}
use Rattle.store_lookups.proofs.FindLemmas.{back_of}
use Rattle.store_writes.specs.TableChanges.{AreHeaderColumns}
use Rattle.store_resync.specs.internal.Stages.{header_after}
use Rattle.store_resync.proofs.writing.write_plan.Given as given
use Rattle.store_resync.proofs.writing.write_plan.Goals as goal
use Rattle.store_resync.proofs.writing.write_plan.Goals.{After-write_stage}

module _ (g : given.Over) (c : After-write_stage g) where
  id_is : to_z w64 (of_z w64 c.in_ok-id.id) ≡ pos c.args.plan.now.header.id
  id_is = back_of c.in_ok-id.id c.id.result c.args.plan.now.header.id c.in_ok-id.ensures.ok
      c.in_ok-id.ensures.fits c.id.ensures

  last_is : to_z w64 (of_z w64 c.in_ok-last.last) ≡ pos c.args.plan.now.last
  last_is = search rules

  columns : AreHeaderColumns (header_after c.args.stage c.args.plan.now)
      (to_z w64 (of_z w64 c.in_ok-id.id)) c.in_ok-numbers.numbers
  columns = record { id_is = id_is; numbers = search rules }

pub returns-in-Ok-clause-stage : goal.returns-in-Ok-clause-stage
returns-in-Ok-clause-stage g c legal rows name clean inside line =
    let p = (goal.at.returns-in-Ok-clause-stage g c).After-write_stage in
    c.in-Ok.ensures.stage (columns g p) (last_is g p) legal rows name clean inside line

pub returns-in-Ok-clause-keeps_commit : goal.returns-in-Ok-clause-keeps_commit
returns-in-Ok-clause-keeps_commit g c legal rows name clean inside line =
    let p = (goal.at.returns-in-Ok-clause-keeps_commit g c).After-write_stage in
    c.write_stage.ensures.keeps_commit (id_is g p) (last_is g p) legal rows name clean inside line

pub returns-in-Err-clause-keeps_commit : goal.returns-in-Err-clause-keeps_commit
returns-in-Err-clause-keeps_commit g c legal rows name clean inside line =
    let p = (goal.at.returns-in-Err-clause-keeps_commit g c).After-write_stage in
    c.write_stage.ensures.keeps_commit (id_is g p) (last_is g p) legal rows name clean inside line
