use Rattle.store_removals.proofs.removing.write_remove.Goals as goal

pub returns-in-None-clause-atomic : goal.returns-in-None-clause-atomic
returns-in-None-clause-atomic g c = rw c.in-None.is c.write_deletion.ensures.atomic

pub returns-in-None-clause-crash : goal.returns-in-None-clause-crash
returns-in-None-clause-crash g c = rw c.in-None.is c.write_deletion.ensures.crash

pub returns-in-Some-clause-atomic : goal.returns-in-Some-clause-atomic
returns-in-Some-clause-atomic g c = rw c.in-Some.is c.write_drop.ensures.atomic

pub returns-in-Some-clause-crash : goal.returns-in-Some-clause-crash
returns-in-Some-clause-crash g c = rw c.in-Some.is c.write_drop.ensures.crash

pub returns-in-None-clause-store_fault : goal.returns-in-None-clause-store_fault
returns-in-None-clause-store_fault g c fits low = c.write_deletion.ensures.store_fault fits

pub returns-in-Some-clause-store_fault : goal.returns-in-Some-clause-store_fault
returns-in-Some-clause-store_fault g c fits low =
    c.write_drop.ensures.store_fault fits (rw c.in-Some.is at low)
