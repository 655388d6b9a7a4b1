use Rattle.store_check.proofs.listed.first_faulty_listed.Goals as goal

pub returns-in-Some-clause-bad : goal.returns-in-Some-clause-bad
returns-in-Some-clause-bad c members = c.in-Some.ensures.bad c.args.limits members
