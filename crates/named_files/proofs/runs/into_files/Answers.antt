use Rattle.named_files.proofs.RestartLemmas.{clean_in_files, left_in_files, sealed_in_files}
use Rattle.named_files.proofs.runs.into_files.Goals as goal

pub returns-clause-sealed : goal.returns-clause-sealed
returns-clause-sealed g c = sealed_in_files c.into_store.result _ c.close.result c.close.ensures
    c.into_store.ensures.numbered c.into_store.ensures.sound c.into_store.ensures.quiet.outcomes

pub returns-clause-leaves : goal.returns-clause-leaves
returns-clause-leaves g c = left_in_files g.D.Disk c.close.result _ (returns-clause-sealed g c)

pub returns-clause-clean : goal.returns-clause-clean
returns-clause-clean g c = clean_in_files c.args.connection c.into_store.result c.close.result
    c.close.ensures c.into_store.ensures.quiet
