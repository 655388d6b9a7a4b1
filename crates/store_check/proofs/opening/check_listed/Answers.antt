use Rattle.std.proofs.Common.{rules}
use Rattle.store_check.specs.RowFaults.{IsAmong, IsLabelled}
use Rattle.store_check.proofs.FaultLemmas.{labelled}
use Rattle.store_check.proofs.opening.check_listed.Goals as goal

pub returns-in-Some-clause-tests : goal.returns-in-Some-clause-tests
returns-in-Some-clause-tests c members =
    let all = c.args.listed.now in
    let bad = c.in-Some.ensures.bad members in
    let among : IsAmong c.args.limits all.books.items members all.imports.items all.keeps.items
    c.in-Some.row.now c.in-Some.fault = search rules in
    let label : IsLabelled all.books.items c.in-Some.row.now c.in-Some.fault c.in_ok-label.field-0 =
    search rules in
    labelled c.args.limits all.books.items members all.imports.items all.keeps.items
    c.in-Some.row.now c.in-Some.fault c.in_ok-label.field-0 among label
