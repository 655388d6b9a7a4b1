use Rattle.std.proofs.Common.{Some, subst, sym}
use Rattle.book_store.specs.FileRefusals.{IsCreationRefusalAfter}
use Rattle.book_store.proofs.RefusalLemmas.{creation_fault_of_files}
use Rattle.book_store.proofs.files.creation_refusal.Goals as goal

pub returns-in-Some-clause-refused : goal.returns-in-Some-clause-refused
returns-in-Some-clause-refused g c =
    subst (λ rest. IsCreationRefusalAfter c.args.error rest c.creation_fault_after-fault.result
    (Some c.creation_fault_after-fault.new.left)) (sym c.in-Some.is)
    (creation_fault_of_files c.args.error c.in-Some.left c.creation_fault_after-fault.new.left
    c.creation_fault_after-fault.result c.creation_fault_after-fault.ensures.fault)
