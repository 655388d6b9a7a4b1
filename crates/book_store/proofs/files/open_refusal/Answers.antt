use Rattle.std.proofs.Common.{IfSome, Some, ap, subst, sym, ◌∙◌}
use Rattle.sqlite.specs.Files.{IsCleanLeft}
use Rattle.book_store.specs.FileRefusals.{IsOpenRefusalAfter}
use Rattle.book_store.proofs.RefusalLemmas.{open_fault_of_files}
use Rattle.book_store.proofs.files.open_refusal.Goals as goal

pub returns-in-Some-clause-right : goal.returns-in-Some-clause-right
returns-in-Some-clause-right g c =
    subst (λ rest. IsOpenRefusalAfter c.args.error rest c.open_fault_after-fault.result
    (Some c.open_fault_after-fault.new.left)) (sym c.in-Some.is)
    (open_fault_of_files c.args.error c.in-Some.left c.open_fault_after-fault.new.left
    c.open_fault_after-fault.result c.open_fault_after-fault.ensures.right)

pub returns-in-Some-clause-other : goal.returns-in-Some-clause-other
returns-in-Some-clause-other g c other =
    let kept = c.open_fault_after-fault.ensures.other other in
    (kept.0, ap Some kept.1 ∙ sym c.in-Some.is)

pub returns-in-Some-clause-clean : goal.returns-in-Some-clause-clean
returns-in-Some-clause-clean g c clean =
    subst (λ rest. IfSome rest IsCleanLeft) (sym c.in-Some.is)
    (c.open_fault_after-fault.ensures.clean clean)
