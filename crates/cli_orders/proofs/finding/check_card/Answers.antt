use Rattle.cli_orders.proofs.finding.check_card.Goals as goal

pub returns-in_ok-line_of_fault-in_default : goal.returns-in_ok-line_of_fault-in_default
returns-in_ok-line_of_fault-in_default c =
    (c.in-Err.ensures.fault c.in_default.not-Memory, c.in_ok-line_of_fault-in_default.ensures)
