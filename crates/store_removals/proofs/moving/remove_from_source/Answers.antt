use Rattle.store_removals.proofs.moving.remove_from_source.Goals as goal

pub returns-in-None-clause-books_after : goal.returns-in-None-clause-books_after
returns-in-None-clause-books_after g c =
    rw c.in-None.is c.remove_keeping_horizon.ensures.books_after

pub returns-in-Some-clause-books_after : goal.returns-in-Some-clause-books_after
returns-in-Some-clause-books_after g c =
    rw c.in-Some.is c.remove_raising_horizon.ensures.books_after

pub returns-in-None-clause-store_fault : goal.returns-in-None-clause-store_fault
returns-in-None-clause-store_fault g c fits low = c.remove_keeping_horizon.ensures.store_fault fits

pub returns-in-Some-clause-store_fault : goal.returns-in-Some-clause-store_fault
returns-in-Some-clause-store_fault g c fits low =
    c.remove_raising_horizon.ensures.store_fault fits (rw c.in-Some.is at low)
