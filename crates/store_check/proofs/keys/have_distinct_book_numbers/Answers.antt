use Rattle.std.proofs.Common.{◌∙◌, ◌&&◌, ℤ, int_eq, refl}
use Rattle.std.proofs.lemmas.Result.{IfOk-weaker}
use Rattle.std.specs.Ordering.{eq_by_cmp, int_cmp, ordering_then}
use Rattle.std.proofs.lemmas.List.{map-id}
use Rattle.store_check.specs.RowChecks.{int_cell, book_and_number}
use Rattle.store_check.proofs.DistinctLemmas.{own_keys, turned_ints, both_alike}
use Rattle.store_check.proofs.keys.have_distinct_book_numbers.Goals as goal

pub returns : goal.returns
returns c =
    IfOk-weaker c.are_distinct.result _ _
    (λ returned h. own_keys (eq_by_cmp (λ (x y : ℤ × ℤ). ordering_then (int_cmp x.0 y.0)
    (int_cmp x.1 y.1))) (λ s t. int_eq t.0 s.0 && int_eq t.1 s.1) (λ k. k)
    (book_and_number c.args.at)
    (λ a b. int_eq (int_cell 1 b) (int_cell 1 a) && int_eq (int_cell c.args.at b)
    (int_cell c.args.at a))
    (λ x y. both_alike (int_cmp x.0 y.0) (int_cmp x.1 y.1) (int_eq y.0 x.0) (int_eq y.1 x.1)
    (turned_ints x.0 y.0) (turned_ints x.1 y.1)) (λ a b. refl)
    c.in_ok-book_number_column.field-0.items c.args.rows.now
    (map-id c.in_ok-book_number_column.field-0.items ∙ c.in_ok-book_number_column.ensures)
    returned h) c.are_distinct.ensures
