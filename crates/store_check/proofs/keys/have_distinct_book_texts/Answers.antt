use Rattle.std.proofs.Common.{◌&&◌, Bor, List, ℕ, ℤ, int_eq, bytes_eq, refl}
use Rattle.std.proofs.lemmas.Result.{IfOk-weaker}
use Rattle.std.specs.Ordering.{eq_by_cmp, int_cmp, nat_cmp, ordering_then}
use Rattle.std.specs.Cmp.Lexicographic.{slice_cmp}
use Rattle.store_check.specs.RowChecks.{int_cell, text_cell, book_and_text}
use Rattle.store_check.proofs.DistinctLemmas.{own_keys, turned_ints, texts_alike, both_alike}
use Rattle.store_check.proofs.keys.have_distinct_book_texts.Goals as goal

pub returns : goal.returns
returns c =
    IfOk-weaker c.are_distinct.result _ _
    (λ returned h. own_keys (eq_by_cmp (λ (x y : ℤ × Bor (List ℕ)). ordering_then
    (int_cmp x.0 y.0) (slice_cmp nat_cmp x.1.now y.1.now))) (λ s t. int_eq t.0 s.0
    && bytes_eq t.1 s.1) (λ k. (k.0, k.1.now)) (book_and_text c.args.at)
    (λ a b. int_eq (int_cell 1 b) (int_cell 1 a) && bytes_eq (text_cell c.args.at b)
    (text_cell c.args.at a))
    (λ x y. both_alike (int_cmp x.0 y.0) (slice_cmp nat_cmp x.1.now y.1.now) (int_eq y.0 x.0)
    (bytes_eq y.1.now x.1.now) (turned_ints x.0 y.0) (texts_alike x.1.now y.1.now))
    (λ a b. refl)
    c.in_ok-book_text_column.field-0.items c.args.rows.now c.in_ok-book_text_column.ensures returned
    h) c.are_distinct.ensures
