use Rattle.std.proofs.Common.{Bor, List, ℕ, bytes_eq, refl}
use Rattle.std.proofs.lemmas.Result.{IfOk-weaker}
use Rattle.std.specs.Ordering.{eq_by_cmp, nat_cmp}
use Rattle.std.specs.Cmp.Lexicographic.{slice_cmp}
use Rattle.store_check.specs.RowChecks.{text_cell}
use Rattle.store_check.proofs.DistinctLemmas.{own_keys, texts_alike}
use Rattle.store_check.proofs.keys.have_distinct_texts.Goals as goal

pub returns : goal.returns
returns c =
    IfOk-weaker c.are_distinct.result _ _
    (λ returned h. own_keys (eq_by_cmp (λ (x y : Bor (List ℕ)). slice_cmp nat_cmp x.now y.now))
    (λ s t. bytes_eq t s) (λ k. k.now) (text_cell c.args.at)
    (λ a b. bytes_eq (text_cell c.args.at b) (text_cell c.args.at a))
    (λ x y. texts_alike x.now y.now) (λ a b. refl) c.in_ok-text_column.field-0.items c.args.rows.now
    c.in_ok-text_column.ensures returned h) c.are_distinct.ensures
