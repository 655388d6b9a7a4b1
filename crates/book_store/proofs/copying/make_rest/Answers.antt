use Rattle.std.proofs.Common.{◌∙◌}
use Rattle.sqlite.specs.Held.{state}
use Rattle.book_store.proofs.CopyLemmas.{both, made_without}
use Rattle.book_store.proofs.copying.make_rest.Goals as goal

pub returns-clause-rest : goal.returns-clause-rest
returns-clause-rest g c =
    both c.make_copy.result _ _ _ (λ copy holds again order.
    made_without (state g.T.Store copy.conn) c.args.names.now c.args.rows c.leave_out-kept.result _
    _ (c.as_slice.ensures.value ∙ c.in-Ok.ensures) (c.as_slice-2.ensures.value
    ∙ c.in-Ok.ensures) c.leave_out-kept.ensures (holds order)) c.make_copy.ensures.holds
    c.make_copy.ensures.holds
