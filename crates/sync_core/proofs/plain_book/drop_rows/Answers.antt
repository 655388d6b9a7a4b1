use Rattle.std.proofs.Common.{rules, ◌≡◌, filter}
use Rattle.std.proofs.lemmas.Map.Made.{filter_same_pairs}
use Rattle.book_model.specs.Forgetting.{is_row_kept}
use Rattle.sync_core.proofs.ForgetLemmas.{rows_stay, rows_go}
use Rattle.sync_core.proofs.plain_book.drop_rows.Goals as goal

pub returns-clause-dropped : goal.returns-clause-dropped
returns-clause-dropped c =
    let filtered : c.retain.new.self.entries ≡ filter (λ e. is_row_kept c.args.horizon e.1)
    c.args.rows.now.entries = filter_same_pairs _ (λ e. is_row_kept c.args.horizon e.1) _
    (λ k v b w f' t. search rules) _ _ c.retain.ensures.filtered in
    rw (c.len-before.ensures.len, c.len.ensures.len) (rows_go c.args.horizon c.args.rows.now
    c.retain.new.self c.len-before.ensures.ordered c.len.ensures.ordered filtered)

pub returns-clause-rows : goal.returns-clause-rows
returns-clause-rows c =
    let filtered : c.retain.new.self.entries ≡ filter (λ e. is_row_kept c.args.horizon e.1)
    c.args.rows.now.entries = filter_same_pairs _ (λ e. is_row_kept c.args.horizon e.1) _
    (λ k v b w f' t. search rules) _ _ c.retain.ensures.filtered in
    rows_stay c.args.horizon c.args.rows.now c.retain.new.self c.len-before.ensures.ordered
    c.len.ensures.ordered filtered
