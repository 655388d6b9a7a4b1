use Rattle.std.proofs.Common.{◌≡◌, [], subst}
use Rattle.book_model.specs.Books.{Book}
use Rattle.book_model.specs.Pages.{due_rows}
use Rattle.sync_core.proofs.RowLemmas.{quiet_by}
use Rattle.sync_core.proofs.plain_book.PlainBook.is_unchanged_since.Goals as goal

pub returns-clause-none_due : goal.returns-clause-none_due
returns-clause-none_due c = λ heard.
    subst (λ (b : Book). due_rows b.members c.args.mark ≡ []) c.self.view_is
    (quiet_by c.args.mark c.self.inside.number c.self.inside.members heard c.self.invariant.0.rows)
