use Rattle.book_service.proofs.PageCountLemmas.{truncated_pages_are_bounded}
use Rattle.book_service.proofs.laws.truncated_pages_are_bounded.Goals as goal

pub returns : goal.returns
returns c = truncated_pages_are_bounded c.calls_extend_histories.ensures
    c.due_members_are_counted.ensures.fewer c.due_members_are_counted.ensures.none
    c.rows_are_per_book.ensures
