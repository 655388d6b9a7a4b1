use Rattle.book_laws.proofs.PagingLemmas.{truncated_pages_are_bounded}
use Rattle.book_laws.proofs.devices.truncated_pages_are_bounded.Goals as goal

pub returns : goal.returns
returns c = truncated_pages_are_bounded
