use Rattle.book_service.proofs.PageTokenLemmas.{page_tokens_have_texts}
use Rattle.book_service.proofs.page_tokens.page_tokens_have_texts.Goals as goal

pub returns : goal.returns
returns c = page_tokens_have_texts c.pages_fit_well_formed_books.ensures.fit
    c.pages_fit_well_formed_books.ensures.short_numbers
