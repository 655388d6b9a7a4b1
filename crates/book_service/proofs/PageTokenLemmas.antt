-- The token of a page of well-formed books fits in a token text, with its numbers in order.
use Rattle.std.proofs.Common.{refl}
use Rattle.book_laws.specs.WellFormedLaws.{PagesFitBooks, PagesHaveShortNumbers}
use Rattle.book_service.specs.PageTokenLaws.{PageTokensHaveTexts}

pub page_tokens_have_texts : PagesFitBooks → PagesHaveShortNumbers → PageTokensHaveTexts
page_tokens_have_texts fit short limits books name token limit asked page range is e report =
    let fits = fit limits books name token limit asked page is e report in
    let numbers = short limits books name token limit asked page range is e report in
    record {
      spelled = refl;
      short_book = numbers.short_book;
      short_at = numbers.short_at;
      short_base = numbers.short_base;
      ordered = fits.ordered;
    }
