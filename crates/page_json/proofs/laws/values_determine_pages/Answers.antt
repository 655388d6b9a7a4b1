use Rattle.page_json.proofs.OnePageLemmas.{page_one}
use Rattle.page_json.proofs.laws.values_determine_pages.Goals as goal

pub returns : goal.returns
returns c = page_one c.card_is_unique.ensures c.token_texts_are_unique.ensures
