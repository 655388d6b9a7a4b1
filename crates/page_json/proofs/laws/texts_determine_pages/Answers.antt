use Rattle.page_json.proofs.OnePageLemmas.{text_page_one}
use Rattle.page_json.proofs.laws.texts_determine_pages.Goals as goal

pub returns : goal.returns
returns c = text_page_one c.values_determine_pages.ensures
