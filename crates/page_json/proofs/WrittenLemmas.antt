-- The written value of a page encodes the page.
use Rattle.std.proofs.Common.{List, [], ◌∷◌, map, refl}
use Rattle.std.specs.List.{AllByRecursion}
use Rattle.book_model.specs.declared.page.Entry.{Entry}
use Rattle.book_model.specs.declared.page.Entry.TheVariants.{Changed, Removed}
use Rattle.book_model.specs.declared.page.Page.{Page}
use Rattle.page_json.specs.PageTexts.{HasVersion, DescribeEntries, DescribesEntry}
use Rattle.page_json.specs.PageValues.{EncodeMembers, member_value, page_value}
use Rattle.page_json.specs.PageJson.{PageOf}
use Rattle.page_json.specs.WrittenPages.{IsWellFormedPage, IsWellFormedEntry, SpellsItsCard}
use Rattle.page_json.specs.WrittenPages.{member_texts, page_texts}

has_version : (e : Entry) → IsWellFormedEntry e → HasVersion (member_texts e)
has_version (Changed uid version card) is = is.0
has_version (Removed uid) is = tt

each_encoded : (es : List Entry) → AllByRecursion IsWellFormedEntry es
    → EncodeMembers (map member_value (map member_texts es)) (map member_texts es)
each_encoded [] all = tt
each_encoded (e ∷ es) all = (
  record { form = refl; version = has_version e all.0 },
  each_encoded es all.1,
)

described : (e : Entry) → IsWellFormedEntry e → SpellsItsCard e → DescribesEntry (member_texts e) e
described (Changed uid version card) is spells = (refl, refl, spells, is.1)
described (Removed uid) is spells = refl

each_described : (es : List Entry) → AllByRecursion IsWellFormedEntry es
    → AllByRecursion SpellsItsCard es → DescribeEntries (map member_texts es) es
each_described [] all spell = tt
each_described (e ∷ es) all spell = (described e all.0 spell.0, each_described es all.1 spell.1)

pub written_of_page : (page : Page) → IsWellFormedPage page
    → AllByRecursion SpellsItsCard page.entries → PageOf (page_value (page_texts page)) page
written_of_page page is spell = record {
  texts = page_texts page;
  shape = record {
    members = map member_value (map member_texts page.entries);
    form = refl;
    each = each_encoded page.entries is.entries;
  };
  describes = record {
    entries = each_described page.entries is.entries spell;
    token = is.token;
    truncated = refl;
  };
}
