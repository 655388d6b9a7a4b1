-- The JSON text of a page, and the well-formed pages: those whose text is read back.
use Rattle.std.specs.Prelude.{ℕ, ◌≡◌, List, map}
use Rattle.std.specs.List.{AllByRecursion}
use Rattle.serde_json.specs.Written.{compact_text}
use Rattle.vcard_text.specs.Cards.{uid_of, canonical_text}
use Rattle.vcard_text.specs.Spelling.{Spells}
use Rattle.book_model.specs.declared.page.Entry.{Entry}
use Rattle.book_model.specs.declared.page.Entry.TheVariants.{Changed, Removed}
use Rattle.book_model.specs.declared.page.Page.{Page}
use Rattle.book_model.specs.Pages.{token_of}
use Rattle.sync_core.specs.TokenTexts.{token_octets, IsTokenText}
use Rattle.page_json.specs.PageTexts.{MemberTexts, changed, removed, PageTexts, IsVersion}
use Rattle.page_json.specs.PageValues.{page_value}

-- ---- writing

abbrev pub member_texts : Entry → MemberTexts
member_texts (Changed uid version card) = changed uid version (canonical_text card)
member_texts (Removed uid) = removed uid

abbrev pub page_texts : Page → PageTexts
page_texts page = record {
  members = map member_texts page.entries;
  token = token_octets (token_of page);
  truncated = page.truncated;
}

-- the page's JSON without white space, the names of each object ordered by their octets
abbrev pub report_text : Page → List ℕ
report_text page = compact_text (page_value (page_texts page))

-- ---- reading back

-- the canonical text of the entry's card is read back as the card
abbrev pub SpellsItsCard : Entry → Type 0
SpellsItsCard (Changed uid version card) = Spells (canonical_text card) card
SpellsItsCard (Removed uid) = Unit {0}

-- a card is under its own UID, and its version is within the bounds
abbrev pub IsWellFormedEntry : Entry → Type 0
IsWellFormedEntry (Changed uid version card) = IsVersion version × (uid_of card ≡ uid)
IsWellFormedEntry (Removed uid) = Unit {0}

-- each entry is well formed, the token's numbers fit its text, and its mark is in order
pub record IsWellFormedPage (page : Page) : Type 0 where
  pub entries : AllByRecursion IsWellFormedEntry page.entries
  pub token : IsTokenText (token_octets (token_of page)) (token_of page)
