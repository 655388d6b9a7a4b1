-- The first fault of a text that isn't a page's: it isn't JSON; then its shape; then the first
-- member that describes no entry; then the token.
use Rattle.std.specs.Prelude.{ℕ, ◌≡◌, ◌≢◌, ◌⊎◌, List, ◌∷◌, ◌++◌}
use Rattle.serde_json.specs.Data.{Data}
use Rattle.vcard_lines.specs.declared.line.Line.{Line}
use Rattle.vcard_text.specs.Cards.{uid_of}
use Rattle.vcard_text.specs.Spelling.{Spells}
use Rattle.book_model.specs.declared.page.Entry.{Entry}
use Rattle.book_model.specs.declared.token.Token.{Token}
use Rattle.sync_core.specs.TokenTexts.{IsTokenText}
use Rattle.page_json.specs.declared.fault.ReportFault.{ReportFault}
use Rattle.page_json.specs.declared.fault.ReportFault.TheVariants.{NotJson, BadShape, BadCard}
use Rattle.page_json.specs.declared.fault.ReportFault.TheVariants.{BadToken}
use Rattle.page_json.specs.PageTexts.{MemberTexts, changed, removed, PageTexts, DescribeEntries}
use Rattle.page_json.specs.PageValues.{HasPageShape}
use Rattle.page_json.specs.PageJson.{IsJson}

-- the text is that of a card with another UID
pub record CardHasOtherUid (uid text : List ℕ) : Type 0 where
  pub card : List Line
  pub spelled : Spells text card
  pub other : uid_of card ≢ uid

-- The text isn't a card's (BadCard), or is that of a card with another UID (BadShape).
abbrev pub HasCardFault : List ℕ → List ℕ → ReportFault → Type 0
HasCardFault uid text fault =
    ((fault ≡ BadCard) × ((card : List Line) → Spells text card → ⊥))
    ⊎ ((fault ≡ BadShape) × CardHasOtherUid uid text)

-- The member describes no entry, because of this fault.
abbrev pub HasMemberFault : MemberTexts → ReportFault → Type 0
HasMemberFault (changed uid version text) fault = HasCardFault uid text fault
HasMemberFault (removed uid) fault = ⊥

-- the members before this one describe entries, and this one has the fault
pub record IsFirstMemberFault (members : List MemberTexts) (fault : ReportFault) : Type 0 where
  pub before : List MemberTexts
  pub faulty : MemberTexts
  pub others : List MemberTexts
  pub members_are : members ≡ before ++ faulty ∷ others
  pub entries : List Entry
  pub described : DescribeEntries before entries
  pub has_fault : HasMemberFault faulty fault

-- each member describes an entry, and the token's text isn't that of a token
pub record HasBadToken (page : PageTexts) : Type 0 where
  pub entries : List Entry
  pub described : DescribeEntries page.members entries
  pub none : (token : Token) → IsTokenText page.token token → ⊥

-- The first fault of a page's texts: that of the first faulty member, and then that of the token.
abbrev pub HasPageTextFault : PageTexts → ReportFault → Type 0
HasPageTextFault page fault =
    IsFirstMemberFault page.members fault ⊎ ((fault ≡ BadToken) × HasBadToken page)

-- The text's first fault: it isn't JSON; then its value hasn't the shape of a page; and then the
-- first fault of the page's texts.
pub data IsFirstReportFault (text : List ℕ) (fault : ReportFault) : Type 0 where
  of_json : fault ≡ NotJson → ((value : Data) → IsJson text value → ⊥)
      → IsFirstReportFault text fault
  of_shape : fault ≡ BadShape → (value : Data) → IsJson text value
      → ((page : PageTexts) → HasPageShape value page → ⊥) → IsFirstReportFault text fault
  of_texts : (value : Data) → IsJson text value → (page : PageTexts) → HasPageShape value page
      → HasPageTextFault page fault → IsFirstReportFault text fault
