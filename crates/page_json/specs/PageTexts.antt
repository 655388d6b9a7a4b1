-- A page whose cards and token are still unparsed texts, and the page that these describe.
use Rattle.std.specs.Prelude.{ℕ, ◌≡◌, ◌<◌, ◌≤◌, List, [], ◌∷◌, Bool}
use Rattle.vcard_text.specs.Cards.{uid_of}
use Rattle.vcard_text.specs.Spelling.{Spells}
use Rattle.book_model.specs.declared.page.Entry.{Entry}
use Rattle.book_model.specs.declared.page.Entry.TheVariants.{Changed, Removed}
use Rattle.book_model.specs.declared.page.Page.{Page}
use Rattle.book_model.specs.Pages.{token_of}
use Rattle.sync_core.specs.TokenTexts.{IsTokenText}

-- one member of a page: the UID, the version and the card's text of a live one, or the UID of a
-- removed one
pub data MemberTexts : Type 0 where
  changed : List ℕ → ℕ → List ℕ → MemberTexts
  removed : List ℕ → MemberTexts

pub record PageTexts : Type 0 where
  pub members : List MemberTexts
  pub token : List ℕ
  pub truncated : Bool

-- a version is from 1 to 9,999,999,999,999
abbrev pub IsVersion : ℕ → Type 0
IsVersion version = (1 ≤ version) × (version < 10000000000000)

abbrev pub HasVersion : MemberTexts → Type 0
HasVersion (changed uid version text) = IsVersion version
HasVersion (removed uid) = Unit {0}

-- The texts describe the entry: the text is that of the entry's card, whose UID is the member's.
abbrev pub DescribesEntry : MemberTexts → Entry → Type 0
DescribesEntry (changed uid version text) (Changed own number card) =
    (own ≡ uid) × (number ≡ version) × Spells text card × (uid_of card ≡ uid)
DescribesEntry (changed uid version text) (Removed own) = ⊥
DescribesEntry (removed uid) (Changed own number card) = ⊥
DescribesEntry (removed uid) (Removed own) = own ≡ uid

-- The texts describe the entries, one for one.
abbrev pub DescribeEntries : List MemberTexts → List Entry → Type 0
DescribeEntries [] [] = Unit {0}
DescribeEntries [] (entry ∷ entries) = ⊥
DescribeEntries (member ∷ members) [] = ⊥
DescribeEntries (member ∷ members) (entry ∷ entries) =
    DescribesEntry member entry × DescribeEntries members entries

-- The texts describe the page: its entries, the token of its book and mark, and its truncation.
pub record DescribesPage (texts : PageTexts) (page : Page) : Type 0 where
  pub entries : DescribeEntries texts.members page.entries
  pub token : IsTokenText texts.token (token_of page)
  pub truncated : texts.truncated ≡ page.truncated
