-- A value encodes at most one page.
use Rattle.std.proofs.Common.{◌≡◌, ℕ, List, [], ◌∷◌, Bool, Some, refl, sym, ap, ap₂, subst, ◌∙◌}
use Rattle.serde_json.specs.Data.{Data}
use Rattle.serde_json.specs.View.{items_of}
use Rattle.vcard_lines.specs.declared.line.Line.{Line}
use Rattle.vcard_text.specs.Spelling.{Spells}
use Rattle.book_model.specs.declared.page.Entry.{Entry}
use Rattle.book_model.specs.declared.page.Entry.TheVariants.{Changed, Removed}
use Rattle.book_model.specs.declared.page.Page.{Page}
use Rattle.book_model.specs.declared.token.Token.{Token}
use Rattle.book_model.specs.Pages.{token_of}
use Rattle.sync_core.specs.TokenTexts.{IsTokenText}
use Rattle.page_json.specs.PageTexts.{MemberTexts, changed, removed, PageTexts, DescribeEntries}
use Rattle.page_json.specs.PageTexts.{DescribesEntry, DescribesPage}
use Rattle.page_json.specs.PageValues.{HasPageShape, EncodeMembers, member_value}
use Rattle.page_json.specs.PageJson.{IsJson, IsTextOfPage, PageOf}
use Rattle.page_json.proofs.MemberLemmas.{items_one, same_parts}

-- ---- texts

value_one : (m n : MemberTexts) → member_value m ≡ member_value n → m ≡ n
value_one (changed uid version text) (changed own number other) e =
    let one : uid ≡ own = cc e in
    let two : version ≡ number = cc e in
    let three : text ≡ other = cc e in
    ap (λ x. changed x version text) one ∙ ap (λ x. changed own x text) two
    ∙ ap (λ x. changed own number x) three
value_one (changed uid version text) (removed own) e = absurd (cc e)
value_one (removed uid) (changed own number other) e = absurd (cc e)
value_one (removed uid) (removed own) e =
    let one : uid ≡ own = cc e in
    ap removed one

members_one : (ds : List Data) (ms ns : List MemberTexts) → EncodeMembers ds ms
    → EncodeMembers ds ns → ms ≡ ns
members_one [] [] [] one other = refl
members_one [] [] (n ∷ ns) one other = absurd other
members_one [] (m ∷ ms) ns one other = absurd one
members_one (d ∷ ds) [] ns one other = absurd one
members_one (d ∷ ds) (m ∷ ms) [] one other = absurd other
members_one (d ∷ ds) (m ∷ ms) (n ∷ ns) one other =
    ap₂ (λ x xs. x ∷ xs) (value_one m n (sym one.0.form ∙ other.0.form))
    (members_one ds ms ns one.1 other.1)

abbrev with_texts : List MemberTexts → List ℕ → Bool → PageTexts
with_texts members token truncated = record {
  members = members;
  token = token;
  truncated = truncated;
}

pub shape_one : (value : Data) (p q : PageTexts) → HasPageShape value p → HasPageShape value q
    → p ≡ q
shape_one value p q one other =
    let same = same_parts (items_of one.members) (items_of other.members) p.token q.token
    p.truncated q.truncated (sym one.form ∙ other.form) in
    let values = items_one one.members other.members same.0 in
    let members = members_one other.members p.members q.members
    (subst (λ ds. EncodeMembers ds p.members) values one.each) other.each in
    ap (λ x. with_texts x p.token p.truncated) members
    ∙ ap (λ x. with_texts q.members x p.truncated) same.1
    ∙ ap (λ x. with_texts q.members q.token x) same.2

pub json_one : (text : List ℕ) (v w : Data) → IsJson text v → IsJson text w → v ≡ w
json_one text v w one other = some_one v w (sym one.parsed ∙ other.parsed)
  where
    some_one : (v w : Data) → Some v ≡ Some w → v ≡ w
    some_one v w e = cc e

-- ---- pages

abbrev with_entries : Token → List Entry → Bool → Page
with_entries token entries truncated = record {
  book = token.book;
  entries = entries;
  mark = token.mark;
  truncated = truncated;
}

module _ (one_card : (text : List ℕ) (a b : List Line) → Spells text a → Spells text b
    → a ≡ b) where
  entry_one : (m : MemberTexts) (a b : Entry) → DescribesEntry m a → DescribesEntry m b → a ≡ b
  entry_one (changed uid version text) (Changed u v c) (Changed w x d) one other =
      ap (λ y. Changed y v c) (one.0 ∙ sym other.0) ∙ ap (λ y. Changed w y c) (one.1 ∙ sym other.1)
      ∙ ap (λ y. Changed w x y) (one_card text c d one.2 other.2)
  entry_one (changed uid version text) (Changed u v c) (Removed w) one other = absurd other
  entry_one (changed uid version text) (Removed u) b one other = absurd one
  entry_one (removed uid) (Changed u v c) b one other = absurd one
  entry_one (removed uid) (Removed u) (Changed w x d) one other = absurd other
  entry_one (removed uid) (Removed u) (Removed w) one other = ap Removed (one ∙ sym other)

  entries_one : (ms : List MemberTexts) (a b : List Entry) → DescribeEntries ms a
      → DescribeEntries ms b → a ≡ b
  entries_one [] [] [] one other = refl
  entries_one [] [] (y ∷ ys) one other = absurd other
  entries_one [] (x ∷ xs) b one other = absurd one
  entries_one (m ∷ ms) [] b one other = absurd one
  entries_one (m ∷ ms) (x ∷ xs) [] one other = absurd other
  entries_one (m ∷ ms) (x ∷ xs) (y ∷ ys) one other =
      ap₂ (λ z zs. z ∷ zs) (entry_one m x y one.0 other.0) (entries_one ms xs ys one.1 other.1)

  module _ (one_token : (text : List ℕ) (a b : Token) → IsTokenText text a → IsTokenText text b
      → a ≡ b) where
    described_once : (texts : PageTexts) (a b : Page) → DescribesPage texts a
        → DescribesPage texts b → a ≡ b
    described_once texts a b one other =
        let token = one_token texts.token (token_of a) (token_of b) one.token other.token in
        let entries = entries_one texts.members a.entries b.entries one.entries other.entries in
        let truncated = sym one.truncated ∙ other.truncated in
        ap (λ x. with_entries x a.entries a.truncated) token
        ∙ ap (λ x. with_entries (token_of b) x a.truncated) entries
        ∙ ap (λ x. with_entries (token_of b) b.entries x) truncated

    pub page_one : (value : Data) (a b : Page) → PageOf value a → PageOf value b → a ≡ b
    page_one value a b one other =
        let texts = shape_one value one.texts other.texts one.shape other.shape in
        described_once other.texts a b (subst (λ x. DescribesPage x a) texts one.describes)
        other.describes

pub text_page_one : ((value : Data) (a b : Page) → PageOf value a → PageOf value b → a ≡ b)
    → (text : List ℕ) (a b : Page) → IsTextOfPage text a → IsTextOfPage text b → a ≡ b
text_page_one one_page text a b one other =
    one_page other.value a b (subst (λ v. PageOf v a) (json_one text one.value other.value one.json
    other.json) one.page_of) other.page_of
