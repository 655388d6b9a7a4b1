-- The tokens that are written for a page, and what is read from them.
use Rattle.std.proofs.Common.{◌≡◌, ◌≤◌, ◌<◌, ◌^◌, ℕ, List, [], ◌∷◌, ◌++◌, map, Some, refl, sym, ap}
use Rattle.std.proofs.Common.{◌∙◌, arith, append_assoc, append-nil, option_and_then}
use Rattle.std.specs.Prelude.{codes}
use Rattle.std.specs.List.{AllByRecursion}
use Rattle.json.specs.Json as json
use Rattle.json.specs.Lex.{tokens}
use Rattle.json.specs.Token.{Token}
use Rattle.json.specs.Tree as tree
use Rattle.json.specs.Written.{Written}
use Rattle.json.proofs.Printed.Trees.{value-json_tokens}
use Rattle.serde_json.specs.Data.{Data, array, string, boolean}
use Rattle.serde_json.specs.Read.{read, max_depth, of_json, of_items}
use Rattle.serde_json.specs.View.{items_of}
use Rattle.serde_json.specs.Written.{outline, items_outline}
use Rattle.serde_json.proofs.Numbers.{number_of-decimal}
use Rattle.serde_json.proofs.OnLiterals.{serde_json_on_literals}
use Rattle.book_model.specs.declared.page.Entry.{Entry}
use Rattle.book_model.specs.declared.page.Entry.TheVariants.{Changed, Removed}
use Rattle.book_model.specs.declared.page.Page.{Page}
use Rattle.book_model.specs.Pages.{token_of}
use Rattle.sync_core.specs.TokenTexts.{token_octets}
use Rattle.page_json.specs.PageTexts.{MemberTexts, changed, removed, PageTexts}
use Rattle.page_json.specs.PageValues.{member_value, page_object, page_value, status_ok}
use Rattle.page_json.specs.PageValues.{status_not_found}
use Rattle.page_json.specs.WrittenPages.{IsWellFormedPage, IsWellFormedEntry, member_texts}
use Rattle.page_json.specs.WrittenPages.{page_texts}
use Rattle.page_json.specs.internal.WrittenTokens.{HasMoreTokens, entries_tokens, value_tokens}

-- ---- what is written

pub items_are_entries : (es : List Entry)
    → tree.items_tokens (items_outline (items_of (map member_value (map member_texts es))))
    ≡ entries_tokens es ++ Token.end_array ∷ []
items_are_entries [] = refl
items_are_entries (e ∷ es) =
    let member = value_tokens (member_value (member_texts e)) in
    ap (λ ts. member ++ ts) (items_are_entries es)
    ∙ sym (append_assoc member (entries_tokens es) (Token.end_array ∷ []))

-- one token more
pub one_more : (old new : Written) (t : Token) → new.tokens ≡ old.tokens ++ t ∷ []
    → new.before ≡ old.before → HasMoreTokens old new (t ∷ [])
one_more old new t tokens_are before_is = record { tokens_are = tokens_are; before_is = before_is }

-- some tokens, and then some more
pub more_then : (a b c : Written) (ts us : List Token) → HasMoreTokens a b ts → HasMoreTokens b c us
    → HasMoreTokens a c (ts ++ us)
more_then a b c ts us first second = record {
  tokens_are = second.tokens_are ∙ ap (λ xs. xs ++ us) first.tokens_are
      ∙ append_assoc a.tokens ts us;
  before_is = second.before_is ∙ first.before_is;
}

-- the tokens of a page, in the order in which they are written
pub page_tokens : (page : Page) (token : List ℕ) → token ≡ token_octets (token_of page)
    → Token.begin_object ∷ Token.key (codes "members") ∷ Token.begin_array ∷
    (entries_tokens page.entries ++
    Token.end_array ∷ Token.key (codes "token") ∷ Token.string token ∷ Token.key (codes "truncated")
    ∷ Token.boolean page.truncated ∷ Token.end_object ∷ [])
    ≡ value_tokens (page_value (page_texts page))
page_tokens page token is =
    let rest = Token.key (codes "token") ∷ Token.string token ∷ Token.key (codes "truncated") ∷
    Token.boolean page.truncated ∷ Token.end_object ∷ [] in
    let items = ap (λ ts. ts ++ rest) (items_are_entries page.entries)
    ∙ append_assoc (entries_tokens page.entries) (Token.end_array ∷ []) rest in
    ap (λ ts. Token.begin_object ∷ Token.key (codes "members") ∷ Token.begin_array ∷ ts) (sym items)
    ∙ ap (λ s. value_tokens (page_object
    (array (items_of (map member_value (map member_texts page.entries)))) (string s)
    (boolean page.truncated))) is

-- ---- what is read

items_are_shallow : (ms : List MemberTexts)
    → tree.items_depth (items_outline (items_of (map member_value ms))) ≤ 1
items_are_shallow [] = omega arith
items_are_shallow (changed uid version text ∷ ms) = omega (arith, items_are_shallow ms)
items_are_shallow (removed uid ∷ ms) = omega (arith, items_are_shallow ms)

outline_is_shallow : (page : PageTexts) → tree.depth (outline (page_value page)) ≤ max_depth
outline_is_shallow page = omega (arith, items_are_shallow page.members)

member_is_read : (e : Entry) → IsWellFormedEntry e
    → of_json (outline (member_value (member_texts e))) ≡ Some (member_value (member_texts e))
unfolding serde_json_on_literals
member_is_read (Changed uid version card) is =
    rw (number_of-decimal status_ok (omega arith), number_of-decimal version (omega (arith, is.0)))
    refl
member_is_read (Removed uid) is = rw (number_of-decimal status_not_found (omega arith)) refl

members_are_read : (es : List Entry) → AllByRecursion IsWellFormedEntry es
    → of_items (items_outline (items_of (map member_value (map member_texts es))))
    ≡ Some (items_of (map member_value (map member_texts es)))
members_are_read [] all = refl
members_are_read (e ∷ es) all = rw (member_is_read e all.0, members_are_read es all.1) refl

page_is_read : (page : Page) → AllByRecursion IsWellFormedEntry page.entries
    → of_json (outline (page_value (page_texts page))) ≡ Some (page_value (page_texts page))
unfolding serde_json_on_literals
page_is_read page all = rw (members_are_read page.entries all) refl

pub written_is_read : (page : Page) (text : List ℕ) → IsWellFormedPage page
    → tokens text ≡ value_tokens (page_value (page_texts page))
    → read text ≡ Some (page_value (page_texts page))
written_is_read page text is same =
    let value = outline (page_value (page_texts page)) in
    ap (λ o. option_and_then of_json (option_and_then (λ p. json.if_last p.0 p.1) o))
    (ap (json.value max_depth) (same ∙ sym (append-nil _))
    ∙ value-json_tokens value max_depth [] (outline_is_shallow (page_texts page)))
    ∙ page_is_read page is.entries
