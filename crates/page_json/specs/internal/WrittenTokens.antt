-- The JSON tokens that the private functions write for the values of a page.
use Rattle.std.specs.Prelude.{◌≡◌, ◌++◌, List, OnOk, Result, flat_map}
use Rattle.json.specs.Token.{Token}
use Rattle.json.specs.Tree.{json_tokens}
use Rattle.json.specs.Written.{Written}
use Rattle.serde_json.specs.Data.{Data}
use Rattle.serde_json.specs.Written.{outline}
use Rattle.book_model.specs.declared.page.Entry.{Entry}
use Rattle.page_json.specs.PageValues.{member_value}
use Rattle.page_json.specs.WrittenPages.{member_texts}

-- the tokens of a value that has no float
abbrev pub value_tokens : Data → List Token
value_tokens value = json_tokens (outline value)

-- the tokens of the entries' members, one after another
abbrev pub entries_tokens : List Entry → List Token
entries_tokens = flat_map (λ entry. value_tokens (member_value (member_texts entry)))

-- The writer's tokens before it began, and then these; what its buffer held before stays.
pub record HasMoreTokens (old new : Written) (tokens : List Token) : Type 0 where
  pub tokens_are : new.tokens ≡ old.tokens ++ tokens
  pub before_is : new.before ≡ old.before

-- If all goes well, the tokens are appended.
abbrev pub AppendsTokens : {E : Type 0} → Result (Unit {0}) E → Written → Written → List Token
    → Type 0
AppendsTokens result old new tokens = OnOk result (HasMoreTokens old new tokens)
