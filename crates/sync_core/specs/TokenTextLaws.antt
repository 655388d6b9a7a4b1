-- The uniqueness of token texts.
use Rattle.std.specs.Prelude.{ℕ, ◌≡◌, List}
use Rattle.book_model.specs.declared.token.Token.{Token}
use Rattle.sync_core.specs.TokenTexts.{IsTokenText}

-- no two tokens have the same valid text
abbrev pub TokenTextsAreUnique : Type 0
TokenTextsAreUnique =
    (text : List ℕ) (a b : Token) → IsTokenText text a → IsTokenText text b → a ≡ b
