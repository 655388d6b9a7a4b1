-- How the characters of a text in vCard 4.0 (RFC 6350, section 3.4; RFC 6868 for parameters) are
-- written in vCard 3.0 (RFC 2426, section 4, which has no escapes in parameters).
use Rattle.std.specs.Prelude.{ℕ, Bool, true, false, ◌||◌, ◌==◌, List, [], ◌∷◌, ◌++◌}
use Rattle.std.specs.Prelude.{if◌then◌else◌}
use Rattle.std.specs.Str.{chars, encode_utf8_all}
use Rattle.base_types.specs.Octets.{space, quote, comma, semicolon, backslash, lower_n}
use Rattle.vcard_lines.specs.TextValues.{Escaped, decoded_char, text_char_of, written_chars}
use Rattle.vcard_export.specs.declared.spelling.Spelling.{Spelling}
use Rattle.vcard_export.specs.declared.spelling.Spelling.TheVariants.{Whole, Component}
use Rattle.vcard_export.specs.declared.spelling.Spelling.TheVariants.{Uri, Place, Param, Label}

abbrev pub caret : ℕ
caret = 94

abbrev pub apostrophe : ℕ
apostrophe = 39

-- the character that begins an escape: a backslash, or a caret in the value of a parameter
abbrev pub mark_of : Spelling → ℕ
mark_of Param = caret
mark_of Label = caret
mark_of spelling = backslash

-- a character of a text, fully escaped
abbrev pub text_char : ℕ → List ℕ
text_char c = written_chars (text_char_of c)

-- a character of a URI: a backslash is written as two
abbrev pub uri_char : ℕ → List ℕ
uri_char c = if c == backslash then backslash ∷ backslash ∷ [] else c ∷ []

-- A character that no mark precedes. In a list it stays, since it may separate parts. In a whole
-- text a comma is escaped, and where the text becomes a component, a semicolon too. In coordinates
-- a comma becomes a semicolon.
abbrev pub plain_char : Spelling → ℕ → List ℕ
plain_char Whole c = if c == comma then backslash ∷ comma ∷ [] else c ∷ []
plain_char Place c = if c == comma then semicolon ∷ [] else c ∷ []
plain_char Component c = text_char c
plain_char Label c = text_char c
plain_char spelling c = c ∷ []

-- A character after a caret in a parameter that stays one: it can hold no newline, which becomes a
-- space, and no quote, which becomes an apostrophe.
abbrev pub param_char : ℕ → List ℕ
param_char c =
    if c == lower_n then space ∷ []
    else (if c == apostrophe || c == caret then c ∷ [] else caret ∷ c ∷ [])

-- the same where the value becomes that of a property, which can hold both
abbrev pub label_char : ℕ → List ℕ
label_char c =
    if c == lower_n then backslash ∷ lower_n ∷ []
    else (if c == apostrophe then quote ∷ []
    else (if c == caret then caret ∷ [] else caret ∷ text_char c))

-- A character after a mark. In a text it is the one that the escape stands for, escaped if vCard
-- 3.0 wants it so. In a URI the backslash is one of the URI.
abbrev pub marked_char : Spelling → ℕ → List ℕ
marked_char Uri c = backslash ∷ backslash ∷ uri_char c
marked_char Place c = backslash ∷ backslash ∷ uri_char c
marked_char Param c = param_char c
marked_char Label c = label_char c
marked_char spelling c = text_char (decoded_char (Escaped c))

-- a mark at the end, which escapes nothing
abbrev pub closing : Spelling → List ℕ
closing Param = caret ∷ []
closing Label = caret ∷ []
closing spelling = backslash ∷ backslash ∷ []

-- the characters, read from left to right; the flag says whether a mark was just read
unfoldable pub spelled_from : Spelling → Bool → List ℕ → List ℕ
spelled_from spelling true [] = closing spelling
spelled_from spelling true (c ∷ cs) = marked_char spelling c ++ spelled_from spelling false cs
spelled_from spelling false [] = []
spelled_from spelling false (c ∷ cs) =
    if c == mark_of spelling then spelled_from spelling true cs
    else plain_char spelling c ++ spelled_from spelling false cs

-- the text as vCard 3.0 writes it
abbrev pub spelled : Spelling → List ℕ → List ℕ
spelled spelling text = encode_utf8_all (spelled_from spelling false (chars text))
