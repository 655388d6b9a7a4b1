-- What a value of vCard 4.0 is, and so how vCard 3.0 writes it.
use Rattle.std.specs.Prelude.{ℕ, Bool, ◌||◌, ◌&&◌, ◌==◌, List, length, drop, codes, nat_eq}
use Rattle.std.specs.Prelude.{count_by, if◌then◌else◌}
use Rattle.std.specs.List.{list_all, list_any, starts_with}
use Rattle.std.specs.Str.{str_eq_ignore_ascii_case}
use Rattle.base_types.specs.Octets.{comma, dot, hyphen, is_digit}
use Rattle.vcard_lines.specs.declared.line.Line.{Line}
use Rattle.vcard_lines.specs.declared.line.Param.{Param}
use Rattle.vcard_lines.specs.declared.line.ParamValue.{ParamValue}
use Rattle.vcard_text.specs.Cards.{line_is_named}
use Rattle.vcard_export.specs.Names.{is_date_name, is_picture_name, is_uri_name, is_whole_name}
use Rattle.vcard_export.specs.declared.form.Form.{Form}
use Rattle.vcard_export.specs.declared.form.Form.TheVariants.{Number, Day, Yearless, Place, Inline}
use Rattle.vcard_export.specs.declared.form.Form.TheVariants.{Reference, Uri, Whole, Listed}
use Rattle.vcard_export.specs.declared.form.Picture.{Picture}
use Rattle.vcard_export.specs.declared.form.Picture.TheVariants.{Jpeg, Png, Gif}

-- ---- prefixes

-- the text without the prefix, if it begins with it
abbrev pub without_prefix : List ℕ → List ℕ → List ℕ
without_prefix prefix text =
    if starts_with nat_eq text prefix then drop (length prefix) text else text

-- ---- parameters

-- the parameter has the name, in any case
abbrev pub is_param : List ℕ → Param → Bool
is_param name param = str_eq_ignore_ascii_case param.name name

-- the value is the word, in any case
abbrev pub is_word : List ℕ → ParamValue → Bool
is_word word value = str_eq_ignore_ascii_case value.text word

-- the parameter has one value, which is the word in any case
abbrev pub has_only : List ℕ → Param → Bool
has_only word param = (length param.values == 1) && list_all (is_word word) param.values

-- the parameter is VALUE, and the type of values that it names is the word
abbrev pub names_type : List ℕ → Param → Bool
names_type word param = is_param (codes "VALUE") param && has_only word param

-- a parameter says that the value is of that type, as `uri` or `text` (RFC 6350, section 5.2)
abbrev pub says_type : List ℕ → Line → Bool
says_type word line = list_any (names_type word) line.params

-- a parameter says what the value is
abbrev pub has_value_type : Line → Bool
has_value_type line = list_any (is_param (codes "VALUE")) line.params

-- ---- values

-- a whole date, as 19960415 (RFC 6350, section 4.3.1)
abbrev pub is_day : List ℕ → Bool
is_day value = (length value == 8) && list_all is_digit value

-- a date without a year, as --0415 (section 4.3.1)
abbrev pub is_yearless : List ℕ → Bool
is_yearless value =
    (length value == 6) && starts_with nat_eq value (codes "--")
    && list_all is_digit (without_prefix (codes "--") value)

abbrev pub is_place_octet : ℕ → Bool
is_place_octet octet = is_digit octet || octet == hyphen || octet == dot || octet == comma

abbrev pub is_comma : ℕ → Bool
is_comma octet = octet == comma

-- a `geo:` URI of two coordinates and no more (RFC 5870)
abbrev pub is_place : List ℕ → Bool
is_place value =
    starts_with nat_eq value (codes "geo:")
    && list_all is_place_octet (without_prefix (codes "geo:") value)
    && (count_by is_comma (without_prefix (codes "geo:") value) == 1)

-- how the `data:` URI of a picture begins (RFC 2397)
abbrev pub picture_prefix : Picture → List ℕ
picture_prefix Jpeg = codes "data:image/jpeg;base64,"
picture_prefix Png = codes "data:image/png;base64,"
picture_prefix Gif = codes "data:image/gif;base64,"

-- ---- forms

-- a picture within the card is a `data:` URI of a known format
abbrev pub picture_form : List ℕ → Form
picture_form value =
    if starts_with nat_eq value (picture_prefix Jpeg) then Inline Jpeg
    else (if starts_with nat_eq value (picture_prefix Png) then Inline Png
    else (if starts_with nat_eq value (picture_prefix Gif) then Inline Gif
    else Reference))

-- The value is a text because VALUE says so, where it would be a URI, a date or a key (sections
-- 6.2.5, 6.2.6, 6.6.6, 6.7.6 and 6.8.1).
abbrev pub is_text_instead : Line → Bool
is_text_instead line =
    (is_uri_name line || line_is_named (codes "KEY") line) && says_type (codes "text") line

-- a value that isn't written in another way: an address, a value without escapes, or a text
abbrev pub text_form : Line → Form
text_form line =
    if line_is_named (codes "SOUND") line || line_is_named (codes "KEY") line then Reference
    else (if is_uri_name line || says_type (codes "uri") line then Uri
    else (if is_whole_name line then Whole else Listed))

-- what the value of the line is
abbrev pub form_of : Line → Form
form_of line =
    if is_text_instead line then Whole
    else (if line_is_named (codes "TEL") line && says_type (codes "uri") line
    && starts_with nat_eq line.value (codes "tel:") then Number
    else (if is_date_name line && is_day line.value then Day
    else (if is_date_name line && is_yearless line.value then Yearless
    else (if line_is_named (codes "GEO") line && is_place line.value then Place
    else (if is_picture_name line then picture_form line.value
    else text_form line)))))
