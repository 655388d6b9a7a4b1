-- The value of a property in vCard 3.0 (RFC 2426), by what it is in vCard 4.0, and the parameters
-- that it needs there.
use Rattle.std.specs.Prelude.{ℕ, Bool, true, false, List, [], ◌∷◌, ◌++◌, codes}
use Rattle.std.specs.Prelude.{encode_utf8, flat_map, if◌then◌else◌}
use Rattle.base_types.specs.Octets.{hyphen}
use Rattle.vcard_lines.specs.declared.line.Line.{Line}
use Rattle.vcard_export.specs.Forms.{has_value_type, picture_prefix, without_prefix}
use Rattle.vcard_export.specs.Spellings.{spelled}
use Rattle.vcard_export.specs.declared.form.Form.{Form}
use Rattle.vcard_export.specs.declared.form.Form.TheVariants as form
use Rattle.vcard_export.specs.declared.form.Picture.{Picture}
use Rattle.vcard_export.specs.declared.form.Picture.TheVariants.{Jpeg, Png, Gif}
use Rattle.vcard_export.specs.declared.spelling.Spelling.TheVariants as spelling

-- the format of a picture in TYPE (RFC 2426, section 3.1.4)
abbrev pub picture_type : Picture → List ℕ
picture_type Jpeg = codes "JPEG"
picture_type Png = codes "PNG"
picture_type Gif = codes "GIF"

-- a date of eight digits with hyphens, as 1996-04-15 (RFC 2426, section 3.1.5)
abbrev pub day_text : List ℕ → List ℕ
day_text (a ∷ b ∷ c ∷ d ∷ e ∷ f ∷ g ∷ h ∷ []) =
    flat_map encode_utf8 (a ∷ b ∷ c ∷ d ∷ hyphen ∷ e ∷ f ∷ hyphen ∷ g ∷ h ∷ [])
day_text _ = []

-- a date of two hyphens and four digits, in the year 1604, as Apple's programs write it
abbrev pub yearless_text : List ℕ → List ℕ
yearless_text (x ∷ y ∷ a ∷ b ∷ c ∷ d ∷ []) =
    codes "1604-" ++ flat_map encode_utf8 (a ∷ b ∷ hyphen ∷ c ∷ d ∷ [])
yearless_text _ = []

-- The value: a number without `tel:`, a date with hyphens, coordinates with a semicolon, the base64
-- of a picture, or the same text in the escapes of vCard 3.0.
abbrev pub older_value : Form → List ℕ → List ℕ
older_value form.Number value = spelled spelling.Uri (without_prefix (codes "tel:") value)
older_value form.Day value = day_text value
older_value form.Yearless value = yearless_text value
older_value form.Place value = spelled spelling.Place (without_prefix (codes "geo:") value)
older_value (form.Inline picture) value = without_prefix (picture_prefix picture) value
older_value form.Reference value = spelled spelling.Uri value
older_value form.Uri value = spelled spelling.Uri value
older_value form.Whole value = spelled spelling.Whole value
older_value form.Listed value = spelled spelling.Listed value

-- the value no longer is what the parameter VALUE says
abbrev pub restates : Form → Bool
restates form.Number = true
restates form.Day = true
restates form.Yearless = true
restates form.Place = true
restates (form.Inline picture) = true
restates form.Reference = false
restates form.Uri = false
restates form.Whole = false
restates form.Listed = false

-- The parameters that are added: the year that is none, the encoding and the format of a picture,
-- or that a picture, a sound or a key is a URI, which vCard 3.0 takes for base64 otherwise.
abbrev pub added_params : Form → Line → List ℕ
added_params form.Yearless line = codes ";X-APPLE-OMIT-YEAR=1604"
added_params (form.Inline picture) line = codes ";ENCODING=b;TYPE=" ++ picture_type picture
added_params form.Reference line = if has_value_type line then [] else codes ";VALUE=uri"
added_params form line = []
