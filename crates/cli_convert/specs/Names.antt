-- The names of the files that are written.
use Rattle.std.specs.Prelude.{ℕ, ◌||◌, ◌&&◌, ◌==◌, Bool, not, List, [], ◌∷◌, length, nat_le}
use Rattle.std.specs.Prelude.{nat_lt, slice_index_or, ◌++◌, codes, decimal, drop, nat_eq, if◌then◌else◌}
use Rattle.std.specs.Char.{is_ascii_alphanumeric}
use Rattle.std.specs.List.{list_all, starts_with, ends_with}
use Rattle.base_types.specs.Octets.{dot, hyphen, underscore}
use Rattle.card_conversion.specs.declared.media_sink.MediaKind.{MediaKind}
use Rattle.card_conversion.specs.declared.media_sink.MediaKind.TheVariants.{Photo, Logo, Sound}
use Rattle.card_conversion.specs.declared.media_sink.MediaOwner.{MediaOwner}

-- A-Z, a-z, 0-9, a hyphen, an underscore or a full stop
abbrev pub is_name_octet : ℕ → Bool
is_name_octet octet =
    is_ascii_alphanumeric octet || octet == hyphen || octet == underscore || octet == dot

-- 1 to 200 of these octets, the first of which isn't a full stop
abbrev pub is_safe_name : List ℕ → Bool
is_safe_name text = nat_lt 0 (length text) && nat_le (length text) 200
    && not (slice_index_or text 0 0 == dot) && list_all is_name_octet text

-- the path of a name in a folder: a slash is between them, unless the folder ends with one
abbrev pub path_in : List ℕ → List ℕ → List ℕ
path_in folder name =
    if ends_with nat_eq folder (codes "/") then folder ++ name else folder ++ codes "/" ++ name

-- a UID without `urn:uuid:` before it
abbrev pub bare_uid : List ℕ → List ℕ
bare_uid uid = if starts_with nat_eq uid (codes "urn:uuid:") then drop 9 uid else uid

-- the name of a card's file: the UID if it is safe, and else `card-` and the number; with `.vcf`
abbrev pub card_name : ℕ → List ℕ → List ℕ
card_name number uid = if is_safe_name (bare_uid uid) then bare_uid uid ++ codes ".vcf"
    else codes "card-" ++ decimal number ++ codes ".vcf"

-- ---- pictures and sounds that are written beside a card

-- the front of the names: the UID if it is safe, and else `card-` and the number
abbrev pub card_front : ℕ → List ℕ → List ℕ
card_front number uid =
    if is_safe_name (bare_uid uid) then bare_uid uid else codes "card-" ++ decimal number

abbrev pub kind_word : MediaKind → List ℕ
kind_word Photo = codes "-photo"
kind_word Logo = codes "-logo"
kind_word Sound = codes "-sound"

-- RIFF, four octets and WEBP
abbrev pub is_webp : List ℕ → Bool
is_webp octets = starts_with nat_eq octets (codes "RIFF") && nat_le 8 (length octets)
    && starts_with nat_eq (drop 8 octets) (codes "WEBP")

-- the ending by the first octets: those of JPEG, PNG, GIF, WebP and BMP, which are 255 216 255, 137
-- PNG, GIF8, those of `is_webp`, and BM
abbrev pub ending_of : List ℕ → List ℕ
ending_of octets =
    if starts_with nat_eq octets (255 ∷ 216 ∷ 255 ∷ []) then codes ".jpg"
    else (if starts_with nat_eq octets (137 ∷ codes "PNG") then codes ".png"
    else (if starts_with nat_eq octets (codes "GIF8") then codes ".gif"
    else (if is_webp octets then codes ".webp"
    else (if starts_with nat_eq octets (codes "BM") then codes ".bmp"
    else codes ".bin"))))

-- a hyphen and the number before the ending, from the second one of a kind on
abbrev pub numbered : ℕ → List ℕ → List ℕ
numbered which ending = if nat_lt 1 which then codes "-" ++ decimal which ++ ending else ending

-- the name of the file of a picture or a sound with these octets
abbrev pub media_name : MediaOwner → List ℕ → List ℕ
media_name owner octets = card_front owner.number owner.uid.now ++ kind_word owner.kind
    ++ numbered owner.which (ending_of octets)
