-- The first names of `is_uri_property`, which the code tests by themselves. Public contracts cite
-- none of this.
use Rattle.std.specs.Prelude.{ℕ, Bool, ◌||◌, List, codes}
use Rattle.vcard_values.specs.Forms.{is_property}

-- the property is a link
abbrev pub is_link_property : List ℕ → Bool
is_link_property line = is_property (codes "URL") line || is_property (codes "SOURCE") line
    || is_property (codes "IMPP") line || is_property (codes "FBURL") line
    || is_property (codes "CALURI") line

-- the property is a link, or names a card or a calendar
abbrev pub is_name_property : List ℕ → Bool
is_name_property line = is_link_property line || is_property (codes "CALADRURI") line
    || is_property (codes "UID") line || is_property (codes "MEMBER") line
    || is_property (codes "X-ADDRESSBOOKSERVER-MEMBER") line
    || is_property (codes "RELATED") line
