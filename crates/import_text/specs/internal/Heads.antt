-- What the head of the line so far says, as the code keeps it, so that it searches each octet of a
-- head only once. Public contracts cite none of this.
use Rattle.std.specs.Prelude.{ℕ, List, ◌||◌, codes, if◌then◌else◌}
use Rattle.import_text.specs.RawLines.{has_colon, is_encoded_as}
use Rattle.import_text.specs.declared.line_head.Head.{Head}

-- what the head of the line says
abbrev pub head_of : List ℕ → Head
head_of line = record {
  is_complete = has_colon line;
  is_quoted_printable = is_encoded_as (codes "QUOTED-PRINTABLE") line;
  is_base64 = is_encoded_as (codes "BASE64") line;
}

-- what is known once more octets were searched
abbrev pub searched : Head → List ℕ → Head
searched known octets = if known.is_complete then known else record {
  is_complete = has_colon octets;
  is_quoted_printable =
      known.is_quoted_printable || is_encoded_as (codes "QUOTED-PRINTABLE") octets;
  is_base64 = known.is_base64 || is_encoded_as (codes "BASE64") octets;
}
