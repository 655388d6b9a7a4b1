-- The octets of a reply: its status line, its fields and its body (RFC 9112, sections 2.1, 4 and
-- 5).
use Rattle.std.specs.Prelude.{ℕ, Bool, List, [], ◌++◌, length, Option, Some, None, codes, decimal}
use Rattle.std.specs.Prelude.{option_map, unwrap_or, if◌then◌else◌}
use Rattle.http.specs.StatusCode.{code_digits, reason_phrase}
use Rattle.http_replies.specs.declared.message as code

-- a reply before it is formatted
pub record Message : Type 0 where
  pub status : ℕ
  pub media_type : List ℕ
  pub more : Option (List ℕ × List ℕ)
  pub body : List ℕ

-- a line of the head, with its end
abbrev pub head_line : List ℕ → List ℕ
head_line text = text ++ codes "\r\n"

-- the reason phrase of a status, or the empty text if it has none (RFC 9110, section 15)
unfoldable pub phrase_of : ℕ → List ℕ
phrase_of status = unwrap_or (reason_phrase status) []

-- the version, the code and its phrase
abbrev pub status_line : ℕ → List ℕ
status_line status =
    codes "HTTP/1.1 " ++ code_digits status ++ codes " " ++ phrase_of status

abbrev pub header_field : List ℕ → List ℕ → List ℕ
header_field name value = name ++ codes ": " ++ value

-- the line of one more field, a name and a value, if there is one
abbrev pub more_line : Option (List ℕ × List ℕ) → List ℕ
more_line None = []
more_line (Some field) = head_line (header_field field.0 field.1)

-- the value of the Connection field (RFC 9110, section 7.6.1; RFC 9112, section 9.3)
abbrev pub connection_option : Bool → List ℕ
connection_option close = if close then codes "close" else codes "keep-alive"

-- The head: its lines, and the empty line that ends it. Content-Length is the length of the body in
-- octets (RFC 9110, section 8.6).
unfoldable pub head_octets : Message → Bool → List ℕ
head_octets message close =
    head_line (status_line message.status)
    ++ head_line (header_field (codes "Content-Type") message.media_type)
    ++ more_line message.more
    ++ head_line (header_field (codes "Content-Length") (decimal (length message.body)))
    ++ head_line (header_field (codes "Connection") (connection_option close))
    ++ head_line []

-- the octets of the whole reply
abbrev pub message_octets : Message → Bool → List ℕ
message_octets message close = head_octets message close ++ message.body

-- the value of the code's message
abbrev pub message_value : code.Message.Message → Message
message_value message = record {
  status = message.status;
  media_type = message.media_type.now;
  more = option_map (λ field. (field.name.now, field.value.now)) message.more;
  body = message.body.items;
}
