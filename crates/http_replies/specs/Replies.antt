-- The octets to send for each reply of the service and for each fault of a request.
use Rattle.std.specs.Prelude.{ℕ, Bool, true, List, codes, Option, Some, None, option_map}
use Rattle.serde_json.specs.Data.{Data}
use Rattle.serde_json.specs.Written.{compact_text}
use Rattle.book_model.specs.RefusalNumbers.{book_fault_number, book_fault_text}
use Rattle.book_commands.specs.declared.reply.Reply.{Reply}
use Rattle.book_commands.specs.declared.reply.Reply.TheVariants as reply
use Rattle.http_requests.specs.HeadFaults as head
use Rattle.http_requests.specs.declared.head_fault.HeadFault.{HeadFault}
use Rattle.http_requests.specs.declared.head_fault.HeadFault.TheVariants.{BadHead, HeadTooLarge}
use Rattle.http_requests.specs.declared.head_fault.HeadFault.TheVariants.{BadHost, TransferEncoding}
use Rattle.http_requests.specs.declared.head_fault.HeadFault.TheVariants.{BadLength, BodyTooLarge}
use Rattle.http_requests.specs.declared.head_fault.HeadFault.TheVariants.{ForeignHost, ForeignSite}
use Rattle.http_requests.specs.declared.head_fault.HeadFault.TheVariants.{Precondition, Busy}
use Rattle.http_routes.specs.RouteFaults as route
use Rattle.http_routes.specs.declared.fault.RouteFault.{RouteFault}
use Rattle.page_json.specs.PageValues.{page_value}
use Rattle.page_json.specs.WrittenPages.{page_texts}
use Rattle.http_replies.specs.Messages.{Message, message_octets}
use Rattle.http_replies.specs.ReplyValues.{created_value, put_value, gone_value, moved_value}
use Rattle.http_replies.specs.ReplyValues.{imported_value, forgot_value, books_value, card_value}
use Rattle.http_replies.specs.ReplyValues.{tally_value, people_value, fault_value, refusal_value}
use Rattle.http_replies.specs.Statuses.{reply_status}

-- the body of a reply: JSON (RFC 8259), or rows of CSV (RFC 4180)
pub data Body : Type 0 where
  json : Data → Body
  csv : List ℕ → Body

abbrev pub media_type : Body → List ℕ
media_type (json value) = codes "application/json"
media_type (csv rows) = codes "text/csv"

-- JSON is written without spaces
abbrev pub body_octets : Body → List ℕ
body_octets (json value) = compact_text value
body_octets (csv rows) = rows

abbrev pub reply_body : Reply → Body
reply_body (reply.Created id) = json (created_value id)
reply_body (reply.Books lines) = json (books_value lines)
reply_body (reply.Card uid version card) = json (card_value uid version card)
reply_body (reply.Put answer) = json (put_value answer)
reply_body (reply.Gone number) = json (gone_value number)
reply_body (reply.Moved numbers) = json (moved_value numbers)
reply_body (reply.Page page) = json (page_value (page_texts page))
reply_body (reply.Imported tally) = json (imported_value tally)
reply_body (reply.Forgot dropped horizon) = json (forgot_value dropped horizon)
reply_body (reply.Tally tally) = json (tally_value tally)
reply_body (reply.Csv rows) = csv rows
reply_body (reply.People reached) = json (people_value reached)
reply_body (reply.Refused refusal) = json (refusal_value refusal)
reply_body (reply.Fault fault) =
    json (fault_value (book_fault_text fault) (book_fault_number fault))

-- the message with this status, this field more, if any, and this body
abbrev pub message_of : ℕ → Option (List ℕ × List ℕ) → Body → Message
message_of status more body = record {
  status = status;
  media_type = media_type body;
  more = more;
  body = body_octets body;
}

-- the octets for a reply of the service; the connection is then closed or kept open
abbrev pub reply_octets : Reply → Bool → List ℕ
reply_octets reply_sent close =
    message_octets (message_of (reply_status reply_sent) None (reply_body reply_sent)) close

-- when a client that was refused since the server is busy may come again, in seconds (RFC 9110,
-- section 10.2.3)
abbrev pub retry_field : HeadFault → Option (List ℕ × List ℕ)
retry_field BadHead = None
retry_field HeadTooLarge = None
retry_field BadHost = None
retry_field TransferEncoding = None
retry_field BadLength = None
retry_field BodyTooLarge = None
retry_field ForeignHost = None
retry_field ForeignSite = None
retry_field Precondition = None
retry_field Busy = Some (codes "Retry-After", codes "1")

-- the octets for a fault of a head, which closes the connection
abbrev pub head_fault_octets : HeadFault → List ℕ
head_fault_octets fault =
    message_octets (message_of (head.head_fault_status fault) (retry_field fault)
    (json (fault_value (head.head_fault_text fault) (head.head_fault_number fault)))) true

-- the methods that are allowed in place of a wrong one (RFC 9110, section 10.2.1)
abbrev pub allow_field : RouteFault → Option (List ℕ × List ℕ)
allow_field fault = option_map (λ methods. (codes "Allow", methods)) (route.route_fault_allow fault)

-- the octets for a request that asks for no command
abbrev pub route_fault_octets : RouteFault → Bool → List ℕ
route_fault_octets fault close =
    message_octets (message_of (route.route_fault_status fault) (allow_field fault)
    (json (fault_value (route.route_fault_text fault) (route.route_fault_number fault)))) close

-- ---- replies to requests that aren't for the books

-- the octets of a reply with this status and this value
abbrev pub json_octets : ℕ → Data → Bool → List ℕ
json_octets status value close = message_octets (message_of status None (json value)) close

-- the octets for a method that a path doesn't have; it has these
abbrev pub method_fault_octets : List ℕ → Bool → List ℕ
method_fault_octets methods close =
    message_octets (message_of 405 (Some (codes "Allow", methods))
    (json (fault_value (codes "bad-method") 28))) close
