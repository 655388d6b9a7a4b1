-- The reply to a request for a conversion.
use Rattle.std.specs.Prelude.{ℕ, ◌≡◌, Bool, true, false, List, Result, Ok, Err, bytes_eq, codes}
use Rattle.convert_posts.specs.ConvertRequests.{asked_in, is_for_convert}
use Rattle.convert_posts.specs.PartValues.{part_value, unconverted_value}
use Rattle.convert_posts.specs.Parts.{IsPart}
use Rattle.convert_posts.specs.declared.asked.Asked.{Asked}
use Rattle.convert_posts.specs.declared.part.Part.{Part}
use Rattle.convert_posts.specs.declared.unconverted.Unconverted.{Unconverted}
use Rattle.http_fronts.specs.Fronts.{FrontRelation}
use Rattle.http_replies.specs.Replies.{json_octets, method_fault_octets, route_fault_octets}
use Rattle.http_requests.specs.declared.head.Head.{Head}
use Rattle.http_routes.specs.Commands.{query_in}
use Rattle.http_routes.specs.Queries.{pairs_of}
use Rattle.http_routes.specs.declared.fault.RouteFault.{RouteFault}

-- what became of the front of the body; or why its file isn't converted (RFC 9110, section 15.5.21)
pub data IsConversionReply (body : List ℕ) (close : Bool) (reply : List ℕ) : Type 0 where
  part : (part : Part) → IsPart body part → reply ≡ json_octets 200 (part_value part) close
      → IsConversionReply body close reply
  unconverted : (fault : Unconverted) → reply ≡ json_octets 422 (unconverted_value fault) close
      → IsConversionReply body close reply

-- the reply to what is asked, or to a wrong query
abbrev pub AnswersAsked : Result Asked RouteFault → List ℕ → Bool → List ℕ → Type 0
AnswersAsked (Ok asked) body close reply = IsConversionReply body close reply
AnswersAsked (Err fault) body close reply = reply ≡ route_fault_octets fault close

-- POST is the one method
abbrev pub AnswersMethod : Bool → Head → List ℕ → List ℕ → Type 0
AnswersMethod false head body reply = reply ≡ method_fault_octets (codes "POST") head.close
AnswersMethod true head body reply =
    AnswersAsked (asked_in (pairs_of (query_in head.target))) body head.close reply

-- the reply to a request for a conversion
abbrev pub IsConvertReply : Head → List ℕ → List ℕ → Type 0
IsConvertReply head body reply =
    AnswersMethod (bytes_eq head.method (codes "POST")) head body reply

-- the front that answers the requests for a conversion
abbrev pub conversions : FrontRelation
conversions = record {
  is_own = λ head. is_for_convert head.target;
  replies = IsConvertReply;
}
