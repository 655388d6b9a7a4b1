-- The result of parsing octets that end where a head ends.
use Rattle.std.specs.Prelude.{◌≡◌, ◌≤◌, ℕ, List, [], Option, Some, None}
use Rattle.httparse.specs.Grammar.{RequestHead, MayBecomeRequest}
use Rattle.httparse.specs.Spans.{RequestOverflows}
use Rattle.http_requests.specs.Fields.{fault_of_head, body_length, closes, longest_body, user_of}
use Rattle.http_requests.specs.Requests.{StartsWithHead, most_fields}
use Rattle.http_requests.specs.declared.head_fault.HeadFault.{HeadFault}
use Rattle.http_requests.specs.declared.head_fault.HeadFault.TheVariants.{BadHead, HeadTooLarge}
use Rattle.http_requests.specs.declared.head_fault.HeadFault.TheVariants.{BadHost, TransferEncoding}
use Rattle.http_requests.specs.declared.head_fault.HeadFault.TheVariants.{BadLength, BodyTooLarge}
use Rattle.http_requests.specs.declared.head_fault.HeadFault.TheVariants.{ForeignHost, ForeignSite}
use Rattle.http_requests.specs.declared.head_fault.HeadFault.TheVariants.{Precondition, Busy}
use Rattle.http_requests.specs.declared.head.Head.{Head}
use Rattle.http_requests.specs.declared.head.ParsedHead.{ParsedHead}
use Rattle.http_requests.specs.declared.head.ParsedHead.TheVariants.{Good, Faulty, Screened}
use Rattle.http_requests.specs.declared.head.ParsedHead.TheVariants.{Unreadable}

-- the head as a handler sees it
abbrev pub head_of : RequestHead → Head
head_of head = record {
  method = head.method;
  target = head.target;
  close = closes head;
  length = body_length head;
  user = user_of head;
}

-- whatever follows, the octets start with no head of 64 fields or fewer
abbrev pub IsUnreadable : List ℕ → Type 0
IsUnreadable octets = RequestOverflows most_fields octets

-- the fault of octets that reach the bound without the end of a head
abbrev pub IsBoundFault : List ℕ → HeadFault → Type 0
IsBoundFault octets BadHead = IsUnreadable octets
IsBoundFault octets HeadTooLarge = MayBecomeRequest octets
IsBoundFault octets BadHost = ⊥
IsBoundFault octets TransferEncoding = ⊥
IsBoundFault octets BadLength = ⊥
IsBoundFault octets BodyTooLarge = ⊥
IsBoundFault octets ForeignHost = ⊥
IsBoundFault octets ForeignSite = ⊥
IsBoundFault octets Precondition = ⊥
IsBoundFault octets Busy = ⊥

-- the whole text is a good head that isn't refused, one that is, a head with this fault, or no head
abbrev pub IsParsedHead : (RequestHead → Option HeadFault) → List ℕ → ParsedHead → Type 0
IsParsedHead screens text (Good found) =
    (head : RequestHead) × StartsWithHead text head [] × (fault_of_head head ≡ None)
    × (screens head ≡ None) × (found ≡ head_of head) × (body_length head ≤ longest_body)
IsParsedHead screens text (Faulty found) =
    (head : RequestHead) × StartsWithHead text head [] × (fault_of_head head ≡ Some found)
IsParsedHead screens text (Screened found) =
    (head : RequestHead) × StartsWithHead text head [] × (fault_of_head head ≡ None)
    × (screens head ≡ Some found)
IsParsedHead screens text Unreadable = IsUnreadable text
