-- A head with a fault has no body and is the last.
use Rattle.std.proofs.Common.{◌≡◌, true, Some, None, is_some, ap, ◌||◌, if◌then◌else◌}
use Rattle.httparse.specs.Grammar.{RequestHead}
use Rattle.http_requests.specs.declared.head_fault.HeadFault.{HeadFault}
use Rattle.http_requests.specs.Fields.{fault_of_head, body_length, closes, is_last_request}
use Rattle.http_requests.specs.Fields.{length_of, fields_of, first_field_named}
use Rattle.std.specs.Prelude.{codes}

pub fault_no_body : (h : RequestHead) (f : HeadFault) → fault_of_head h ≡ Some f → body_length h ≡ 0
unfolding body_length fault_of_head
fault_no_body h f e = ap (λ o. if is_some o then 0
    else length_of (first_field_named (codes "content-length") (fields_of h))) e

pub fault_last : (h : RequestHead) (f : HeadFault) → fault_of_head h ≡ Some f
    → is_last_request h ≡ true
unfolding is_last_request
fault_last h f e = ap (λ o. is_some o || closes h) e

pub good_last : (h : RequestHead) → fault_of_head h ≡ None → is_last_request h ≡ closes h
unfolding is_last_request
good_last h e = ap (λ o. is_some o || closes h) e
