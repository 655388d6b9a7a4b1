-- The number, the status (RFC 9110, section 15) and the text of each fault of a head.
use Rattle.std.specs.Prelude.{ℕ, List, codes}
use Rattle.http_requests.specs.declared.head_fault.HeadFault.{HeadFault}
use Rattle.http_requests.specs.declared.head_fault.HeadFault.TheVariants.{BadHead, HeadTooLarge}
use Rattle.http_requests.specs.declared.head_fault.HeadFault.TheVariants.{BadHost, TransferEncoding}
use Rattle.http_requests.specs.declared.head_fault.HeadFault.TheVariants.{BadLength, BodyTooLarge}
use Rattle.http_requests.specs.declared.head_fault.HeadFault.TheVariants.{ForeignHost, ForeignSite}
use Rattle.http_requests.specs.declared.head_fault.HeadFault.TheVariants.{Precondition, Busy}

abbrev pub head_fault_number : HeadFault → ℕ
head_fault_number BadHead = 21
head_fault_number HeadTooLarge = 22
head_fault_number BadHost = 23
head_fault_number TransferEncoding = 24
head_fault_number BadLength = 25
head_fault_number BodyTooLarge = 26
head_fault_number ForeignHost = 31
head_fault_number ForeignSite = 32
head_fault_number Precondition = 33
head_fault_number Busy = 34

abbrev pub head_fault_status : HeadFault → ℕ
head_fault_status BadHead = 400
head_fault_status HeadTooLarge = 431
head_fault_status BadHost = 400
head_fault_status TransferEncoding = 501
head_fault_status BadLength = 400
head_fault_status BodyTooLarge = 413
head_fault_status ForeignHost = 421
head_fault_status ForeignSite = 403
head_fault_status Precondition = 501
head_fault_status Busy = 503

abbrev pub head_fault_text : HeadFault → List ℕ
head_fault_text BadHead = codes "bad-head"
head_fault_text HeadTooLarge = codes "head-too-large"
head_fault_text BadHost = codes "bad-host"
head_fault_text TransferEncoding = codes "transfer-encoding"
head_fault_text BadLength = codes "bad-length"
head_fault_text BodyTooLarge = codes "body-too-large"
head_fault_text ForeignHost = codes "foreign-host"
head_fault_text ForeignSite = codes "foreign-site"
head_fault_text Precondition = codes "precondition"
head_fault_text Busy = codes "busy"
