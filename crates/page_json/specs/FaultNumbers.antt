-- The numbers and texts of the faults of a page's text, and the fault that a card's fault becomes.
use Rattle.std.specs.Prelude.{ℕ, List, codes}
use Rattle.vcard_lines.specs.declared.fault.CardFault.{CardFault}
use Rattle.vcard_lines.specs.declared.fault.CardFault.TheVariants as card
use Rattle.page_json.specs.declared.fault.ReportFault.{ReportFault}
use Rattle.page_json.specs.declared.fault.ReportFault.TheVariants.{NotJson, BadShape, BadCard}
use Rattle.page_json.specs.declared.fault.ReportFault.TheVariants.{BadToken, Memory}

abbrev pub report_fault_number : ReportFault → ℕ
report_fault_number NotJson = 1
report_fault_number BadShape = 2
report_fault_number BadCard = 3
report_fault_number BadToken = 4
report_fault_number Memory = 5

abbrev pub report_fault_text : ReportFault → List ℕ
report_fault_text NotJson = codes "the text isn't JSON"
report_fault_text BadShape = codes "the JSON isn't that of a page"
report_fault_text BadCard = codes "a member's text spells no card"
report_fault_text BadToken = codes "the token isn't one"
report_fault_text Memory = codes "no memory"

-- BadCard for every fault of a card's text, unless memory ran out
abbrev pub fault_of_card : CardFault → ReportFault
fault_of_card card.TooLong = BadCard
fault_of_card card.NotUtf8 = BadCard
fault_of_card card.BadChar = BadCard
fault_of_card card.BadLine = BadCard
fault_of_card card.NoBegin = BadCard
fault_of_card card.BadVersion = BadCard
fault_of_card card.NoEnd = BadCard
fault_of_card card.NoName = BadCard
fault_of_card card.NoUid = BadCard
fault_of_card card.BadUid = BadCard
fault_of_card card.Twice = BadCard
fault_of_card card.MemberOutsideGroup = BadCard
fault_of_card card.Memory = Memory
