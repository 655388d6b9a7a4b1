-- The numbers and the texts of card faults.
use Rattle.std.specs.Prelude.{ℕ, List, codes}
use Rattle.vcard_lines.specs.declared.fault.CardFault.{CardFault}
use Rattle.vcard_lines.specs.declared.fault.CardFault.TheVariants.{TooLong, NotUtf8, BadChar}
use Rattle.vcard_lines.specs.declared.fault.CardFault.TheVariants.{BadLine, NoBegin, BadVersion}
use Rattle.vcard_lines.specs.declared.fault.CardFault.TheVariants.{NoEnd, NoName, NoUid, BadUid}
use Rattle.vcard_lines.specs.declared.fault.CardFault.TheVariants.{Twice, MemberOutsideGroup}
use Rattle.vcard_lines.specs.declared.fault.CardFault.TheVariants.{Memory}

abbrev pub card_fault_number : CardFault → ℕ
card_fault_number TooLong = 1
card_fault_number NotUtf8 = 2
card_fault_number BadChar = 3
card_fault_number BadLine = 4
card_fault_number NoBegin = 5
card_fault_number BadVersion = 6
card_fault_number NoEnd = 7
card_fault_number NoName = 8
card_fault_number NoUid = 9
card_fault_number BadUid = 10
card_fault_number Twice = 11
card_fault_number MemberOutsideGroup = 12
card_fault_number Memory = 13

abbrev pub card_fault_text : CardFault → List ℕ
card_fault_text TooLong = codes "the text is too long"
card_fault_text NotUtf8 = codes "the text isn't UTF-8"
card_fault_text BadChar = codes "a line has a control character"
card_fault_text BadLine = codes "a line isn't a property line"
card_fault_text NoBegin = codes "BEGIN:VCARD is missing"
card_fault_text BadVersion = codes "the version isn't 4.0"
card_fault_text NoEnd = codes "END:VCARD is missing"
card_fault_text NoName = codes "FN is missing"
card_fault_text NoUid = codes "UID is missing"
card_fault_text BadUid = codes "the UID is empty, too long or has a tab"
card_fault_text Twice = codes "UID or KIND occurs twice"
card_fault_text MemberOutsideGroup = codes "MEMBER outside a group"
card_fault_text Memory = codes "no memory"
