-- The fault that a card's fault becomes.
use Rattle.std.proofs.Common.{Result, Ok, Err, IfErr, ◌≡◌, ◌≢◌}
use Rattle.vcard_lines.specs.declared.fault.CardFault.{CardFault}
use Rattle.vcard_lines.specs.declared.fault.CardFault.TheVariants as card
use Rattle.page_json.specs.declared.fault.ReportFault.{ReportFault}
use Rattle.page_json.specs.declared.fault.ReportFault.TheVariants.{BadCard, Memory}
use Rattle.page_json.specs.FaultNumbers.{fault_of_card}

pub err_map : {T E : Type 0} {P Q : E → Type 0} (r : Result T E) → ((e : E) → P e → Q e) → IfErr r P
    → IfErr r Q
err_map (Ok x) f p = tt
err_map (Err e) f p = f e p

pub bad_card_fault : (fault : CardFault) (why : ReportFault) → why ≡ fault_of_card fault
    → why ≢ Memory → (why ≡ BadCard) × (fault ≢ card.Memory)
bad_card_fault card.TooLong why e n = (e, λ m. cc m)
bad_card_fault card.NotUtf8 why e n = (e, λ m. cc m)
bad_card_fault card.BadChar why e n = (e, λ m. cc m)
bad_card_fault card.BadLine why e n = (e, λ m. cc m)
bad_card_fault card.NoBegin why e n = (e, λ m. cc m)
bad_card_fault card.BadVersion why e n = (e, λ m. cc m)
bad_card_fault card.NoEnd why e n = (e, λ m. cc m)
bad_card_fault card.NoName why e n = (e, λ m. cc m)
bad_card_fault card.NoUid why e n = (e, λ m. cc m)
bad_card_fault card.BadUid why e n = (e, λ m. cc m)
bad_card_fault card.Twice why e n = (e, λ m. cc m)
bad_card_fault card.MemberOutsideGroup why e n = (e, λ m. cc m)
bad_card_fault card.Memory why e n = absurd (n e)
