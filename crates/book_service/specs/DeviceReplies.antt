-- How a device handles the reply to its request (RFC 6578, sections 3.2 to 3.6).
use Rattle.std.specs.Prelude.{◌≡◌, ◌⊎◌, None, Result, Ok, Err}
use Rattle.book_model.specs.declared.denied.Fault.{Fault}
use Rattle.book_model.specs.declared.denied.Fault.TheVariants.{Memory}
use Rattle.book_model.specs.declared.page.Page.{Page}
use Rattle.book_model.specs.declared.refusal.Refusal.{Refusal}
use Rattle.book_model.specs.declared.refusal.Refusal.TheVariants.{BadToken}
use Rattle.book_model.specs.Devices.{DeviceState, AppliesEntryPrefix, device_after_page}
use Rattle.book_commands.specs.declared.reply.Reply.{Reply}
use Rattle.book_commands.specs.declared.reply.Reply.TheVariants as reply

-- a refused token is cleared, and any other refusal leaves the device unchanged
abbrev pub device_after_refusal : DeviceState → Refusal → DeviceState
device_after_refusal holding (BadToken cause) = record holding { token = None }
device_after_refusal holding refusal = holding

-- Memory ran out while the page was applied: a prefix of its entries is applied, and the token is
-- the old one.
pub record FailsApplying (outcome : Result Page Refusal) (fault : Fault)
    (old new : DeviceState) : Type 0
  where
    pub page : Page
    pub received : outcome ≡ Ok page
    pub applied_part : AppliesEntryPrefix old page new
    pub fault_is : fault ≡ Memory

-- The reply led the device from the old state to the new; `outcome` is the report of its book, or
-- the refusal. The device applied the whole page, or was refused, or a fault came before or while
-- it applied the page.
abbrev pub HandlesReply : Reply → Result Page Refusal → DeviceState → DeviceState → Type 0
HandlesReply (reply.Page page) outcome old new =
    (outcome ≡ Ok page) × (new ≡ device_after_page old page)
HandlesReply (reply.Refused refusal) outcome old new =
    (outcome ≡ Err refusal) × (new ≡ device_after_refusal old refusal)
HandlesReply (reply.Fault fault) outcome old new = (new ≡ old) ⊎ FailsApplying outcome fault old new
HandlesReply r outcome old new = ⊥
