-- Whoever reads the pages that are replied, and applies them, is a device.
use Rattle.std.proofs.Common.{◌≡◌, ◌∙◌, ℕ, List, refl, sym, ap, subst, ⊎_elim, Option, Result, Ok}
use Rattle.std.proofs.Common.{Err, slice_set}
use Rattle.book_model.specs.declared.page.Page.{Page}
use Rattle.book_model.specs.declared.refusal.Refusal.{Refusal}
use Rattle.book_model.specs.declared.token.Token.{Token}
use Rattle.book_model.specs.Devices.{device_after_page}
use Rattle.sync_core.specs.TokenTextLaws.{TokenTextsAreUnique}
use Rattle.book_laws.specs.Calls.{ReportCall, ReturnedPage, answer_in_state}
use Rattle.book_laws.specs.StoreHistories.{BookHistories}
use Rattle.book_commands.specs.declared.command.Command.{Command}
use Rattle.book_commands.specs.declared.command.Command.TheVariants.{Report}
use Rattle.book_service.specs.declared.event.Event.TheVariants.{Do}
use Rattle.book_commands.specs.declared.reply.Reply.TheVariants as reply
use Rattle.book_service.specs.Commands.{DeliversOutcome, Outcome, outcome_with, PerformsCommand}
use Rattle.book_service.specs.Mirrors.{report_at}
use Rattle.book_service.specs.Runs.{SystemState}
use Rattle.book_service.specs.Texts.{ReadsToken}
use Rattle.book_service.proofs.TokenLemmas.{asking_keeps, read_once}
use Rattle.http_replies.specs.Replies.{body_octets, reply_body}
use Rattle.page_json.specs.ReportLaws.{TextsDeterminePages}
use Rattle.book_http.specs.OctetPromise.{ReadersAreDevices}

-- a page in a reply is the report of the command
page_of_meaning : (command : Command) (outcome : Result Page Refusal) (page : Page) (old new :
    BookHistories) → DeliversOutcome command old (answer_in_state ReturnedPage old outcome)
    (reply.Page page) new → outcome ≡ Ok page
page_of_meaning command (Ok replied) page old new delivers =
    let same : reply.Page page ≡ reply.Page replied = delivers.0 in let is : replied ≡ page = cc in
    ap (λ t. Ok t) is
page_of_meaning command (Err refusal) page old new delivers =
    absurd (let no : reply.Page page ≡ reply.Refused refusal = delivers.0 in cc)

-- a request with a device's token gets the device's report
report_replied : TokenTextsAreUnique → (now : SystemState) (book text : List ℕ) (limit : Option ℕ)
    (token : Option Token) (page : Page) (books : BookHistories) → ReadsToken text (Ok token)
    → PerformsCommand now.model (Report book text limit) (reply.Page page) books
    → report_at now book token limit ≡ Ok page
report_replied law now book text limit token page books reads performs =
    let RepliedAs : Outcome → Type 0 =
    λ outcome. DeliversOutcome (Report book text limit) now.model.books outcome
    (reply.Page page) books in
    ⊎_elim
    (λ done.
    let m = done.has_outcome in
    let read_is : m.read ≡ Ok token = read_once law text token m.read reads m.read_is in
    page_of_meaning (Report book text limit) (report_at now book token limit) page now.model.books
    books
    (subst (λ (read : Result (Option Token) Refusal). RepliedAs (outcome_with now.model book
    (λ from. ReportCall book from limit) read)) read_is (subst RepliedAs m.outcome_is
    done.delivers)))
    (λ fault. absurd (let no : reply.Page page ≡ reply.Fault fault.0 = fault.1 in cc))
    performs

pub readers_are_devices : TokenTextsAreUnique → TextsDeterminePages → ReadersAreDevices
readers_are_devices tokens pages now next i device token limit page read found reads step written
    is_read =
    let page_is : page ≡ read = pages (body_octets (reply_body (reply.Page page))) page read written
    is_read in
    let kept = asking_keeps tokens now next (Do (Report device.book token limit)) (reply.Page page)
    device.book device.token step (refl, reads) in
    let same_books : step.0 ≡ now.model.books = sym (ap (λ (m : SystemState). m.model.books) step.2)
    ∙ kept in
    let same : next ≡ now =
    step.2 ∙ ap (λ (b : BookHistories). record now { model = record now.model { books = b } })
    same_books in
    let replied : report_at now device.book device.token limit ≡ Ok read =
    report_replied tokens now device.book token limit device.token page step.0 reads step.1
    ∙ ap (λ (p : Page). Ok p) page_is in
    record {
      old = device;
      new = device_after_page device read;
      found = found;
      answers = (replied, refl);
      next_is =
          ap (λ (m : SystemState). record m {
            devices = slice_set m.devices i
                (device_after_page device read);
          }) same;
    }
