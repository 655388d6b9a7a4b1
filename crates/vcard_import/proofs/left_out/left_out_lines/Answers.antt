use Rattle.std.proofs.Common.{◌≡◌, ◌∙◌, ap, filter, rules}
use Rattle.std.proofs.lemmas.Fn.{filter_same}
use Rattle.vcard_import.specs.Conversions.{card_raw_lines}
use Rattle.vcard_import.specs.LeftOut.{is_left_out, is_left_out_at}
use Rattle.vcard_import.proofs.LeftOutLemmas.{only_leave_out}
use Rattle.vcard_import.proofs.left_out.left_out_lines.Goals as goal

pub returns : goal.returns
returns c =
    let told : c.as_slice-told.result.now ≡ filter is_left_out c.args.changes.now =
    c.as_slice-told.ensures.value ∙ c.in_ok-only.ensures in
    filter_same _ (λ raw. is_left_out_at c.as_slice-told.result.now raw) _
    (λ x b f' t. search rules) _ _ c.retain.ensures.filtered
    ∙ ap (filter (is_left_out_at c.as_slice-told.result.now)) c.in_ok-raws.ensures
    ∙ ap (λ only. filter (is_left_out_at only) (card_raw_lines c.args.octets.now)) told
    ∙ only_leave_out c.args.changes.now (card_raw_lines c.args.octets.now)
