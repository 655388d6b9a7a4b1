use Rattle.std.proofs.Common.{◌≡◌, ◌++◌, ◌∙◌, ℕ, List, OnOk, ap, subst, codes, flat_map}
use Rattle.std.proofs.Common.{string_bytes}
use Rattle.vcard_lines.specs.Folding.{folded_text}
use Rattle.vcard_export.specs.OlderCards.{folded_lines, missing_name, older_lines, splits_labels}
use Rattle.vcard_export.proofs.CardLemmas.{whole}
use Rattle.vcard_export.proofs.card.push_card.Goals as goal

pub returns : goal.returns
returns c =
    let lines = c.args.lines.now in
    let begun = c.in_ok-write_folded-2.ensures ∙ ap (λ o. o ++ folded_text (codes "VERSION:3.0"))
    c.in_ok-write_folded.ensures in
    let listed = (rw c.splits_labels.ensures at c.in_ok-push_lines.ensures)
    ∙ ap (λ o. o ++ flat_map (folded_lines (splits_labels lines)) lines) begun in
    let named = c.in_ok-push_missing_name.ensures
    ∙ ap (λ o. o ++ flat_map folded_text (missing_name lines)) listed in
    subst (λ (t : List ℕ). OnOk c.write_folded-3.result (string_bytes c.write_folded-3.new.out ≡ t))
    (ap (λ o. o ++ folded_text (codes "END:VCARD")) named
    ∙ whole folded_text (older_lines (splits_labels lines)) lines (codes "BEGIN:VCARD")
    (codes "VERSION:3.0") (codes "END:VCARD") (string_bytes c.args.out.now)
    (missing_name lines))
    c.write_folded-3.ensures
