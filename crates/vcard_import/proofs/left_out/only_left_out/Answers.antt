use Rattle.std.proofs.Common.{◌∙◌, ◌++◌, ap, filter, rules}
use Rattle.std.proofs.lemmas.Fn.{filter_same}
use Rattle.vcard_import.specs.LeftOut.{is_left_out}
use Rattle.vcard_import.proofs.left_out.only_left_out.Goals as goal

pub returns : goal.returns
returns c = filter_same _ is_left_out _ (λ x b f' t. search rules) _ _ c.retain.ensures.filtered
    ∙ ap (filter is_left_out) (c.in_ok-extend_from_slice.ensures.items
    ∙ ap (λ l. l ++ c.args.changes.now) c.new-only.ensures.items)
