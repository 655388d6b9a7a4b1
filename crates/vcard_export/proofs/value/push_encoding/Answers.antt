use Rattle.std.proofs.Common.{◌++◌, ◌∙◌, append_assoc, ap, codes, string_bytes}
use Rattle.vcard_export.proofs.value.push_encoding.Goals as goal

pub returns : goal.returns
returns c =
    c.in_ok-push_str-2.ensures.bytes
    ∙ ap (λ o. o ++ c.picture_type.result.now) c.in_ok-push_str.ensures.bytes
    ∙ append_assoc (string_bytes c.args.out.now) (codes ";ENCODING=b;TYPE=")
    c.picture_type.result.now
    ∙ ap (λ t. string_bytes c.args.out.now ++ (codes ";ENCODING=b;TYPE=" ++ t))
    c.picture_type.ensures
