use Rattle.std.proofs.Common.{◌≡◌, ◌∙◌, refl, ap, map, drop, codes}
use Rattle.std.specs.List.{prefix_len}
use Rattle.std.specs.Char.{is_ascii_whitespace, to_ascii_lowercase}
use Rattle.std.proofs.lemmas.Str.Ascii.{trim_ascii_is}
use Rattle.http_requests.specs.Fields.{equals_ignoring_case, trim_whitespace}
use Rattle.http_requests.proofs.FieldLemmas.{same_word}
use Rattle.http_requests.proofs.fields.is_close.Goals as goal

pub returns : goal.returns
returns c =
    let is : c.trim_ascii.result.now ≡ trim_whitespace c.args.part.now =
    trim_ascii_is c.args.part.now c.trim_ascii.result.now
    (drop (prefix_len is_ascii_whitespace c.args.part.now) c.args.part.now) refl
    c.trim_ascii.ensures.value in
    same_word c.eq_ignore_ascii_case.result (map to_ascii_lowercase c.trim_ascii.result.now)
    (map to_ascii_lowercase (codes "close")) c.eq_ignore_ascii_case.ensures.test
    ∙ ap (λ t. equals_ignoring_case t (codes "close")) is
