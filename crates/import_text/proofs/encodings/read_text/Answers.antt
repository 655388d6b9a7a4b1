use Rattle.std.proofs.Common.{◌≡◌, ◌∙◌}
use Rattle.std.specs.Prelude.{true, false}
use Rattle.std.specs.Str.{is_utf8}
use Rattle.std.proofs.lemmas.Bool.{false_from_ne_true}
use Rattle.std.proofs.lemmas.Str.{IsUtf8-from_is_utf8, is_utf8-from_IsUtf8}
use Rattle.import_text.specs.Encodings.{text_of}
use Rattle.import_text.proofs.encodings.read_text.Goals as goal

pub returns-in_ok-from_str-in-Ok : goal.returns-in_ok-from_str-in-Ok
unfolding text_of
returns-in_ok-from_str-in-Ok c =
    let is : is_utf8 c.args.octets.now ≡ true =
    is_utf8-from_IsUtf8 c.args.octets.now c.in-Ok.ensures.cases.1 in
    rw is (c.in_ok-from_str-in-Ok.ensures.ok ∙ c.in-Ok.ensures.cases.0)

pub returns-in-Err : goal.returns-in-Err
unfolding text_of
returns-in-Err c =
    let not_utf8 : is_utf8 c.args.octets.now ≡ false =
    false_from_ne_true _ (λ e. c.in-Err.ensures.cases.0 (IsUtf8-from_is_utf8 c.args.octets.now
    e)) in
    rw not_utf8 c.read_damaged.ensures
