use Rattle.std.proofs.Common.{◌≡◌, ◌∙◌, IsUtf8, Ok, ap, subst, sym}
use Rattle.percent_encoding.specs.Iter.{decoded_bytes}
use Rattle.percent_encoding.specs.Percent.{percent_decode}
use Rattle.http_routes.proofs.RequestLemmas.{text_is, text_is_none}
use Rattle.http_routes.proofs.path.decode_part.Goals as goal

pub returns-in_ok-into_owned-in-Ok : goal.returns-in_ok-into_owned-in-Ok
returns-in_ok-into_owned-in-Ok c =
    let bytes : decoded_bytes c.percent_decode.result ≡ percent_decode c.args.part.now =
    c.percent_decode.ensures.bytes ∙ ap percent_decode c.as_bytes.ensures.value in
    let text : c.new.result ≡ percent_decode c.args.part.now = c.new.ensures
    ∙ c.in_ok-into_owned-in-Ok.ensures.ok ∙ c.in-Ok.ensures.value ∙ bytes in
    text_is c.args.part.now (subst IsUtf8 bytes c.in-Ok.ensures.ok_only_if_utf8)
    ∙ ap (λ t. Ok t) (sym text)

pub returns-in-Err-Utf8 : goal.returns-in-Err-Utf8
returns-in-Err-Utf8 c =
    let bytes : decoded_bytes c.percent_decode.result ≡ percent_decode c.args.part.now =
    c.percent_decode.ensures.bytes ∙ ap percent_decode c.as_bytes.ensures.value in
    text_is_none c.args.part.now (λ is. let only = c.in-Err-Utf8.ensures.utf8
    (subst IsUtf8 (sym bytes) is) in cc)
