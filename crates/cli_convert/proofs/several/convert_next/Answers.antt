use Rattle.std.proofs.lemmas.Result.{on_ok_weaker}
use Rattle.cli_convert.proofs.TextLemmas.{next_gives}
use Rattle.cli_convert.proofs.several.convert_next.Goals as goal

pub returns : goal.returns
returns g c = on_ok_weaker c.convert_content.result
    (λ converts uids known. converts _ (next_gives _ _ _ _ _ _ _ _ _ _ _ _ _ _ _
    c.as_slice.ensures.value c.as_slice-4.ensures.value c.as_slice-5.ensures.value
    c.in_ok-encoding.ensures c.in_ok-front.ensures c.in_ok-reader.ensures c.in_ok-head.ensures.head
    c.in_ok-head.ensures.cards c.in_ok-content.ensures c.in_ok-above.ensures
    c.content_text-text.ensures) uids known) c.convert_content.ensures
