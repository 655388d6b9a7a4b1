use Rattle.cli_convert.proofs.TextLemmas.{gives_seen}
use Rattle.cli_convert.proofs.run.convert_text.Goals as goal

pub returns : goal.returns
returns g c = c.convert_opened.ensures _
    (gives_seen _ _ _ _ _ _ _ _ _ c.as_slice-3.ensures.value c.as_slice-4.ensures.value
    c.in_ok-head.ensures.head c.in_ok-head.ensures.cards c.in_ok-content.ensures
    c.in_ok-above.ensures c.content_text-text.ensures)
