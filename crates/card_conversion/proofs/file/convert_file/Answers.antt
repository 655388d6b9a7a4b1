use Rattle.std.proofs.lemmas.Result.{IfOk-weaker}
use Rattle.import_text.specs.Readers.{text_left}
use Rattle.import_text.specs.Texts.{text_octets}
use Rattle.card_conversion.proofs.FileLemmas.{of_file}
use Rattle.card_conversion.proofs.file.convert_file.Goals as goal

pub returns-in-Ok : goal.returns-in-Ok
returns-in-Ok g c =
    IfOk-weaker c.convert_cards.result _ _ (λ summary converts.
    of_file g.O.CardSink.writes text_octets (g.R.Read.remaining c.args.reader)
    (text_left g.R.Read.remaining c.in-Ok.text) c.args.sink.now c.convert_cards.new.sink summary
    c.in-Ok.ensures converts) c.convert_cards.ensures
