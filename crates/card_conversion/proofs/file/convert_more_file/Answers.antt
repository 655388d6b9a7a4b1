use Rattle.std.proofs.Common.{subst}
use Rattle.import_text.specs.Readers.{text_left}
use Rattle.import_text.specs.Texts.{text_octets}
use Rattle.std.proofs.lemmas.Result.{on_ok_weaker}
use Rattle.card_conversion.proofs.FileLemmas.{of_more_file}
use Rattle.card_conversion.proofs.file.convert_more_file.Goals as goal

pub returns-in-Ok : goal.returns-in-Ok
returns-in-Ok g c =
    on_ok_weaker c.convert_more_cards.result (λ converts uids known.
    of_more_file g.O.CardSink.writes text_octets (g.R.Read.remaining c.args.reader)
    (text_left g.R.Read.remaining c.in-Ok.text) uids c.args.course.now
    c.convert_more_cards.new.course c.args.sink.now c.convert_more_cards.new.sink
    c.in-Ok.ensures (converts uids known)) c.convert_more_cards.ensures
