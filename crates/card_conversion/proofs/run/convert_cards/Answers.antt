use Rattle.std.proofs.Common.{[], subst, sym}
use Rattle.card_conversion.specs.Accounts.{ConvertsAll}
use Rattle.card_conversion.proofs.ProgressLemmas.{first_done}
use Rattle.card_conversion.proofs.run.convert_cards.Goals as goal

pub returns : goal.returns
returns g c =
    subst (ConvertsAll g.O.CardSink.writes (g.R.Read.remaining c.args.reader) c.args.sink.now
    c.convert_more_cards.new.sink) (sym c.summary-summary.ensures)
    (first_done g.O.CardSink.writes (g.R.Read.remaining c.args.reader) c.new-course.result
    c.convert_more_cards.new.course c.args.sink.now c.convert_more_cards.new.sink
    c.new-course.ensures.counts (c.in_ok-convert_more_cards.ensures [] c.new-course.ensures.uids))
