use Rattle.std.proofs.lemmas.Result.{IfOk-weaker}
use Rattle.card_conversion.specs.declared.rows_sink.RowsSink.{RowsSink}
use Rattle.card_conversion.proofs.ContactRowLemmas.{all_rows}
use Rattle.card_conversion.proofs.contacts.rows_order.convert_contacts_to_rows.Goals as goal

pub returns : goal.returns
returns g c ready =
    IfOk-weaker c.convert_contacts.result _ _ (λ summary converts.
    all_rows (λ (sink : RowsSink g.row.W.Denot). g.W.Write.contents sink.writer) g.R.Read.remaining
    c.args.reader (g.W.Write.contents c.args.sink.now.writer) c.start.new.self
    c.convert_contacts.new.sink summary
    c.in_ok-start.ensures converts c.written_rows_are_read.ensures.text
    c.written_rows_are_read.ensures.read) (c.convert_contacts.ensures ready)
