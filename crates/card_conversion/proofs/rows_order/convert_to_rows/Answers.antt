use Rattle.std.proofs.lemmas.Result.{IfOk-weaker}
use Rattle.std.specs.Option.{option_map}
use Rattle.import_text.specs.Texts.{text_octets}
use Rattle.card_conversion.specs.declared.rows_sink.RowsSink.{RowsSink}
use Rattle.card_conversion.proofs.RowLemmas.{all_rows}
use Rattle.card_conversion.proofs.rows_order.convert_to_rows.Goals as goal

pub returns : goal.returns
returns g c =
    IfOk-weaker c.convert_file.result _ _ (λ summary converts.
    all_rows (λ (sink : RowsSink g.row.W.Denot). g.W.Write.contents sink.writer)
    (option_map text_octets (g.R.Read.remaining c.args.reader))
    (g.W.Write.contents c.args.sink.now.writer) c.start.new.self c.convert_file.new.sink summary
    c.in_ok-start.ensures converts c.written_rows_are_read.ensures.text
    c.written_rows_are_read.ensures.read) c.convert_file.ensures
