use Rattle.std.proofs.Common.{rules, ◌∷◌}
use Rattle.std.specs.Io.KnownBytes.{Appends}
use Rattle.card_conversion.specs.RowTexts.{header_row_text}
use Rattle.card_conversion.specs.declared.rows_sink.RowsSink.{RowsSink}
use Rattle.cli_convert.specs.FileTexts.{more_texts}
use Rattle.cli_convert.proofs.EndLemmas.{printed}
use Rattle.cli_convert.proofs.run.convert_to_writer.Goals as goal

pub returns : goal.returns
returns g c whole gives =
    let header : Appends (g.W.Write.contents c.args.rows.now.writer)
    (g.W.Write.contents c.start.new.self.writer) header_row_text = search rules in
    printed (λ (sink : RowsSink g.row.W.Denot). g.W.Write.contents sink.writer)
    (whole ∷ more_texts (g.F.FileSystem.octets c.args.files.now) c.args.wanted)
    (g.W.Write.contents c.args.rows.now.writer) c.start.new.self c.convert_all.new.sink
    c.in_ok-summary.summary
    header (c.in_ok-summary.ensures whole gives) c.written_rows_are_read.ensures.text
    c.written_rows_are_read.ensures.read c.written_cards_differ.ensures.rules
    c.written_cards_differ.ensures.distinct
