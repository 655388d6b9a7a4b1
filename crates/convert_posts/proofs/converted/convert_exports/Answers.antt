use Rattle.std.proofs.Common.{[], None, subst, sym}
use Rattle.convert_report.specs.declared.ledger.Summary.{Summary}
use Rattle.convert_posts.specs.Parts.{IsOfPieces}
use Rattle.convert_posts.specs.declared.row_list.RowList.{RowList}
use Rattle.convert_posts.proofs.RowLemmas.{texts_done}
use Rattle.convert_posts.proofs.converted.convert_exports.Goals as goal

pub returns-in-Ok : goal.returns-in-Ok
returns-in-Ok g c =
    subst (λ (s : Summary). IsOfPieces None s c.convert_more_exports.new.sink.rows)
    (sym c.summary.ensures)
    (texts_done (λ (list : RowList). list.rows) c.new-course.result
    c.convert_more_exports.new.course c.new-rows.result c.convert_more_exports.new.sink
    c.written_cards_differ.ensures.rules c.written_cards_differ.ensures.distinct
    c.new-course.ensures.counts c.new-rows.ensures
    (c.in-Ok.ensures [] c.new-course.ensures.uids))
