use Rattle.std.proofs.Common.{[], subst, sym}
use Rattle.convert_report.specs.declared.ledger.Summary.{Summary}
use Rattle.convert_posts.specs.Parts.{IsOfContacts}
use Rattle.convert_posts.specs.declared.row_list.RowList.{RowList}
use Rattle.contact_csv.specs.Contacts.{columns_of}
use Rattle.convert_posts.proofs.RowLemmas.{rows_done}
use Rattle.convert_posts.proofs.converted.convert_rows.Goals as goal

pub returns-in-Ok : goal.returns-in-Ok
returns-in-Ok g c ready =
    let it = c.in-Ok.ensures ready [] c.new-course.ensures.uids in
    subst (λ (s : Summary). IsOfContacts s c.convert_contacts_under.new.sink.rows)
    (sym c.summary.ensures)
    (rows_done (λ (list : RowList). list.rows) (columns_of c.args.reader) _ c.new-course.result
    c.convert_contacts_under.new.course c.new-rows.result c.convert_contacts_under.new.sink
    c.written_cards_differ.ensures.rules c.written_cards_differ.ensures.distinct
    c.new-course.ensures.counts c.new-rows.ensures it.part)
