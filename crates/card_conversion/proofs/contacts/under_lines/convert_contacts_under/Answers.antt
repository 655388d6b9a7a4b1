use Rattle.std.proofs.lemmas.Result.{on_ok_weaker}
use Rattle.contact_csv.specs.Contacts.{columns_of}
use Rattle.card_conversion.proofs.AboveLemmas.{under_lines}
use Rattle.card_conversion.proofs.contacts.under_lines.convert_contacts_under.Goals as goal

pub returns : goal.returns
returns g c = on_ok_weaker c.convert_more_contacts.result
    (λ converts ready uids known. let it = converts ready uids known in
    record {
      entries = it.entries;
      reads = it.reads;
      part = under_lines g.O.CardSink.writes (columns_of c.args.reader) uids c.args.course.now _
          c.convert_more_contacts.new.course c.args.sink.now c.convert_more_contacts.new.sink
          c.args.above.now it.entries c.count_above.ensures it.part;
    }) c.convert_more_contacts.ensures
