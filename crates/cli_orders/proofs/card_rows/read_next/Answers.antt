use Rattle.csv.specs.Records.{fields_of}
use Rattle.csv_cards.proofs.ReaderLemmas.{none_left, one_more_read}
use Rattle.cli_orders.proofs.card_rows.read_next.Goals as goal

pub returns-clause-more : goal.returns-clause-more
returns-clause-more c = λ text rows after found.
    one_more_read c.args.reader.now c.read_byte_record.new.self
    (fields_of c.read_byte_record.new.row) text rows after
    (rw found at (c.in-Ok.ensures.reads after.plain after.ready))
    (c.in-Ok.ensures.ready after.plain) c.in-Ok.ensures.flexible

pub returns-clause-end : goal.returns-clause-end
returns-clause-end c = λ text rows after found.
    none_left c.args.reader.now c.read_byte_record.new.self (fields_of c.read_byte_record.new.row)
    text rows after (rw found at (c.in-Ok.ensures.reads after.plain after.ready))
