use Rattle.csv.specs.Records.{fields_of}
use Rattle.csv_cards.proofs.ReaderLemmas.{one_more_read, none_left}
use Rattle.csv_cards.proofs.records.read_record.Goals as goal

pub returns-clause-more : goal.returns-clause-more
returns-clause-more c = λ text rows has_read found.
    one_more_read c.args.reader.now c.read_byte_record.new.self
    (fields_of c.read_byte_record.new.row) text rows has_read
    (rw found at (c.in-Ok.ensures.reads has_read.plain has_read.ready))
    (c.in-Ok.ensures.ready has_read.plain) c.in-Ok.ensures.flexible

pub returns-clause-end : goal.returns-clause-end
returns-clause-end c = λ text rows has_read found.
    none_left c.args.reader.now c.read_byte_record.new.self (fields_of c.read_byte_record.new.row)
    text rows has_read (rw found at (c.in-Ok.ensures.reads has_read.plain has_read.ready))
