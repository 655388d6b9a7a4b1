use Rattle.std.proofs.Common.{◌∷◌, refl, []}
use Rattle.csv.specs.Records.{fields_of}
use Rattle.csv_cards.specs.Rows.{header}
use Rattle.csv_cards.proofs.ReaderLemmas.{none_yet, none_represent, goes_on, fails}
use Rattle.csv_cards.proofs.reading.read_cards.Goals as goal

pub loop-number-init : goal.loop-number-init
loop-number-init c = rw (c.new-cards.ensures.items, c.new-uids.ensures) (record {
  uids = none_yet;
  read = λ text has_read. record {
    rows = [];
    has_read = has_read;
    represent = none_represent c.args.form;
    count = refl;
  };
})

pub returns-then-not-found-clause-cards : goal.returns-then-not-found-clause-cards
returns-then-not-found-clause-cards c = λ text has_read.
    let read = c.loop-number.invariant.read text has_read in
    record {
      kind = c.args.form;
      rows = read.rows;
      are_rows = c.in-Ok.ensures.end text (header c.args.form ∷ read.rows) read.has_read
          c.if-not-found.true;
      represent = read.represent;
    }

pub returns-in-Err-clause-fault : goal.returns-in-Err-clause-fault
returns-in-Err-clause-fault c = λ text has_read n.
    let read = c.loop-number.invariant.read text has_read in
    fails c.args.form c.loop-number.reader c.read_record.new.reader text c.loop-number.number
    c.loop-number.cards.items c.loop-number.cards.items (fields_of c.read_record.new.row)
    c.in-Err.cause read
    (c.in-Ok.ensures.more text (header c.args.form ∷ read.rows) read.has_read c.if-not-found.false)
    (c.in-Err.ensures.cause n)

pub loop-number-preserved : goal.loop-number-preserved
loop-number-preserved c = record {
  uids = c.in-Ok-push_row.ensures.uids;
  read = λ text has_read.
      let read = c.loop-number.invariant.read text has_read in
      goes_on c.args.form c.loop-number.reader c.read_record.new.reader text c.loop-number.number
      c.loop-number.cards.items c.push_row.new.cards.items (fields_of c.read_record.new.row)
      read
      (c.in-Ok.ensures.more text (header c.args.form ∷ read.rows) read.has_read
      c.if-not-found.false)
      c.in-Ok-push_row.ensures.appended;
}
