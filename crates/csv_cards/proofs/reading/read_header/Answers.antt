use Rattle.std.proofs.Common.{[], refl, inl, inr}
use Rattle.csv.specs.Reading.{reader_state}
use Rattle.csv.specs.Records.{fields_of}
use Rattle.csv_cards.proofs.reading.read_header.Goals as goal

pub returns-then-not-found-clause-fault : goal.returns-then-not-found-clause-fault
returns-then-not-found-clause-fault c =
    λ text has_read n. (inl (c.in-Ok.ensures.end text [] has_read c.if-not-found.true), refl)

pub returns-clause-fault : goal.returns-clause-fault
returns-clause-fault c = λ text has_read n.
    let read = c.in-Ok.ensures.more text [] has_read c.if-not-found.false in (
      inr (
        fields_of c.read_record.new.row,
        record {
          state = reader_state c.read_record.new.reader;
          rest = read.rest;
          reached = read.reached;
        },
        c.in-None.ensures.none,
      ),
      refl,
    )
