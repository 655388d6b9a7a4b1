use Rattle.std.proofs.Common.{◌≡◌, rules}
use Rattle.csv.specs.Reading.{Ready, reader_trim}
use Rattle.csv.specs.Records.{fields_of}
use Rattle.csv.specs.declared.reader.Trim.TheVariants as trim
use Rattle.contact_csv.proofs.rows.ContactReader.new.Goals as goal

pub returns-in-Some-clause-header : goal.returns-in-Some-clause-header
returns-in-Some-clause-header g c =
    let plain : reader_trim c.from_reader-rows.result ≡ trim.None = search rules in
    let ready : Ready c.from_reader-rows.result = search rules in
    record {
      start = c.from_reader-rows.result;
      source_is = c.from_reader-rows.ensures.source;
      state = c.from_reader-rows.ensures.state;
      found = c.in_default.field-0;
      fields = fields_of c.read_byte_record.new.row;
      took = c.in_default.ensures.reads plain ready;
    }
