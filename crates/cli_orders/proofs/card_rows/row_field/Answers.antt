use Rattle.csv.specs.Records.{fields_of}
use Rattle.csv_cards.proofs.RecordLemmas.{field-none, field-some}
use Rattle.cli_orders.proofs.card_rows.row_field.Goals as goal

pub returns-in-Some : goal.returns-in-Some
returns-in-Some c = field-some (fields_of c.args.row.now) c.args.place c.in-Some.octets.now
    c.in-Some.ensures.value

pub returns-in-None : goal.returns-in-None
returns-in-None c = field-none (fields_of c.args.row.now) c.args.place c.in-None.ensures.value
