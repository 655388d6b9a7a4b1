use Rattle.std.proofs.Common.{◌∙◌, ap, codes, sym}
use Rattle.csv.specs.Records.{fields_of}
use Rattle.csv_cards.specs.Rows.{row_field}
use Rattle.cli_orders.proofs.RowReaderLemmas.{two_fields}
use Rattle.cli_orders.proofs.card_rows.is_card_header.Goals as goal

pub returns : goal.returns
returns c = (
  λ yes. two_fields (fields_of c.args.row.now) (codes "uid") (codes "vcard") (sym c.len.ensures
      ∙ c.if-len-ne2.false) (c.is_field.ensures.0 c.if-not-is_field.false)
      (c.is_field-2.ensures.0 yes),
  λ same. c.is_field-2.ensures.1 (ap (λ row. row_field row 1) same),
)
