use Rattle.std.proofs.Common.{arith}
use Rattle.cli_orders.proofs.OctetLemmas.{whole_read}
use Rattle.cli_orders.proofs.reading.read_rows_of.Goals as goal

pub returns-clause-whole : goal.returns-clause-whole
returns-clause-whole g c =
    whole_read (g.R.Read.remaining c.args.reader.now) c.in_ok-rows.rows.items 8388609
    (omega (arith, c.len.ensures, c.if-len-gt-ROWS_OCTETS_MAX.false)) c.in_ok-rows.ensures.read
