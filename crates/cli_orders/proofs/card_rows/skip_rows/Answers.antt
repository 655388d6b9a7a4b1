use Rattle.std.proofs.Common.{◌++◌, arith}
use Rattle.csv.specs.Records.{fields_of}
use Rattle.cli_orders.proofs.RowReaderLemmas.{one_more_skipped}
use Rattle.cli_orders.proofs.card_rows.skip_rows.Goals as goal

pub returns-then-not-branch-clause-end : goal.returns-then-not-branch-clause-end
returns-then-not-branch-clause-end c = λ text rows after none.
    let skips = c.loop-row.invariant text rows after in
    record {
      others = skips.skipped;
      fewer = omega (arith, skips.count_is, c.loop-row-test.true);
      are_rows = c.in_ok-read_next.ensures.end text (rows ++ skips.skipped) skips.after
          c.if-not-branch.true;
    }

pub loop-row-preserved : goal.loop-row-preserved
loop-row-preserved c = λ text rows after.
    let skips = c.loop-row.invariant text rows after in
    one_more_skipped c.loop-row.reader c.read_next.new.reader text rows
    (fields_of c.read_next.new.row) c.loop-row._row skips
    (c.in_ok-read_next.ensures.more text (rows ++ skips.skipped) skips.after c.if-not-branch.false)
