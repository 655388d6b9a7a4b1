use Rattle.cli_orders.proofs.PaddingLemmas.{names_are_ascii}
use Rattle.cli_orders.proofs.tally_output.tally_text.Goals as goal

pub write_number-requires : goal.write_number-requires
write_number-requires c =
    record {
      ascii = names_are_ascii c.args.tally.now c.named-rows.result c.loop-name.name-index _
          c.named-rows.ensures c.loop-name-test.true;
    }
