use Rattle.std.proofs.Common.{◌≡◌, ◌++◌}
use Rattle.std.specs.Vec.Iter.{into_iter_items}
use Rattle.cli_host.proofs.args.without_name.Given as goal

abbrev pub invariant-loop-word : goal.invariant-loop-word
invariant-loop-word l = l.rest.items ++ into_iter_items l.word-iterator
    ≡ into_iter_items l.initial.word-iterator
