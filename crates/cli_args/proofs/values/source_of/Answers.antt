use Rattle.std.proofs.Common.{◌∙◌}
use Rattle.clap.specs.Words.{found_of}
use Rattle.cli_args.proofs.MatchLemmas.{source-rows}
use Rattle.cli_args.proofs.values.source_of.Goals as goal

pub returns : goal.returns
returns c = c.value_source.ensures ∙ source-rows (found_of c.args.matches.now) c.args.id.now
