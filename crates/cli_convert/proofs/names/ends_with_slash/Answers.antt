use Rattle.std.proofs.Common.{codes}
use Rattle.std.proofs.lemmas.Str.Pattern.{ends_text}
use Rattle.cli_convert.proofs.names.ends_with_slash.Goals as goal

pub returns : goal.returns
returns c = ends_text c.ends_with.result (codes "/") c.args.path.now c.ends_with.ensures.cases
