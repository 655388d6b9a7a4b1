use Rattle.std.proofs.lemmas.Str.Pattern.{ends_text}
use Rattle.contact_columns.proofs.components.ends.Goals as goal

pub returns : goal.returns
returns c = ends_text c.ends_with.result c.args.words.now c.args.name.now c.ends_with.ensures.cases
