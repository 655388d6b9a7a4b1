use Rattle.std.proofs.Common.{refl, rules}
use Rattle.cli_convert.proofs.FolderLemmas.{card_made}
use Rattle.cli_convert.proofs.card_files.CardFilesCardSink.put.Goals as goal

pub returns-then-branch : goal.returns-then-branch
returns-then-branch g c = (refl, search (rules, card_made))
