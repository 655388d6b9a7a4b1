use Rattle.std.proofs.Common.{rules}
use Rattle.import_text.specs.Encodings.{windows_char}
use Rattle.import_text.proofs.encodings.read_windows1252.Goals as goal

pub returns : goal.returns
unfolding windows_char
returns c = search rules
