use Rattle.std.proofs.Common.{◌≡◌}
use Rattle.cli_convert.proofs.charset_reader.CharsetReader.read_utf8.Given as goal

-- it decodes as before
abbrev pub invariant-loop-read : goal.invariant-loop-read
invariant-loop-read g l = l.self.decoding ≡ l.fn.self.decoding
