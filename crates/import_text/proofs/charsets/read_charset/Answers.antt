use Rattle.std.proofs.Common.{◌∙◌, string_bytes}
use Rattle.import_text.specs.Encodings.{char_in}
use Rattle.import_text.proofs.CharsetLemmas.{one_more}
use Rattle.import_text.proofs.charsets.read_charset.Goals as goal

pub loop-octet-preserved : goal.loop-octet-preserved
loop-octet-preserved c = c.in_ok-push.ensures.bytes
    ∙ one_more (char_in c.args.charset.first c.args.charset.chars.now) c.args.octets.now
    c.loop-octet.octet-index (string_bytes c.loop-octet.text) c.char_in.result
    c.loop-octet-test.true c.char_in.ensures c.loop-octet.invariant
