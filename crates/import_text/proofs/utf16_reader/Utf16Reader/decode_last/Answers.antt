use Rattle.std.proofs.Common.{◌∙◌, length, ap, sym}
use Rattle.import_text.specs.internal.Unread.{octets_left, undecoded}
use Rattle.import_text.proofs.UnreadLemmas.{ended, last_apart}
use Rattle.import_text.proofs.utf16_reader.Utf16Reader.decode_last.Goals as goal

pub returns-then-len-eq0-clause-end : goal.returns-then-len-eq0-clause-end
returns-then-len-eq0-clause-end g c = λ same.
    let old = c.args.self.now in
    ended old.is_big (octets_left old.text) (undecoded old) (g.R.Read.remaining old.reader)
    c.requires.given (ap length (sym c.undecoded-len.ensures) ∙ c.if-len-eq0.true)
    c.requires.end

pub decode_front-requires-clause-apart : goal.decode_front-requires-clause-apart
decode_front-requires-clause-apart g c =
    let old = c.args.self.now in
    last_apart old.is_big (undecoded old) (length c.undecoded-len.result.now)
    (g.R.Read.remaining old.reader) (ap length c.undecoded-len.ensures) c.requires.end
