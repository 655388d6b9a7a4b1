use Rattle.std.proofs.Common.{◌≡◌, ◌++◌, ◌∙◌, length, take, drop, ap, sym, subst}
use Rattle.std.specs.Option.{option_map}
use Rattle.std.specs.Io.KnownBytes.{Keeps}
use Rattle.std.proofs.Math.Seq.{take-append_seam}
use Rattle.import_text.specs.Texts.{utf16_octets}
use Rattle.import_text.specs.internal.Unread.{octets_left, undecoded, units_left}
use Rattle.import_text.proofs.UnreadLemmas.{decoded}
use Rattle.import_text.proofs.utf16_reader.Utf16Reader.decode_front.Goals as goal

pub returns : goal.returns
returns g c =
    let old = c.args.self.now in
    let rest = c.split_at.result.1.now in
    let text : octets_left c.new.result ≡ utf16_octets old.is_big
    (take c.args.len (undecoded old)) =
    c.new.ensures ∙ c.in_ok-text.ensures ∙ ap (utf16_octets old.is_big) (c.split_at.ensures.front
    ∙ ap (take c.args.len) c.undecoded.ensures) in
    let held : take (length rest) c.in_ok-room.room.items ≡ drop c.args.len (undecoded old) =
    ap (take (length rest)) c.in_ok-room.ensures ∙ take-append_seam rest _ ∙ c.split_at.ensures.back
    ∙ ap (drop c.args.len) c.undecoded.ensures in
    subst (λ h. Keeps (units_left g.R.Read.remaining old)
    (option_map (λ more. octets_left c.new.result ++ utf16_octets old.is_big (h ++ more))
    (g.R.Read.remaining old.reader))) (sym held)
    (decoded old.is_big (octets_left old.text) (octets_left c.new.result) (undecoded old)
    (take c.args.len (undecoded old)) (drop c.args.len (undecoded old))
    (g.R.Read.remaining old.reader) c.requires.given text c.requires.apart)
