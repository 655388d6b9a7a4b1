use Rattle.std.proofs.Common.{length, chars, ap, arith}
use Rattle.std.proofs.lemmas.Str.{encodes-chars}
use Rattle.vcard_lines.proofs.CountLemmas.{fits}
use Rattle.vcard_lines.proofs.folded_count.count_short.Goals as goal

pub returns : goal.returns
returns c = λ part n.
    let same = ap length (encodes-chars c.args.text.now c.utf8.text) in
    let f = fits (chars c.args.text.now) part (omega (arith, same, n.room_is, c.requires)) in
    record {
      octets_are = omega (arith, n.octets_are, f.octets_are, same, c.saturating_add-count.ensures);
      room_is = omega (arith, n.room_is, f.room_is, same);
      room_fits = omega (arith, n.room_fits);
    }
