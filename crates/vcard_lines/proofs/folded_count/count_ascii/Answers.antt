use Rattle.std.proofs.Common.{length, chars, ap, subst, sym, arith}
use Rattle.std.specs.Str.{IsAscii}
use Rattle.std.proofs.lemmas.Str.{chars-IsAscii}
use Rattle.vcard_lines.proofs.CountLemmas.{wraps}
use Rattle.vcard_lines.proofs.folded_count.count_ascii.Goals as goal

pub returns : goal.returns
returns c = λ part n.
    let same = chars-IsAscii c.args.text.now c.requires.ascii in
    let w = wraps (chars c.args.text.now) part (subst IsAscii (sym same) c.requires.ascii) in
    let size = ap length same in
    record {
      octets_are = omega (
        arith,
        n.octets_are,
        n.room_is,
        w.octets_are,
        w.room_is,
        w.room_left,
        size,
        c.requires.long,
        c.saturating_add-count.ensures,
        c.saturating_add-count-2.ensures,
      );
      room_is = omega (arith, n.room_is, w.room_is, w.room_left, size, c.requires.long);
      room_fits = omega arith;
    }
