use Rattle.std.proofs.Common.{IsAscii, subst, sym, arith}
use Rattle.std.proofs.lemmas.Str.{IsAscii-drop, IsAscii-take}
use Rattle.store_rows.specs.internal.Stripping.{folded_rest}
use Rattle.store_rows.proofs.FoldStripLemmas.{last_piece, no_such_piece, one_piece_more}
use Rattle.store_rows.proofs.canonical.strip_value.Goals as goal

pub loop-fits-preserved : goal.loop-fits-preserved
loop-fits-preserved c =
    let piece = c.split_at.result.0.now in
    let tail = c.split_at.result.1.now in
    let a : IsAscii piece = subst IsAscii (sym c.split_at.ensures.front)
    (IsAscii-take c.loop-fits.left.now c.loop-fits.fits c.loop-fits.invariant.ascii) in
    let b : IsAscii tail = subst IsAscii (sym c.split_at.ensures.back)
    (IsAscii-drop c.loop-fits.left.now c.loop-fits.fits c.loop-fits.invariant.ascii) in
    record {
      ascii = b;
      room = omega arith;
      on = one_piece_more c.args.text.now (folded_rest c.args.room c.args.value.now)
          c.loop-fits.rest.now piece tail c.loop-fits.left.now c.loop-fits.fits c.in-Some.after
          c.loop-fits.invariant.on c.split_at.ensures.by_index.0 a b
          c.split_at.ensures.front_len (omega (
            arith,
            c.split_at.ensures.back_len,
            c.loop-fits-test.true,
          )) c.in-Some.ensures;
    }

pub returns-in_default : goal.returns-in_default
returns-in_default c =
    let piece = c.split_at.result.0.now in
    let tail = c.split_at.result.1.now in
    let a : IsAscii piece = subst IsAscii (sym c.split_at.ensures.front)
    (IsAscii-take c.loop-fits.left.now c.loop-fits.fits c.loop-fits.invariant.ascii) in
    let b : IsAscii tail = subst IsAscii (sym c.split_at.ensures.back)
    (IsAscii-drop c.loop-fits.left.now c.loop-fits.fits c.loop-fits.invariant.ascii) in
    no_such_piece c.args.text.now (folded_rest c.args.room c.args.value.now) c.loop-fits.rest.now
    piece tail c.loop-fits.left.now c.loop-fits.fits c.loop-fits.invariant.on
    c.split_at.ensures.by_index.0 a b
    c.split_at.ensures.front_len (omega (arith, c.split_at.ensures.back_len, c.loop-fits-test.true))
    c.in_default.ensures

pub returns : goal.returns
returns c =
    last_piece c.args.text.now (folded_rest c.args.room c.args.value.now) c.loop-fits.rest.now
    c.loop-fits.left.now c.loop-fits.fits c.strip_end.result c.loop-fits.invariant.on
    c.loop-fits.invariant.ascii
    (omega (arith, c.loop-fits-test.false)) c.strip_end.ensures
