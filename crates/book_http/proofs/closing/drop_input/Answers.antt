use Rattle.std.proofs.Common.{arith, ◌*◌, ◌+◌}
use Rattle.book_http.specs.Pieces.{piece_octets_max}
use Rattle.book_http.proofs.PieceLemmas.{up_to_kept, up_to_read}
use Rattle.book_http.proofs.closing.drop_input.Goals.{in-Ok}
use Rattle.book_http.proofs.closing.drop_input.Goals.{in-Err+else-ne+else-empty_reads-eq-EMPTY_READS_MAX}
use Rattle.book_http.proofs.closing.drop_input.Goals as goal

pub loop-read-preserved : goal.loop-read-preserved
loop-read-preserved g c =
    elim c.match-read.branch [
      | in-Ok w ↦ rw w.empty_reads-is (
        up_to_read (g.R.Read.remaining c.args.reader.now) (g.R.Read.remaining c.loop-read.reader)
            (g.R.Read.remaining c.read.new.self) c.loop-read._read w.in-Ok.field-0 c.read.new.buf
            c.loop-read.invariant.0 w.in-Ok.ensures.bytes.0 (omega (
              arith,
              c.read.auto.buf,
              c.loop-read.invariant.1,
            )),
        omega (arith, c.read.auto.buf, c.loop-read.invariant.1),
        c.loop-read.invariant.2,
      )
      | in-Err+else-ne+else-empty_reads-eq-EMPTY_READS_MAX w ↦ rw w.empty_reads-is (
        up_to_kept (g.R.Read.remaining c.args.reader.now) (g.R.Read.remaining c.loop-read.reader)
            (g.R.Read.remaining c.read.new.self) (c.loop-read._read * piece_octets_max)
            ((c.loop-read._read + 1) * piece_octets_max)
            (omega arith) c.loop-read.invariant.0 w.in-Err.ensures.bytes,
        omega (arith, c.read.auto.buf, c.loop-read.invariant.1),
        omega (arith, c.loop-read.invariant.2, w.if-empty_reads-eq-EMPTY_READS_MAX.false),
      )
    ]
