use Rattle.std.proofs.Common.{refl, subst}
use Rattle.std.proofs.lemmas.Result.{err_from_is_err_and}
use Rattle.std.specs.Io.KnownBytes.{Appends}
use Rattle.book_http.specs.Streams.{WritesPrefix}
use Rattle.book_http.proofs.serving.answer_piece.Goals as goal

pub returns-in_err-replies-clause-failed : goal.returns-in_err-replies-clause-failed
returns-in_err-replies-clause-failed g c =
    let p = err_from_is_err_and c.from_residual.result c.from_residual.ensures.1 in
    rw (p.1, p.2) (c.in_err-replies.ensures.fed_in_part, refl)

pub returns-in_err-replies-clause-order : goal.returns-in_err-replies-clause-order
returns-in_err-replies-clause-order g c =
    let p = err_from_is_err_and c.from_residual.result c.from_residual.ensures.1 in
    rw (p.1, p.2) (λ pieces. refl)

pub returns-clause-answered : goal.returns-clause-answered
returns-clause-answered g c = record {
  replies = c.in_ok-replies.replies.items;
  feeds = c.in_ok-replies.ensures.fed;
  out = subst (Appends (g.C.Connection.model.contents c.args.connection.now)
      (g.C.Connection.model.contents c.send_replies.new.connection)) c.as_slice.ensures.value
      c.in_ok-send_replies.ensures.written;
}

pub returns-in_err-send_replies-clause-failed : goal.returns-in_err-send_replies-clause-failed
returns-in_err-send_replies-clause-failed g c =
    let p = err_from_is_err_and c.from_residual-in_err-send_replies.result
    c.from_residual-in_err-send_replies.ensures.1 in
    rw (p.1, p.2, c.in_err-send_replies.ensures.written.1) (record {
      replies = c.in_ok-replies.replies.items;
      feeds = c.in_ok-replies.ensures.fed;
      out = subst (λ octets. WritesPrefix octets (g.C.Connection.model.contents
          c.args.connection.now) (g.C.Connection.model.contents c.send_replies.new.connection))
          c.as_slice.ensures.value c.in_err-send_replies.ensures.written.0;
    })

pub returns-clause-order : goal.returns-clause-order
returns-clause-order g c = λ pieces. c.in_ok-send_replies.ensures.order pieces
