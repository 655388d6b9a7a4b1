use Rattle.std.proofs.Common.{refl, None, Some}
use Rattle.book_http.proofs.listening.serve_next.Goals as goal

pub returns-in-Ok-served-clause-served : goal.returns-in-Ok-served-clause-served
returns-in-Ok-served-clause-served g c = record {
  turn = record { connection = c.in-Ok.stream; end = None };
  end_is = refl;
  arrival_is = c.in-Ok.ensures.arrived;
  served = record {
    connection_after = c.serve_connection-served.new.connection;
    closed = c.close.new.self;
    ended = c.in-Ok-served.ensures.served;
    in_order = c.in-Ok-served.ensures.in_order;
    closes = c.close.ensures.called;
  };
}

pub returns-clause-served : goal.returns-clause-served
returns-clause-served g c = record {
  turn = record { connection = c.in-Ok.stream; end = Some c.in-Err.fault };
  end_is = refl;
  arrival_is = c.in-Ok.ensures.arrived;
  served = record {
    connection_after = c.serve_connection-served.new.connection;
    closed = c.close.new.self;
    ended = c.in-Err.ensures.served;
    in_order = c.in-Err.ensures.in_order;
    closes = c.close.ensures.called;
  };
}
