use Rattle.std.proofs.Common.{codes, refl}
use Rattle.request_log.proofs.endpoint.LoggedEndpointEndpoint.read.Goals as goal

pub note-requires : goal.note-requires
note-requires g c = record {
  words = codes "a connection failed while it was read";
  line_is = refl;
  printable = refl;
}
