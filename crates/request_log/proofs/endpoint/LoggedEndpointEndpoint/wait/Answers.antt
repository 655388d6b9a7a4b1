use Rattle.std.proofs.Common.{codes, refl}
use Rattle.request_log.proofs.endpoint.LoggedEndpointEndpoint.wait.Goals as goal

pub note-requires : goal.note-requires
note-requires g c = record {
  words = codes "waiting for connections failed";
  line_is = refl;
  printable = refl;
}
