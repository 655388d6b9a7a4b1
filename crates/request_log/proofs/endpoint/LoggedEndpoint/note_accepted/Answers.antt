use Rattle.std.proofs.Common.{codes, refl}
use Rattle.request_log.proofs.endpoint.LoggedEndpoint.note_accepted.Goals as goal

pub note-requires : goal.note-requires
note-requires g c =
    record {
      words = codes "accepting is deferred: too few descriptors or too little memory";
      line_is = refl;
      printable = refl;
    }

pub note-requires-in-Failed : goal.note-requires-in-Failed
note-requires-in-Failed g c = record {
  words = codes "accepting failed";
  line_is = refl;
  printable = refl;
}
