-- What a connection was served is a run of the service.
use Rattle.std.proofs.Common.{ℕ, List, ◌++◌, false, Option, Some}
use Rattle.std.proofs.KnownBytes.{Consumes-trans}
use Rattle.std.specs.Io.KnownBytes.{Consumes}
use Rattle.http_replies.specs.Replies.{head_fault_octets}
use Rattle.http_requests.specs.SessionFeeding.{HandlesSomePrefix}
use Rattle.http_requests.specs.HandlerRuns.{HandlerRelation, FaultReplies}
use Rattle.http_requests.proofs.PartLemmas.{part_of_fed}
use Rattle.http_requests.proofs.RunLemmas.{answered_run, part_on}
use Rattle.book_http.specs.declared.serve_fault.ServeFault.{ServeFault}
use Rattle.book_http.specs.declared.serve_fault.ServeFault.TheVariants.{Read, Write, TooManyTurns}
use Rattle.book_http.specs.declared.serve_fault.ServeFault.TheVariants.{Memory}
use Rattle.book_http.specs.OctetPromise.{ConnectionsRun, FaultsLeaveRuns, ServiceStep}
use Rattle.book_http.specs.ServedConnections.{AbortsConnection}
use Rattle.book_http.proofs.ServingLemmas.{fed_on}
use Rattle.book_http.proofs.OctetRunLemmas.{lost_pieces_run, sessions_run}
use Rattle.sync_core.specs.StoreModels.{StoreModel}

module _ {State : Type 0} (does : HandlerRelation State) (fault_reply : FaultReplies) where
  -- some first requests of what was read were handled
  pub record HandlesRead (input left : Option (List ℕ)) (old new : State) : Type 0 where
    pub octets : List ℕ
    pub read : Consumes input left octets
    pub part : HandlesSomePrefix does fault_reply octets old new

  pub handles_read : (why : ServeFault) (input left output written : Option (List ℕ)) (old new :
      State) → AbortsConnection does fault_reply why input left output written old new
      → HandlesRead input left old new
  handles_read Read input left output written old new broke =
      let s = broke.serves in record {
        octets = s.octets;
        read = s.read;
        part = part_of_fed does fault_reply s.octets s.replies old new (Some broke.held) s.fed;
      }
  handles_read Write input left output written old new broke =
      let s = broke.serves in
      record {
        octets = s.octets ++ broke.piece;
        read = Consumes-trans input broke.between left s.octets broke.piece s.read broke.read;
        part = part_of_fed does fault_reply (s.octets ++ broke.piece) (s.replies ++ broke.replies)
            old new broke.session
            (fed_on does fault_reply s.octets broke.piece s.replies broke.replies old broke.middle
            new (Some broke.held) broke.session s.fed broke.fed);
      }
  handles_read TooManyTurns input left output written old new broke =
      let s = broke.serves in record {
        octets = s.octets;
        read = s.read;
        part = part_of_fed does fault_reply s.octets s.replies old new (Some broke.held) s.fed;
      }
  handles_read Memory input left output written old new broke =
      let s = broke.serves in
      record {
        octets = s.octets ++ broke.piece;
        read = Consumes-trans input broke.between left s.octets broke.piece s.read broke.read;
        part = part_on does fault_reply s.octets broke.piece old broke.middle new s.replies
            broke.held
            (answered_run does fault_reply s.octets old s.replies broke.middle false broke.held
            s.fed.0) broke.part;
      }

module _ {S : Type 0} (model : StoreModel S) where
  pub connections_run : ConnectionsRun model
  connections_run now old new input left output written starts all =
      let s = all.serves in
      record {
        octets = s.octets;
        replies = s.replies;
        session = all.session;
        read = s.read;
        ran = sessions_run model now old new s.octets s.replies all.session starts s.fed;
        sent = s.sent;
        at_end = all.at_end;
      }

  pub faults_leave_runs : FaultsLeaveRuns model
  faults_leave_runs now old new input left output written why starts broke =
      let handled = handles_read (ServiceStep model) head_fault_octets why input left output written
      old new broke in (
        handled.octets,
        handled.read,
        lost_pieces_run model now old new handled.octets starts
            handled.part,
      )
