-- The laws of the octets of every connection to the service, over every store.
use Rattle.std.specs.Prelude.{◌≡◌, ◌⊎◌, ℕ, Bool, true, false, List, [], ◌++◌, Option, Some, None}
use Rattle.std.specs.Prelude.{Ok, slice_get, slice_set}
use Rattle.std.specs.List.{flat_map}
use Rattle.std.specs.Io.KnownBytes.{Appends, Consumes, IsAtEnd}
use Rattle.book_model.specs.declared.page.Page.{Page}
use Rattle.book_model.specs.Books.{Books}
use Rattle.book_model.specs.Devices.{DeviceState, device_after_page}
use Rattle.sync_core.specs.StoreModels.{StoreModel}
use Rattle.book_commands.specs.declared.command.Command.TheVariants.{Report}
use Rattle.book_service.specs.declared.event.Event.TheVariants.{Do, Ask}
use Rattle.book_commands.specs.declared.reply.Reply.TheVariants as reply
use Rattle.book_service.specs.Runs.{SystemState, Step, MatchesRows}
use Rattle.book_service.specs.Texts.{ReadsToken}
use Rattle.http_replies.specs.Replies.{body_octets, head_fault_octets, reply_body}
use Rattle.http_requests.specs.SessionFeeding.{FeedsSession, HandlesSomePrefix, RefusesHead}
use Rattle.http_requests.specs.SessionFeeding.{IsPartialRequest, FeedsPieces}
use Rattle.http_requests.specs.HandlerRuns.{HandlerRelation, HandlesRequests}
use Rattle.http_requests.specs.Requests.{Request, AreAllRequests}
use Rattle.page_json.specs.PageJson.{IsTextOfPage}
use Rattle.book_http.specs.declared.serve_fault.ServeFault.{ServeFault}
use Rattle.book_http.specs.RequestAnswers.{AnswersRequest}
use Rattle.book_http.specs.OctetRuns.{IsFaultless, RunsRequests, RunsAllRequests, RunsFirstRequests}
use Rattle.book_http.specs.ServedConnections.{AbortsConnection, ServesToEnd}

-- ---- over any store

module _ {S : Type 0} (model : StoreModel S) where
  -- one step of the service by a request; it refuses no head without a fault
  abbrev pub ServiceStep : HandlerRelation S
  ServiceStep =
      record { step = AnswersRequest model; screens = λ now method fields. None }

  -- The store was in this state, and its premise holds now, so that it held before.
  pub record StartsAt (now : SystemState) (old new : S) : Type 0 where
    pub at : MatchesRows now (model.limits old) (model.books old)
    pub premise_holds : model.premise new

  -- ---- requests

  -- requests that were handled in turn are a run, and the octets are its replies
  abbrev pub RequestsRun : Type 0
  RequestsRun =
      (now : SystemState) (old new : S) (requests : List Request) (octets : List ℕ) →
      StartsAt now old new → HandlesRequests ServiceStep head_fault_octets old requests octets new →
      RunsRequests now requests octets (model.books new)

  -- ---- sessions

  -- All requests ran, and the session is closed: the list of requests has ended, or the last reply
  -- is that to octets that never become a head.
  pub record RunsUntilClosed (now : SystemState) (octets replies : List ℕ) (new : Books)
      : Type 0 where
    pub answers : List ℕ
    pub last : List ℕ
    pub ended : Bool
    pub rest : List ℕ
    pub ran : RunsAllRequests now octets answers new ended rest
    pub replies_are : replies ≡ answers ++ last
    pub why : ((ended ≡ true) × (last ≡ []))
        ⊎ ((ended ≡ false) × RefusesHead ServiceStep head_fault_octets rest last)

  -- all requests of the octets ran, and this is the value of the session afterwards
  abbrev pub RunsAsFed : SystemState → List ℕ → List ℕ → Books → Option (List ℕ) → Type 0
  RunsAsFed now octets replies new (Some rest) =
      RunsAllRequests now octets replies new false rest × IsPartialRequest rest
  RunsAsFed now octets replies new None = RunsUntilClosed now octets replies new

  -- all requests of the octets that a session held and of those that it was fed ran
  abbrev pub SessionsRun : Type 0
  SessionsRun =
      (now : SystemState) (old new : S) (octets replies : List ℕ) →
      (session : Option (List ℕ)) → StartsAt now old new →
      FeedsSession ServiceStep head_fault_octets octets old replies new session →
      RunsAsFed now octets replies (model.books new) session

  -- if memory runs out, some requests, from the first on, ran
  abbrev pub LostPiecesRun : Type 0
  LostPiecesRun =
      (now : SystemState) (old new : S) (octets : List ℕ) → StartsAt now old new →
      HandlesSomePrefix ServiceStep head_fault_octets octets old new →
      RunsFirstRequests now octets (model.books new)

  -- ---- cuts

  -- Both times the same requests ran: all those of the octets. If no reply is a fault either time,
  -- the traces are the same, the replies are the same octets, and the stores have the same rows.
  -- After these replies there is nothing both times, or, both times, the reply to octets that never
  -- become a head.
  pub record RanAlike (now : SystemState) (octets replies others : List ℕ) (one other : Books)
      : Type 0 where
    pub requests : List Request
    pub ended : Bool
    pub rest : List ℕ
    pub requests_are : AreAllRequests octets requests ended rest
    pub run_replies : List ℕ
    pub ran : RunsRequests now requests run_replies one
    pub other_run_replies : List ℕ
    pub other_ran : RunsRequests now requests other_run_replies other
    pub alike : IsFaultless ran.run → IsFaultless other_ran.run
        → (ran.run ≡ other_ran.run) × (run_replies ≡ other_run_replies) × (one ≡ other)
    pub last : List ℕ
    pub replies_are : replies ≡ run_replies ++ last
    pub other_last : List ℕ
    pub others_are : others ≡ other_run_replies ++ other_last
    pub lasts : ((last ≡ []) × (other_last ≡ []))
        ⊎ (RefusesHead ServiceStep head_fault_octets rest last
        × RefusesHead ServiceStep head_fault_octets rest other_last)

  -- However octets are cut, the same requests run, and the session has the same value.
  abbrev pub CutsRunAlike : Type 0
  CutsRunAlike =
      (now : SystemState) (old new other : S) (turns others : List (List ℕ × List ℕ)) →
      (session left : Option (List ℕ)) → StartsAt now old new → StartsAt now old other →
      FeedsPieces ServiceStep head_fault_octets (Some []) old turns new session →
      FeedsPieces ServiceStep head_fault_octets (Some []) old others other left →
      flat_map (λ turn. turn.0) turns ≡ flat_map (λ turn. turn.0) others →
      (session ≡ left)
      × RanAlike now (flat_map (λ turn. turn.0) turns) (flat_map (λ turn. turn.1) turns)
      (flat_map (λ turn. turn.1) others) (model.books new) (model.books other)

  -- ---- connections

  -- All requests of the octets read ran, and the octets written are the replies.
  pub record RunsConnection
      (now : SystemState) (input left output written : Option (List ℕ)) (new : Books) : Type 0 where
    pub octets : List ℕ
    pub replies : List ℕ
    pub session : Option (List ℕ)
    pub read : Consumes input left octets
    pub ran : RunsAsFed now octets replies new session
    pub sent : Appends output written replies
    pub at_end : IsAtEnd left ⊎ (session ≡ None)

  -- this holds of each connection that was served to its end
  abbrev pub ConnectionsRun : Type 0
  ConnectionsRun =
      (now : SystemState) (old new : S) (input left output written : Option (List ℕ)) →
      StartsAt now old new →
      ServesToEnd ServiceStep head_fault_octets input left output written old new →
      RunsConnection now input left output written (model.books new)

  -- after a fault, some requests of the octets read, from the first on, ran
  abbrev pub FaultsLeaveRuns : Type 0
  FaultsLeaveRuns =
      (now : SystemState) (old new : S) (input left output written : Option (List ℕ)) →
      (why : ServeFault) → StartsAt now old new →
      AbortsConnection ServiceStep head_fault_octets why input left output written old new →
      (octets : List ℕ) × Consumes input left octets
      × RunsFirstRequests now octets (model.books new)

-- ---- devices

-- A client asks with a device's token, gets a page, and applies the page that it reads from the
-- body of the reply. This is a step of the device.
abbrev pub ReadersAreDevices : Type 0
ReadersAreDevices =
    (now next : SystemState) (i : ℕ) (device : DeviceState) (token : List ℕ) (limit : Option ℕ) →
    (page read : Page) → slice_get now.devices i ≡ Some device →
    ReadsToken token (Ok device.token) →
    Step now (Do (Report device.book token limit)) (reply.Page page) next →
    IsTextOfPage (body_octets (reply_body (reply.Page page))) page →
    IsTextOfPage (body_octets (reply_body (reply.Page page))) read →
    Step now (Ask i limit) (reply.Page read)
    (record next { devices = slice_set next.devices i (device_after_page device read) })
