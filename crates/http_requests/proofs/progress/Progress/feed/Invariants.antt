use Rattle.std.proofs.Common.{length}
use Rattle.http_requests.specs.internal.Progress.{MatchesStage, IsOpen}
use Rattle.http_requests.proofs.AskingLemmas.{AskedSoFar}
use Rattle.http_requests.proofs.FeedLemmas.{SoFar}
use Rattle.http_requests.proofs.progress.Progress.feed.Given as goal

abbrev pub invariant-loop-rest : goal.invariant-loop-rest
invariant-loop-rest g l = record {
  holds : MatchesStage l.self.held.items l.self.stage;
  is_open : IsOpen l.self.stage;
  was_open : IsOpen l.fn.self.stage;
  far : SoFar g.H.Handler.does g.H.Handler.fault_reply l.fn.self.held.items l.piece l.fn.handler
      l.out.items l.handler l.self.held.items l.rest;
  asked : AskedSoFar g.H.Handler.does l.fn.self.held.items l.fn.self.stage l.piece l.handler
      l.self.held.items l.self.stage l.rest;
}

abbrev pub decreases-loop-rest : goal.decreases-loop-rest
decreases-loop-rest g l = length l.rest
