use Rattle.http_requests.proofs.HeldRequestLemmas.{no_length_held, request_length_held}
use Rattle.http_requests.proofs.progress.Progress.held_request_len.Goals as goal

pub returns-in-Head : goal.returns-in-Head
returns-in-Head c =
    rw c.in-Head.is
    (no_length_held c.args.self.now.held.items c.in-Head.field-0
    (rw c.in-Head.is at c.requires.holds))

pub returns-in-Body : goal.returns-in-Body
returns-in-Body c =
    rw c.in-Body.is
    (request_length_held c.args.self.now.held.items c.in-Body.field-0 c.in-Body.end
    (rw c.in-Body.is at c.requires.holds))
