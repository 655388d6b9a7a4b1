-- Fronts: what answers some requests itself, and a handler with a front before it.
use Rattle.std.specs.Prelude.{◌≡◌, ℕ, Bool, true, false, List, Option, Some, None}
use Rattle.http_requests.specs.HandlerRuns.{HandlerRelation}
use Rattle.http_requests.specs.declared.head.Head.{Head}

-- A front. A request is its own by its head; `replies` relates the head and the body of such a
-- request to what the whole reply may be.
pub record FrontRelation : Type 1 where
  pub is_own : Head → Bool
  pub replies : Head → List ℕ → List ℕ → Type 0

-- for a request of its own the front gives a reply that it may have, and for any other one nothing
abbrev pub Gives : FrontRelation → Head → List ℕ → Option (List ℕ) → Type 0
Gives front head body (Some reply) = (front.is_own head ≡ true) × front.replies head body reply
Gives front head body None = front.is_own head ≡ false

-- a request of the front's own, as the flag says, gets a reply that it may have, and the handler is
-- left as it is; for any other one the step is the handler's
abbrev pub AnswersBehind :
    {State : Type 0} → FrontRelation → HandlerRelation State → Bool → State → Head → List ℕ
    → List ℕ → State → Type 0
AnswersBehind front does true old head body reply new =
    front.replies head body reply × (new ≡ old)
AnswersBehind front does false old head body reply new = does.step old head body reply new

-- A handler that gets the requests that aren't the front's own. It refuses the same heads.
abbrev pub with_front :
    {State : Type 0} → FrontRelation → HandlerRelation State → HandlerRelation State
with_front front does = record {
  step = λ old head body reply new.
      AnswersBehind front does (front.is_own head) old head body reply new;
  screens = does.screens;
}
