-- Where a head ends: at the first empty line after the first octet that is neither CR nor LF (RFC
-- 9112, sections 2.1 and 2.2).
use Rattle.std.specs.Prelude.{◌≡◌, ◌≢◌, ◌++◌, ℕ, List, [], ◌∷◌, if◌then◌else◌, nat_eq, fold}
use Rattle.base_types.specs.Octets.{line_feed, carriage_return}
use Rattle.http_requests.specs.declared.head_state.HeadState.{HeadState}
use Rattle.http_requests.specs.declared.head_state.HeadState.TheVariants.{Blank, InLine, LineStart}
use Rattle.http_requests.specs.declared.head_state.HeadState.TheVariants.{Return, Ended}

-- the state after one more octet
abbrev pub next : HeadState → ℕ → HeadState
next Blank octet =
    if nat_eq octet line_feed then Blank
    else (if nat_eq octet carriage_return then Blank else InLine)
next InLine octet = if nat_eq octet line_feed then LineStart else InLine
next LineStart octet =
    if nat_eq octet line_feed then Ended
    else (if nat_eq octet carriage_return then Return else InLine)
next Return octet = if nat_eq octet line_feed then Ended else InLine
next Ended octet = Ended

-- the state after these octets
abbrev pub head_state_after : HeadState → List ℕ → HeadState
head_state_after state octets = fold next state octets

-- a head ends with the last octet of the text, and not before
pub record EndsAtLastOctet (text : List ℕ) : Type 0 where
  pub front : List ℕ
  pub octet : ℕ
  pub text_is : text ≡ front ++ octet ∷ []
  pub ended : head_state_after Blank text ≡ Ended
  pub not_before : head_state_after Blank front ≢ Ended
