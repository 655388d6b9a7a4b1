-- What a whole request asks for, step by step.
use Rattle.std.proofs.Common.{◌≡◌, ◌+◌, ◌∙◌, ℕ, Bool, true, false, cond, Bor, IsUtf8, List, []}
use Rattle.std.proofs.Common.{Option, Some, None, Result, Ok, Err, drop, get_or, length, map, take}
use Rattle.std.proofs.Common.{refl, ap, arith, subst, sym}
use Rattle.std.specs.Str.{is_utf8}
use Rattle.std.proofs.lemmas.List.{drop_all, take_all}
use Rattle.std.proofs.lemmas.Str.{IsUtf8-from_is_utf8, is_utf8-from_IsUtf8}
use Rattle.percent_encoding.specs.Percent.{percent_decode}
use Rattle.book_commands.specs.declared.command.Command.{Command}
use Rattle.http_routes.proofs.OutcomeLemmas.{failed, went_on}
use Rattle.http_routes.specs.Actions.{action_of}
use Rattle.http_routes.specs.Commands.{◌>>=◌, requested_command, command_with, path_in, path_len}
use Rattle.http_routes.specs.Commands.{query_in, decode_part}
use Rattle.http_routes.specs.internal.Results.{MatchesExpected}
use Rattle.http_routes.specs.Paths.{book_part, parts_of, route_of, uid_part}
use Rattle.http_routes.specs.declared.action.Action.{Action}
use Rattle.http_routes.specs.declared.fault.RouteFault.{RouteFault}
use Rattle.http_routes.specs.declared.fault.RouteFault.TheVariants.{NoRoute, BadMethod, BadPath}
use Rattle.http_routes.specs.declared.no_command.NoCommand.{NoCommand}
use Rattle.http_routes.specs.declared.route.Route.{Route}

-- a part whose octets are a text
pub text_is : (part : List ℕ) → IsUtf8 (percent_decode part)
    → decode_part part ≡ Ok (percent_decode part)
text_is part is =
    ap (λ v. cond v (Ok (percent_decode part)) (Err BadPath))
    (is_utf8-from_IsUtf8 (percent_decode part) is)

pub text_is_none : (part : List ℕ) → (IsUtf8 (percent_decode part) → ⊥)
    → decode_part part ≡ Err BadPath
text_is_none part none =
    by (is_utf8 (percent_decode part)) (λ is. none (IsUtf8-from_is_utf8 (percent_decode part) is))
  where
    by : (v : Bool) → (v ≡ true → ⊥) → cond {A = Result (List ℕ) RouteFault} v
        (Ok (percent_decode part)) (Err BadPath) ≡ Err BadPath
    by true never = absurd (never refl)
    by false never = refl

-- a part of the path as the code sees it
pub part-is : (place : ℕ) (part : List ℕ) (seen items : List (Bor (List ℕ))) (path target : List ℕ)
    → part ≡ get_or (map (λ one. one.now) seen) place [] → seen ≡ items → map (λ one. one.now) items
    ≡ parts_of path → path ≡ path_in target → part ≡ get_or (parts_of (path_in target)) place []
part-is place part seen items path target at same parts cut =
    at
    ∙ ap (λ xs. get_or (map (λ one. one.now) xs) place []) same
    ∙ ap (λ xs. get_or xs place []) (parts ∙ ap parts_of cut)

-- and the route
pub route-is : (found other : Option Route) (seen items : List (Bor (List ℕ))) (path target :
    List ℕ) → (map (λ one. one.now) seen ≡ parts_of path → found ≡ route_of path) → seen ≡ items
    → map (λ one. one.now) items ≡ parts_of path → path ≡ path_in target → found ≡ other
    → route_of (path_in target) ≡ other
route-is found other seen items path target finds same parts cut is =
    let at : found ≡ route_of path = finds (ap (map (λ one. one.now)) same ∙ parts) in
    ap route_of (sym cut) ∙ sym at ∙ is

module _ (method target body : List ℕ) where
  pub asked-no_route : route_of (path_in target) ≡ None → requested_command method target body
      ≡ Err NoRoute
  unfolding requested_command
  asked-no_route none = rw none refl

  pub asked-no_method : (route : Route) → route_of (path_in target) ≡ Some route
      → action_of route method ≡ None → requested_command method target body ≡ Err (BadMethod route)
  unfolding requested_command
  asked-no_method route is none = rw (is, none) refl

  -- what is left once the route has the method
  abbrev pub with_texts : Action → Result Command RouteFault
  with_texts action =
      decode_part (book_part (path_in target))
      >>= (λ book. decode_part (uid_part (path_in target)) >>= (λ uid. command_with action book uid
      body (query_in target)))

  asked-is : (route : Route) (action : Action) → route_of (path_in target) ≡ Some route
      → action_of route method ≡ Some action → requested_command method target body
      ≡ with_texts action
  unfolding requested_command
  asked-is route action is wanted = rw (is, wanted) refl

  pub asked-goes : (route : Route) (action : Action) (result : Result Command NoCommand)
      → route_of (path_in target) ≡ Some route → action_of route method ≡ Some action
      → MatchesExpected (with_texts action) result
      → MatchesExpected (requested_command method target body) result
  asked-goes route action result is wanted given =
      subst (λ all. MatchesExpected all result) (sym (asked-is route action is wanted)) given

  -- the book's part is no text
  pub book_failed : (action : Action) (part : List ℕ) (e : NoCommand) (result :
      Result Command NoCommand) → part ≡ book_part (path_in target)
      → MatchesExpected (decode_part part) (Err e) → result ≡ Err e
      → MatchesExpected (with_texts action) result
  book_failed action part e result at given same =
      failed (decode_part (book_part (path_in target)))
      (λ book. decode_part (uid_part (path_in target)) >>= (λ uid. command_with action book uid
      body (query_in target))) e result
      (subst (λ p. MatchesExpected (decode_part p) (Err e)) at given)
      same

  -- the card's part is none
  pub uid_failed : (action : Action) (first part book : List ℕ) (e : NoCommand) (result :
      Result Command NoCommand) → first ≡ book_part (path_in target) → decode_part first ≡ Ok book
      → part ≡ uid_part (path_in target) → MatchesExpected (decode_part part) (Err e)
      → result ≡ Err e → MatchesExpected (with_texts action) result
  uid_failed action first part book e result at read at_uid given same =
      went_on (decode_part (book_part (path_in target)))
      (λ one. decode_part (uid_part (path_in target)) >>= (λ uid. command_with action one uid
      body (query_in target))) book result
      (ap decode_part (sym at) ∙ read)
      (failed (decode_part (uid_part (path_in target))) (λ uid. command_with action book uid body
      (query_in target)) e result (subst (λ p. MatchesExpected (decode_part p) (Err e)) at_uid
      given) same)

  -- both are texts, and the query was read
  pub texts_read : (action : Action) (first part book uid query : List ℕ) (result :
      Result Command NoCommand) → first ≡ book_part (path_in target) → decode_part first ≡ Ok book
      → part ≡ uid_part (path_in target) → decode_part part ≡ Ok uid → query ≡ query_in target
      → MatchesExpected (command_with action book uid body query) result
      → MatchesExpected (with_texts action) result
  texts_read action first part book uid query result at read at_uid read_uid at_query given =
      went_on (decode_part (book_part (path_in target)))
      (λ one. decode_part (uid_part (path_in target)) >>= (λ other. command_with action one
      other body (query_in target))) book result
      (ap decode_part (sym at) ∙ read)
      (went_on (decode_part (uid_part (path_in target))) (λ other. command_with action book other
      body (query_in target)) uid result
      (ap decode_part (sym at_uid) ∙ read_uid)
      (subst (λ q. MatchesExpected (command_with action book uid body q) result) at_query given))
