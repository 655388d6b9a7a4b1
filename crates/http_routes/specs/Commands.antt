-- The command of a complete request, or its first fault in the order of the numbers.
use Rattle.std.specs.Prelude.{ℕ, Bool, ◌+◌, ◌==◌, List, Option, Some, None, Result, Ok, Err, codes}
use Rattle.std.specs.Prelude.{drop, take, if◌then◌else◌}
use Rattle.std.specs.List.{position_or_len}
use Rattle.std.specs.Str.{is_utf8}
use Rattle.percent_encoding.specs.Percent.{percent_decode}
use Rattle.book_commands.specs.declared.command.Command.{Command}
use Rattle.book_commands.specs.declared.command.Command.TheVariants as command
use Rattle.http_routes.specs.Actions.{action_of}
use Rattle.http_routes.specs.Paths.{route_of, book_part, uid_part}
use Rattle.http_routes.specs.Queries.{Pair, pairs_of, has_valid_names, query_value, value_or_empty}
use Rattle.http_routes.specs.Queries.{parse_number, optional_number, export_form}
use Rattle.http_routes.specs.declared.action.Action.{Action}
use Rattle.http_routes.specs.declared.action.Action.TheVariants as action
use Rattle.http_routes.specs.declared.fault.RouteFault.{RouteFault}
use Rattle.http_routes.specs.declared.fault.RouteFault.TheVariants.{NoRoute, BadMethod, BadPath}
use Rattle.http_routes.specs.declared.fault.RouteFault.TheVariants.{BadQuery}

infixl 10 ◌>>=◌
abbrev pub ◌>>=◌
    : {A B : Type 0} → Result A RouteFault → (A → Result B RouteFault) → Result B RouteFault
(Ok x) >>= f = f x
(Err fault) >>= f = Err fault

abbrev pub some_or_fault : {A : Type 0} → Option A → RouteFault → Result A RouteFault
some_or_fault None fault = Err fault
some_or_fault (Some x) fault = Ok x

abbrev pub check_or_fault : Bool → RouteFault → Result (Unit {0}) RouteFault
check_or_fault holds fault = if holds then Ok tt else Err fault

-- ---- a target

abbrev pub question_mark : ℕ
question_mark = 63

-- the number of octets before the first question mark, or of all octets
abbrev pub path_len : List ℕ → ℕ
path_len target = position_or_len (λ octet. octet == question_mark) target

abbrev pub path_in : List ℕ → List ℕ
path_in target = take (path_len target) target

-- the octets after it, or none
abbrev pub query_in : List ℕ → List ℕ
query_in target = drop (path_len target + 1) target

-- the percent-decoded text of a part of a path (RFC 3986, section 2.1)
abbrev pub decode_part : List ℕ → Result (List ℕ) RouteFault
decode_part part =
    if is_utf8 (percent_decode part) then Ok (percent_decode part) else Err BadPath

-- ---- the command

-- the command of an action, given the texts of the path, the body, and a checked query
abbrev pub command_of : Action → List ℕ → List ℕ → List ℕ → List Pair → Result Command RouteFault
command_of action.CreateBook book uid body pairs = Ok (command.CreateBook book)
command_of action.Books book uid body pairs = Ok command.Books
command_of action.Get book uid body pairs = Ok (command.Get book uid)
command_of action.Put book uid body pairs = do
  version ← optional_number (query_value (codes "version") pairs)
  Ok (command.Put book uid version body)
command_of action.Remove book uid body pairs = do
  version ← optional_number (query_value (codes "version") pairs)
  Ok (command.Remove book uid version)
command_of action.MoveCard book uid body pairs = do
  version ← optional_number (query_value (codes "version") pairs)
  Ok (command.MoveCard book uid (value_or_empty (codes "to") pairs) version)
command_of action.Report book uid body pairs = do
  limit ← optional_number (query_value (codes "limit") pairs)
  Ok (command.Report book (value_or_empty (codes "token") pairs) limit)
command_of action.Import book uid body pairs =
    Ok (command.Import book (value_or_empty (codes "key") pairs) body)
command_of action.Forget book uid body pairs = do
  upto ← parse_number (value_or_empty (codes "upto") pairs)
  Ok (command.Forget book upto)
command_of action.TallyOf book uid body pairs = Ok (command.TallyOf book)
command_of action.Export book uid body pairs = do
  form ← export_form (query_value (codes "form") pairs)
  Ok (command.Export book form)
command_of action.People book uid body pairs = Ok (command.People book uid)

-- the same with a query whose names are to be checked
abbrev pub command_with : Action → List ℕ → List ℕ → List ℕ → List ℕ → Result Command RouteFault
command_with action book uid body query = do
  named ← check_or_fault (has_valid_names action (pairs_of query)) BadQuery
  command_of action book uid body (pairs_of query)

-- the command of a request with this method, target and body
unfoldable pub requested_command : List ℕ → List ℕ → List ℕ → Result Command RouteFault
requested_command method target body = do
  route ← some_or_fault (route_of (path_in target)) NoRoute
  wanted ← some_or_fault (action_of route method) (BadMethod route)
  book ← decode_part (book_part (path_in target))
  uid ← decode_part (uid_part (path_in target))
  command_with wanted book uid body (query_in target)
