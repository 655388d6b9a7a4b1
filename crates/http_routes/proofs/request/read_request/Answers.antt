-- A request has the command that its definition says, or the first fault in the order of the tests.
-- Given here: at each return, why `requested_command` comes to the same: no route
-- (`asked-no_route`), no method (`asked-no_method`), or what follows both (`asked-goes`). The code
-- reads the parts of the path, the definition the whole target; `route-is` and `part-is` say that
-- they agree. If two tests change places, the answer of the return that now comes first breaks.
use Rattle.std.proofs.Common.{◌≡◌, ◌∙◌, None, Some, Err, rules, sym}
use Rattle.http_routes.proofs.OutcomeLemmas.{given-fault, given-value}
use Rattle.http_routes.proofs.RequestLemmas.{asked-goes, asked-no_method, asked-no_route}
use Rattle.http_routes.proofs.RequestLemmas.{book_failed, part-is, route-is, texts_read, uid_failed}
use Rattle.http_routes.specs.Commands.{requested_command, path_in}
use Rattle.http_routes.specs.internal.Results.{MatchesExpected}
use Rattle.http_routes.specs.Paths.{book_part, route_of, uid_part}
use Rattle.http_routes.proofs.request.read_request.Goals as goal

pub returns-in_default : goal.returns-in_default
returns-in_default c =
    let all = requested_command c.args.method.now c.args.target.now c.args.body.now in
    let none : route_of (path_in c.args.target.now) ≡ None =
    route-is c.route_of-found.result None c.deref.result.now c.in_ok-parts.parts.items
    c.split_target.result.0.now c.args.target.now c.route_of-found.ensures c.deref.ensures.value
    c.in_ok-parts.ensures c.split_target.ensures.path c.in_default.is in
    record {
      command = tt;
      fault = given-fault all _ (asked-no_route c.args.method.now c.args.target.now c.args.body.now
          none);
    }

pub returns-in_default-wanted : goal.returns-in_default-wanted
returns-in_default-wanted c =
    let all = requested_command c.args.method.now c.args.target.now c.args.body.now in
    let is : route_of (path_in c.args.target.now) ≡ Some c.in-Some.route =
    route-is c.route_of-found.result (Some c.in-Some.route) c.deref.result.now
    c.in_ok-parts.parts.items c.split_target.result.0.now c.args.target.now
    c.route_of-found.ensures c.deref.ensures.value c.in_ok-parts.ensures
    c.split_target.ensures.path c.in-Some.is in
    record {
      command = tt;
      fault = given-fault all _ (asked-no_method c.args.method.now c.args.target.now c.args.body.now
          c.in-Some.route is (sym c.action_of-wanted.ensures ∙ c.in_default-wanted.is));
    }

pub returns-in_err-book : goal.returns-in_err-book
returns-in_err-book c =
    let all = requested_command c.args.method.now c.args.target.now c.args.body.now in
    let is : route_of (path_in c.args.target.now) ≡ Some c.in-Some.route =
    route-is c.route_of-found.result (Some c.in-Some.route) c.deref.result.now
    c.in_ok-parts.parts.items c.split_target.result.0.now c.args.target.now
    c.route_of-found.ensures c.deref.ensures.value c.in_ok-parts.ensures
    c.split_target.ensures.path c.in-Some.is in
    let at : c.part_at.result.now ≡ book_part (path_in c.args.target.now) =
    part-is 2 c.part_at.result.now c.deref-2.result.now c.in_ok-parts.parts.items
    c.split_target.result.0.now c.args.target.now c.part_at.ensures c.deref-2.ensures.value
    c.in_ok-parts.ensures c.split_target.ensures.path in
    let same : c.from_residual-in_err-book.result ≡ Err c.in_err-book.field-0.0 = search rules in
    let given : MatchesExpected all c.from_residual-in_err-book.result =
    asked-goes c.args.method.now c.args.target.now c.args.body.now c.in-Some.route
    c.in-Some-wanted.action _ is (sym c.in-Some-wanted.ensures) (book_failed c.args.method.now
    c.args.target.now c.args.body.now c.in-Some-wanted.action c.part_at.result.now
    c.in_err-book.field-0.0 _ at c.in_err-book.ensures same) in
    record {
      command = given-value all _ given;
      fault = given-fault all _ given;
    }

pub returns-in_err-uid : goal.returns-in_err-uid
returns-in_err-uid c =
    let all = requested_command c.args.method.now c.args.target.now c.args.body.now in
    let is : route_of (path_in c.args.target.now) ≡ Some c.in-Some.route =
    route-is c.route_of-found.result (Some c.in-Some.route) c.deref.result.now
    c.in_ok-parts.parts.items c.split_target.result.0.now c.args.target.now
    c.route_of-found.ensures c.deref.ensures.value c.in_ok-parts.ensures
    c.split_target.ensures.path c.in-Some.is in
    let at : c.part_at.result.now ≡ book_part (path_in c.args.target.now) =
    part-is 2 c.part_at.result.now c.deref-2.result.now c.in_ok-parts.parts.items
    c.split_target.result.0.now c.args.target.now c.part_at.ensures c.deref-2.ensures.value
    c.in_ok-parts.ensures c.split_target.ensures.path in
    let at_uid : c.part_at-2.result.now ≡ uid_part (path_in c.args.target.now) =
    part-is 4 c.part_at-2.result.now c.deref-3.result.now c.in_ok-parts.parts.items
    c.split_target.result.0.now c.args.target.now c.part_at-2.ensures c.deref-3.ensures.value
    c.in_ok-parts.ensures c.split_target.ensures.path in
    let same : c.from_residual-in_err-uid.result ≡ Err c.in_err-uid.field-0.0 = search rules in
    let given : MatchesExpected all c.from_residual-in_err-uid.result =
    asked-goes c.args.method.now c.args.target.now c.args.body.now c.in-Some.route
    c.in-Some-wanted.action _ is (sym c.in-Some-wanted.ensures) (uid_failed c.args.method.now
    c.args.target.now c.args.body.now c.in-Some-wanted.action c.part_at.result.now
    c.part_at-2.result.now c.in_ok-book.book c.in_err-uid.field-0.0 _ at c.in_ok-book.ensures
    at_uid c.in_err-uid.ensures same) in
    record {
      command = given-value all _ given;
      fault = given-fault all _ given;
    }

pub returns : goal.returns
returns c =
    let all = requested_command c.args.method.now c.args.target.now c.args.body.now in
    let is : route_of (path_in c.args.target.now) ≡ Some c.in-Some.route =
    route-is c.route_of-found.result (Some c.in-Some.route) c.deref.result.now
    c.in_ok-parts.parts.items c.split_target.result.0.now c.args.target.now
    c.route_of-found.ensures c.deref.ensures.value c.in_ok-parts.ensures
    c.split_target.ensures.path c.in-Some.is in
    let at : c.part_at.result.now ≡ book_part (path_in c.args.target.now) =
    part-is 2 c.part_at.result.now c.deref-2.result.now c.in_ok-parts.parts.items
    c.split_target.result.0.now c.args.target.now c.part_at.ensures c.deref-2.ensures.value
    c.in_ok-parts.ensures c.split_target.ensures.path in
    let at_uid : c.part_at-2.result.now ≡ uid_part (path_in c.args.target.now) =
    part-is 4 c.part_at-2.result.now c.deref-3.result.now c.in_ok-parts.parts.items
    c.split_target.result.0.now c.args.target.now c.part_at-2.ensures c.deref-3.ensures.value
    c.in_ok-parts.ensures c.split_target.ensures.path in
    let given : MatchesExpected all c.command_with.result =
    asked-goes c.args.method.now c.args.target.now c.args.body.now c.in-Some.route
    c.in-Some-wanted.action _ is (sym c.in-Some-wanted.ensures) (texts_read c.args.method.now
    c.args.target.now c.args.body.now c.in-Some-wanted.action c.part_at.result.now
    c.part_at-2.result.now c.in_ok-book.book c.in_ok-uid.uid c.split_target.result.1.now _ at
    c.in_ok-book.ensures at_uid c.in_ok-uid.ensures c.split_target.ensures.query
    c.command_with.ensures) in
    record {
      command = given-value all _ given;
      fault = given-fault all _ given;
    }
