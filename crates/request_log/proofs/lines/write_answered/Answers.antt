use Rattle.std.proofs.Common.{◌∙◌, List, ℕ, [], ◌∷◌, ◌++◌, ap}
use Rattle.std.proofs.lemmas.List.{append_assoc}
use Rattle.request_log.specs.LogLines.{change_words, reply_words, request_words, time_words}
use Rattle.request_log.specs.LogLines.{user_words}
use Rattle.request_log.proofs.lines.write_answered.Goals as goal

pub returns : goal.returns
returns c =
    let method = c.args.head.now.method in
    let reply = c.args.reply.now in
    let rest : List ℕ = reply_words reply ++ (time_words c.args.micros
    ++ (user_words c.args.user.now ++ (change_words method reply ++ 10 ∷ []))) in
    c.in_ok-write_outcome.ensures ∙ ap (λ (t : List ℕ). t ++ rest) c.in_ok-write_request.ensures
    ∙ append_assoc c.args.out.now.items (request_words method c.args.head.now.target) rest
