use Rattle.std.proofs.Common.{rules, ◌≡◌, subst, sym}
use Rattle.request_log.specs.LogLines.{IsLogLine, answered_line}
use Rattle.request_log.proofs.LineLemmas.{answered_is}
use Rattle.request_log.proofs.lines.answered_text.Goals as goal

pub returns-clause-one_line : goal.returns-clause-one_line
returns-clause-one_line c =
    let line_is : c.write_answered.new.out.items ≡ answered_line c.args.head.now.method
    c.args.head.now.target c.args.user.now c.args.reply.now c.args.micros = search (rules) in
    subst IsLogLine (sym line_is) (answered_is c.args.head.now.method c.args.head.now.target
    c.args.user.now c.args.reply.now c.args.micros (search (rules)) (search (rules)))
