use Rattle.std.proofs.Common.{rules, ◌≡◌, subst, sym}
use Rattle.request_log.specs.LogLines.{IsLogLine, refused_line}
use Rattle.request_log.proofs.LineLemmas.{refused_is}
use Rattle.request_log.proofs.lines.refused_text.Goals as goal

pub returns-clause-one_line : goal.returns-clause-one_line
returns-clause-one_line c =
    let line_is : c.write_refused.new.out.items ≡ refused_line c.args.fault c.args.reply.now =
    search (rules) in
    subst IsLogLine (sym line_is) (refused_is c.args.fault c.args.reply.now (search (rules)))
