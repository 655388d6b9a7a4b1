use Rattle.std.proofs.Common.{rules, ◌≡◌, subst, sym}
use Rattle.request_log.specs.LogLines.{IsLogLine, lost_line}
use Rattle.request_log.proofs.LineLemmas.{lost_is}
use Rattle.request_log.proofs.lines.lost_text.Goals as goal

pub returns-clause-one_line : goal.returns-clause-one_line
returns-clause-one_line c =
    let line_is : c.write_lost.new.out.items ≡ lost_line c.args.head.now.method
    c.args.head.now.target = search (rules) in
    subst IsLogLine (sym line_is) (lost_is c.args.head.now.method c.args.head.now.target)
