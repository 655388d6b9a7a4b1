use Rattle.std.proofs.Common.{◌≡◌, ◌-◌, length, take, ap, sym, ◌∙◌, rules}
use Rattle.import_text.specs.internal.Heads.{head_of}
use Rattle.import_text.proofs.HeadLemmas.{head_front, soft_end}
use Rattle.import_text.proofs.lines.LineSoFar.drop_soft_break.Goals as goal

pub returns-clause-head : goal.returns-clause-head
returns-clause-head c =
    let line = c.args.self.now.octets.items in
    let rest : c.pop.new.self.items ≡ take (length line - 1) line = search rules in
    c.requires.head ∙ sym (head_front line (soft_end line c.requires.soft)) ∙ ap head_of (sym rest)
