use Rattle.std.proofs.Common.{◌≡◌, ◌++◌, ◌-◌, drop, length, ap, sym, ◌∙◌, rules}
use Rattle.std.proofs.lemmas.List.{take_rest}
use Rattle.import_text.specs.internal.Heads.{head_of, searched}
use Rattle.import_text.proofs.HeadLemmas.{searched_more}
use Rattle.import_text.proofs.lines.LineSoFar.append.Goals as goal

pub returns-clause-head : goal.returns-clause-head
returns-clause-head c =
    let grown : c.extend_from_slice.new.self.items ≡ c.args.self.now.octets.items
    ++ c.args.octets.now = c.in_ok-extend_from_slice.ensures.items in
    let from : c.saturating_sub-from.result ≡ length c.args.self.now.octets.items - 15 =
    search rules in
    let read : c.as_slice.result.now ≡ c.extend_from_slice.new.self.items =
    c.as_slice.ensures.value in
    c.searched-self.ensures
    ∙ ap (searched c.args.self.now.head) (take_rest c.as_slice.result.now
    c.saturating_sub-from.result)
    ∙ ap (λ os. searched c.args.self.now.head (drop c.saturating_sub-from.result os)) (read ∙ grown)
    ∙ ap (λ h. searched h (drop c.saturating_sub-from.result (c.args.self.now.octets.items
    ++ c.args.octets.now))) c.requires
    ∙ searched_more c.args.self.now.octets.items c.args.octets.now c.saturating_sub-from.result from
    ∙ ap head_of (sym grown)
