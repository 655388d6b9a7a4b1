use Rattle.std.proofs.Common.{◌∙◌, ap, map, string_bytes, subst, sym}
use Rattle.clap.specs.Words.{App, fault_of, is_simple, is_simple_and_free, matches_of}
use Rattle.clap.specs.Words.{subcommand_of}
use Rattle.clap.specs.Kinds.{HasKind}
use Rattle.cli_args.proofs.MatchLemmas.{fault-asked, simple_and_free_line, simple_line}
use Rattle.cli_args.proofs.parsing.matches_of.Goals as goal

pub returns-in-Ok-clause-ok : goal.returns-in-Ok-clause-ok
returns-in-Ok-clause-ok c =
    let words = map string_bytes c.args.words.now in
    let is = c.in_ok-line.ensures in
    let free = c.in-Ok.ensures.kinds (ap is_simple_and_free is ∙ simple_and_free_line) in
    let matched = c.in-Ok.ensures.matches (ap is_simple is ∙ simple_line) in (
      ap (λ (a : App). fault_of a words) (sym is) ∙ free,
      matched.0
          ∙ ap (λ (a : App). matches_of a words) is,
      matched.1
          ∙ ap (λ (a : App). subcommand_of a words) is,
    )

pub returns-in-Err-clause-err : goal.returns-in-Err-clause-err
returns-in-Err-clause-err c =
    let words = map string_bytes c.args.words.now in
    let is = c.in_ok-line.ensures in
    let has = c.in-Err.ensures.kinds (ap is_simple_and_free is ∙ simple_and_free_line) in
    let ours = subst (λ (a : App). HasKind (fault_of a words) c.in-Err.error) is has in
    fault-asked words c.in-Err.error c.fault_of.result ours c.fault_of.ensures
