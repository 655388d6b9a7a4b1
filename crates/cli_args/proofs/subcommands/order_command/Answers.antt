use Rattle.std.proofs.Common.{[], ◌∙◌, ap}
use Rattle.clap.specs.Simple.{app_of_fields}
use Rattle.clap.specs.declared.builder.command.Command.{Command}
use Rattle.clap.specs.declared.builder.command.Command.TheOpen.{Command-F}
use Rattle.std.proofs.lemmas.Result.{IfOk-weaker}
use Rattle.cli_args.proofs.SubcommandLemmas.{words-added}
use Rattle.cli_args.proofs.subcommands.order_command.Goals as goal

pub returns : goal.returns
returns c = λ rules are. IfOk-weaker c.args-2.result _ _ (λ made adds.
    words-added c.args.name.now [] rules c.after_help.result c.args.words.items made (
      ap app_of_fields c.after_help.ensures ∙ ap app_of_fields c.about.ensures ∙ c.new.ensures.app,
      ap (λ (f : Command-F Command). f.has_globals) c.after_help.ensures
          ∙ ap (λ (f : Command-F Command). f.has_globals) c.about.ensures ∙ c.new.ensures.local,
    ) are adds) c.args-2.ensures
