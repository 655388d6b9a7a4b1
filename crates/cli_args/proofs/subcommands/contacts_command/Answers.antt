use Rattle.std.proofs.Common.{◌∙◌, ap, ap₂, codes, true}
use Rattle.clap.specs.Simple.{App, Shape, app_of_fields, new_app, on_top, with_rule}
use Rattle.std.proofs.lemmas.Result.{IfOk-weaker}
use Rattle.cli_args.specs.Subcommands.{order_commands, version_flag}
use Rattle.cli_args.proofs.SubcommandLemmas.{lines-added}
use Rattle.cli_args.proofs.subcommands.contacts_command.Goals as goal

-- the program's name isn't among the arguments
abbrev bare : App → App
bare a = on_top (λ (s : Shape). record s { no_binary_name = true }) a

pub returns : goal.returns
returns c =
    let named = ap app_of_fields c.in_ok-bin_name.ensures.0
    ∙ ap app_of_fields c.no_binary_name.ensures ∙ ap bare
    (ap app_of_fields c.after_help.ensures ∙ ap app_of_fields c.about.ensures
    ∙ c.new.ensures.app) in
    let top = c.in_ok-arg.ensures.shape c.version_flag.ensures.1
    ∙ ap₂ with_rule named c.version_flag.ensures.0 in
    IfOk-weaker c.subcommands.result _ _ (λ made adds.
    lines-added (with_rule (bare (new_app (codes "contacts"))) version_flag) order_commands
    c.in_ok-arg.field-0 c.in_ok-order_commands.field-0.items made top
    c.in_ok-order_commands.ensures adds) c.subcommands.ensures
