-- The code builds the specified command line.
use Rattle.std.proofs.Common.{◌≡◌, ◌∙◌, List, [], ◌∷◌, ◌++◌, ◌||◌, Bool, false, ap, ap₂, sym, subst}
use Rattle.std.proofs.lemmas.List.{append_assoc, append-nil}
use Rattle.clap.specs.Built.{AddsArg, AddsInTurn, AddsSubcommand}
use Rattle.clap.specs.Walk.{Rule, Text, rule_of}
use Rattle.clap.specs.Simple.{App, Shape, app_of, shape_of, with_rule, with_subcommand}
use Rattle.clap.specs.declared.builder.arg.Arg.{Arg}
use Rattle.clap.specs.declared.builder.command.Command.{Command}
use Rattle.cli_args.specs.Subcommands.{AreOrderCommands, AreArguments, IsOrderCommand}
use Rattle.cli_args.specs.Subcommands.{order_command}

-- one more argument
word-added : (name : Text) (rules : List Rule) (rule : Rule) (old : Command) (arg : Arg) (new :
    Command)
    → IsOrderCommand (order_command name rules) old → rule_of arg ≡ rule → arg.global ≡ false
    → AddsArg old arg new
    → IsOrderCommand (order_command name (rules ++ rule ∷ [])) new
word-added name rules rule old arg new was is own adds =
    (adds.shape own ∙ ap₂ with_rule was.0 is, adds.globals ∙ ap₂ (λ (a b : Bool). a || b) was.1 own)

pub words-added : (name : Text) (before rules : List Rule) (old : Command) (args : List Arg) (new :
    Command)
    → IsOrderCommand (order_command name before) old → AreArguments rules args
    → AddsInTurn AddsArg old args new
    → IsOrderCommand (order_command name (before ++ rules)) new
words-added name before [] old [] new was are adds =
    subst (λ (rules : List Rule). IsOrderCommand (order_command name rules) new)
    (sym (append-nil before))
    (subst (λ (c : Command). IsOrderCommand (order_command name before) c) adds was)
words-added name before [] old (arg ∷ args) new was are adds = absurd are
words-added name before (rule ∷ rules) old [] new was are adds = absurd are
words-added name before (rule ∷ rules) old (arg ∷ args) new was are adds =
    let next = word-added name before rule old arg adds.0 was are.0.0 are.0.1 adds.1 in
    subst (λ (r : List Rule). IsOrderCommand (order_command name r) new)
    (append_assoc before (rule ∷ []) rules)
    (words-added name (before ++ rule ∷ []) rules adds.0 args new next are.1 adds.2)

-- the list of orders
abbrev pub with_lines : App → List Shape → App
with_lines a [] = a
with_lines a (line ∷ lines) = with_lines (with_subcommand a line) lines

pub lines-added : (a : App) (lines : List Shape) (old : Command) (commands : List Command) (new :
    Command)
    → app_of old ≡ a → AreOrderCommands lines commands → AddsInTurn AddsSubcommand old commands new
    → app_of new ≡ with_lines a lines
lines-added a [] old [] new was are adds = sym (ap app_of adds) ∙ was
lines-added a [] old (command ∷ commands) new was are adds = absurd are
lines-added a (line ∷ lines) old [] new was are adds = absurd are
lines-added a (line ∷ lines) old (command ∷ commands) new was are adds =
    let is : shape_of command ≡ line = ap (λ (b : App). b.top) are.0.0 in
    let next : app_of adds.0 ≡ with_subcommand a line = adds.1.shape are.0.1
    ∙ ap₂ with_subcommand was is in
    lines-added (with_subcommand a line) lines adds.0 commands new next are.1 adds.2

-- one more order
pub one-more : (lines : List Shape) (line : Shape) (commands : List Command) (command : Command)
    → AreOrderCommands lines commands → IsOrderCommand line command
    → AreOrderCommands (lines ++ line ∷ []) (commands ++ command ∷ [])
one-more [] line [] command are is = (is, tt)
one-more [] line (other ∷ commands) command are is = absurd are
one-more (other ∷ lines) line [] command are is = absurd are
one-more (other ∷ lines) line (made ∷ commands) command are is =
    (are.0, one-more lines line commands command are.1 is)
