-- What is said on a terminal before the program waits for input.
use Rattle.std.specs.Prelude.{ℕ, Bool, true, List, [], ◌∷◌, ◌++◌, codes, Result, Ok}
use Rattle.base_types.specs.Octets.{line_feed}
use Rattle.cli_args.specs.declared.fault.LineFault.{LineFault}
use Rattle.cli_args.specs.declared.order.Order.{Order}
use Rattle.cli_args.specs.declared.order.Order.TheVariants.{Try}

-- the line for a user at a terminal
abbrev pub waiting_line : List ℕ
waiting_line =
    codes "waiting for a vCard on standard input; Ctrl-D ends it, contacts --help lists commands"
    ++ line_feed ∷ []

-- what is said: only `try` reads standard input, and only a terminal has a user
abbrev pub waiting_text : Bool → Result Order LineFault → List ℕ
waiting_text true (Ok Try) = waiting_line
waiting_text is_terminal order = []
