use Rattle.std.proofs.Common.{◌∙◌, ◌^◌, ◌-◌, arith, ap, codes, refl, sym}
use Rattle.std.specs.Prelude.{option_and_then}
use Rattle.std.specs.Str.Parse.{ParsesUnsigned, ExplainsUnsignedError, HasUnsignedDigitsIfOk}
use Rattle.clap.specs.Words.{found_of}
use Rattle.clap.proofs.WalkLemmas.{one_text-rows}
use Rattle.cli_args.specs.ParsedOrders.{number_upto}
use Rattle.cli_args.proofs.ValueLemmas.{one-read}
use Rattle.cli_args.proofs.values.port_arg.Goals as goal

pub returns-in-Some : goal.returns-in-Some
returns-in-Some c =
    ap (option_and_then (number_upto (2 ^ 16 - 1)))
    (sym (one_text-rows (found_of c.args.matches.now) (codes "P")))
    ∙ one-read _ 16 (2 ^ 16 - 1) (omega arith) refl (omega arith)
    (λ bs r. ParsesUnsigned 16 10 bs r × ExplainsUnsignedError 10 bs r × HasUnsignedDigitsIfOk bs r)
    (λ text r gives. gives.0) _ c.get_one.result c.get_one.ensures.none c.get_one.ensures.value
    ∙ c.in-Some.is

pub returns-in-None : goal.returns-in-None
returns-in-None c =
    rw (ap (option_and_then (number_upto (2 ^ 16 - 1)))
    (sym (one_text-rows (found_of c.args.matches.now) (codes "P")))
    ∙ one-read _ 16 (2 ^ 16 - 1) (omega arith) refl (omega arith)
    (λ bs r. ParsesUnsigned 16 10 bs r × ExplainsUnsignedError 10 bs r × HasUnsignedDigitsIfOk bs r)
    (λ text r gives. gives.0) _ c.get_one.result c.get_one.ensures.none c.get_one.ensures.value
    ∙ c.in-None.is) c.refuse.ensures
