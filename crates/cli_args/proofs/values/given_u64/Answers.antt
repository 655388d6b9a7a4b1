use Rattle.std.proofs.Common.{◌∙◌, ◌^◌, ◌-◌, arith, ap, refl, sym}
use Rattle.std.specs.Prelude.{option_and_then}
use Rattle.std.specs.Str.Parse.{ParsesUnsigned, ExplainsUnsignedError, HasUnsignedDigitsIfOk}
use Rattle.clap.specs.Words.{found_of}
use Rattle.clap.proofs.WalkLemmas.{one_text-rows}
use Rattle.cli_args.specs.ParsedOrders.{number_upto}
use Rattle.cli_args.proofs.ValueLemmas.{one-read}
use Rattle.cli_args.proofs.values.given_u64.Goals as goal

pub returns : goal.returns
returns c =
    sym (ap (option_and_then (number_upto (2 ^ 64 - 1)))
    (sym (one_text-rows (found_of c.args.matches.now) c.args.id.now))
    ∙ one-read _ 64 (2 ^ 64 - 1) (omega arith) refl (omega arith)
    (λ bs r. ParsesUnsigned 64 10 bs r × ExplainsUnsignedError 10 bs r × HasUnsignedDigitsIfOk bs r)
    (λ text r gives. gives.0) _ c.get_one.result c.get_one.ensures.none c.get_one.ensures.value)
