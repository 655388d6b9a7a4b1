-- The values of matched numbers.
use Rattle.std.proofs.Common.{◌≡◌, ◌<◌, ◌≤◌, ◌^◌, ◌-◌, ℕ, Bool, true, false, Option, Some, None}
use Rattle.std.proofs.Common.{Result, Ok, Err, arith, refl, sym}
use Rattle.std.specs.Prelude.{option_and_then}
use Rattle.std.specs.Str.Parse.{IsNumeral, ParsesUnsigned, digits_value, without_leading_plus}
use Rattle.clap.specs.Matches.{ReadsOne}
use Rattle.clap.specs.ValueTests.{is_unsigned_in}
use Rattle.clap.specs.Walk.{Text}
use Rattle.clap.specs.declared.builder.value_parser.ValueParser.TheVariants.{Unsigned}
use Rattle.clap.proofs.ValueTestLemmas.{Accepts-accepts, accepts-Accepts}
use Rattle.cli_args.specs.ParsedOrders.{number_upto}

number-ok : (most : ℕ) (text : Text) (n : ℕ) → most < 2 ^ 64
    → IsNumeral 10 (without_leading_plus text)
    → digits_value 10 (without_leading_plus text) ≤ most
    → n ≡ digits_value 10 (without_leading_plus text)
    → number_upto most text ≡ Some n
number-ok most text n wide numeral small is =
    let accepted : is_unsigned_in 0 most text ≡ true =
    Accepts-accepts false (Unsigned 0 most) text (numeral, omega arith, omega arith, small) in
    rw (accepted, is) refl

number-none : (most : ℕ) (text : Text)
    → ((IsNumeral 10 (without_leading_plus text)
    × (digits_value 10 (without_leading_plus text) ≤ most)) → ⊥)
    → number_upto most text ≡ None
number-none most text never = go (is_unsigned_in 0 most text) refl
  where
    go : (b : Bool) → is_unsigned_in 0 most text ≡ b → number_upto most text ≡ None
    go true e =
        let accepted = accepts-Accepts false (Unsigned 0 most) text e in
        absurd (never (accepted.0, accepted.3))
    go false e = rw e refl

number-parsed : (E : Type 0) (k most : ℕ) (text : Text) → most < 2 ^ 64 → most ≡ 2 ^ k - 1
    → 0 < 2 ^ k → (n : ℕ) → ParsesUnsigned {E = E} k 10 text (Ok n)
    → number_upto most text ≡ Some n
number-parsed E k most text wide is some n parses =
    number-ok most text n wide parses.0.0 (omega (arith, parses.0.1, is, some)) parses.1

number-unparsed : (E : Type 0) (k most : ℕ) (text : Text) → most ≡ 2 ^ k - 1 → 0 < 2 ^ k → (e : E)
    → ParsesUnsigned {E = E} k 10 text (Err e)
    → number_upto most text ≡ None
number-unparsed E k most text is some e parses =
    number-none most text (λ both. parses (both.0, omega (arith, both.1, is, some)))

pub one-read : (E : Type 0) (k most : ℕ) → most < 2 ^ 64 → most ≡ 2 ^ k - 1 → 0 < 2 ^ k
    → (gives : Text → Result ℕ E → Type 0) → ((text : Text) (r : Result ℕ E) → gives text r
    → ParsesUnsigned k 10 text r)
    → (o : Option Text) (result : Option ℕ) → (o ≡ None → result ≡ None)
    → ((text : Text) → o ≡ Some text → ReadsOne gives text result)
    → option_and_then (number_upto most) o ≡ result
one-read E k most wide is some gives parses None result none value = sym (none refl)
one-read E k most wide is some gives parses (Some text) (Some n) none value =
    number-parsed E k most text wide is some n (parses text (Ok n) (value text refl))
one-read E k most wide is some gives parses (Some text) None none value =
    let read = value text refl in
    number-unparsed E k most text is some read.0 (parses text (Err read.0) read.1)
