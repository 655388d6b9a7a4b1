-- Values read from a book, against the result of a call.
use Rattle.std.proofs.Common.{◌≡◌, Bool, true, Result, Ok, Err, Option, Some, None, IfOk, IfErr}
use Rattle.std.proofs.Common.{refl, sym, subst}
use Rattle.book_model.specs.declared.answers.Stored.{Stored}
use Rattle.book_model.specs.declared.denied.Denied.{Denied}
use Rattle.book_model.specs.declared.denied.Denied.TheVariants.{Refused}
use Rattle.book_model.specs.declared.refusal.Refusal.{Refusal}
use Rattle.book_model.specs.declared.refusal.Refusal.TheVariants.{NoSuchCard}
use Rattle.book_model.specs.Books.{live_or_no_such_card}
use Rattle.book_model.specs.CallOutcomes.{◌>>=◌, refuse_unless}
use Rattle.store_lookups.specs.CallResults.{FollowsStep, IsExactly}
use Rattle.store_lookups.specs.Faults.{IsDeniedFault}

-- a fault is allowed in place of any result
pub fault_returned : {T A : Type 0} (allows : T → A → Type 0) (denied : Denied) (due :
    Result T Refusal) → IsDeniedFault denied → FollowsStep {T = T} {A = A} allows (Err denied) due
fault_returned {T = T} {A = A} allows denied due h =
    subst (λ d. FollowsStep {T = T} {A = A} allows (Err d) due) (sym h.1) tt

-- the live card is returned
pub live_returned : (stored : Stored) (live : Option Stored) → live ≡ Some stored
    → FollowsStep IsExactly (Ok stored) (live_or_no_such_card live)
live_returned stored live is = subst (λ l. FollowsStep IsExactly (Ok stored)
    (live_or_no_such_card l)) (sym is) refl

pub none_live : (live : Option Stored) → live ≡ None
    → FollowsStep {T = Stored} {A = Stored} IsExactly (Err (Refused NoSuchCard))
    (live_or_no_such_card live)
none_live live is = subst (λ l. FollowsStep {T = Stored} {A = Stored} IsExactly
    (Err (Refused NoSuchCard)) (live_or_no_such_card l)) (sym is) refl

-- a test that passes, and the result of the rest
pub test_passes : {T A : Type 0} (allows : T → A → Type 0) (holds : Bool) (refusal : Refusal) (f :
    Unit {0} → Result T Refusal) (r : Result A Denied) → holds ≡ true → FollowsStep allows r (f tt)
    → FollowsStep allows r (refuse_unless holds refusal >>= f)
test_passes allows holds refusal f r is wanted =
    subst (λ h. FollowsStep allows r (refuse_unless h refusal >>= f)) (sym is) wanted

-- the value that was read is returned
pub found_returned : {A : Type 0} (value : A) (r : Result A Denied) → IfOk r (λ a. value ≡ a)
    → IfErr r IsDeniedFault → FollowsStep IsExactly r (Ok value)
found_returned value (Ok a) ok fault = sym ok
found_returned value (Err denied) ok fault = fault_returned IsExactly denied (Ok value) fault

-- two steps that succeed, and the result of the rest
pub both_pass : {T A B C : Type 0} (allows : T → A → Type 0) (first : Result B Refusal) (b : B)
    (second : Result C Refusal) (d : C) (f : B → C → Result T Refusal) (r : Result A Denied)
    → first ≡ Ok b → second ≡ Ok d → FollowsStep allows r (f b d)
    → FollowsStep allows r (first >>= (λ x. second >>= (λ y. f x y)))
both_pass allows first b second d f r one two wanted =
    subst (λ x. FollowsStep allows r (x >>= (λ x. second >>= (λ y. f x y)))) (sym one)
    (subst (λ y. FollowsStep allows r (y >>= (λ y. f b y))) (sym two) wanted)
