-- The number of a change that is made is below the limit of changes.
use Rattle.std.proofs.Common.{◌≡◌, ◌<◌, ℕ, Bool, true, false, List, Option, Some, None, Result, Ok}
use Rattle.std.proofs.Common.{Err, IsSome, refl, sym, subst, ◌∙◌, arith}
use Rattle.std.specs.Prelude.{nat_lt}
use Rattle.vcard_lines.specs.declared.line.Line.{Line}
use Rattle.book_model.specs.declared.answers.PutAnswer.{PutAnswer}
use Rattle.book_model.specs.declared.answers.PutAnswer.TheVariants.{Created, Edited, Unchanged}
use Rattle.book_model.specs.declared.answers.Stored.{Stored}
use Rattle.book_model.specs.declared.refusal.Refusal.{Refusal}
use Rattle.book_model.specs.declared.refusal.Refusal.TheVariants.{BookFull, VersionMismatch}
use Rattle.book_model.specs.Bounds.{Bounds}
use Rattle.book_model.specs.CallOutcomes.{◌>>=◌, refuse_unless}
use Rattle.book_model.specs.Putting.{FoundMember, answer_over_live, is_expected, next_number}
use Rattle.book_model.specs.Putting.{put_answer, put_store_reason, version_of}
use Rattle.book_model.specs.SameCards.{same_card}

-- a step that returned a value returned one in each of its parts
pub through : {A B : Type 0} (r : Result A Refusal) (f : A → Result B Refusal) (b : B)
    → (r >>= f) ≡ Ok b → (a : A) × (r ≡ Ok a) × (f a ≡ Ok b)
through (Ok a) f b is = (a, refl, is)
through (Err refusal) f b is = absurd (let e = is in cc)

-- a test that did not refuse
pub passed : {A : Type 0} (b : Bool) (refusal : Refusal) (rest : Result A Refusal) (a : A)
    → (refuse_unless b refusal >>= λ _. rest) ≡ Ok a → (b ≡ true) × (rest ≡ Ok a)
passed true refusal rest a is = (refl, is)
passed false refusal rest a is = absurd (let e = is in cc)

pub next_room : (limits : Bounds) (number next : ℕ) → next_number limits number ≡ Ok next
    → number < limits.changes_max
next_room limits number next is = go (nat_lt number limits.changes_max) refl
  where
    go : (b : Bool) → nat_lt number limits.changes_max ≡ b → number < limits.changes_max
    go true e = grind arith
    go false e = absurd (let bad = rw e at is in cc)

pub put_room : (limits : Bounds) (found : FoundMember) (card : List Line) (expect : Option ℕ)
    (answer : PutAnswer) → put_answer limits found card expect ≡ Ok answer
    → IsSome (put_store_reason answer) → found.number < limits.changes_max
put_room limits found card expect answer is some =
    over found.live (passed (is_expected expect (version_of found.live))
    (VersionMismatch (version_of found.live)) (answer_over_live limits found card found.live) answer
    is).1
  where
    stored : (r : Result ℕ Refusal) (f : ℕ → Result PutAnswer Refusal)
        → r ≡ next_number limits found.number → (r >>= f) ≡ Ok answer
        → found.number < limits.changes_max
    stored r f same h = let next = through r f answer h in
        next_room limits found.number next.0 (sym same ∙ next.1)

    kept : (version : ℕ) → ◌≡◌ {A = Result PutAnswer Refusal} (Ok (Unchanged version)) (Ok answer)
        → found.number < limits.changes_max
    kept version h = let same : Unchanged version ≡ answer = cc in
        absurd (let none = subst (λ a. IsSome (put_store_reason a)) (sym same) some in cc)

    over : (live : Option Stored) → answer_over_live limits found card live ≡ Ok answer
        → found.number < limits.changes_max
    over None h = stored (next_number limits found.number) (λ version. Ok (Created version)) refl
        (passed (nat_lt found.cards limits.cards_max) BookFull (next_number limits found.number >>=
        λ version. Ok (Created version)) answer h).1
    over (Some live) h = go (same_card live.card card) refl
      where
        go : (b : Bool) → same_card live.card card ≡ b → found.number < limits.changes_max
        go true e = kept live.version (rw e at h)
        go false e = stored (next_number limits found.number) (λ version. Ok (Edited version)) refl
            (rw e at h)
