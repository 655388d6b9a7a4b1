-- What an accepted move found.
use Rattle.std.proofs.Common.{◌≡◌, ℕ, Bool, true, false, not, List, Option, Some, None, Result, Ok}
use Rattle.std.proofs.Common.{Err, is_some, refl, sym, ap}
use Rattle.vcard_lines.specs.declared.line.Line.{Line}
use Rattle.book_model.specs.declared.answers.Moved.{Moved}
use Rattle.book_model.specs.declared.answers.Stored.{Stored}
use Rattle.book_model.specs.declared.refusal.Refusal.{Refusal}
use Rattle.book_model.specs.declared.refusal.Refusal.TheVariants.{NoSuchCard, VersionMismatch}
use Rattle.book_model.specs.declared.refusal.Refusal.TheVariants.{UidTaken}
use Rattle.book_model.specs.Bounds.{Bounds}
use Rattle.book_model.specs.Moving.{Moving, move_numbers, move_answer}
use Rattle.book_model.specs.CallOutcomes.{◌>>=◌, refuse_unless}
use Rattle.book_model.specs.Putting.{FoundMember, is_expected}
use Rattle.book_model.specs.Books.{live_or_no_such_card}

pub same_answer : {A : Type 0} (x y : A) → ◌≡◌ {A = Result A Refusal} (Ok x) (Ok y) → x ≡ y
same_answer x y e = cc

pub no_answer : {A : Type 0} (refusal : Refusal) (x : A)
    → ◌≡◌ {A = Result A Refusal} (Err refusal) (Ok x) → ⊥
no_answer refusal x e = cc

pub live_first : {A : Type 0} (live : Option Stored) (rest : Stored → Result A Refusal) (x : A)
    → (live_or_no_such_card live >>= rest) ≡ Ok x → (stored : Stored) × (live ≡ Some stored)
    × (rest stored ≡ Ok x)
live_first (Some stored) rest x e = (stored, refl, e)
live_first None rest x e = absurd (no_answer NoSuchCard x e)

-- what an accepted move found
pub record FoundToMove (source target : FoundMember) (moving : Moving) : Type 0 where
  pub stored : Stored
  pub live : source.live ≡ Some stored
  pub free : target.live ≡ None
  pub card : moving.card ≡ stored.card

abbrev with_card : List Line → Moved → Moving
with_card card numbers = record { card = card; numbers = numbers }

-- after the test of the version
pub expected_first : (expected : Bool) (has : ℕ) (card : List Line) (numbers : Result Moved Refusal)
    (moving : Moving)
    → (refuse_unless expected (VersionMismatch has) >>= λ _. numbers >>= λ n. Ok
    (record { card = card; numbers = n })) ≡ Ok moving
    → (numbers ≡ Ok moving.numbers) × (moving.card ≡ card)
expected_first true has card (Ok n) moving e = let is = same_answer (with_card card n) moving e in
    (ap (λ (x : Moving). Ok x.numbers) is, ap (λ (x : Moving). x.card) (sym is))
expected_first true has card (Err refusal) moving e = absurd (no_answer refusal moving e)
expected_first false has card numbers moving e = absurd (no_answer (VersionMismatch has) moving e)

pub free_first : (target : Option Stored) (rest : Result Moving Refusal) (moving : Moving)
    → (refuse_unless (not (is_some target)) UidTaken >>= λ _. rest) ≡ Ok moving → (target ≡ None)
    × (rest ≡ Ok moving)
free_first None rest moving e = (refl, e)
free_first (Some stored) rest moving e = absurd (no_answer UidTaken moving e)

pub found_to_move : (limits : Bounds) (source target : FoundMember) (expect : Option ℕ) (moving :
    Moving) → move_answer limits source target expect ≡ Ok moving → FoundToMove source target moving
found_to_move limits source target expect moving e =
    let l = live_first source.live _ moving e in
    let f = free_first target.live _ moving l.2 in
    record {
      stored = l.0;
      live = l.1;
      free = f.0;
      card = (expected_first (is_expected expect l.0.version) l.0.version l.0.card
          (move_numbers limits target.cards source.number target.number) moving f.1).1;
    }
