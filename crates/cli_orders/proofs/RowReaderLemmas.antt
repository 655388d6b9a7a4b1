-- A reader that has read rows of its text, and skips rows up to one of a number.
use Rattle.std.proofs.Common.{Bor, ◌≡◌, ◌∷◌, ◌++◌, [], ℕ, zero, suc, Bool, List}
use Rattle.std.proofs.Common.{Result, Ok, Err, IfOk, true, false, refl, sym, ap, subst, ◌∙◌}
use Rattle.std.proofs.Common.{arith, length, ◌<◌, ◌+◌, ◌-◌}
use Rattle.std.proofs.lemmas.List.{append_assoc, length-append}
use Rattle.csv.specs.Reading.{Reached, reader_state}
use Rattle.csv.specs.Reading.{default_config, strip_bom}
use Rattle.csv.specs.declared.parser.State.{State}
use Rattle.csv.specs.declared.parser.State.TheVariants as st
use Rattle.csv.specs.declared.reader.Reader.{Reader}
use Rattle.base_types.specs.declared.memory.NoMemory.{NoMemory}
use Rattle.cli_orders.specs.CardRows.{HasNoCardText, IsCardTextOfRow}
use Rattle.csv_cards.specs.Rows.{Row, AreRows, header, row_field}
use Rattle.csv_cards.specs.declared.form.Form.TheVariants as form
use Rattle.csv_cards.specs.internal.ReaderState.{HasReadRows}
use Rattle.cli_orders.specs.internal.RowReaders.{SkipsRows}
use Rattle.csv_cards.proofs.OneReadingLemmas.{some_read, starts}

-- ---- a number of rows

pub one_more_skipped : (a b : Reader (Bor (List ℕ))) (text : List ℕ) (rows : List Row) (row : Row)
    (count : ℕ) → (skips : SkipsRows a text rows count)
    → HasReadRows b text ((rows ++ skips.skipped) ++ row ∷ []) → SkipsRows b text rows (count + 1)
one_more_skipped a b text rows row count skips after = record {
  skipped = skips.skipped ++ row ∷ [];
  count_is = length-append skips.skipped (row ∷ []) ∙ ap (λ n. n + 1) skips.count_is;
  after = subst (HasReadRows b text) (append_assoc rows skips.skipped (row ∷ [])) after;
}

-- ---- fields

-- a row of two fields
pub two_fields : (row : Row) (a b : List ℕ) → length row ≡ 2 → row_field row 0 ≡ a
    → row_field row 1 ≡ b → row ≡ a ∷ b ∷ []
two_fields [] a b two first second = absurd (omega (arith, two))
two_fields (x ∷ []) a b two first second = absurd (omega (arith, two))
two_fields (x ∷ y ∷ []) a b two first second = ap (λ f. f ∷ y ∷ []) first
    ∙ ap (λ f. a ∷ f ∷ []) second
two_fields (x ∷ y ∷ z ∷ rest) a b two first second = absurd (omega (arith, two))

-- ---- a text has one row of a number

-- the first row is the same
first_same : (s : State) (text : List ℕ) (r q : Row) (rs qs : List Row) (s2 t2 : State) (y z :
    List ℕ) → Reached default_config s text (r ∷ rs) s2 y
    → Reached default_config s text (q ∷ qs) t2 z → r ≡ q
unfolding Reached
first_same s text r q rs qs s2 t2 y z one other =
    one.2 ∙ ap (λ p. p.0) (some_read one.0 other.0 (sym one.1 ∙ other.1)) ∙ sym other.2

-- rows before the last
long : (before : List Row) (row : Row) → length (before ++ row ∷ []) ≡ length before + 1
long before row = length-append before (row ∷ [])

-- a text without rows, or with fewer of them, has no such row
pub fewer_rows : (text : List ℕ) (first : Row) (number : ℕ) (others : List Row)
    → length others < number → AreRows text (first ∷ others) → HasNoCardText text number
fewer_rows text first number others fewer rows octets has =
    let begun = has.begin in
    let whole = starts st.StartRecord (strip_bom text)
    (header form.Cards ∷ (has.before ++ has.row ∷ [])) (first ∷ others) begun.state rows.0
    begun.rest rows.1 begun.reached rows.2 rows.3 in
    let count = ap length whole.1 ∙ length-append (header form.Cards ∷ (has.before ++ has.row ∷ []))
    whole.0 in
    absurd (omega (arith, count, fewer, has.place, long has.before has.row))

pub no_rows : (text : List ℕ) (number : ℕ) → AreRows text [] → HasNoCardText text number
unfolding Reached
no_rows text number rows octets has =
    let begun = has.begin in
    let whole = starts st.StartRecord (strip_bom text)
    (header form.Cards ∷ (has.before ++ has.row ∷ [])) [] begun.state rows.0 begun.rest rows.1
    begun.reached rows.2 rows.3 in
    absurd (omega (arith, ap length whole.1))

-- nor has one with another header
pub other_header : (a : Reader (Bor (List ℕ))) (text : List ℕ) (first : Row) (number : ℕ)
    → HasReadRows a text (first ∷ []) → (first ≡ header form.Cards → ⊥) → HasNoCardText text number
other_header a text first number after other octets has =
    other (first_same st.StartRecord (strip_bom text) first (header form.Cards) [] (has.before
    ++ has.row ∷ []) (reader_state a) has.begin.state after.rest has.begin.rest after.reached
    has.begin.reached)

-- ---- the row of the number

pub card_text : (a : Reader (Bor (List ℕ))) (text : List ℕ) (before : List Row) (row : Row)
    (number : ℕ) → HasReadRows a text ((header form.Cards ∷ before) ++ row ∷ [])
    → number ≡ length before + 1 → IsCardTextOfRow text number (row_field row 1)
card_text a text before row number after place = record {
  before = before;
  row = row;
  begin = record { state = reader_state a; rest = after.rest; reached = after.reached };
  place = place;
  text_is = refl;
}

positive : (n : ℕ) → ¬ (n ≡ 0) → 0 < n
positive zero some = absurd (some refl)
positive (suc n) some = omega arith

-- one more row was read, or there is none
module _ (result : Result Bool NoMemory) (a b : Reader (Bor (List ℕ))) (text : List ℕ) (first row :
    Row) (number : ℕ) where
  pub found_row : first ≡ header form.Cards → ¬ (number ≡ 0)
      → SkipsRows a text (first ∷ []) (number - 1)
      → ((octets : List ℕ) (rows : List Row) → HasReadRows a octets rows
      → IfOk result (λ found. found ≡ true → HasReadRows b octets (rows ++ row ∷ [])))
      → IfOk result (λ found. found ≡ true → IsCardTextOfRow text number (row_field row 1))
  found_row is some skips reads = by_result result (reads text (first ∷ skips.skipped) skips.after)
    where
      place : number ≡ length skips.skipped + 1
      place = omega (arith, skips.count_is, positive number some)

      by_result : (r : Result Bool NoMemory) → IfOk r (λ found. found ≡ true
          → HasReadRows b text ((first ∷ skips.skipped) ++ row ∷ []))
          → IfOk r (λ found. found ≡ true → IsCardTextOfRow text number (row_field row 1))
      by_result (Ok found) after = λ yes. card_text b text skips.skipped row number
          (subst (λ head. HasReadRows b text ((head ∷ skips.skipped) ++ row ∷ [])) is (after yes))
          place
      by_result (Err e) after = tt

module _ (result : Result Bool NoMemory) (a : Reader (Bor (List ℕ))) (text : List ℕ) (first : Row)
    (number : ℕ) where
  pub missing_row : ¬ (number ≡ 0) → SkipsRows a text (first ∷ []) (number - 1)
      → ((octets : List ℕ) (rows : List Row) → HasReadRows a octets rows
      → IfOk result (λ found. found ≡ false → AreRows octets rows))
      → IfOk result (λ found. found ≡ false → HasNoCardText text number)
  missing_row some skips reads = by_result result (reads text (first ∷ skips.skipped) skips.after)
    where
      by_result : (r : Result Bool NoMemory) → IfOk r (λ found. found ≡ false
          → AreRows text (first ∷ skips.skipped)) → IfOk r (λ found. found ≡ false
          → HasNoCardText text number)
      by_result (Ok found) rows = λ none. fewer_rows text first number skips.skipped
          (omega (arith, skips.count_is, positive number some)) (rows none)
      by_result (Err e) rows = tt
