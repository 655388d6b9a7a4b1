-- Each text has rows, and begins with the first of them.
use Rattle.std.proofs.Common.{◌≡◌, ◌<◌, ◌⊎◌, ◌∷◌, ◌++◌, [], ℕ, zero, suc, Bool, true, false}
use Rattle.std.proofs.Common.{if◌then◌else◌, List, Option, Some, None, length, refl, sym, ap, arith}
use Rattle.std.proofs.Common.{inl, inr}
use Rattle.csv.specs.Machine.{Read, ends_at_end, field_after, fields_after, is_end, next_record}
use Rattle.csv.specs.Machine.{step}
use Rattle.csv.specs.Reading.{AreRecords, Reached, default_config, strip_bom}
use Rattle.csv.specs.declared.parser.State.{State}
use Rattle.csv.specs.declared.parser.State.TheVariants as st
use Rattle.csv_cards.specs.Rows.{Row, AreRows, RowsBeginWith}
use Rattle.csv_cards.proofs.OneReadingLemmas.{some_read}

-- ---- one record

-- the record leaves fewer than `size` octets, or it is the last
abbrev LeavesLess : ℕ → Read → Type 0
LeavesLess size p = (length p.2 < size) ⊎ ((p.1 ≡ st.StartRecord) × (p.2 ≡ []))

at_end : (b : Bool) (fields : List (List ℕ)) (p : Read)
    → (if b then Some (fields, st.StartRecord, []) else None) ≡ Some p → LeavesLess 0 p
at_end true fields p e =
    let is : (fields, st.StartRecord, []) ≡ p = some_read (fields, st.StartRecord, []) p e in
    inr (sym (ap (λ (q : Read). q.1) is), sym (ap (λ (q : Read). q.2) is))
at_end false fields p e = cc e

later : (size : ℕ) (p : Read) → LeavesLess size p → LeavesLess (suc size) p
later size p (inl less) = inl (omega (arith, less))
later size p (inr last) = inr last

at_octet : (b : Bool) (fields : List (List ℕ)) (s : State) (rest : List ℕ) (more : Option Read) (p :
    Read) → (more ≡ Some p → LeavesLess (length rest) p)
    → (if b then Some (fields, s, rest) else more) ≡ Some p → LeavesLess (suc (length rest)) p
at_octet true fields s rest more p following e =
    let is : (fields, s, rest) ≡ p = some_read (fields, s, rest) p e in
    let size = ap (λ (q : Read). length q.2) is in
    inl (omega (arith, size))
at_octet false fields s rest more p following e = later (length rest) p (following e)

leaves_less : (s : State) (fields : List (List ℕ)) (row_field xs : List ℕ) (p : Read)
    → next_record default_config s fields row_field xs ≡ Some p → LeavesLess (length xs) p
unfolding next_record
leaves_less s fields row_field [] p e = at_end (ends_at_end s) (fields ++ row_field ∷ []) p e
leaves_less s fields row_field (c ∷ rest) p e =
    let next = step default_config s c in
    at_octet (is_end next.1) (fields_after next.1 fields row_field) next.0 rest
    (next_record default_config next.0 (fields_after next.1 fields row_field)
    (field_after next.1 c row_field) rest) p
    (leaves_less next.0 (fields_after next.1 fields row_field) (field_after next.1 c row_field) rest
    p) e

-- ---- all records

abbrev HasRecords : State → List ℕ → Type 0
HasRecords s xs = (rows : List Row) × AreRecords default_config s xs rows

none_after_last : (p : Read) → p.1 ≡ st.StartRecord → p.2 ≡ []
    → next_record default_config p.1 [] [] p.2 ≡ None
unfolding next_record
none_after_last p start nothing = rw (start, nothing) refl

one_more : (s : State) (xs : List ℕ) (p : Read) → next_record default_config s [] [] xs ≡ Some p
    → HasRecords p.1 p.2 → HasRecords s xs
unfolding Reached
one_more s xs p e more = (p.0 ∷ more.0, (more.1.0, more.1.1, (p, e, refl, more.1.2), more.1.3))

last_one : (s : State) (xs : List ℕ) (p : Read) → next_record default_config s [] [] xs ≡ Some p
    → p.1 ≡ st.StartRecord → p.2 ≡ [] → HasRecords s xs
unfolding Reached
last_one s xs p e start nothing = (
  p.0 ∷ [],
  (
    p.1,
    p.2,
    (p, e, refl, (refl, refl)),
    none_after_last p start nothing,
  ),
)

by_record : (s : State) (xs : List ℕ) (o : Option Read) → next_record default_config s [] [] xs ≡ o
    → ((p : Read) → length p.2 < length xs → HasRecords p.1 p.2) → HasRecords s xs
unfolding Reached
by_record s xs None e more = ([], (s, xs, (refl, refl), e))
by_record s xs (Some p) e more = by_size (leaves_less s [] [] xs p e)
  where
    by_size : LeavesLess (length xs) p → HasRecords s xs
    by_size (inl less) = one_more s xs p e (more p less)
    by_size (inr last) = last_one s xs p e last.0 last.1

all_records : (n : ℕ) (s : State) (xs : List ℕ) → length xs < n → HasRecords s xs
all_records zero s xs small = absurd (omega (arith, small))
all_records (suc n) s xs small = by_record s xs (next_record default_config s [] [] xs) refl
    (λ p less. all_records n p.1 p.2 (omega (arith, small, less)))

pub has_rows : (text : List ℕ) → (rows : List Row) × AreRows text rows
has_rows text = all_records (suc (length (strip_bom text))) st.StartRecord (strip_bom text)
    (omega arith)

-- ---- the first of them

abbrev Front : State → List ℕ → List Row → Type 0
Front s xs rows = (s2 : State) × (y : List ℕ) × Reached default_config s xs rows s2 y

front : (rows others : List Row) (s s2 : State) (xs y : List ℕ)
    → Reached default_config s xs (rows ++ others) s2 y → Front s xs rows
unfolding Reached
front [] others s s2 xs y r = (s, xs, (refl, refl))
front (row ∷ rows) others s s2 xs y r =
    let more = front rows others r.0.1 s2 r.0.2 y r.3 in
    (more.0, more.1, (r.0, r.1, r.2, more.2))

pub begin_with : (text : List ℕ) (rows others : List Row) → AreRows text (rows ++ others)
    → RowsBeginWith text rows
begin_with text rows others are =
    let begin = front rows others st.StartRecord are.0 (strip_bom text) are.1 are.2 in
    record { state = begin.0; rest = begin.1; reached = begin.2 }
