-- Why a call that reads fails.
use Rattle.std.proofs.Common.{◌≡◌, ◌≢◌, ◌⊎◌, ◌<◌, ◌≤◌, inl, inr, ℕ, ℤ, pos, Bool, true, false, List}
use Rattle.std.proofs.Common.{[], ◌∷◌, length, filter, Option, Some, None, Ok, Err, Result, IfErr}
use Rattle.std.proofs.Common.{IfSome, IsUtf8, refl, sym, ap, subst, ◌∙◌, arith}
use Rattle.std.specs.Prelude.{IsErrAnd}
use Rattle.std.proofs.lemmas.Bool.{cases_lt}
use Rattle.std.proofs.lemmas.List.{get_or_past}
use Rattle.sqlite.specs.Order.{Row, column}
use Rattle.sqlite.specs.Values.{or_null}
use Rattle.sqlite.specs.declared.types.Value.TheVariants.{Null, Int, Text}
use Rattle.sqlite.specs.declared.types.Value.{Value}
use Rattle.sqlite.specs.declared.error.Error.{Error}
use Rattle.sqlite.specs.declared.error.Error.TheVariants.{SqliteFailure}
use Rattle.sqlite.specs.declared.error.ErrorCode.TheVariants.{OutOfMemory}
use Rattle.vcard_text.proofs.TextLemmas.{text_found}
use Rattle.book_model.specs.declared.denied.Denied.{Denied}
use Rattle.book_model.specs.declared.denied.Fault.{Fault}
use Rattle.book_model.specs.declared.denied.Fault.TheVariants.{Memory, Store}
use Rattle.store_rows.specs.Values.{natural, IsNatural, IsCanonical}
use Rattle.store_lookups.specs.Faults.{denied_by_fault, error_fault}
use Rattle.sqlite.specs.Effect.{Database}
use Rattle.sqlite.specs.State.{State, HasCleanDisk, IsUnchanged, Survives}
use Rattle.sqlite.specs.Tree.{Trees}
use Rattle.store_tables.specs.QueryResults.{counted, greatest_integer}
use Rattle.store_tables.specs.StatementEffects.{GivenTables}
use Rattle.store_tables.proofs.FailureLemmas.{outside_later}
use Rattle.store_tables.proofs.KeyedRows.{all_has}
use Rattle.store_tables.proofs.SchemaCreationLemmas.{clean_before}
use Rattle.store_rows.specs.LookupLaws.{IsBookNamed}
use Rattle.store_rows.specs.TableBooks.{HeaderRow, line_row}
use Rattle.store_rows.specs.TableRows.{TableRows, HoldsRows}
use Rattle.store_lookups.specs.CallResults.{FindsHeader, GivenSoundRows}
use Rattle.store_lookups.specs.StoreFaults.{AreFaultless, IsFaultlessBook, IsFaultlessHeader}
use Rattle.store_lookups.specs.StoreFaults.{FailsOnlyForMemory, HasOutsideCauseOfFault}
use Rattle.store_lookups.specs.StoreFaults.{FaultsFromOutside, FaultsFromOutsideInBook}

-- ---- errors as faults

-- an error that can only be out of memory
pub memory_if : (e : Error) → ((e ≢ SqliteFailure OutOfMemory) → ⊥) → error_fault e ≡ Memory
memory_if e never = go (error_fault e) refl
  where
    go : (f : Fault) → error_fault e ≡ f → error_fault e ≡ Memory
    go Memory is = is
    go Store is = absurd (never (λ room. let x = sym is ∙ ap error_fault room in cc))

-- a fault of the store isn't out of memory
pub not_memory : (e : Error) (d : Denied) → d ≡ denied_by_fault (error_fault e)
    → d ≡ denied_by_fault Store → e ≢ SqliteFailure OutOfMemory
not_memory e d is store room = let x = sym store ∙ is
    ∙ ap (λ k. denied_by_fault (error_fault k)) room in cc

pub only_memory : {A : Type 0} (r : Result A Denied) (C : Type 0) → FailsOnlyForMemory r
    → IfErr r (λ d. d ≡ denied_by_fault Store → C)
only_memory (Ok a) C h = tt
only_memory (Err d) C h = λ store. absurd (let x = sym h ∙ store in cc)

-- an error that is passed on
pub passed_on : {A : Type 0} (r : Result A Denied) (d : Denied) → IsErrAnd r (λ k. k ≡ d)
    → d ≡ denied_by_fault Memory → FailsOnlyForMemory r
passed_on (Ok a) d h memory = absurd h
passed_on (Err k) d h memory = h ∙ memory

pub passed_cause : {A : Type 0} (r : Result A Denied) (d : Denied) (C : Type 0)
    → IsErrAnd r (λ k. k ≡ d) → (d ≡ denied_by_fault Store → C)
    → IfErr r (λ k. k ≡ denied_by_fault Store → C)
passed_cause (Ok a) d C h f = absurd h
passed_cause (Err k) d C h f = λ store. f (sym h ∙ store)

pub never_store : (d : Denied) (C : Type 0) → d ≡ denied_by_fault Memory → d ≡ denied_by_fault Store
    → C
never_store d C memory store = absurd (let x = sym memory ∙ store in cc)

-- ---- one look-up after another

pub later_cause : {A : Type 0} (old mid new : State) (P Q : Trees → Type 0) (r : Result A Denied)
    → Survives old mid P → HasCleanDisk mid → Survives mid new Q → HasOutsideCauseOfFault mid new r
    → HasOutsideCauseOfFault old new r
later_cause old mid new P Q (Ok a) before clean after h = tt
later_cause old mid new P Q (Err d) before clean after h =
    λ store. outside_later old mid new P Q before clean after (h store)

pub header_faultless : (rows : TableRows) (name : List ℕ) (header : HeaderRow) → AreFaultless rows
    → IsBookNamed rows name header → IsFaultlessHeader header
header_faultless rows name header faultless named =
    let b = all_has IsFaultlessBook rows.books (line_row name header) faultless.books named.there in
    record { id = b.id; number = b.number; horizon = b.horizon }

-- the name was looked up, and then the book with this header was read
pub then_faults : {A : Type 0} (old mid new : State) (P Q : Trees → Type 0) (name : List ℕ)
    (header : HeaderRow) (r : Result A Denied) → Survives old mid P
    → GivenTables old mid (IsUnchanged old mid)
    → GivenSoundRows old mid (λ rows. FindsHeader rows name (Ok header)) → Survives mid new Q
    → FaultsFromOutsideInBook mid new header r → FaultsFromOutside old new r
then_faults old mid new P Q name header r before same named after fails rows clean holds faultless =
    let early = clean_before Q mid new after clean in
    let kept = same early holds.schema in
    let fits = header_faultless rows name header faultless
    (named rows early holds faultless.sound) in
    later_cause old mid new P Q r before early after
    (fails fits rows clean (subst (λ (d : Database). HoldsRows d rows) (sym kept.0.now_is)
    holds) faultless)

-- ---- the reading of a column

within : (row : Row) (at : ℕ) → column row at ≢ Null → at < length row
within row at some = elim (cases_lt at (length row)) [
  | inl low ↦ low
  | inr past ↦
      absurd (some (get_or_past row at Null past))
]

-- the error of a value that can be read
read_error : (Readable : Value → Type 0) (row : Row) (at : ℕ) (e : Error) (d : Denied)
    → at < length row → Readable (column row at) → (e ≢ SqliteFailure OutOfMemory → at < length row
    → ¬ Readable (column row at)) → d ≡ denied_by_fault (error_fault e) → d ≡ denied_by_fault Memory
read_error Readable row at e d there readable kind fault =
    fault ∙ ap denied_by_fault (memory_if e (λ room. kind room there readable))

pub number_error : (row : Row) (at n : ℕ) (e : Error) (d : Denied) → column row at ≡ Int (pos n)
    → (e ≢ SqliteFailure OutOfMemory → at < length row
    → ¬ ((k : ℕ) × (column row at ≡ Int (pos k)))) → d ≡ denied_by_fault (error_fault e)
    → d ≡ denied_by_fault Memory
number_error row at n e d is = read_error (λ v. (k : ℕ) × (v ≡ Int (pos k))) row at e d
    (within row at (λ null. let x = sym is ∙ null in cc)) (n, is)

pub text_error : (row : Row) (at : ℕ) (text : List ℕ) (e : Error) (d : Denied)
    → column row at ≡ Text text → IsUtf8 text → (e ≢ SqliteFailure OutOfMemory → at < length row
    → ¬ ((t : List ℕ) × (column row at ≡ Text t) × IsUtf8 t)) → d ≡ denied_by_fault (error_fault e)
    → d ≡ denied_by_fault Memory
text_error row at text e d is utf8 = read_error (λ v. (t : List ℕ) × (v ≡ Text t) × IsUtf8 t) row at
    e d (within row at (λ null. let x = sym is ∙ null in cc)) (text, is, utf8)

pub canonical_utf8 : (text : List ℕ) → IsCanonical text → IsUtf8 text
canonical_utf8 text h = (text_found text h.lines h.spelled).utf8

pub card_error : (row : Row) (at : ℕ) (card : Option (List ℕ)) (e : Error) (d : Denied)
    → at < length row → column row at ≡ or_null Text card → IfSome card IsCanonical
    → (e ≢ SqliteFailure OutOfMemory → at < length row
    → ¬ ((column row at ≡ Null) ⊎ ((t : List ℕ) × (column row at ≡ Text t) × IsUtf8 t)))
    → d ≡ denied_by_fault (error_fault e) → d ≡ denied_by_fault Memory
card_error row at None e d there is canonical =
    read_error (λ v. (v ≡ Null) ⊎ ((t : List ℕ) × (v ≡ Text t) × IsUtf8 t)) row at e d there
    (inl is)
card_error row at (Some text) e d there is canonical =
    read_error (λ v. (v ≡ Null) ⊎ ((t : List ℕ) × (v ≡ Text t) × IsUtf8 t)) row at e d there
    (inr (text, is, canonical_utf8 text canonical))

-- the text that was read is the card's
pub card_text : (read : List ℕ) (card : Option (List ℕ)) (v : Value) → v ≡ or_null Text card
    → v ≡ Text read → IfSome card IsCanonical → IsCanonical read
card_text read None v is read_is canonical = absurd (let x = sym is ∙ read_is in cc)
card_text read (Some t) v is read_is canonical = let same : t ≡ read = cc in
    subst IsCanonical same canonical

-- a natural number in a column
pub cell : (z : ℤ) → IsNatural z → Int z ≡ Int (pos (natural z))
cell z h = ap Int h

-- the rows that pass a test aren't more than all rows
pub filter_short : {X : Type 0} (p : X → Bool) (xs : List X) → length (filter p xs) ≤ length xs
filter_short p [] = omega arith
filter_short p (x ∷ xs) = step (p x) refl (filter_short p xs)
  where
    step : (b : Bool) → p x ≡ b → length (filter p xs) ≤ length xs
        → length (filter p (x ∷ xs)) ≤ length (x ∷ xs)
    step true e more = rw e (omega (arith, more))
    step false e more = rw e (omega (arith, more))

-- a count of some of few rows
pub few_counted : {X : Type 0} (p : X → Bool) (xs : List X) (n : ℕ) (r : Result ℕ Denied)
    → n ≡ counted (length (filter p xs)) → length xs < greatest_integer
    → (n < greatest_integer → FailsOnlyForMemory r) → FailsOnlyForMemory r
few_counted p xs n r is few memory = memory (omega (arith, filter_short p xs, few, is))
