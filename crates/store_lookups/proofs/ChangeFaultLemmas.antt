-- What rows that accept changes give to a look-up and to a write.
use Rattle.std.proofs.Common.{◌≡◌, ℕ, pos, Bool, true, false, List, [], ◌∷◌, filter, Result, refl}
use Rattle.std.proofs.Common.{sym, subst, true≢false}
use Rattle.std.specs.List.{list_any}
use Rattle.sqlite.specs.Effect.{Database}
use Rattle.sqlite.specs.State.{State, IsUnchanged, Survives}
use Rattle.sqlite.specs.Tree.{Trees}
use Rattle.sqlite_rules.specs.Lists.{Has}
use Rattle.book_model.specs.declared.denied.Denied.{Denied}
use Rattle.store_tables.specs.Keeps.{is_keep_of}
use Rattle.store_tables.specs.StatementEffects.{GivenTables}
use Rattle.store_tables.proofs.KeyedRows.{all_has}
use Rattle.store_tables.proofs.SchemaCreationLemmas.{clean_before}
use Rattle.store_rows.specs.TableBooks.{HeaderRow, line_row}
use Rattle.store_rows.specs.TableRows.{TableRows, HoldsRows}
use Rattle.store_lookups.specs.CallResults.{GivenSoundRows}
use Rattle.store_lookups.specs.StoreFaults.{FaultsFromOutside, FaultsFromOutsideInBook}
use Rattle.store_lookups.specs.StoreFaults.{IsFaultlessBook, IsFaultlessHeader}
use Rattle.store_lookups.specs.ChangeFaults.{AcceptChanges, ChangeFaultsFromOutside}
use Rattle.store_lookups.specs.ChangeFaults.{ChangeFaultsFromOutsideInBook, HaveFreeIds}
use Rattle.store_lookups.proofs.StoreFaultLemmas.{later_cause}

-- ---- the book with a header

pub header_fits : (rows : TableRows) (name : List ℕ) (header : HeaderRow) → AcceptChanges rows
    → Has rows.books (line_row name header) → IsFaultlessHeader header
header_fits rows name header accept there =
    let b = all_has IsFaultlessBook rows.books (line_row name header) accept.faultless.books
    there in
    record { id = b.id; number = b.number; horizon = b.horizon }

some_left : {X : Type 0} (p : X → Bool) (xs : List X) → list_any p xs ≡ true → filter p xs ≡ [] → ⊥
some_left p [] some none = true≢false (sym some)
some_left p (x ∷ xs) some none = go (p x) refl (some_left p xs)
  where
    go : (b : Bool) → p x ≡ b → (list_any p xs ≡ true → filter p xs ≡ [] → ⊥) → ⊥
    go true e more = let k = rw e at none in cc
    go false e more = more (rw e at some) (rw e at none)

-- the book has a keep
pub keep_there : (rows : TableRows) (name : List ℕ) (header : HeaderRow) → AcceptChanges rows
    → Has rows.books (line_row name header) → filter (is_keep_of (pos header.id)) rows.keeps ≡ []
    → ⊥
keep_there rows name header accept there none =
    some_left (is_keep_of (pos header.id)) rows.keeps
    (all_has (λ b. list_any (is_keep_of b.id) rows.keeps ≡ true) rows.books
    (line_row name header) accept.kept there) none

-- ---- one call after another

-- a call that reads and then writes in the book that it found
pub then_change_faults : {A : Type 0} (old mid new : State) (P Q : Trees → Type 0) (name : List ℕ)
    (header : HeaderRow) (r : Result A Denied) → Survives old mid P
    → GivenTables old mid (IsUnchanged old mid)
    → GivenSoundRows old mid (λ rows. Has rows.books (line_row name header)) → Survives mid new Q
    → ChangeFaultsFromOutsideInBook mid new header r → ChangeFaultsFromOutside old new r
then_change_faults old mid new P Q name header r before same named after fails rows clean holds
    accept free =
    let early = clean_before Q mid new after clean in
    let kept = same early holds.schema in
    let still = subst (λ (d : Database). HoldsRows d rows) (sym kept.0.now_is) holds in
    let ids = subst (λ (d : Database). HaveFreeIds d.trees) (sym kept.0.now_is) free in
    later_cause old mid new P Q r before early after (fails rows name clean still accept ids
    (named rows early holds accept.faultless.sound))

-- a call that only reads, in a book
pub read_faults_in : {A : Type 0} (old new : State) (header : HeaderRow) (r : Result A Denied)
    → FaultsFromOutsideInBook old new header r → ChangeFaultsFromOutsideInBook old new header r
read_faults_in old new header r fails rows name clean holds accept free there =
    fails (header_fits rows name header accept there) rows clean holds accept.faultless

-- one call after another that only reads, in a book
pub then_faults_in : {A : Type 0} (old mid new : State) (P Q : Trees → Type 0) (header : HeaderRow)
    (r : Result A Denied) → Survives old mid P → GivenTables old mid (IsUnchanged old mid)
    → Survives mid new Q
    → ChangeFaultsFromOutsideInBook mid new header r
    → ChangeFaultsFromOutsideInBook old new header r
then_faults_in old mid new P Q header r before same after fails rows name clean holds accept free
    there =
    let early = clean_before Q mid new after clean in
    let kept = same early holds.schema in
    let still = subst (λ (d : Database). HoldsRows d rows) (sym kept.0.now_is) holds in
    let ids = subst (λ (d : Database). HaveFreeIds d.trees) (sym kept.0.now_is) free in
    later_cause old mid new P Q r before early after (fails rows name clean still accept ids there)

-- one call after another that only reads
pub then_changes : {A : Type 0} (old mid new : State) (P Q : Trees → Type 0) (r : Result A Denied)
    → Survives old mid P → GivenTables old mid (IsUnchanged old mid) → Survives mid new Q
    → ChangeFaultsFromOutside mid new r → ChangeFaultsFromOutside old new r
then_changes old mid new P Q r before same after fails rows clean holds accept free =
    let early = clean_before Q mid new after clean in
    let kept = same early holds.schema in
    let still = subst (λ (d : Database). HoldsRows d rows) (sym kept.0.now_is) holds in
    let ids = subst (λ (d : Database). HaveFreeIds d.trees) (sym kept.0.now_is) free in
    later_cause old mid new P Q r before early after (fails rows clean still accept ids)
