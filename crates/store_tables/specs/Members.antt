-- The rows of the table `member`, one for each live member of a book and one for each removed
-- member that it remembers (RFC 6578, section 3.5).
use Rattle.std.specs.Prelude.{◌≡◌, ℕ, ℤ, Bool, not, false, ◌&&◌, ◌||◌, if◌then◌else◌, List, [], ◌∷◌}
use Rattle.std.specs.Prelude.{map, filter, Option, is_some, bytes_eq, int_lt, int_le}
use Rattle.std.specs.declared.cmp.Ordering.{Ordering}
use Rattle.std.specs.Ordering.{int_cmp, int_eq}
use Rattle.std.specs.List.Sorted.{IsPermutation}
use Rattle.sqlite.specs.declared.types.Value.TheVariants.{Int, Text}
use Rattle.sqlite.specs.Order.{Row, column}
use Rattle.sqlite.specs.State.{State}
use Rattle.sqlite.specs.Tree.{Trees}
use Rattle.sqlite.specs.Values.{or_null}
use Rattle.sqlite_trees.specs.Tree.{IsAscending}
use Rattle.store_tables.specs.StatementEffects.{GivenRows, StoredTable}
use Rattle.store_tables.specs.Tables.{member_tree}

-- the id is the row id; a member without a card is removed
pub record MemberRow : Type 0 where
  pub id : ℤ
  pub book : ℤ
  pub uid : List ℕ
  pub changed : ℤ
  pub card : Option (List ℕ)

-- ---- the contents of the table

-- a member as a stored row
abbrev pub member_row : MemberRow → Row
member_row m = Int m.id ∷ Int m.book ∷ Text m.uid ∷ Int m.changed ∷ or_null Text m.card ∷ []

-- the columns of a row; a missing column is null
abbrev pub member_cells : Row → Row
member_cells r = column r 0 ∷ column r 1 ∷ column r 2 ∷ column r 3 ∷ column r 4 ∷ []

-- the rows are those of the members, in any order
abbrev pub HoldMembers : List Row → List MemberRow → Type 0
HoldMembers rows ms = IsPermutation (map member_row ms) (map member_cells rows)

-- the table `member` holds these members
abbrev pub HasMembers : State → List MemberRow → Type 0
HasMembers s ms = HoldMembers (s.now.trees member_tree) ms

-- the member has the UID in the book
abbrev pub has_uid : ℤ → List ℕ → MemberRow → Bool
has_uid book uid m = int_eq m.book book && bytes_eq m.uid uid

-- no two members share an id, or a UID in one book
abbrev pub AreMembers : List MemberRow → Type 0
AreMembers = IsAscending (λ a b. (int_eq a.id b.id ≡ false) × (has_uid a.book a.uid b ≡ false))

abbrev pub member_table : StoredTable MemberRow
member_table = record { tree = member_tree; Hold = HoldMembers; AreDistinct = AreMembers }

-- the condition of a read: the table holds these members before it
abbrev pub GivenMembers : State → State → (List MemberRow → Type 0) → Type 0
GivenMembers = GivenRows HoldMembers 4

-- ---- result rows and their order

abbrev pub number_card_shown : MemberRow → Row
number_card_shown m = Int m.changed ∷ or_null Text m.card ∷ []

abbrev pub member_shown : MemberRow → Row
member_shown m = Text m.uid ∷ Int m.changed ∷ or_null Text m.card ∷ []

abbrev pub by_changed : MemberRow → MemberRow → Ordering
by_changed a b = int_cmp a.changed b.changed

abbrev pub number_shown : MemberRow → Row
number_shown m = Int m.changed ∷ []

-- ---- tests of members

abbrev pub is_in_book : ℤ → MemberRow → Bool
is_in_book book m = int_eq m.book book

-- changed above `at`, and live or removed above `base`
abbrev pub is_member_due : ℤ → ℤ → ℤ → MemberRow → Bool
is_member_due book at base m =
    int_eq m.book book && (int_lt at m.changed && (is_some m.card || int_lt base m.changed))

-- a removed member of the book whose number is at most `upto`
abbrev pub is_removed_up_to : ℤ → ℤ → MemberRow → Bool
is_removed_up_to book upto m = int_eq m.book book && (not (is_some m.card) && int_le m.changed upto)

-- a removed member of the book whose number is above `horizon`
abbrev pub is_removed_above : ℤ → ℤ → MemberRow → Bool
is_removed_above book horizon m =
    int_eq m.book book && (not (is_some m.card) && int_lt horizon m.changed)

-- ---- the effect of a statement

-- the member is updated in its place, or added at the end with this id
abbrev pub upsert_member : ℤ → ℤ → List ℕ → ℤ → Option (List ℕ) → List MemberRow → List MemberRow
upsert_member id book uid changed card [] =
    record { id = id; book = book; uid = uid; changed = changed; card = card } ∷ []
upsert_member id book uid changed card (m ∷ ms) =
    if has_uid book uid m
    then record m { changed = changed; card = card } ∷ ms
    else m ∷ upsert_member id book uid changed card ms

-- the member has the number and the card, under its old id or, if it is new, under an unused one
pub record PutsRow (new : Trees) (book : ℤ) (uid : List ℕ) (changed : ℤ) (card : Option (List ℕ))
    (ms : List MemberRow) : Type 0 where
  pub id : ℤ
  pub hold : HoldMembers (new 4) (upsert_member id book uid changed card ms)
  pub kept : AreMembers (upsert_member id book uid changed card ms)

-- all but the removed members whose number is at most `upto`
abbrev pub without_removed : ℤ → ℤ → List MemberRow → List MemberRow
without_removed book upto = filter (λ m. not (is_removed_up_to book upto m))
