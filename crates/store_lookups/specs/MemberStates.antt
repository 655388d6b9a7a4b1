-- What a book has under a UID.
use Rattle.std.specs.Prelude.{◌≡◌, ℕ, pos, Bool, true, false, if◌then◌else◌, List, Option, Some}
use Rattle.std.specs.Prelude.{None}
use Rattle.std.specs.Option.{option_map_or}
use Rattle.std.specs.FinMap as finite
use Rattle.sqlite.specs.declared.types.Value.TheVariants.{Int}
use Rattle.sqlite.specs.Order.{Row, column}
use Rattle.book_model.specs.declared.answers.Stored.{Stored}
use Rattle.book_model.specs.declared.row.Row.{Row as Member}
use Rattle.book_model.specs.Books.{Book, stored_in_row}
use Rattle.book_model.specs.BookQueries.{is_tombstone_after}
use Rattle.store_rows.specs.ShownRows.{ShowsCard}
use Rattle.store_lookups.specs.declared.member_states.MemberState.{MemberState}
use Rattle.store_lookups.specs.declared.member_states.MemberState.TheVariants.{Live, Tombstone}
use Rattle.store_lookups.specs.declared.member_states.MemberState.TheVariants.{Missing}

-- ---- the state of a UID

-- the row of a live member, a tombstone above the horizon, or a removal that is forgotten
abbrev pub state_of_row : ℕ → Member → MemberState
state_of_row horizon row = option_map_or Live (stored_in_row row)
    (if is_tombstone_after horizon row then Tombstone else Missing)

abbrev pub member_state : Book → List ℕ → MemberState
member_state book uid =
    option_map_or (state_of_row book.horizon) (finite.get book.members uid) Missing

-- ---- parts of a state

abbrev pub live_card : MemberState → Option Stored
live_card (Live stored) = Some stored
live_card Tombstone = None
live_card Missing = None

abbrev pub is_tombstone_state : MemberState → Bool
is_tombstone_state (Live stored) = false
is_tombstone_state Tombstone = true
is_tombstone_state Missing = false

-- ---- the row that a look-up returns

-- the row has the number and the card of a member with this state
pub record ShowsState (horizon : ℕ) (row : Row) (state : MemberState) : Type 0 where
  pub member : Member
  pub changed : column row 0 ≡ Int (pos member.changed)
  pub card : ShowsCard 1 row member.card
  pub is : state ≡ state_of_row horizon member
