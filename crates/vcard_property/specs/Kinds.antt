-- What the kind of a change says of the line that was made.
use Rattle.std.specs.Prelude.{ℕ, Bool, true, false, List, take, bytes_eq, codes}
use Rattle.vcard_changes.specs.declared.change_kind.ChangeKind.{ChangeKind}
use Rattle.vcard_changes.specs.declared.change_kind.ChangeKind.TheVariants.{Rewritten, Renamed}
use Rattle.vcard_changes.specs.declared.change_kind.ChangeKind.TheVariants.{KeptAside, Unreadable}
use Rattle.vcard_changes.specs.declared.change_kind.ChangeKind.TheVariants.{Added, Joined, LeftOut}
use Rattle.vcard_changes.specs.declared.change_kind.ChangeKind.TheVariants.{Labelled, Shortened}
use Rattle.vcard_changes.specs.declared.change_kind.ChangeKind.TheVariants.{Cleaned}

-- the name begins with X-
abbrev pub is_aside_name : List ℕ → Bool
is_aside_name name = bytes_eq (take 2 name) (codes "X-")

-- The kind may be that of a logical line that became a line of this name by itself. A line that was
-- added was no logical line, one that is joined to another or left out became none, and one that
-- got a label didn't become so by itself.
abbrev pub fits_kind : ChangeKind → List ℕ → Bool
fits_kind Rewritten name = true
fits_kind Shortened name = true
fits_kind Cleaned name = true
fits_kind Renamed name = true
fits_kind KeptAside name = is_aside_name name
fits_kind Unreadable name = bytes_eq name (codes "X-UNREADABLE")
fits_kind Added name = false
fits_kind Joined name = false
fits_kind LeftOut name = false
fits_kind Labelled name = false
