-- Labels of addresses. In vCard 4.0 a label is a parameter of its address (RFC 6350, section
-- 6.3.1).
use Rattle.std.specs.Prelude.{Bool, true, false, ◌&&◌, ◌||◌, ◌≤◌, List, count_by}
use Rattle.vcard_lines.specs.declared.line.Line.{Line}
use Rattle.vcard_property.specs.Kinds.{fits_kind}
use Rattle.vcard_property.specs.Labels.{is_labelled}
use Rattle.vcard_changes.specs.declared.change_kind.ChangeKind.{ChangeKind}
use Rattle.vcard_changes.specs.declared.change_kind.ChangeKind.TheVariants.{Rewritten, Renamed}
use Rattle.vcard_changes.specs.declared.change_kind.ChangeKind.TheVariants.{KeptAside, Unreadable}
use Rattle.vcard_changes.specs.declared.change_kind.ChangeKind.TheVariants.{Added, Joined, LeftOut}
use Rattle.vcard_changes.specs.declared.change_kind.ChangeKind.TheVariants.{Labelled, Shortened}
use Rattle.vcard_changes.specs.declared.change_kind.ChangeKind.TheVariants.{Cleaned}
use Rattle.vcard_changes.specs.declared.change.Change.{Change}

abbrev pub says_joined : ChangeKind → Bool
says_joined Rewritten = false
says_joined Shortened = false
says_joined Cleaned = false
says_joined Renamed = false
says_joined KeptAside = false
says_joined Unreadable = false
says_joined Added = false
says_joined Joined = true
says_joined LeftOut = false
says_joined Labelled = false

-- the change says that a label is joined to its address
abbrev pub is_joined : Change → Bool
is_joined change = says_joined change.kind

abbrev pub says_labelled : ChangeKind → Bool
says_labelled Rewritten = false
says_labelled Shortened = false
says_labelled Cleaned = false
says_labelled Renamed = false
says_labelled KeptAside = false
says_labelled Unreadable = false
says_labelled Added = false
says_labelled Joined = false
says_labelled LeftOut = false
says_labelled Labelled = true

-- the change says that an address got a label
abbrev pub is_labelling : Change → Bool
is_labelling change = says_labelled change.kind

-- The kind may be that of a logical line that became this line. One that got a label is an address
-- with a label.
abbrev pub fits : ChangeKind → Line → Bool
fits kind line = fits_kind kind line.name || (says_labelled kind && is_labelled line)

-- no more labels are joined than addresses got one
abbrev pub HaveAddresses : List Change → Type 0
HaveAddresses changes = count_by is_joined changes ≤ count_by is_labelling changes
