-- The logical lines that may have no line of their own: labels, which vCard 4.0 has as a parameter
-- of their address (RFC 6350, section 6.3.1), and photos and the like (sections 6.2.4, 6.6.3 and
-- 6.7.5) of a card that would be too long with them.
use Rattle.std.specs.Prelude.{Bool, true, false, ◌||◌, ◌&&◌, ◌==◌, List, codes}
use Rattle.std.specs.List.{list_any}
use Rattle.import_text.specs.RawLines.{is_encoded_as}
use Rattle.import_text.specs.declared.raw_line.RawLine.{RawLine}
use Rattle.vcard_changes.specs.declared.change_kind.ChangeKind.{ChangeKind}
use Rattle.vcard_changes.specs.declared.change_kind.ChangeKind.TheVariants.{Rewritten, Renamed}
use Rattle.vcard_changes.specs.declared.change_kind.ChangeKind.TheVariants.{KeptAside, Unreadable}
use Rattle.vcard_changes.specs.declared.change_kind.ChangeKind.TheVariants.{Added, Joined, LeftOut}
use Rattle.vcard_changes.specs.declared.change_kind.ChangeKind.TheVariants.{Labelled, Shortened}
use Rattle.vcard_changes.specs.declared.change_kind.ChangeKind.TheVariants.{Cleaned}
use Rattle.vcard_values.specs.Forms.{is_property}
use Rattle.vcard_changes.specs.declared.change.Change.{Change}

-- the head of the logical line has the name of a property with pictures or sounds
abbrev pub is_media : RawLine → Bool
is_media raw = is_encoded_as (codes "PHOTO") raw.octets || is_encoded_as (codes "LOGO") raw.octets
    || is_encoded_as (codes "SOUND") raw.octets

-- the change may say what became of the logical line, if that has no line of its own
abbrev pub may_go : ChangeKind → RawLine → Bool
may_go Rewritten raw = false
may_go Shortened raw = false
may_go Cleaned raw = false
may_go Renamed raw = false
may_go KeptAside raw = false
may_go Unreadable raw = false
may_go Added raw = false
may_go Joined raw = is_property (codes "LABEL") raw.octets
may_go LeftOut raw = is_media raw
may_go Labelled raw = false

abbrev pub says_left_out : ChangeKind → Bool
says_left_out Rewritten = false
says_left_out Shortened = false
says_left_out Cleaned = false
says_left_out Renamed = false
says_left_out KeptAside = false
says_left_out Unreadable = false
says_left_out Added = false
says_left_out Joined = false
says_left_out LeftOut = true
says_left_out Labelled = false

-- the change says that a line is left out
abbrev pub is_left_out : Change → Bool
is_left_out change = says_left_out change.kind

-- The line may have a picture or a sound, and one of the changes says that the line at its place is
-- left out.
abbrev pub is_left_out_at : List Change → RawLine → Bool
is_left_out_at changes raw = is_media raw
    && list_any (λ change. says_left_out change.kind && change.place == raw.place) changes

-- one of the changes says so
abbrev pub has_left_out : List Change → Bool
has_left_out changes = list_any is_left_out changes
