-- The people that a group reaches through its members (RFC 6350, section 6.6.5). Following nested
-- groups, and naming a card by its UID after `urn:uuid:`, is this project's own.
use Rattle.std.specs.Prelude.{ℕ, ◌≡◌, ◌≢◌, ◌↔◌, ◌⊎◌, Bool, ◌&&◌, List, take, drop, codes, Option}
use Rattle.std.specs.Prelude.{Some, None, if◌then◌else◌}
use Rattle.std.specs.List.{Contains}
use Rattle.std.specs.List.Sorted.{IsStrictlySortedBy}
use Rattle.std.specs.Str.{str_eq_ignore_ascii_case}
use Rattle.std.specs.FinMap as finite
use Rattle.vcard_text.specs.declared.kind.Kind.TheVariants.{Group}
use Rattle.vcard_lines.specs.declared.line.Line.{Line}
use Rattle.base_types.specs.TextMaps.{text_cmp}
use Rattle.vcard_text.specs.Cards.{kind_of, members_of}
use Rattle.card_core.specs.declared.expansion.Expansion.{Expansion}

-- the lines of each card, by UID
abbrev pub Cards : Type 0
Cards = finite.FinMap text_cmp (List Line)

-- ---- what a MEMBER value names

abbrev pub begins_with_urn : List ℕ → Bool
begins_with_urn value = str_eq_ignore_ascii_case (take 9 value) (codes "urn:uuid:")

-- the UID of the card that a value names: the value itself, or, only if no card has that UID, the
-- rest after `urn:uuid:`
abbrev pub uid_named_by : Cards → List ℕ → Option (List ℕ)
uid_named_by cards value =
    if finite.contains_key cards value then Some value
    else (if begins_with_urn value && finite.contains_key cards (drop 9 value) then Some
    (drop 9 value)
    else None)

-- ---- groups and their members

-- The card with the UID is a group, and these are its member values.
pub record GroupMembersAre (cards : Cards) (uid : List ℕ) (members : List (List ℕ)) : Type 0 where
  pub lines : List Line
  pub card : finite.get cards uid ≡ Some lines
  pub group : kind_of lines ≡ Group
  pub members_are : members ≡ members_of lines

-- The card with the UID isn't a group.
pub record IsNonGroupCard (cards : Cards) (uid : List ℕ) : Type 0 where
  pub lines : List Line
  pub card : finite.get cards uid ≡ Some lines
  pub other : kind_of lines ≢ Group

-- The card with the UID is a group, and one of its members has the value.
pub record HasMember (cards : Cards) (group value : List ℕ) : Type 0 where
  pub members : List (List ℕ)
  pub is_group : GroupMembersAre cards group members
  pub member : Contains members value

-- A member of the group names the card.
pub record HasMemberCard (cards : Cards) (group uid : List ℕ) : Type 0 where
  pub value : List ℕ
  pub member : HasMember cards group value
  pub names : uid_named_by cards value ≡ Some uid

-- A chain of one or more members leads from the group to the card, through groups only.
pub data Reaches (cards : Cards) (group : List ℕ) : List ℕ → Type 0 where
  directly : (uid : List ℕ) → HasMemberCard cards group uid → Reaches cards group uid
  through_group : (way uid : List ℕ) → Reaches cards group way → HasMemberCard cards way uid
      → Reaches cards group uid

-- ---- an expansion

-- The group reaches the card, which isn't a group.
pub record IsPerson (cards : Cards) (group uid : List ℕ) : Type 0 where
  pub reached : Reaches cards group uid
  pub other : IsNonGroupCard cards uid

-- The value names no card, and is that of a member of the group or of a group that it reaches.
pub record IsMissing (cards : Cards) (group value : List ℕ) : Type 0 where
  pub holder : List ℕ
  pub is_holder : (holder ≡ group) ⊎ Reaches cards group holder
  pub member : HasMember cards holder value
  pub names_none : uid_named_by cards value ≡ None

-- The people and the missing values of a group, each once and in octet order.
pub record IsExpansion (cards : Cards) (group : List ℕ) (expansion : Expansion) : Type 0 where
  pub people : (uid : List ℕ) → Contains expansion.people uid ↔ IsPerson cards group uid
  pub missing : (value : List ℕ) → Contains expansion.missing value ↔ IsMissing cards group value
  pub people_sorted : IsStrictlySortedBy text_cmp expansion.people
  pub missing_sorted : IsStrictlySortedBy text_cmp expansion.missing
