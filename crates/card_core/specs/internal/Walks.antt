-- The state of the walk from a group: its steps, its invariant and its end.
use Rattle.std.specs.Prelude.{ℕ, ◌≡◌, ◌≢◌, ◌+◌, ◌↔◌, ◌⊎◌, not, List, [], ◌∷◌, ◌++◌, length, map}
use Rattle.std.specs.Prelude.{filter, Some, None}
use Rattle.std.specs.List.{Contains, list_any}
use Rattle.std.specs.Ordering.{eq_by_cmp}
use Rattle.std.specs.FinMap as finite
use Rattle.base_types.specs.TextMaps.{text_cmp}
use Rattle.vcard_text.specs.declared.kind.Kind.TheVariants.{Group}
use Rattle.vcard_lines.specs.declared.line.Line.{Line}
use Rattle.vcard_text.specs.Cards.{kind_of, members_of}
use Rattle.card_core.specs.declared.walk.Walk.{Walk}
use Rattle.card_core.specs.Groups.{Cards, uid_named_by, Reaches, IsPerson, IsMissing}
use Rattle.card_core.specs.internal.TextSets.{GainsText}
use Rattle.card_core.specs.internal.Naming.{Names}

-- the lines of the groups whose members weren't visited yet
abbrev pub waiting_cards : Walk → List (List Line)
waiting_cards walk = map (λ card. card.now) walk.waiting.items

-- ---- a step

-- The people and missing values found are unchanged.
pub record SameExpansion (old new : Walk) : Type 0 where
  pub people : new.people ≡ old.people
  pub missing : new.missing ≡ old.missing

-- The groups found and those that wait are unchanged.
pub record SameGroups (old new : Walk) : Type 0 where
  pub groups : new.groups ≡ old.groups
  pub waiting : waiting_cards new ≡ waiting_cards old

-- A group is found, for the first time or again.
pub data AddsGroup (uid : List ℕ) (lines : List Line) (old new : Walk) : Type 0 where
  found_before : Contains old.groups uid → SameExpansion old new → SameGroups old new
      → AddsGroup uid lines old new
  found_first : ¬ (Contains old.groups uid) → GainsText old.groups new.groups uid
      → waiting_cards new ≡ waiting_cards old ++ lines ∷ [] → SameExpansion old new
      → AddsGroup uid lines old new

-- A member value is recorded: it names no card, a card that isn't a group, or a group.
pub data RecordsMember (cards : Cards) (value : List ℕ) (old new : Walk) : Type 0 where
  value_names_none : uid_named_by cards value ≡ None → GainsText old.missing new.missing value
      → new.people ≡ old.people → SameGroups old new → RecordsMember cards value old new
  value_names_person : (uid : List ℕ) (lines : List Line) → Names cards value uid lines
      → kind_of lines ≢ Group → GainsText old.people new.people uid → new.missing ≡ old.missing
      → SameGroups old new → RecordsMember cards value old new
  value_names_group : (uid : List ℕ) (lines : List Line) → Names cards value uid lines
      → kind_of lines ≡ Group → AddsGroup uid lines old new → RecordsMember cards value old new

-- ---- the invariant

-- The lines are those of the group, or of a group that it reaches.
pub record IsHolder (cards : Cards) (group : List ℕ) (lines : List Line) : Type 0 where
  pub uid : List ℕ
  pub is_holder : (uid ≡ group) ⊎ Reaches cards group uid
  pub card : finite.get cards uid ≡ Some lines
  pub is_group : kind_of lines ≡ Group

-- The group reaches everything that was found.
pub record FoundIsReachable (cards : Cards) (group : List ℕ) (walk : Walk) : Type 0 where
  pub people : (uid : List ℕ) → Contains walk.people uid → IsPerson cards group uid
  pub groups : (uid : List ℕ) → Contains walk.groups uid → (uid ≡ group) ⊎ Reaches cards group uid
  pub missing : (value : List ℕ) → Contains walk.missing value → IsMissing cards group value
  pub waiting : (lines : List Line) → Contains (waiting_cards walk) lines
      → IsHolder cards group lines

-- The walk has recorded what the value names, or the value if it names no card.
pub record IsRecorded (cards : Cards) (walk : Walk) (value : List ℕ) : Type 0 where
  pub group : (uid : List ℕ) (lines : List Line) → Names cards value uid lines
      → kind_of lines ≡ Group → Contains walk.groups uid
  pub other : (uid : List ℕ) (lines : List Line) → Names cards value uid lines
      → kind_of lines ≢ Group → Contains walk.people uid
  pub none : uid_named_by cards value ≡ None → Contains walk.missing value

pub record AreRecorded (cards : Cards) (walk : Walk) (values : List (List ℕ)) : Type 0 where
  pub each : (value : List ℕ) → Contains values value → IsRecorded cards walk value

-- The first group was found, and each group found waits or has all its members recorded.
pub record IsWalk (cards : Cards) (group : List ℕ) (walk : Walk) : Type 0 where
  pub reached : FoundIsReachable cards group walk
  pub started : Contains walk.groups group
  pub each_found : (uid : List ℕ) (lines : List Line) → Contains walk.groups uid
      → finite.get cards uid ≡ Some lines → Contains (waiting_cards walk) lines
      ⊎ AreRecorded cards walk (members_of lines)

-- The same, except for one group whose members are being recorded.
pub record IsOpenWalk (cards : Cards) (group : List ℕ) (open_group : List Line) (walk : Walk)
    : Type 0 where
  pub reached : FoundIsReachable cards group walk
  pub started : Contains walk.groups group
  pub holder : IsHolder cards group open_group
  pub each_found : (uid : List ℕ) (lines : List Line) → Contains walk.groups uid
      → finite.get cards uid ≡ Some lines → (lines ≡ open_group)
      ⊎ (Contains (waiting_cards walk) lines ⊎ AreRecorded cards walk (members_of lines))

-- the UIDs of the cards that aren't among the groups found
abbrev pub cards_not_found : Cards → List (List ℕ) → List (List ℕ)
cards_not_found cards groups =
    filter (λ uid. not (list_any (eq_by_cmp text_cmp uid) groups)) (finite.keys cards)

-- the number of groups that wait or may still be found
abbrev pub groups_left : Cards → Walk → ℕ
groups_left cards walk = length (cards_not_found cards walk.groups) + length (waiting_cards walk)

-- ---- at the end

-- The walk found exactly what the group reaches.
pub record IsCompleteWalk (cards : Cards) (group : List ℕ) (walk : Walk) : Type 0 where
  pub people : (uid : List ℕ) → Contains walk.people uid ↔ IsPerson cards group uid
  pub missing : (value : List ℕ) → Contains walk.missing value ↔ IsMissing cards group value
