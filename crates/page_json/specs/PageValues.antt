-- The JSON of a page (RFC 8259), with the statuses that RFC 6578, section 3.6, gives to members.
-- The names in it are this project's own.
use Rattle.std.specs.Prelude.{ℕ, ◌≡◌, List, [], ◌∷◌, codes, map}
use Rattle.serde_json.specs.Data.{Data, number, unsigned, string, boolean, array, object}
use Rattle.serde_json.specs.Data.{member as with_member, no_members}
use Rattle.serde_json.specs.View.{items_of}
use Rattle.page_json.specs.PageTexts.{MemberTexts, changed, removed, PageTexts, HasVersion}

-- the status of a member that is live (RFC 9110, section 15.3.1)
abbrev pub status_ok : ℕ
status_ok = 200

-- the status of a member that was removed (RFC 9110, section 15.5.5)
abbrev pub status_not_found : ℕ
status_not_found = 404

-- `{"card":..,"status":..,"uid":..,"version":..}`
abbrev pub changed_object : Data → Data → Data → Data → Data
changed_object card status uid version =
    object (with_member (codes "card") card (with_member (codes "status") status
    (with_member (codes "uid") uid (with_member (codes "version") version no_members))))

-- `{"status":..,"uid":..}`
abbrev pub removed_object : Data → Data → Data
removed_object status uid =
    object (with_member (codes "status") status (with_member (codes "uid") uid no_members))

-- `{"members":..,"token":..,"truncated":..}`
abbrev pub page_object : Data → Data → Data → Data
page_object members token truncated =
    object (with_member (codes "members") members (with_member (codes "token") token
    (with_member (codes "truncated") truncated no_members)))

abbrev pub member_value : MemberTexts → Data
member_value (changed uid version text) =
    changed_object (string text) (number (unsigned status_ok)) (string uid)
    (number (unsigned version))
member_value (removed uid) = removed_object (number (unsigned status_not_found)) (string uid)

-- The value encodes the member: exactly these keys, these types of values, this status, and a
-- version within its bounds.
pub record EncodesMember (value : Data) (member : MemberTexts) : Type 0 where
  pub form : value ≡ member_value member
  pub version : HasVersion member

-- The values encode the members, one for one.
abbrev pub EncodeMembers : List Data → List MemberTexts → Type 0
EncodeMembers [] [] = Unit {0}
EncodeMembers [] (member ∷ members) = ⊥
EncodeMembers (value ∷ values) [] = ⊥
EncodeMembers (value ∷ values) (member ∷ members) =
    EncodesMember value member × EncodeMembers values members

-- The value has the shape of a page, and encodes these texts.
pub record HasPageShape (value : Data) (page : PageTexts) : Type 0 where
  pub members : List Data
  pub form : value ≡ page_object (array (items_of members)) (string page.token)
      (boolean page.truncated)
  pub each : EncodeMembers members page.members

-- the JSON value of a page
abbrev pub page_value : PageTexts → Data
page_value page =
    page_object (array (items_of (map member_value page.members))) (string page.token)
    (boolean page.truncated)
