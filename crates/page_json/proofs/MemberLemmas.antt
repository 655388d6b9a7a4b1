-- Members: what a value and a list of values encode, and which entries members describe.
use Rattle.std.proofs.Common.{◌≡◌, ◌<◌, ◌+◌, ℕ, zero, suc, List, [], ◌∷◌, ◌++◌, length, map, take}
use Rattle.std.proofs.Common.{drop, get_or, Bool, Option, Some, None, IfNone, refl, sym, ap, ap₂}
use Rattle.std.proofs.Common.{subst, ◌∙◌, add-one, arith}
use Rattle.std.proofs.Math.Seq.{take-suc, split_at}
use Rattle.std.proofs.lemmas.List.{map-append}
use Rattle.serde_json.specs.Data.{Data, Items, array, boolean, string}
use Rattle.serde_json.specs.View.{items_of, items_view, view}
use Rattle.serde_json.specs.declared.value.Value.{Value}
use Rattle.book_model.specs.declared.page.Entry.{Entry}
use Rattle.page_json.specs.declared.fault.ReportFault.{ReportFault}
use Rattle.page_json.specs.declared.member.Member.{Member}
use Rattle.page_json.specs.PageTexts.{MemberTexts, changed, removed, PageTexts, DescribeEntries}
use Rattle.page_json.specs.PageTexts.{DescribesEntry}
use Rattle.page_json.specs.PageValues.{HasPageShape, EncodeMembers, EncodesMember, page_object}
use Rattle.page_json.specs.FirstFaults.{IsFirstMemberFault, HasMemberFault}
use Rattle.page_json.specs.internal.ParsedTexts.{texts_of}

pub none_map : {A P Q : Type 0} (r : Option A) → (P → Q) → IfNone r P → IfNone r Q
none_map None f p = f p
none_map (Some x) f p = tt

-- a value that encodes neither a live nor a removed member encodes none
pub encodes_neither : (value : Data) → ((uid text : List ℕ) (version : ℕ)
    → EncodesMember value (changed uid version text) → ⊥)
    → ((uid : List ℕ) → EncodesMember value (removed uid) → ⊥) → (texts : MemberTexts)
    → EncodesMember value texts → ⊥
encodes_neither value live gone (changed uid version text) = live uid text version
encodes_neither value live gone (removed uid) = gone uid

-- ---- lists

take_more : {A : Type 0} (xs : List A) (i : ℕ) (x d : A) → i < length xs → x ≡ get_or xs i d
    → take (i + 1) xs ≡ take i xs ++ x ∷ []
take_more xs i x d within is = ap (λ n. take n xs) (add-one i) ∙ take-suc xs i d within
    ∙ ap (λ y. take i xs ++ y ∷ []) (sym is)

-- ---- what values encode, one after another

encode_append : (ds : List Data) (ms : List MemberTexts) (d : Data) (m : MemberTexts)
    → EncodeMembers ds ms → EncodesMember d m → EncodeMembers (ds ++ d ∷ []) (ms ++ m ∷ [])
encode_append [] [] d m said more = (more, tt)
encode_append [] (n ∷ ms) d m said more = absurd said
encode_append (e ∷ ds) [] d m said more = absurd said
encode_append (e ∷ ds) (n ∷ ms) d m said more = (said.0, encode_append ds ms d m said.1 more)

pub one_more_encoded : (values : List Value) (i : ℕ) (value : Value) (members : List Member)
    (member : Member) → i < length values → value ≡ get_or values i value
    → EncodeMembers (map view (take i values)) (map texts_of members)
    → EncodesMember (view value) (texts_of member) → EncodeMembers (map view (take (i + 1) values))
    (map texts_of (members ++ member ∷ []))
one_more_encoded values i value members member within is said more =
    rw (
      take_more values i value value within is,
      map-append view (take i values) (value ∷ []),
      map-append texts_of members (member ∷ []),
    )
    (encode_append (map view (take i values)) (map texts_of members) (view value) (texts_of member)
    said more)

-- values encode no members where one of them encodes none
pub none_encoded : (values : List Value) (i : ℕ) (value : Value) → i < length values
    → value ≡ get_or values i value → ((texts : MemberTexts) → EncodesMember (view value) texts → ⊥)
    → (members : List MemberTexts) → EncodeMembers (map view values) members → ⊥
none_encoded [] i value within is none members said = absurd (omega (arith, within))
none_encoded (v ∷ vs) i value within is none [] said = said
none_encoded (v ∷ vs) zero value within is none (m ∷ ms) said =
    none m (subst (λ x. EncodesMember (view x) m) (sym is) said.0)
none_encoded (v ∷ vs) (suc i) value within is none (m ∷ ms) said =
    none_encoded vs i value (omega (arith, within)) is none ms said.1

-- ---- the shape of a page

pub items_one : (ds es : List Data) → items_of ds ≡ items_of es → ds ≡ es
items_one [] [] e = refl
items_one [] (x ∷ es) e = absurd (cc e)
items_one (d ∷ ds) [] e = absurd (cc e)
items_one (d ∷ ds) (x ∷ es) e = ap₂ (λ y ys. y ∷ ys) (cc e) (items_one ds es (cc e))

pub same_parts : (ds es : Items) (s t : List ℕ) (a b : Bool)
    → page_object (array ds) (string s) (boolean a) ≡ page_object (array es) (string t) (boolean b)
    → (ds ≡ es) × (s ≡ t) × (a ≡ b)
same_parts ds es s t a b e = (cc e, cc e, cc e)

pub no_shape : (value : Data) (values : List Value) (token : List ℕ) (truncated : Bool)
    → value ≡ page_object (array (items_view values)) (string token) (boolean truncated)
    → ((members : List MemberTexts) → EncodeMembers (map view values) members → ⊥)
    → (page : PageTexts) → HasPageShape value page → ⊥
no_shape value values token truncated is none page shape =
    let same = same_parts (items_of shape.members) (items_view values) page.token token
    page.truncated truncated (sym shape.form ∙ is) in
    none page.members (subst (λ ds. EncodeMembers ds page.members)
    (items_one shape.members (map view values) same.0) shape.each)

-- ---- the entries that members describe, one after another

describe_append : (ms : List MemberTexts) (es : List Entry) (m : MemberTexts) (e : Entry)
    → DescribeEntries ms es → DescribesEntry m e → DescribeEntries (ms ++ m ∷ []) (es ++ e ∷ [])
describe_append [] [] m e described more = (more, tt)
describe_append [] (x ∷ es) m e described more = absurd described
describe_append (n ∷ ms) [] m e described more = absurd described
describe_append (n ∷ ms) (x ∷ es) m e described more =
    (described.0, describe_append ms es m e described.1 more)

pub one_more_described : (members : List Member) (i : ℕ) (d : Member) (entries : List Entry)
    (entry : Entry) → i < length members → DescribeEntries (map texts_of (take i members)) entries
    → DescribesEntry (texts_of (get_or members i d)) entry
    → DescribeEntries (map texts_of (take (i + 1) members)) (entries ++ entry ∷ [])
one_more_described members i d entries entry within described more =
    let member = get_or members i d in
    rw (
      take_more members i member d within refl,
      map-append texts_of (take i members) (member ∷ []),
    )
    (describe_append (map texts_of (take i members)) entries (texts_of member) entry described more)

pub first_faulty : (members : List Member) (i : ℕ) (d : Member) (entries : List Entry) (fault :
    ReportFault) → i < length members → DescribeEntries (map texts_of (take i members)) entries
    → HasMemberFault (texts_of (get_or members i d)) fault
    → IsFirstMemberFault (map texts_of members) fault
first_faulty members i d entries fault within described has = record {
  before = map texts_of (take i members);
  faulty = texts_of (get_or members i d);
  others = map texts_of (drop (suc i) members);
  members_are = ap (map texts_of) (split_at members i d within)
      ∙ map-append texts_of (take i members) (get_or members i d ∷ drop (suc i) members);
  entries = entries;
  described = described;
  has_fault = has;
}
