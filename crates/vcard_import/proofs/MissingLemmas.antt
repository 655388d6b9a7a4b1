-- The lines with the FN and the UID that they lack are a card but perhaps for their length.
use Rattle.std.proofs.Common.{◌≡◌, ◌<◌, ◌+◌, ◌%◌, ◌/◌, ℕ, zero, suc, Bool, true, false, ◌||◌, ◌&&◌}
use Rattle.std.proofs.Common.{◌==◌, not, nat_le, List, [], ◌∷◌, ◌++◌, length, codes, None, Some, Ok}
use Rattle.std.proofs.Common.{refl, sym, ap, subst, ◌∙◌, append_assoc, IsUtf8, bytes_eq}
use Rattle.std.proofs.Common.{slice_index, arith, lit<}
use Rattle.std.specs.List.{AllByRecursion, list_any}
use Rattle.std.specs.Prelude.{if◌then◌else◌}
use Rattle.std.specs.Option.{option_map_or, option_or}
use Rattle.std.specs.Str.{IsAscii}
use Rattle.std.proofs.lemmas.Bool.Decides.{nat_tests}
use Rattle.std.proofs.lemmas.List.{append-nil, length-append}
use Rattle.std.proofs.lemmas.Nat.{mod_below}
use Rattle.std.proofs.lemmas.Str.{IsUtf8-from_ascii, IsAscii-append}
use Rattle.std.proofs.lemmas.Str.Ascii.{IsAscii-nil, IsAscii-cons}
use Rattle.std.proofs.lemmas.List.Folds.{find-append, list_any-append}
use Rattle.base_types.specs.Octets.{tab}
use Rattle.uuid.specs.Text.{by_index, hex_digit, lower, nibble, digit_place, is_hyphen_place}
use Rattle.uuid.specs.Text.{hyphenated_text, urn_text}
use Rattle.vcard_lines.specs.declared.line.Line.{Line}
use Rattle.vcard_lines.specs.Grammar.{AllInClass, is_name_octet, is_permitted}
use Rattle.vcard_lines.proofs.FrontLemmas.{name_is_ascii, of_class}
use Rattle.vcard_lines.proofs.LegalPartLemmas.{name_from_test}
use Rattle.vcard_text.specs.Cards.{IsProperLine, has_line_named, line_is_named, is_uid, kind_of}
use Rattle.vcard_text.specs.Cards.{kind_of_value, uid_of}
use Rattle.vcard_text.specs.declared.kind.Kind.TheVariants.{Individual}
use Rattle.vcard_text.specs.FirstFaults.{is_group}
use Rattle.vcard_text.specs.Making.{upper_line, upper_lines}
use Rattle.vcard_text.specs.MakingSteps.{check_lines_after}
use Rattle.vcard_text.specs.Scanning.{fault_if, ok_unless, body_line_fault, card_rules_fault}
use Rattle.vcard_lines.specs.declared.fault.CardFault.TheVariants.{BadUid, Twice, NoName, NoUid}
use Rattle.vcard_lines.specs.declared.fault.CardFault.TheVariants.{MemberOutsideGroup}
use Rattle.vcard_changes.specs.Lines.{plain_line}
use Rattle.vcard_values.proofs.ControlLemmas.{of-append}
use Rattle.vcard_changes.proofs.ProperLemmas.{plain_is_proper}
use Rattle.vcard_changes.specs.DerivedUid.{derived_uid, derived_uuid}
use Rattle.vcard_import.specs.Conversions.{missing_line, missing_lines}
use Rattle.vcard_import.specs.internal.Steps.{AreFaultless, ArePassed, found_uid, has_stray_members}
use Rattle.vcard_import.proofs.RuleLemmas.{line_is_free}
use Rattle.vcard_import.proofs.StepLemmas.{all_more, any_more, find_skips, passed_more}

-- ---- the UID of the octets

of_index : (class : ℕ → Bool) (n : ℕ) (f : ℕ → ℕ) → ((k : ℕ) → class (f k) ≡ true)
    → AllInClass class (by_index n f)
unfolding by_index
of_index class zero f h = tt
of_index class (suc n) f h = of-append class (by_index n f) (f n ∷ []) (of_index class n f h) (
  h n,
  tt,
)

length_by_index : (n : ℕ) (f : ℕ → ℕ) → length (by_index n f) ≡ n
unfolding by_index
length_by_index zero f = refl
length_by_index (suc n) f = grind (
  arith,
  length-append (by_index n f) (f n ∷ []),
  length_by_index n f,
)

hex_name : (d : ℕ) → d < 16 → is_name_octet (hex_digit lower d) ≡ true
hex_name d l = grind (arith, nat_tests, l)

half_below : (t : Bool) (a b : ℕ) → (if t then a % 16 else b % 16) < 16
half_below true a b = mod_below a 16 (lit< tt)
half_below false a b = mod_below b 16 (lit< tt)

uid_octet : (t : Bool) (d : ℕ) → d < 16 → is_name_octet (if t then 45 else hex_digit lower d) ≡ true
uid_octet true d l = refl
uid_octet false d l = hex_name d l

nibble_below : (xs : List ℕ) (k : ℕ) → nibble xs k < 16
nibble_below xs k = half_below (k % 2 == 0) (slice_index xs (k / 2) / 16) (slice_index xs (k / 2))

are_names : (xs : List ℕ) → AllInClass is_name_octet (hyphenated_text lower xs)
are_names xs = of_index is_name_octet 36 (λ k. if is_hyphen_place k then 45
    else hex_digit lower (nibble xs (digit_place k))) (λ k. uid_octet (is_hyphen_place k)
    (nibble xs (digit_place k)) (nibble_below xs (digit_place k)))

name_permitted : (b : ℕ) → is_name_octet b ≡ true → is_permitted b ≡ true
name_permitted b e = grind (arith, nat_tests)

names_permitted : (w : List ℕ) → AllInClass is_name_octet w → AllInClass is_permitted w
names_permitted [] a = tt
names_permitted (b ∷ w) a = (name_permitted b a.0, names_permitted w a.1)

name_is_no_tab : (b : ℕ) → is_name_octet b ≡ true → (b == tab) ≡ false
name_is_no_tab b e = grind (arith, nat_tests)

no_tab : (w : List ℕ) → AllInClass is_name_octet w → list_any (λ b. b == tab) w ≡ false
no_tab [] a = refl
no_tab (b ∷ w) a = ap (λ t. t || list_any (λ c. c == tab) w) (name_is_no_tab b a.0) ∙ no_tab w a.1

front_is_ascii : IsAscii (codes "urn:uuid:")
front_is_ascii = IsAscii-cons 117 (114 ∷ 110 ∷ 58 ∷ 117 ∷ 117 ∷ 105 ∷ 100 ∷ 58 ∷ []) (lit< tt)
    (IsAscii-cons 114 (110 ∷ 58 ∷ 117 ∷ 117 ∷ 105 ∷ 100 ∷ 58 ∷ []) (lit< tt)
    (IsAscii-cons 110 (58 ∷ 117 ∷ 117 ∷ 105 ∷ 100 ∷ 58 ∷ []) (lit< tt)
    (IsAscii-cons 58 (117 ∷ 117 ∷ 105 ∷ 100 ∷ 58 ∷ []) (lit< tt)
    (IsAscii-cons 117 (117 ∷ 105 ∷ 100 ∷ 58 ∷ []) (lit< tt) (IsAscii-cons 117 (105 ∷ 100 ∷ 58 ∷ [])
    (lit< tt) (IsAscii-cons 105 (100 ∷ 58 ∷ []) (lit< tt) (IsAscii-cons 100 (58 ∷ []) (lit< tt)
    (IsAscii-cons 58 [] (lit< tt) IsAscii-nil))))))))

uid_is_permitted : (xs : List ℕ) → AllInClass is_permitted (urn_text lower xs)
uid_is_permitted xs = of-append is_permitted (codes "urn:uuid:") (hyphenated_text lower xs)
    (of_class is_permitted (codes "urn:uuid:") refl) (names_permitted _ (are_names xs))

uid_is_utf8 : (xs : List ℕ) → IsUtf8 (urn_text lower xs)
uid_is_utf8 xs = IsUtf8-from_ascii _ (IsAscii-append (codes "urn:uuid:") (hyphenated_text lower xs)
    front_is_ascii (name_is_ascii _ (are_names xs)))

uid_length : (xs : List ℕ) → length (urn_text lower xs) ≡ 45
uid_length xs = length-append (codes "urn:uuid:") (hyphenated_text lower xs)
    ∙ ap (λ n. 9 + n) (length_by_index 36 (λ k. if is_hyphen_place k then 45
    else hex_digit lower (nibble xs (digit_place k))))

legal_by : (value : List ℕ) → length value ≡ 45 → list_any (λ b. b == tab) value ≡ false
    → is_uid value ≡ true
legal_by value l t = ap (λ n. nat_le 1 n && nat_le n 255 && not (list_any (λ b. b == tab) value)) l
    ∙ ap not t

uid_is_legal : (xs : List ℕ) → is_uid (urn_text lower xs) ≡ true
uid_is_legal xs = legal_by (urn_text lower xs) (uid_length xs) (list_any-append (λ b. b == tab)
    (codes "urn:uuid:") (hyphenated_text lower xs)
    ∙ no_tab (hyphenated_text lower xs) (are_names xs))

-- ---- one more line

record IsDone (lines : List Line) : Type 0 where
  proper : AllByRecursion IsProperLine lines
  passed : ArePassed lines
  stray : has_stray_members lines ≡ false

or_false : (t : Bool) → (t || false) ≡ t
or_false true = refl
or_false false = refl

has_same : (name : List ℕ) (lines : List Line) (line : Line) → line_is_named name line ≡ false
    → has_line_named name (lines ++ line ∷ []) ≡ has_line_named name lines
has_same name lines line e = any_more (line_is_named name) lines line
    ∙ ap (λ t. has_line_named name lines || t) e ∙ or_false _

stray_same : (lines : List Line) (line : Line) → line_is_named (codes "MEMBER") line ≡ false
    → line_is_named (codes "KIND") line ≡ false → has_stray_members (lines ++ line ∷ [])
    ≡ has_stray_members lines
stray_same lines line m k =
    ap (λ t. t && not (is_group (kind_of (lines ++ line ∷ [])))) (has_same (codes "MEMBER") lines
    line m)
    ∙ ap (λ f. has_line_named (codes "MEMBER") lines
    && not (is_group (option_map_or (λ line. kind_of_value line.value) f Individual)))
    (find_skips (line_is_named (codes "KIND")) lines line k)

done_more : (lines : List Line) (line : Line) → IsDone lines → IsProperLine line
    → body_line_fault lines line ≡ None → line_is_named (codes "MEMBER") line ≡ false
    → line_is_named (codes "KIND") line ≡ false → IsDone (lines ++ line ∷ [])
done_more lines line d p e m k = record {
  proper = all_more lines line d.proper p;
  passed = passed_more lines line d.passed (line_is_free lines line p e);
  stray = stray_same lines line m k ∙ d.stray;
}

name_fault : (lines : List Line) (value : List ℕ)
    → body_line_fault lines (plain_line (codes "FN") value) ≡ None
unfolding body_line_fault
name_fault lines value = refl

uid_fault : (lines : List Line) (value : List ℕ) → is_uid value ≡ true
    → has_line_named (codes "UID") lines ≡ false
    → body_line_fault lines (plain_line (codes "UID") value) ≡ None
unfolding body_line_fault
uid_fault lines value u h =
    ap (λ t. fault_if (not t) BadUid (fault_if (has_line_named (codes "UID") lines || false) Twice
    None)) u
    ∙ ap (λ t. fault_if (t || false) Twice None) h

name_is_proper : (value : List ℕ) → AllInClass is_permitted value → IsUtf8 value
    → IsProperLine (plain_line (codes "FN") value)
name_is_proper value p u = plain_is_proper (codes "FN") value (name_from_test (codes "FN") refl)
    refl p u

uid_is_proper : (xs : List ℕ) → IsProperLine (plain_line (codes "UID") (urn_text lower xs))
uid_is_proper xs = plain_is_proper (codes "UID") (urn_text lower xs) (name_from_test (codes "UID")
    refl) refl (uid_is_permitted xs) (uid_is_utf8 xs)

-- ---- the FN and the UID

-- the lines have the name, and the others that they had
record Has (name : List ℕ) (lines more : List Line) : Type 0 where
  done : IsDone more
  has : has_line_named name more ≡ true
  others : (other : List ℕ) → line_is_named other (plain_line name []) ≡ false
      → has_line_named other more ≡ has_line_named other lines

abbrev missing_if : Bool → List ℕ → List ℕ → List Line
missing_if has name value = if has then [] else plain_line name value ∷ []

with_line : (name value : List ℕ) (lines : List Line) (has : Bool) → has_line_named name lines ≡ has
    → IsDone lines → (has_line_named name lines ≡ false
    → IsDone (lines ++ plain_line name value ∷ [])) → bytes_eq name name ≡ true
    → Has name lines (lines ++ missing_if has name value)
with_line name value lines true h d more same = record {
  done = subst IsDone (sym (append-nil lines)) d;
  has = ap (has_line_named name) (append-nil lines) ∙ h;
  others = λ other e. ap (has_line_named other) (append-nil lines);
}
with_line name value lines false h d more same = record {
  done = more h;
  has = any_more (line_is_named name) lines (plain_line name value)
      ∙ ap (λ t. has_line_named name lines || t) same ∙ or_true (has_line_named name lines);
  others = λ other e. has_same other lines (plain_line name value) e;
}
  where
    or_true : (t : Bool) → (t || true) ≡ true
    or_true true = refl
    or_true false = refl

with_name : (value : List ℕ) (lines : List Line) → IsDone lines → AllInClass is_permitted value
    → IsUtf8 value → Has (codes "FN") lines (lines ++ missing_line (codes "FN") value lines)
with_name value lines d p u = with_line (codes "FN") value lines (has_line_named (codes "FN") lines)
    refl d (λ h. done_more lines (plain_line (codes "FN") value) d (name_is_proper value p u)
    (name_fault lines value) refl refl) refl

with_uid : (xs : List ℕ) (lines : List Line) (has : Bool) → has_line_named (codes "UID") lines ≡ has
    → IsDone lines → Has (codes "UID") lines (lines ++ missing_if has (codes "UID")
    (urn_text lower xs))
with_uid xs lines has h d = with_line (codes "UID") (urn_text lower xs) lines has h d
    (λ n. done_more lines (plain_line (codes "UID") (urn_text lower xs)) d (uid_is_proper xs)
    (uid_fault lines (urn_text lower xs) (uid_is_legal xs) n) refl refl) refl

rules_kept : (lines : List Line) → has_line_named (codes "FN") lines ≡ true
    → has_line_named (codes "UID") lines ≡ true → has_stray_members lines ≡ false
    → card_rules_fault lines ≡ None
unfolding card_rules_fault
rules_kept lines f u s =
    ap (λ t. fault_if (not t) NoName (fault_if (not (has_line_named (codes "UID") lines)) NoUid
    (fault_if (has_stray_members lines) MemberOutsideGroup None))) f
    ∙ ap (λ t. fault_if (not t) NoUid (fault_if (has_stray_members lines) MemberOutsideGroup None))
    u
    ∙ ap (λ t. fault_if t MemberOutsideGroup None) s

checked_all : (lines : List Line) → ArePassed lines → card_rules_fault lines ≡ None
    → check_lines_after [] lines ≡ Ok lines
unfolding check_lines_after
checked_all lines p r = ap (check_lines_after []) (sym (append-nil lines)) ∙ p []
    ∙ ap (λ f. ok_unless f lines) r

upper_stays : (lines : List Line) → AllByRecursion IsProperLine lines → upper_lines lines ≡ lines
upper_stays [] a = refl
upper_stays (line ∷ lines) a =
    let first : upper_line line ≡ line =
    ap (λ name. record {
      group = line.group;
      name = name;
      params = line.params;
      value = line.value;
    }) (sym a.0.upper) in
    ap (λ l. l ∷ upper_lines lines) first ∙ ap (λ ls. line ∷ ls) (upper_stays lines a.1)

pub all_are_faultless : (octets value : List ℕ) (lines : List Line)
    → AllByRecursion IsProperLine lines → ArePassed lines → has_stray_members lines ≡ false
    → AllInClass is_permitted value → IsUtf8 value
    → AreFaultless (lines ++ missing_lines octets value lines)
all_are_faultless octets value lines proper passed stray permitted utf8 =
    let fn = missing_line (codes "FN") value lines in
    let named : Has (codes "FN") lines (lines ++ fn) =
    with_name value lines (record { proper = proper; passed = passed; stray = stray }) permitted
    utf8 in
    let uid = missing_line (codes "UID") (derived_uid octets) lines in
    let whole : Has (codes "UID") (lines ++ fn) ((lines ++ fn) ++ uid) =
    with_uid (derived_uuid octets) (lines ++ fn) (has_line_named (codes "UID") lines)
    (named.others (codes "UID") refl) named.done in
    let has_fn : has_line_named (codes "FN") ((lines ++ fn) ++ uid) ≡ true =
    whole.others (codes "FN") refl ∙ named.has in
    subst AreFaultless (append_assoc lines fn uid) (record {
      upper = upper_stays ((lines ++ fn) ++ uid) whole.done.proper;
      checked = checked_all ((lines ++ fn) ++ uid) whole.done.passed
          (rules_kept ((lines ++ fn) ++ uid) has_fn whole.has whole.done.stray);
    })

pub uid_stays : (lines more : List Line) (line : Line) → found_uid lines ≡ Some line
    → uid_of (lines ++ more) ≡ line.value
uid_stays lines more line e =
    ap (λ f. option_map_or (λ line. line.value) f []) (find-append (line_is_named (codes "UID"))
    lines more ∙ ap (λ f. option_or f (found_uid more)) e)
