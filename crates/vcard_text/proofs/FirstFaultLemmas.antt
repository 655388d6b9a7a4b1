-- The first fault that the scan finds is the first fault of the text, and there is no other. Given
-- here: inductions over the logical lines, from any place of the scan on (`finds`, `pass`). Their
-- invariant `IsScanPlace` ties the place, and the lines of the card so far, to the lines before.
use Rattle.std.proofs.Common.{◌≡◌, ◌⊎◌, ◌↔◌, ℕ, ◌<◌, ◌≤◌, Bool, true, false, cond, ◌||◌, ◌&&◌}
use Rattle.std.proofs.Common.{nat_le, List, [], ◌∷◌, ◌++◌, length, find, bytes_eq, Option, Some}
use Rattle.std.proofs.Common.{None, Result, Ok, Err, inl, inr, ⊎_elim, refl, sym, ap, subst, ◌∙◌}
use Rattle.std.proofs.Common.{append_assoc, arith}
use Rattle.std.specs.Prelude.{not, codes}
use Rattle.std.specs.Option.{option_map_or}
use Rattle.std.specs.List.{list_any}
use Rattle.std.specs.Str.{is_utf8}
use Rattle.std.proofs.lemmas.Bool.{cases_Bool, leb-true, le-leb, both_ways}
use Rattle.std.proofs.lemmas.List.{append-nil}
use Rattle.std.proofs.lemmas.Str.{IsUtf8-from_is_utf8, is_utf8-from_IsUtf8}
use Rattle.vcard_lines.specs.declared.fault.CardFault.{CardFault}
use Rattle.vcard_lines.specs.declared.fault.CardFault.TheVariants.{TooLong, NotUtf8, NoEnd, NoName}
use Rattle.vcard_lines.specs.declared.fault.CardFault.TheVariants.{NoUid, MemberOutsideGroup}
use Rattle.vcard_text.specs.declared.kind.Kind.TheVariants.{Individual}
use Rattle.vcard_lines.specs.declared.line.Line.{Line}
use Rattle.vcard_text.specs.declared.scan.Place.{Place}
use Rattle.vcard_text.specs.declared.scan.Place.TheVariants.{First, Second, Body, After}
use Rattle.vcard_text.specs.declared.scan.Scan.{Scan}
use Rattle.vcard_text.specs.Bounds.{text_octets_max}
use Rattle.vcard_lines.specs.ParseSteps.{◌>>=◌}
use Rattle.vcard_lines.specs.Grammar.{SpellsLine}
use Rattle.vcard_lines.specs.Parsing.{parse_line}
use Rattle.vcard_lines.specs.Unfolding.{logical_lines}
use Rattle.vcard_text.specs.Cards.{line_is_named, has_line_named, kind_of_value, kind_of}
use Rattle.vcard_text.specs.Cards.{canonical_text}
use Rattle.vcard_text.specs.Spelling.{is_end, without_bom, Spells}
use Rattle.vcard_text.specs.FirstFaults.{IsLeastFault, line_breaks_rule, LogicalLineHasFault}
use Rattle.vcard_text.specs.FirstFaults.{AreFaultlessLogicalLines, IsOfFirstFaultyLine, is_group}
use Rattle.vcard_text.specs.FirstFaults.{text_breaks_rule, IsOfWholeText, HasLogicalLines}
use Rattle.vcard_text.specs.FirstFaults.{IsFirstFaultOfText, of_length, of_encoding, of_line}
use Rattle.vcard_text.specs.FirstFaults.{of_whole, of_canonical}
use Rattle.vcard_text.specs.Scanning.{scan_at, fault_if, line_fault, next_scan, ok_unless}
use Rattle.vcard_text.specs.Scanning.{scan_logical_line, card_rules_fault, end_of_text_fault}
use Rattle.vcard_text.specs.Scanning.{scan_from, scan_card, check_length}
use Rattle.vcard_text.specs.CardOfText.{card_of_text, result_fault, first_fault_of_text}
use Rattle.vcard_lines.proofs.BlockLemmas.{are_logical_lines, one_reading}
use Rattle.vcard_lines.proofs.LineLemmas.{line_found, line_again}
use Rattle.vcard_text.proofs.CardLemmas.{card_found, card_again}
use Rattle.vcard_text.proofs.TextLemmas.{of_short_text, of_no_utf8, of_long_text}
use Rattle.vcard_text.proofs.TextLemmas.{spells_without_fault}
use Rattle.vcard_text.proofs.LeastLemmas.{least_of, found_or_none, least_found, least_again}
use Rattle.vcard_text.proofs.LeastLemmas.{one_least}
use Rattle.vcard_text.proofs.FaultyLineLemmas.{AreBefore, AreBeforeLast, IsScanPlace, other_name}
use Rattle.vcard_text.proofs.FaultyLineLemmas.{bracket_name, version_name, end_after, named_after}
use Rattle.vcard_text.proofs.FaultyLineLemmas.{any_append, has_ended, same_fault, at_next_place}
use Rattle.vcard_text.proofs.FaultyLineLemmas.{least_of_spelled, spelled_least, spelled_none}
use Rattle.vcard_text.proofs.FaultyLineLemmas.{none_spelled, least_of_unread}
use Rattle.base_types.proofs.BoolLemmas.{or_false}

-- ---- the whole

find_append : (p : Line → Bool) (xs : List Line) (x : Line) → p x ≡ false
    → find p (xs ++ x ∷ []) ≡ find p xs
find_append p [] x e = ap (λ b. cond b (Some x) None) e
find_append p (y ∷ ys) x e = ap (λ o. cond (p y) (Some y) o) (find_append p ys x e)

module _ (lines before : List Line) (a : AreBeforeLast lines before) where
  named_within : (name : List ℕ) → bytes_eq (codes "BEGIN") name ≡ false
      → bytes_eq (codes "VERSION") name ≡ false → bytes_eq (codes "END") name ≡ false
      → has_line_named name before ≡ has_line_named name lines
  named_within name b v e =
      ap (has_line_named name) a.are
      ∙ named_after a.begin a.version (lines ++ a.last ∷ []) a.is_begin_line a.is_version_line name
      b v
      ∙ any_append (line_is_named name) lines (a.last ∷ [])
      ∙ ap (λ t. has_line_named name lines || (t || false)) (other_name a.last (codes "END") name e
      (bracket_name (codes "END") a.last a.is_end_line))
      ∙ or_false (has_line_named name lines)

  kind_within : kind_of before ≡ kind_of lines
  kind_within =
      ap kind_of a.are
      ∙ ap (λ b. option_map_or (λ line. kind_of_value line.value)
      (cond b (Some a.begin) (find (line_is_named (codes "KIND"))
      (a.version ∷ (lines ++ a.last ∷ [])))) Individual) (other_name a.begin (codes "BEGIN")
      (codes "KIND") refl (bracket_name (codes "BEGIN") a.begin a.is_begin_line))
      ∙ ap (λ b. option_map_or (λ line. kind_of_value line.value)
      (cond b (Some a.version) (find (line_is_named (codes "KIND")) (lines ++ a.last ∷ [])))
      Individual) (other_name a.version (codes "VERSION") (codes "KIND") refl
      (version_name a.version a.is_version_line))
      ∙ ap (λ o. option_map_or (λ line. kind_of_value line.value) o Individual)
      (find_append (line_is_named (codes "KIND")) lines a.last (other_name a.last (codes "END")
      (codes "KIND") refl (bracket_name (codes "END") a.last a.is_end_line)))

-- the first fault of a whole whose tests are these
abbrev by_tests : Bool → Bool → Bool → Bool → Option CardFault
by_tests ended named identified grouped =
    fault_if (not ended) NoEnd (fault_if (not named) NoName (fault_if (not identified) NoUid
    (fault_if grouped MemberOutsideGroup None)))

same_tests : (a b c d a' b' c' d' : Bool) → a ≡ a' → b ≡ b' → c ≡ c' → d ≡ d'
    → by_tests a b c d ≡ by_tests a' b' c' d'
same_tests a b c d a' b' c' d' p q r s = ap (λ x. by_tests x b c d) p
    ∙ ap (λ x. by_tests a' x c d) q ∙ ap (λ x. by_tests a' b' x d) r
    ∙ ap (λ x. by_tests a' b' c' x) s

same_whole : (place : Place) (lines before : List Line) → IsScanPlace place lines before
    → end_of_text_fault place lines ≡ least_of (text_breaks_rule before)
unfolding end_of_text_fault card_rules_fault
same_whole First lines before s = sym (ap (λ b. least_of (text_breaks_rule b)) s.1)
same_whole Second lines before s = sym (ap (λ b. least_of (text_breaks_rule b)) s.1.2)
same_whole Body lines before a =
    let rest : List Line = a.begin ∷ a.version ∷ lines in
    sym (ap (λ b. least_of (text_breaks_rule b)) a.are
    ∙ ap (λ b. by_tests b (has_line_named (codes "FN") rest) (has_line_named (codes "UID") rest)
    (has_line_named (codes "MEMBER") rest && not (is_group (kind_of rest)))) (none_ended a))
  where
    none_ended : (b : AreBefore lines before) → list_any is_end (b.begin ∷ b.version ∷ lines)
        ≡ false
    none_ended b = end_after b.begin b.version lines b.is_begin_line b.is_version_line ∙ b.no_end
same_whole After lines before a =
    let rest : List Line = a.begin ∷ a.version ∷ (lines ++ a.last ∷ []) in
    sym (ap (λ b. least_of (text_breaks_rule b)) a.are
    ∙ same_tests (list_any is_end rest) (has_line_named (codes "FN") rest)
    (has_line_named (codes "UID") rest) (has_line_named (codes "MEMBER") rest
    && not (is_group (kind_of rest)))
    true (has_line_named (codes "FN") lines) (has_line_named (codes "UID") lines)
    (has_line_named (codes "MEMBER") lines && not (is_group (kind_of lines)))
    (ap (list_any is_end) (sym a.are) ∙ has_ended lines before a)
    (ap (has_line_named (codes "FN")) (sym a.are) ∙ named_within lines before a (codes "FN") refl
    refl refl)
    (ap (has_line_named (codes "UID")) (sym a.are) ∙ named_within lines before a (codes "UID") refl
    refl refl)
    (ap (λ b. has_line_named (codes "MEMBER") b && not (is_group (kind_of b))) (sym a.are)
    ∙ ap (λ t. t && not (is_group (kind_of before))) (named_within lines before a (codes "MEMBER")
    refl refl refl)
    ∙ ap (λ k. has_line_named (codes "MEMBER") lines && not (is_group k))
    (kind_within lines before a)))

-- ---- what is found from a line on

record IsOfFaultyLineFrom (start : List Line) (logical : List (List ℕ)) (fault : CardFault) :
    Type 0 where
  before : List (List ℕ)
  faulty : List ℕ
  others : List (List ℕ)
  logical_are : logical ≡ before ++ faulty ∷ others
  lines : List Line
  faultless : AreFaultlessLogicalLines start before lines
  least : IsLeastFault (LogicalLineHasFault (start ++ lines) faulty) fault

record IsOfWholeFrom (start : List Line) (logical : List (List ℕ)) (fault : CardFault) :
    Type 0 where
  lines : List Line
  faultless : AreFaultlessLogicalLines start logical lines
  least : IsLeastFault (λ other. text_breaks_rule (start ++ lines) other ≡ true) fault

abbrev IsFoundFrom : List Line → List (List ℕ) → CardFault → Type 0
IsFoundFrom start logical fault = IsOfFaultyLineFrom start logical fault
    ⊎ IsOfWholeFrom start logical fault

goes_on : (start : List Line) (text : List ℕ) (texts : List (List ℕ)) (line : Line) (fault :
    CardFault) → SpellsLine text line → ((f : CardFault) → LogicalLineHasFault start text f → ⊥)
    → IsFoundFrom (start ++ line ∷ []) texts fault → IsFoundFrom start (text ∷ texts) fault
goes_on start text texts line fault s none found = ⊎_elim
    (λ r. inl (record {
      before = text ∷ r.before;
      faulty = r.faulty;
      others = r.others;
      logical_are = ap (λ ts. text ∷ ts) r.logical_are;
      lines = line ∷ r.lines;
      faultless = (s, none, r.faultless);
      least = subst (λ ls. IsLeastFault (LogicalLineHasFault ls r.faulty) fault)
          (append_assoc start (line ∷ []) r.lines) r.least;
    }))
    (λ w. inr (record {
      lines = line ∷ w.lines;
      faultless = (s, none, w.faultless);
      least = subst (λ ls. IsLeastFault (λ other. text_breaks_rule ls other ≡ true) fault)
          (append_assoc start (line ∷ []) w.lines) w.least;
    }))
    found

pub same_err : {A : Type 0} (e fault : CardFault) → ◌≡◌ {A = Result A CardFault} (Err e) (Err fault)
    → e ≡ fault
same_err e fault h = cc

pub unless_err : {A : Type 0} (o : Option CardFault) (x : A) (fault : CardFault)
    → ok_unless o x ≡ Err fault → o ≡ Some fault
unless_err None x fault e = absurd (cc)
unless_err (Some f) x fault e = ap (λ g. Some g) (same_err f fault e)

abbrev card_after : Result Scan CardFault → List (List ℕ) → Result (List Line) CardFault
card_after r texts = r >>= λ t. scan_from t texts

at_faulty : (start : List Line) (text : List ℕ) (texts : List (List ℕ)) (fault : CardFault)
    → IsLeastFault (LogicalLineHasFault start text) fault → IsFoundFrom start (text ∷ texts) fault
at_faulty start text texts fault l = inl (record {
  before = [];
  faulty = text;
  others = texts;
  logical_are = refl;
  lines = [];
  faultless = tt;
  least = subst (λ ls. IsLeastFault (LogicalLineHasFault ls text) fault) (sym (append-nil start)) l;
})

abbrev FindsFrom : List (List ℕ) → CardFault → Type 0
FindsFrom texts fault = (place : Place) (lines before : List Line) → IsScanPlace place lines before
    → scan_from (scan_at place lines) texts ≡ Err fault → IsFoundFrom before texts fault

module _ (place : Place) (lines before : List Line) (s : IsScanPlace place lines before) (text :
    List ℕ) (texts : List (List ℕ)) (fault : CardFault) (more : FindsFrom texts fault) where
  after_line : (line : Line) → SpellsLine text line → (o : Option CardFault)
      → line_fault place lines line ≡ o → card_after (ok_unless o (next_scan place lines line))
      texts ≡ Err fault → IsFoundFrom before (text ∷ texts) fault
  after_line line l (Some f) e h =
      at_faulty before text texts fault (least_of_spelled before text line fault l
      (sym (same_fault place lines before s line) ∙ e ∙ ap (λ g. Some g) (same_err f fault h)))
  after_line line l None e h =
      goes_on before text texts line fault l (none_spelled before text line l
      (sym (same_fault place lines before s line) ∙ e))
      (more (next_scan place lines line).place (next_scan place lines line).lines
      (before ++ line ∷ []) (at_next_place place lines before s line e) h)

  by_reading : (r : Result Line CardFault) → parse_line text ≡ r
      → card_after (r >>= λ line. ok_unless (line_fault place lines line)
      (next_scan place lines line)) texts ≡ Err fault → IsFoundFrom before (text ∷ texts) fault
  by_reading (Err e) is h = at_faulty before text texts fault (least_of_unread before text fault (is
      ∙ ap (λ f. Err f) (same_err e fault h)))
  by_reading (Ok line) is h = after_line line (line_found text line is)
      (line_fault place lines line) refl h

finds : (texts : List (List ℕ)) (fault : CardFault) → FindsFrom texts fault
unfolding scan_from scan_logical_line
finds [] fault place lines before s e = inr (record {
  lines = [];
  faultless = tt;
  least = subst (λ ls. IsLeastFault (λ other. text_breaks_rule ls other ≡ true) fault)
      (sym (append-nil before))
      (least_found (text_breaks_rule before) fault (sym (same_whole place lines before s)
      ∙ unless_err (end_of_text_fault place lines) lines fault e));
})
finds (text ∷ texts) fault place lines before s e =
    by_reading place lines before s text texts fault (finds texts fault) (parse_line text) refl e

-- ---- the converse

-- where lines without a fault end
record Passes (place : Place) (lines before : List Line) (texts : List (List ℕ)) (spelled :
    List Line) : Type 0 where
  to : Place
  among : List Line
  at_place : IsScanPlace to among (before ++ spelled)
  rest_is : (rest : List (List ℕ)) → scan_from (scan_at place lines) (texts ++ rest)
      ≡ scan_from (scan_at to among) rest

taken : (place : Place) (lines before : List Line) → IsScanPlace place lines before
    → (text : List ℕ) (line : Line) → SpellsLine text line → (o : Option CardFault)
    → least_of (line_breaks_rule before line) ≡ o → scan_logical_line (scan_at place lines) text
    ≡ ok_unless o (next_scan place lines line)
unfolding scan_logical_line
taken place lines before s text line l o e =
    ap (λ (r : Result Line CardFault). r >>= λ x. ok_unless (line_fault place lines x)
    (next_scan place lines x)) (line_again text line l)
    ∙ ap (λ f. ok_unless f (next_scan place lines line)) (same_fault place lines before s line ∙ e)

pass : (texts : List (List ℕ)) (place : Place) (lines before spelled : List Line)
    → IsScanPlace place lines before → AreFaultlessLogicalLines before texts spelled
    → Passes place lines before texts spelled
unfolding scan_from
pass [] place lines before [] s f = record {
  to = place;
  among = lines;
  at_place = subst (IsScanPlace place lines) (sym (append-nil before)) s;
  rest_is = λ rest. refl;
}
pass [] place lines before (line ∷ spelled) s f = absurd f
pass (text ∷ texts) place lines before [] s f = absurd f
pass (text ∷ texts) place lines before (line ∷ spelled) s f =
    let none = spelled_none before text line f.0 f.1 in
    let next = next_scan place lines line in
    let p = pass texts next.place next.lines (before ++ line ∷ []) spelled
    (at_next_place place lines before s line (same_fault place lines before s line ∙ none))
    f.2 in
    record {
      to = p.to;
      among = p.among;
      at_place = subst (IsScanPlace p.to p.among) (append_assoc before (line ∷ []) spelled)
          p.at_place;
      rest_is = λ rest. ap (λ (r : Result Scan CardFault). card_after r (texts ++ rest))
          (taken place lines before s text line f.0 None none) ∙ p.rest_is rest;
    }

refused : (place : Place) (lines before : List Line) → IsScanPlace place lines before
    → (text : List ℕ) (texts : List (List ℕ)) (fault : CardFault)
    → IsLeastFault (LogicalLineHasFault before text) fault
    → scan_from (scan_at place lines) (text ∷ texts) ≡ Err fault
unfolding scan_from scan_logical_line
refused place lines before s text texts fault l = by_reading_it (parse_line text) refl
  where
    by_reading_it : (r : Result Line CardFault) → parse_line text ≡ r
        → card_after (r >>= λ line. ok_unless (line_fault place lines line)
        (next_scan place lines line)) texts ≡ Err fault
    by_reading_it (Err e) is = ap (λ f. Err f) (one_least (LogicalLineHasFault before text) e fault
        (least_of_unread before text e is) l)
    by_reading_it (Ok line) is =
        ap (λ o. card_after (ok_unless o (next_scan place lines line)) texts)
        (same_fault place lines before s line
        ∙ spelled_least before text line fault (line_found text line is) l)

pub line_refused : (logical : List (List ℕ)) (fault : CardFault) → IsOfFirstFaultyLine logical fault
    → scan_card logical ≡ Err fault
line_refused logical fault f =
    let p = pass f.before First [] [] f.lines (refl, refl) f.faultless in
    ap scan_card f.logical_are ∙ p.rest_is (f.faulty ∷ f.others)
    ∙ refused p.to p.among f.lines p.at_place f.faulty f.others fault f.least

pub whole_refused : (logical : List (List ℕ)) (fault : CardFault) → IsOfWholeText logical fault
    → scan_card logical ≡ Err fault
unfolding scan_from
whole_refused logical fault w =
    let p = pass logical First [] [] w.lines (refl, refl) w.faultless in
    ap scan_card (sym (append-nil logical)) ∙ p.rest_is []
    ∙ ap (λ o. ok_unless o p.among) (same_whole p.to p.among w.lines p.at_place
    ∙ least_again (text_breaks_rule w.lines) fault w.least)

-- ---- the text

pub false_unless : (b : Bool) → (b ≡ true → ⊥) → b ≡ false
false_unless true h = absurd (h refl)
false_unless false h = refl

too_long : (n : ℕ) → text_octets_max < n → nat_le n text_octets_max ≡ false
too_long n l = false_unless (nat_le n text_octets_max) (λ e. let m = leb-true n text_octets_max e in
    omega (arith, l, m))

pub longer : (n : ℕ) → nat_le n text_octets_max ≡ false → text_octets_max < n
longer n e = let no : ¬ (n ≤ text_octets_max) =
    λ l. both_ways (nat_le n text_octets_max) e (le-leb n text_octets_max l) in omega (arith, no)

pub bounds_fail : (lines : List Line) → text_octets_max < length (canonical_text lines)
    → check_length lines ≡ Err TooLong
unfolding check_length
bounds_fail lines l = ap (λ t. cond t (Ok lines) (Err TooLong))
    (too_long (length (canonical_text lines)) l)

of_lines : (text : List ℕ) (logical : List (List ℕ)) → HasLogicalLines text logical
    → card_of_text text ≡ (scan_card logical >>= check_length)
of_lines text logical o =
    of_short_text text (le-leb _ _ o.within) (is_utf8-from_IsUtf8 text o.utf8)
    ∙ ap (λ ts. scan_card ts >>= check_length)
    (sym ((one_reading (without_bom text) logical).0 o.are_logical))

pub computed_from : (text : List ℕ) (fault : CardFault) → IsFirstFaultOfText text fault
    → first_fault_of_text text ≡ Some fault
computed_from text fault (of_length is l) =
    ap result_fault (of_long_text text (too_long (length text) l)) ∙ ap (λ f. Some f) (sym is)
computed_from text fault (of_encoding is l n) =
    ap result_fault (of_no_utf8 text (le-leb _ _ l) (false_unless (is_utf8 text)
    (λ e. n (IsUtf8-from_is_utf8 text e)))) ∙ ap (λ f. Some f) (sym is)
computed_from text fault (of_line logical o f) = ap result_fault (of_lines text logical o
    ∙ ap (λ (r : Result (List Line) CardFault). r >>= check_length) (line_refused logical fault f))
computed_from text fault (of_whole logical o w) = ap result_fault (of_lines text logical o
    ∙ ap (λ (r : Result (List Line) CardFault). r >>= check_length) (whole_refused logical fault w))
computed_from text fault (of_canonical is logical o lines s l) =
    ap result_fault (of_lines text logical o
    ∙ ap (λ (r : Result (List Line) CardFault). r >>= check_length) (card_again logical lines s)
    ∙ bounds_fail lines l) ∙ ap (λ f. Some f) (sym is)

pub some_fault : (f fault : CardFault) → ◌≡◌ {A = Option CardFault} (Some f) (Some fault)
    → fault ≡ f
some_fault f fault h = cc

module _ (text : List ℕ) (fault : CardFault) (short : nat_le (length text) text_octets_max ≡ true)
    (utf8 : is_utf8 text ≡ true) where
  has_lines : HasLogicalLines text (logical_lines (without_bom text))
  has_lines = record {
    within = leb-true _ _ short;
    utf8 = IsUtf8-from_is_utf8 text utf8;
    are_logical = are_logical_lines (without_bom text);
  }

  by_bounds : (lines : List Line) → scan_card (logical_lines (without_bom text)) ≡ Ok lines
      → (b : Bool) → nat_le (length (canonical_text lines)) text_octets_max ≡ b
      → result_fault {A = List Line} (cond b (Ok lines) (Err TooLong)) ≡ Some fault
      → IsFirstFaultOfText text fault
  by_bounds lines e true is h = absurd (cc)
  by_bounds lines e false is h = of_canonical (some_fault TooLong fault h)
      (logical_lines (without_bom text)) has_lines lines
      (card_found (logical_lines (without_bom text)) lines e) (longer _ is)

  by_texts : (r : Result (List Line) CardFault) → scan_card (logical_lines (without_bom text)) ≡ r
      → result_fault (r >>= check_length) ≡ Some fault → IsFirstFaultOfText text fault
  unfolding check_length
  by_texts (Ok lines) e h = by_bounds lines e (nat_le (length (canonical_text lines))
      text_octets_max) refl h
  by_texts (Err f) e h =
      let is = some_fault f fault h in
      ⊎_elim
      (λ r. of_line (logical_lines (without_bom text)) has_lines (record {
        before = r.before;
        faulty = r.faulty;
        others = r.others;
        logical_are = r.logical_are;
        lines = r.lines;
        faultless = r.faultless;
        least = r.least;
      }))
      (λ w. of_whole (logical_lines (without_bom text)) has_lines (record {
        lines = w.lines;
        faultless = w.faultless;
        least = w.least;
      }))
      (finds (logical_lines (without_bom text)) fault First [] [] (refl, refl) (e
      ∙ ap (λ g. Err g) (sym is)))

pub fault_from_computed : (text : List ℕ) (fault : CardFault)
    → first_fault_of_text text ≡ Some fault → IsFirstFaultOfText text fault
fault_from_computed text fault e = ⊎_elim
    (λ short. ⊎_elim
    (λ utf8. by_texts text fault short utf8 (scan_card (logical_lines (without_bom text))) refl
    (ap result_fault (sym (of_short_text text short utf8)) ∙ e))
    (λ other. of_encoding (some_fault NotUtf8 fault
    (ap result_fault (sym (of_no_utf8 text short other)) ∙ e)) (leb-true _ _ short)
    (λ u. both_ways (is_utf8 text) other (is_utf8-from_IsUtf8 text u)))
    (cases_Bool (is_utf8 text)))
    (λ long. of_length (some_fault TooLong fault (ap result_fault (sym (of_long_text text long))
    ∙ e)) (longer (length text) long))
    (cases_Bool (nat_le (length text) text_octets_max))

pub first_fault_of_text_is_computed : (text : List ℕ) (fault : CardFault)
    → IsFirstFaultOfText text fault ↔ (first_fault_of_text text ≡ Some fault)
first_fault_of_text_is_computed text fault =
    (computed_from text fault, fault_from_computed text fault)

pub one_first_fault : (text : List ℕ) (a b : CardFault) → IsFirstFaultOfText text a
    → IsFirstFaultOfText text b → a ≡ b
one_first_fault text a b f g = some_fault b a (sym (computed_from text b g)
    ∙ computed_from text a f)

pub card_or_fault : (text : List ℕ) → ((lines : List Line) × Spells text lines)
    ⊎ ((fault : CardFault) × IsFirstFaultOfText text fault)
card_or_fault text = ⊎_elim
    (λ e. inl ((spells_without_fault text).1 e))
    (λ some. inr (some.0, fault_from_computed text some.0 some.1))
    (found_or_none (first_fault_of_text text))

pub not_both : (text : List ℕ) (lines : List Line) (fault : CardFault) → Spells text lines
    → IsFirstFaultOfText text fault → ⊥
not_both text lines fault s f = apart (sym ((spells_without_fault text).0 (lines, s))
    ∙ computed_from text fault f)
  where
    apart : ◌≡◌ {A = Option CardFault} None (Some fault) → ⊥
    apart e = cc

pub fault_of_no_card : (text : List ℕ) (fault : CardFault) → card_of_text text ≡ Err fault
    → IsFirstFaultOfText text fault
fault_of_no_card text fault e = fault_from_computed text fault (ap result_fault e)
