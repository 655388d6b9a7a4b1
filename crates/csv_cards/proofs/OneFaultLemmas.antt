-- A text has at most one first fault.
use Rattle.std.proofs.Common.{◌≡◌, ◌≤◌, ◌⊎◌, ◌==◌, ◌∷◌, ◌++◌, [], ◌+◌, ℕ, List, length}
use Rattle.std.proofs.Common.{if◌then◌else◌, refl, sym, ap, subst, ◌∙◌, arith, drop, inl, inr}
use Rattle.std.proofs.Common.{append_assoc}
use Rattle.std.proofs.lemmas.List.{length-append}
use Rattle.csv.specs.Reading.{Reached, default_config, strip_bom}
use Rattle.csv.specs.declared.parser.State.{State}
use Rattle.csv.specs.declared.parser.State.TheVariants as st
use Rattle.vcard_lines.specs.declared.line.Line.{Line}
use Rattle.vcard_lines.specs.declared.fault.CardFault.{CardFault}
use Rattle.vcard_text.specs.Spelling.{Spells}
use Rattle.csv_cards.specs.declared.form.Form.{Form}
use Rattle.csv_cards.specs.declared.cause.CsvCause.{CsvCause}
use Rattle.csv_cards.specs.declared.cause.CsvCause.TheVariants as cause
use Rattle.csv_cards.specs.declared.fault.CsvFault.{CsvFault}
use Rattle.csv_cards.specs.Causes.{cause_number}
use Rattle.csv_cards.specs.Rows.{Row, RowsBeginWith, header}
use Rattle.csv_cards.specs.Reading.{CauseApplies, HasBadHeader, IsFirstRowFault, IsFirstFaultyRow}
use Rattle.csv_cards.specs.Reading.{IsLeastCause, RowsRepresentEach, row_fault}
use Rattle.csv_cards.proofs.CauseLemmas.{FaultsAreOne, few_numbers, one_fault}
use Rattle.csv_cards.proofs.OneReadingLemmas.{some_read, header_one, each_one}
use Rattle.csv_cards.proofs.FirstFaultLemmas.{begun, first_is, none_after}

-- ---- of two beginnings one begins the other

abbrev Begins : List Row → List Row → Type 0
Begins a b = (others : List Row) × (b ≡ a ++ others)

one_more : (r q : Row) (a b : List Row) → q ≡ r → Begins a b → Begins (r ∷ a) (q ∷ b)
one_more r q a b same more = (more.0, ap (λ first. first ∷ b) same ∙ ap (λ rest. r ∷ rest) more.1)

both_more : (r q : Row) (a b : List Row) → q ≡ r → Begins a b ⊎ Begins b a → Begins (r ∷ a) (q ∷ b)
    ⊎ Begins (q ∷ b) (r ∷ a)
both_more r q a b same (inl more) = inl (one_more r q a b same more)
both_more r q a b same (inr more) = inr (one_more q r b a (sym same) more)

agree : (s : State) (text : List ℕ) (a b : List Row) (s2 t2 : State) (y z : List ℕ)
    → Reached default_config s text a s2 y → Reached default_config s text b t2 z → Begins a b
    ⊎ Begins b a
unfolding Reached
agree s text [] b s2 t2 y z one other = inl (b, refl)
agree s text (r ∷ rs) [] s2 t2 y z one other = inr (r ∷ rs, refl)
agree s text (r ∷ rs) (q ∷ qs) s2 t2 y z one other =
    let same : one.0 ≡ other.0 = some_read one.0 other.0 (sym one.1 ∙ other.1) in
    both_more r q rs qs (other.2 ∙ sym (ap (λ p. p.0) same) ∙ sym one.2)
    (agree other.0.1 other.0.2 rs qs s2 t2 y z (subst (λ p. Reached default_config p.1 p.2 rs s2 y)
    same one.3) other.3)

two_begin : (text : List ℕ) (a b : List Row) → RowsBeginWith text a → RowsBeginWith text b
    → Begins a b ⊎ Begins b a
two_begin text a b one other = agree st.StartRecord (strip_bom text) a b one.state other.state
    one.rest other.rest one.reached other.reached

-- a row after others is the same in both lists, or among the others of the longer one
ends : (a b : List Row) (r q : Row) (others : List Row) → b ++ q ∷ [] ≡ a ++ r ∷ others
    → ((b ≡ a) × (q ≡ r)) ⊎ ((after : List Row) × (b ≡ a ++ r ∷ after))
ends [] [] r q others e = inl (refl, first_is q r [] others e)
ends [] (x ∷ b) r q others e = inr (
  b,
  ap (λ first. first ∷ b) (first_is x r (b ++ q ∷ []) others e),
)
ends (x ∷ a) [] r q others e =
    let l = ap length e in
    let m = length-append a (r ∷ others) in
    absurd (omega (arith, l, m))
ends (x ∷ a) (y ∷ b) r q others e =
    both (first_is y x (b ++ q ∷ []) (a ++ r ∷ others) e) (ends a b r q others (ap (drop 1) e))
  where
    both : y ≡ x → ((b ≡ a) × (q ≡ r)) ⊎ ((after : List Row) × (b ≡ a ++ r ∷ after))
        → ((y ∷ b ≡ x ∷ a) × (q ≡ r)) ⊎ ((after : List Row) × (y ∷ b ≡ (x ∷ a) ++ r ∷ after))
    both same (inl (front, last)) = inl (
      ap (λ first. first ∷ b) same ∙ ap (λ rest. x ∷ rest) front,
      last,
    )
    both same (inr (after, is)) = inr (
      after,
      ap (λ first. first ∷ b) same
          ∙ ap (λ rest. x ∷ rest) is,
    )

-- ---- one least cause

-- the cause of a number that is no card's fault
cause_numbered : ℕ → CsvCause
cause_numbered n =
    if n == 2 then cause.Columns else if n == 3 then cause.NotUtf8
    else if n == 4 then cause.EmptyName else if n == 40 then cause.UidMismatch
    else cause.DuplicateUid

abbrev IsPlain : CsvCause → Type 0
IsPlain why = (why ≡ cause_numbered (cause_number why))
    × ((cause_number why ≤ 4) ⊎ (40 ≤ cause_number why))

abbrev IsBad : CsvCause → Type 0
IsBad why = (fault : CardFault) × (why ≡ cause.BadCard fault)

module _ (f : Form) (earlier : List (List Line)) (row : Row) where
  kind_of : (why : CsvCause) → CauseApplies f earlier row why → IsBad why ⊎ IsPlain why
  unfolding cause_numbered
  kind_of cause.BadHeader none = absurd none
  kind_of cause.Columns is = inr (refl, inl (omega arith))
  kind_of cause.NotUtf8 is = inr (refl, inl (omega arith))
  kind_of cause.EmptyName is = inr (refl, inl (omega arith))
  kind_of (cause.BadCard fault) is = inl (fault, refl)
  kind_of cause.UidMismatch is = inr (refl, inr (omega arith))
  kind_of cause.DuplicateUid is = inr (refl, inr (omega arith))
  kind_of cause.Memory none = absurd none

  not_both : (a b : CsvCause) → IsBad a → IsPlain b → cause_number a ≡ cause_number b → ⊥
  not_both a b (fault, is) (cause_numbered, inl small) same =
      let few = few_numbers fault in
      let n = ap cause_number is in
      omega (arith, few, n, small, same)
  not_both a b (fault, is) (cause_numbered, inr large) same =
      let few = few_numbers fault in
      let n = ap cause_number is in
      omega (arith, few, n, large, same)

  by_kind : FaultsAreOne → (a b : CsvCause) → CauseApplies f earlier row a
      → CauseApplies f earlier row b → cause_number a ≡ cause_number b → IsBad a ⊎ IsPlain a
      → IsBad b ⊎ IsPlain b → a ≡ b
  by_kind one a b is too same (inl (x, bad)) (inl (y, bad_too)) =
      bad ∙ ap (λ fault. cause.BadCard fault)
      (one_fault one f row x y (subst (CauseApplies f earlier row) bad is)
      (subst (CauseApplies f earlier row) bad_too too)) ∙ sym bad_too
  by_kind one a b is too same (inl bad) (inr plain) = absurd (not_both a b bad plain same)
  by_kind one a b is too same (inr plain) (inl bad) = absurd (not_both b a bad plain (sym same))
  by_kind one a b is too same (inr plain) (inr plain_too) = plain.0 ∙ ap cause_numbered same
      ∙ sym plain_too.0

  pub least_is_one : FaultsAreOne → (a b : CsvCause) → IsLeastCause f earlier row a
      → IsLeastCause f earlier row b → a ≡ b
  least_is_one one a b is too =
      let up = is.least b too.applies in
      let down = too.least a is.applies in
      by_kind one a b is.applies too.applies (omega (arith, up, down)) (kind_of a is.applies)
      (kind_of b too.applies)

-- ---- one first fault

fault_is : (a b : CsvFault) → a.row ≡ b.row → a.cause ≡ b.cause → a ≡ b
fault_is a b place why = ap (λ row. row_fault row a.cause) place
    ∙ ap (λ why. row_fault b.row why) why

module _ (one_card : (text : List ℕ) (a b : List Line) → Spells text a → Spells text b
    → a ≡ b) (one : FaultsAreOne) where
  same_row : (text : List ℕ) (a b : CsvFault) (is : IsFirstFaultyRow text a) (too :
      IsFirstFaultyRow text b) → too.kind ≡ is.kind → too.before ≡ is.before → too.row ≡ is.row
      → a ≡ b
  same_row text a b is too kind before row =
      let each = subst (λ rows. RowsRepresentEach is.kind rows too.cards) before
      (subst (λ f. RowsRepresentEach f too.before too.cards) kind too.represent.each) in
      let cards : too.cards ≡ is.cards = each_one one_card is.kind is.before too.cards is.cards each
      is.represent.each in
      let least = subst (λ f. IsLeastCause f is.cards is.row b.cause) kind
      (subst (λ lines. IsLeastCause too.kind lines is.row b.cause) cards
      (subst (λ at. IsLeastCause too.kind too.cards at b.cause) row too.cause)) in
      fault_is a b (is.place ∙ ap (λ rows. length rows + 1) (sym before) ∙ sym too.place)
      (least_is_one is.kind is.cards is.row one a.cause b.cause is.cause least)

  one_way : (text : List ℕ) (a b : CsvFault) (is : IsFirstFaultyRow text a) (too :
      IsFirstFaultyRow text b) → Begins (header is.kind ∷ (is.before ++ is.row ∷ []))
      (header too.kind ∷ (too.before ++ too.row ∷ [])) → a ≡ b
  one_way text a b is too more =
      let kind : too.kind ≡ is.kind = header_one too.kind is.kind (too.before ++ too.row ∷ [])
      ((is.before ++ is.row ∷ []) ++ more.0) more.1 in
      by_end kind (ends is.before too.before is.row too.row more.0 (ap (drop 1) more.1
      ∙ append_assoc is.before (is.row ∷ []) more.0))
    where
      by_end : too.kind ≡ is.kind → ((too.before ≡ is.before) × (too.row ≡ is.row))
          ⊎ ((after : List Row) × (too.before ≡ is.before ++ is.row ∷ after)) → a ≡ b
      by_end kind (inl (before, row)) = same_row text a b is too kind before row
      by_end kind (inr (after, longer)) =
          absurd (none_after one_card is.kind is.before is.row after is.cards too.cards
          is.represent.each
          (subst (λ rows. RowsRepresentEach is.kind rows too.cards) longer
          (subst (λ f. RowsRepresentEach f too.before too.cards) kind too.represent.each))
          too.represent.distinct a.cause is.cause.applies)

  rows_one : (text : List ℕ) (a b : CsvFault) (is : IsFirstFaultyRow text a) (too :
      IsFirstFaultyRow text b) → Begins (header is.kind ∷ (is.before ++ is.row ∷ []))
      (header too.kind ∷ (too.before ++ too.row ∷ []))
      ⊎ Begins (header too.kind ∷ (too.before ++ too.row ∷ []))
      (header is.kind ∷ (is.before ++ is.row ∷ [])) → a ≡ b
  rows_one text a b is too (inl more) = one_way text a b is too more
  rows_one text a b is too (inr more) = sym (one_way text b a too is more)

  bad_or_row : (text : List ℕ) (fault : CsvFault) → HasBadHeader text → IsFirstFaultyRow text fault
      → ⊥
  bad_or_row text fault (inl none) is =
      let more = begun text (header is.kind ∷ (is.before ++ is.row ∷ [])) [] is.begin none in
      cc more.1
  bad_or_row text fault (inr (row, begin, other)) is =
      either (two_begin text (row ∷ []) (header is.kind ∷ (is.before ++ is.row ∷ [])) begin
      is.begin)
    where
      either : Begins (row ∷ []) (header is.kind ∷ (is.before ++ is.row ∷ []))
          ⊎ Begins (header is.kind ∷ (is.before ++ is.row ∷ [])) (row ∷ []) → ⊥
      either (inl more) = other is.kind
          (sym (first_is (header is.kind) row (is.before ++ is.row ∷ []) more.0 more.1))
      either (inr more) = other is.kind (first_is row (header is.kind) []
          ((is.before ++ is.row ∷ []) ++ more.0) more.1)

  pub first_faults_one : (text : List ℕ) (a b : CsvFault) → IsFirstRowFault text a
      → IsFirstRowFault text b → a ≡ b
  first_faults_one text a b (inl bad) (inl bad_too) = bad.1 ∙ sym bad_too.1
  first_faults_one text a b (inl bad) (inr is) = absurd (bad_or_row text b bad.0 is)
  first_faults_one text a b (inr is) (inl bad) = absurd (bad_or_row text a bad.0 is)
  first_faults_one text a b (inr is) (inr too) =
      rows_one text a b is too (two_begin text _ _ is.begin too.begin)
