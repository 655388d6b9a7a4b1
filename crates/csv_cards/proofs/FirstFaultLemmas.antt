-- A text whose rows represent cards has no first fault.
use Rattle.std.proofs.Common.{Result, Ok, Err, IfOk, IfErr, MatchResult, ◌≡◌, ◌≢◌, ◌∷◌, ◌++◌, [], ℕ}
use Rattle.std.proofs.Common.{List, length, map, refl, sym, ap, subst, ◌∙◌, arith, drop, inl, inr}
use Rattle.std.proofs.Common.{append_assoc}
use Rattle.std.specs.List.{AllPairs, Contains}
use Rattle.std.proofs.lemmas.List.{get_or_append_left, length-append, map-append}
use Rattle.std.proofs.Math.Seq.{get_or-append_seam}
use Rattle.csv.specs.Reading.{strip_bom}
use Rattle.csv.specs.declared.parser.State.TheVariants as st
use Rattle.vcard_lines.specs.declared.line.Line.{Line}
use Rattle.vcard_text.specs.Cards.{uid_of}
use Rattle.vcard_text.specs.Spelling.{Spells}
use Rattle.csv_cards.specs.declared.form.Form.{Form}
use Rattle.csv_cards.specs.declared.cause.CsvCause.{CsvCause}
use Rattle.csv_cards.specs.declared.cause.CsvCause.TheVariants as cause
use Rattle.csv_cards.specs.declared.fault.CsvFault.{CsvFault}
use Rattle.csv_cards.specs.Rows.{Row, AreRows, RowsBeginWith, header}
use Rattle.csv_cards.specs.Reading.{CauseApplies, TextHasCards, HasBadHeader, IsFirstRowFault}
use Rattle.csv_cards.specs.Reading.{IsFirstFaultyRow, RowsRepresentEach, RowRepresents}
use Rattle.csv_cards.proofs.CauseLemmas.{is_named, has_no_fault, has_its_uid}
use Rattle.csv_cards.proofs.OneReadingLemmas.{starts, are_rows_one, header_one, represents_one}
use Rattle.csv_cards.proofs.OneReadingLemmas.{each_one}

-- ---- the cards on both sides of a row's

pub record Split (f : Form) (before : List Row) (row : Row) (cards : List (List Line)) :
    Type 0 where
  pub front : List (List Line)
  pub card : List Line
  pub back : List (List Line)
  pub is : cards ≡ front ++ card ∷ back
  pub each : RowsRepresentEach f before front
  pub represents : RowRepresents f row card

pub split : (f : Form) (before : List Row) (row : Row) (after : List Row) (cards : List (List Line))
    → RowsRepresentEach f (before ++ row ∷ after) cards → Split f before row cards
split f [] row after [] each = absurd each
split f [] row after (card ∷ cards) each = record {
  front = [];
  card = card;
  back = cards;
  is = refl;
  each = tt;
  represents = each.0;
}
split f (b ∷ before) row after [] each = absurd each
split f (b ∷ before) row after (card ∷ cards) each =
    let rest = split f before row after cards each.1 in
    record {
      front = card ∷ rest.front;
      card = rest.card;
      back = rest.back;
      is = ap (λ all. card ∷ all) rest.is;
      each = (each.0, rest.each);
      represents = rest.represents;
    }

-- of different texts none is among those before it
apart : (us : List (List ℕ)) (u : List ℕ) (vs : List (List ℕ))
    → AllPairs (λ a b. a ≢ b) (us ++ u ∷ vs) → Contains us u → ⊥
apart us u vs distinct had =
    let long = length-append us (u ∷ vs) in
    distinct had.0 (length us) u had.1 (omega (arith, long))
    (get_or_append_left us (u ∷ vs) u had.0 had.1 ∙ had.2 ∙ sym (get_or-append_seam us u vs u))

pub is_new : (front : List (List Line)) (card : List Line) (back : List (List Line))
    → AllPairs (λ a b. a ≢ b) (map uid_of (front ++ card ∷ back))
    → Contains (map uid_of front) (uid_of card) → ⊥
is_new front card back distinct =
    apart (map uid_of front) (uid_of card) (map uid_of back) (subst (AllPairs (λ a b. a ≢ b))
    (map-append uid_of front (card ∷ back)) distinct)

-- ---- rows that a text begins with

pub begun : (text : List ℕ) (rows all : List Row) → RowsBeginWith text rows → AreRows text all
    → (others : List Row) × (all ≡ rows ++ others)
begun text rows all begin whole = starts st.StartRecord (strip_bom text) rows all begin.state
    whole.0 begin.rest whole.1 begin.reached whole.2 whole.3

pub first_is : (a b : Row) (more rest : List Row) → a ∷ more ≡ b ∷ rest → a ≡ b
first_is a b more rest e = cc e

module _ (one_card : (text : List ℕ) (a b : List Line) → Spells text a → Spells text b
    → a ≡ b) where
  -- ---- no cause applies to a row that represents a card with a new UID

  pub no_cause : (f : Form) (earlier : List (List Line)) (row : Row) (card : List Line)
      → RowRepresents f row card → (Contains (map uid_of earlier) (uid_of card) → ⊥)
      → (why : CsvCause) → CauseApplies f earlier row why → ⊥
  no_cause f earlier row card represents new cause.BadHeader none = none
  no_cause f earlier row card represents new cause.Columns none = none represents.fields
  no_cause f earlier row card represents new cause.NotUtf8 none = none represents.utf8
  no_cause f earlier row card represents new cause.EmptyName none =
      is_named one_card row card f represents none
  no_cause f earlier row card represents new (cause.BadCard fault) none =
      has_no_fault one_card row card f fault represents none
  no_cause f earlier row card represents new cause.UidMismatch none =
      has_its_uid one_card row card f represents none
  no_cause f earlier row card represents new cause.DuplicateUid none =
      new (subst (λ lines. Contains (map uid_of earlier) (uid_of lines))
      (represents_one one_card f row none.card card none.represents represents) none.repeated)
  no_cause f earlier row card represents new cause.Memory none = none

  -- no cause applies after the cards of the rows before
  pub none_after : (f : Form) (before : List Row) (row : Row) (after : List Row) (earlier cards :
      List (List Line)) → RowsRepresentEach f before earlier
      → RowsRepresentEach f (before ++ row ∷ after) cards
      → AllPairs (λ a b. a ≢ b) (map uid_of cards) → (why : CsvCause)
      → CauseApplies f earlier row why → ⊥
  none_after f before row after earlier cards stood each distinct =
      let at = split f before row after cards each in
      let same : at.front ≡ earlier = each_one one_card f before at.front earlier at.each stood in
      no_cause f earlier row at.card at.represents
      (subst (λ front. Contains (map uid_of front) (uid_of at.card) → ⊥) same
      (is_new at.front at.card at.back (subst (λ all. AllPairs (λ a b. a ≢ b) (map uid_of all))
      at.is distinct)))

  -- ---- a text of cards

  header_is_good : (text : List ℕ) (cards : List (List Line)) → TextHasCards text cards
      → HasBadHeader text → ⊥
  header_is_good text cards are (inl none) =
      cc (are_rows_one text [] (header are.kind ∷ are.rows) none are.are_rows)
  header_is_good text cards are (inr (row, begin, other)) =
      let more = begun text (row ∷ []) (header are.kind ∷ are.rows) begin are.are_rows in
      other are.kind (sym (first_is (header are.kind) row are.rows more.0 more.1))

  rows_are_good : (text : List ℕ) (cards : List (List Line)) (fault : CsvFault)
      → TextHasCards text cards → IsFirstFaultyRow text fault → ⊥
  rows_are_good text cards fault are bad =
      let more = begun text (header bad.kind ∷ (bad.before ++ bad.row ∷ []))
      (header are.kind ∷ are.rows) bad.begin are.are_rows in
      let kind : are.kind ≡ bad.kind =
      header_one are.kind bad.kind are.rows ((bad.before ++ bad.row ∷ []) ++ more.0) more.1 in
      let rows : are.rows ≡ bad.before ++ bad.row ∷ more.0 = ap (drop 1) more.1
      ∙ append_assoc bad.before (bad.row ∷ []) more.0 in
      none_after bad.kind bad.before bad.row more.0 bad.cards cards bad.represent.each
      (subst (λ f. RowsRepresentEach f (bad.before ++ bad.row ∷ more.0) cards) kind
      (subst (λ rows. RowsRepresentEach are.kind rows cards) rows are.represent.each))
      are.represent.distinct fault.cause bad.cause.applies

  pub no_first_fault : (text : List ℕ) (cards : List (List Line)) (fault : CsvFault)
      → TextHasCards text cards → IsFirstRowFault text fault → ⊥
  no_first_fault text cards fault are (inl bad) = header_is_good text cards are bad.0
  no_first_fault text cards fault are (inr bad) = rows_are_good text cards fault are bad

-- ---- what is answered for a text of cards

pub is_memory : (why : CsvCause) → (why ≢ cause.Memory → ⊥) → why ≡ cause.Memory
is_memory cause.BadHeader never = absurd (never (λ e. cc e))
is_memory cause.Columns never = absurd (never (λ e. cc e))
is_memory cause.NotUtf8 never = absurd (never (λ e. cc e))
is_memory cause.EmptyName never = absurd (never (λ e. cc e))
is_memory (cause.BadCard fault) never = absurd (never (λ e. cc e))
is_memory cause.UidMismatch never = absurd (never (λ e. cc e))
is_memory cause.DuplicateUid never = absurd (never (λ e. cc e))
is_memory cause.Memory never = refl

-- an answer that is right as cards or as a fault is these cards, or out of memory
pub answers_cards : {T : Type 0} (cards_of : T → List (List Line)) (text : List ℕ)
    → ((a b : List (List Line)) → TextHasCards text a → TextHasCards text b → a ≡ b)
    → ((cards : List (List Line)) (fault : CsvFault) → TextHasCards text cards
    → IsFirstRowFault text fault → ⊥)
    → (r : Result T CsvFault) → IfOk r (λ read. TextHasCards text (cards_of read))
    → IfErr r (λ fault. fault.cause ≢ cause.Memory → IsFirstRowFault text fault)
    → (cards : List (List Line)) → TextHasCards text cards
    → MatchResult r (λ read. cards_of read ≡ cards) (λ fault. fault.cause ≡ cause.Memory)
answers_cards cards_of text one none (Ok read) is bad cards are = one (cards_of read) cards is are
answers_cards cards_of text one none (Err fault) is bad cards are =
    is_memory fault.cause (λ n. none cards fault are (bad n))
