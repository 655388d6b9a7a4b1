-- A text's rows represent cards, or it has a first fault.
use Rattle.std.proofs.Common.{◌≡◌, ◌≢◌, ◌⊎◌, ◌==◌, ◌+◌, ◌∷◌, ◌++◌, [], ℕ, zero, suc, Bool, true}
use Rattle.std.proofs.Common.{false, List, Decides, Contains, bytes_eq, length, map, drop, refl}
use Rattle.std.proofs.Common.{sym, ap, subst, ◌∙◌, arith, inl, inr, append_assoc}
use Rattle.std.specs.Str.{is_utf8}
use Rattle.std.proofs.lemmas.Bool.{cases_Bool}
use Rattle.std.proofs.lemmas.List.{append-nil}
use Rattle.std.proofs.lemmas.Slice.Eq.{bytes_eq-Decides}
use Rattle.std.proofs.lemmas.Str.{IsUtf8-from_is_utf8, is_utf8-from_IsUtf8}
use Rattle.csv.specs.Records.{AllText}
use Rattle.vcard_lines.specs.declared.fault.CardFault.{CardFault}
use Rattle.vcard_lines.specs.declared.line.Line.{Line}
use Rattle.vcard_text.specs.Cards.{IsCard, uid_of}
use Rattle.vcard_text.specs.FirstFaults.{IsFirstFaultOfText as IsFirstCardFault}
use Rattle.vcard_text.specs.Making.{IsFirstFaultOfLines, upper_lines}
use Rattle.vcard_text.specs.Spelling.{Spells}
use Rattle.vcard_text.proofs.MakingLemmas.{AllUtf8}
use Rattle.csv_cards.specs.declared.form.Form.{Form}
use Rattle.csv_cards.specs.declared.form.Form.TheVariants as form
use Rattle.csv_cards.specs.declared.cause.CsvCause.{CsvCause}
use Rattle.csv_cards.specs.declared.cause.CsvCause.TheVariants as cause
use Rattle.csv_cards.specs.declared.fault.CsvFault.{CsvFault}
use Rattle.csv_cards.specs.Rows.{Row, AreRows, row_field, header}
use Rattle.csv_cards.specs.Columns.{column_lines, name_in}
use Rattle.csv_cards.specs.Reading.{TextHasCards, IsFirstRowFault, IsLeastCause, ColumnsMislistCard}
use Rattle.csv_cards.specs.Reading.{RowsRepresent, RowRepresents, row_fault}
use Rattle.csv_cards.proofs.AllRowLemmas.{has_rows, begin_with}
use Rattle.csv_cards.proofs.CauseLemmas.{FaultsAreOne, columns_least, utf8_least, repeated_least}
use Rattle.csv_cards.proofs.CauseLemmas.{text_least, columns_cause_least}
use Rattle.csv_cards.proofs.ColumnLemmas.{upper_columns}
use Rattle.csv_cards.proofs.ColumnTextLemmas.{columns_utf8}
use Rattle.csv_cards.proofs.ReaderLemmas.{none_represent, one_more_represents}

-- ---- tests

or_not : {P : Type 0} (b : Bool) → Decides b P → P ⊎ (P → ⊥)
or_not true d = inl (d.0 refl)
or_not false d = inr (λ p. cc (d.1 p))

text_or_not : (row : Row) → AllText row ⊎ (AllText row → ⊥)
unfolding AllText
text_or_not [] = inl tt
text_or_not (f ∷ fs) = both (or_not (is_utf8 f) (IsUtf8-from_is_utf8 f, is_utf8-from_IsUtf8 f))
    (text_or_not fs)
  where
    both : {P Q : Type 0} → P ⊎ (P → ⊥) → Q ⊎ (Q → ⊥) → (P × Q) ⊎ (P × Q → ⊥)
    both (inl p) (inl q) = inl (p, q)
    both (inl p) (inr q) = inr (λ pq. q pq.1)
    both (inr p) q = inr (λ pq. p pq.0)

same_or_not : (a b : List ℕ) → (a ≡ b) ⊎ (a ≢ b)
same_or_not a b = or_not (bytes_eq a b) (bytes_eq-Decides a b)

row_or_not : (a b : Row) → (a ≡ b) ⊎ (a ≢ b)
row_or_not [] [] = inl refl
row_or_not [] (y ∷ ys) = inr (λ e. cc e)
row_or_not (x ∷ xs) [] = inr (λ e. cc e)
row_or_not (x ∷ xs) (y ∷ ys) = both (same_or_not x y) (row_or_not xs ys)
  where
    both : (x ≡ y) ⊎ (x ≢ y) → (xs ≡ ys) ⊎ (xs ≢ ys) → (x ∷ xs ≡ y ∷ ys) ⊎ (x ∷ xs ≢ y ∷ ys)
    both (inl first) (inl rest) = inl (ap (λ f. f ∷ xs) first ∙ ap (λ fs. y ∷ fs) rest)
    both (inl first) (inr rest) = inr (λ e. rest (ap (drop 1) e))
    both (inr first) rest = inr (λ e. first (ap (λ row. row_field row 0) e))

among_or_not : (uids : List (List ℕ)) (uid : List ℕ) → Contains uids uid ⊎ (Contains uids uid → ⊥)
among_or_not [] uid = inr nothing
  where
    nothing : Contains {X = List ℕ} [] uid → ⊥
    nothing (i, small, e) = omega (arith, small)
among_or_not (u ∷ us) uid = both (same_or_not u uid) (among_or_not us uid)
  where
    neither : u ≢ uid → (Contains us uid → ⊥) → Contains (u ∷ us) uid → ⊥
    neither there none (zero, small, e) = there e
    neither there none (suc i, small, e) = none (i, omega (arith, small), e)

    both : (u ≡ uid) ⊎ (u ≢ uid) → Contains us uid ⊎ (Contains us uid → ⊥) → Contains (u ∷ us) uid
        ⊎ (Contains (u ∷ us) uid → ⊥)
    both (inl here) rest = inl (0, omega arith, here)
    both (inr there) (inl (i, small, e)) = inl (suc i, omega (arith, small), e)
    both (inr there) (inr none) = inr (neither there none)

-- ---- one row

-- a row represents a card, or has a least cause, whatever cards precede it
abbrev RepresentsCard : Form → Row → Type 0
RepresentsCard f row = (card : List Line) × RowRepresents f row card

abbrev Fails : Form → Row → Type 0
Fails f row = (why : CsvCause) × ((earlier : List (List Line)) → IsLeastCause f earlier row why)

-- what is known of the texts of cards
pub record CardsOrFaults : Type 0 where
  pub one_card : (text : List ℕ) (a b : List Line) → Spells text a → Spells text b → a ≡ b
  pub either : (text : List ℕ) → ((lines : List Line) × Spells text lines)
      ⊎ ((fault : CardFault) × IsFirstCardFault text fault)
  pub not_both : (text : List ℕ) (lines : List Line) (fault : CardFault) → Spells text lines
      → IsFirstCardFault text fault → ⊥
  pub made_either : (lines : List Line) → AllUtf8 (upper_lines lines) → IsCard (upper_lines lines)
      ⊎ ((fault : CardFault) × IsFirstFaultOfLines lines fault)
  pub made_not_both : (lines : List Line) (fault : CardFault) → IsCard (upper_lines lines)
      → IsFirstFaultOfLines lines fault → ⊥
  pub one_fault : FaultsAreOne

-- the rows represent cards, or one of them is the first that fails
abbrev AllRepresent : Form → List Row → Type 0
AllRepresent f rows = (cards : List (List Line)) × RowsRepresent f rows cards

record FirstFails (f : Form) (rows : List Row) : Type 0 where
  before : List Row
  row : Row
  after : List Row
  cards : List (List Line)
  why : CsvCause
  are : rows ≡ before ++ row ∷ after
  represent : RowsRepresent f before cards
  least : IsLeastCause f cards row why

abbrev RepresentsOrFails : Form → List Row → Type 0
RepresentsOrFails f rows = AllRepresent f rows ⊎ FirstFails f rows

-- more rows after those, whatever cards those represent
abbrev Continues : Form → List Row → List Row → Type 0
Continues f before rows = (cards : List (List Line)) → RowsRepresent f before cards
    → RepresentsOrFails f (before ++ rows)

abbrev HasCards : List ℕ → Type 0
HasCards text = (cards : List (List Line)) × TextHasCards text cards

abbrev HasFault : List ℕ → Type 0
HasFault text = (fault : CsvFault) × IsFirstRowFault text fault

module _ (laws : CardsOrFaults) where
  text_row : (row : Row) → length row ≡ length (header form.Cards) → AllText row
      → RepresentsCard form.Cards row ⊎ Fails form.Cards row
  text_row row many text = by (laws.either (row_field row 1))
    where
      by_uid : (card : List Line) → Spells (row_field row 1) card → (row_field row 0 ≡ [])
          ⊎ (row_field row 0 ≢ []) → (row_field row 0 ≡ uid_of card)
          ⊎ (row_field row 0 ≢ uid_of card) → RepresentsCard form.Cards row ⊎ Fails form.Cards row
      by_uid card spells (inl none) own =
          inl (
            card,
            record {
              fields = many;
              utf8 = text;
              holds = record {
                text = spells;
                uid = inl none;
              };
            },
          )
      by_uid card spells (inr given) (inl own) =
          inl (
            card,
            record {
              fields = many;
              utf8 = text;
              holds = record {
                text = spells;
                uid = inr own;
              };
            },
          )
      by_uid card spells (inr given) (inr other) =
          inr (
            cause.UidMismatch,
            λ earlier. text_least earlier row many text laws.one_fault
                cause.UidMismatch (inr (
                  refl,
                  record {
                    card = card;
                    text = spells;
                    given = given;
                    other = other;
                  },
                )),
          )

      by : ((lines : List Line) × Spells (row_field row 1) lines)
          ⊎ ((fault : CardFault) × IsFirstCardFault (row_field row 1) fault)
          → RepresentsCard form.Cards row ⊎ Fails form.Cards row
      by (inl (card, spells)) = by_uid card spells (same_or_not (row_field row 0) [])
          (same_or_not (row_field row 0) (uid_of card))
      by (inr (fault, first)) = inr (
        cause.BadCard fault,
        λ earlier. text_least earlier row many
            text laws.one_fault (cause.BadCard fault) (inl (
              fault,
              refl,
              record {
                none = λ card spells. laws.not_both (row_field row 1) card fault spells first;
                first = first;
              },
            )),
      )

  -- the lines of columns make a card, or have a first fault
  card_or_made_fault : (row : Row) → AllText row → IsCard (column_lines row)
      ⊎ ((fault : CardFault) × ColumnsMislistCard row fault)
  card_or_made_fault row all =
      by (laws.made_either (column_lines row) (subst AllUtf8 (sym (upper_columns row))
      (columns_utf8 row all)))
    where
      by : IsCard (upper_lines (column_lines row))
          ⊎ ((fault : CardFault) × IsFirstFaultOfLines (column_lines row) fault)
          → IsCard (column_lines row) ⊎ ((fault : CardFault) × ColumnsMislistCard row fault)
      by (inl card) = inl (subst IsCard (upper_columns row) card)
      by (inr (fault, first)) = inr (
        fault,
        record {
          none = λ card. laws.made_not_both (column_lines row) fault
              (subst IsCard (sym (upper_columns row)) card) first;
          first = first;
        },
      )

  columns_row : (row : Row) → length row ≡ length (header form.Columns) → AllText row
      → RepresentsCard form.Columns row ⊎ Fails form.Columns row
  columns_row row many text = by (same_or_not (name_in row) []) (card_or_made_fault row text)
    where
      by : (name_in row ≡ []) ⊎ (name_in row ≢ []) → IsCard (column_lines row)
          ⊎ ((fault : CardFault) × ColumnsMislistCard row fault) → RepresentsCard form.Columns row
          ⊎ Fails form.Columns row
      by (inl nameless) made = inr (
        cause.EmptyName,
        λ earlier. columns_cause_least earlier row many
            text laws.one_fault cause.EmptyName (inl (refl, nameless)),
      )
      by (inr named) (inl card) = inl (
        column_lines row,
        record {
          fields = many;
          utf8 = text;
          holds = record { named = named; lines = refl; rules = card };
        },
      )
      by (inr named) (inr (fault, bad)) =
          inr (
            cause.BadCard fault,
            λ earlier. columns_cause_least earlier row many text
                laws.one_fault (cause.BadCard fault) (inr (fault, refl, named, bad)),
          )

  one_row : (f : Form) (row : Row) → length row ≡ length (header f) → AllText row
      → RepresentsCard f row ⊎ Fails f row
  one_row form.Cards row many text = text_row row many text
  one_row form.Columns row many text = columns_row row many text

  any_row : (f : Form) (row : Row) → RepresentsCard f row ⊎ Fails f row
  any_row f row = by_count (cases_Bool (length row == length (header f)))
    where
      by_text : length row ≡ length (header f) → AllText row ⊎ (AllText row → ⊥)
          → RepresentsCard f row ⊎ Fails f row
      by_text many (inl text) = one_row f row many text
      by_text many (inr other) = inr (cause.NotUtf8, λ earlier. utf8_least f earlier row many other)

      by_count : ((length row == length (header f)) ≡ true)
          ⊎ ((length row == length (header f)) ≡ false) → RepresentsCard f row ⊎ Fails f row
      by_count (inl e) = by_text (grind (arith, e)) (text_or_not row)
      by_count (inr e) = inr (
        cause.Columns,
        λ earlier. columns_least f earlier row
            (λ same. grind (arith, e, same)),
      )

  -- ---- all rows

  rows_after : (f : Form) (rows before : List Row) (cards : List (List Line))
      → RowsRepresent f before cards → RepresentsOrFails f (before ++ rows)
  rows_after f [] before cards represent =
      inl (cards, subst (λ all. RowsRepresent f all cards) (sym (append-nil before)) represent)
  rows_after f (row ∷ rows) before cards represent =
      by (rows_after f rows (before ++ row ∷ [])) (any_row f row)
    where
      fails : (why : CsvCause) → IsLeastCause f cards row why
          → RepresentsOrFails f (before ++ row ∷ rows)
      fails why least = inr (record {
        before = before;
        row = row;
        after = rows;
        cards = cards;
        why = why;
        are = refl;
        represent = represent;
        least = least;
      })

      by_uid : Continues f (before ++ row ∷ []) rows → (card : List Line) → RowRepresents f row card
          → Contains (map uid_of cards) (uid_of card) ⊎ (Contains (map uid_of cards) (uid_of card)
          → ⊥) → RepresentsOrFails f (before ++ row ∷ rows)
      by_uid more card represents (inl repeated) =
          fails cause.DuplicateUid (repeated_least f cards row represents.fields represents.utf8
          laws.one_card (record { card = card; represents = represents; repeated = repeated }))
      by_uid more card represents (inr first) =
          subst (RepresentsOrFails f) (append_assoc before (row ∷ []) rows)
          (more (cards ++ card ∷ []) (one_more_represents f before row cards (cards ++ card ∷ [])
          represent (record {
            card = card;
            has_read = refl;
            represents = represents;
            first = first;
          })))

      by : Continues f (before ++ row ∷ []) rows → RepresentsCard f row ⊎ Fails f row
          → RepresentsOrFails f (before ++ row ∷ rows)
      by more (inl (card, represents)) =
          by_uid more card represents (among_or_not (map uid_of cards) (uid_of card))
      by more (inr (why, least)) = fails why (least cards)

  -- ---- a text

  headed : (f : Form) (text : List ℕ) (rows : List Row) → AreRows text (header f ∷ rows)
      → HasCards text ⊎ HasFault text
  headed f text rows are = by (rows_after f rows [] [] (none_represent f))
    where
      by : RepresentsOrFails f rows → HasCards text ⊎ HasFault text
      by (inl (cards, represent)) = inl (
        cards,
        record {
          kind = f;
          rows = rows;
          are_rows = are;
          represent = represent;
        },
      )
      by (inr bad) = inr (
        row_fault (length bad.before + 1) bad.why,
        inr (record {
          kind = f;
          before = bad.before;
          row = bad.row;
          cards = bad.cards;
          begin = begin_with text (header f ∷ (bad.before ++ bad.row ∷ [])) bad.after
              (subst (λ all. AreRows text (header f ∷ all)) (bad.are
              ∙ sym (append_assoc bad.before (bad.row ∷ []) bad.after)) are);
          represent = bad.represent;
          place = refl;
          cause = bad.least;
        }),
      )

  pub cards_or_fault : (text : List ℕ) → HasCards text ⊎ HasFault text
  cards_or_fault text =
      let all = has_rows text in
      by all.0 all.1
    where
      headless : CsvFault
      headless = row_fault 0 cause.BadHeader

      neither : (row : Row) → row ≢ header form.Cards → row ≢ header form.Columns → (f : Form)
          → row ≢ header f
      neither row cards columns form.Cards = cards
      neither row cards columns form.Columns = columns

      by_first : (row : Row) (rows : List Row) → AreRows text (row ∷ rows)
          → (row ≡ header form.Cards) ⊎ (row ≢ header form.Cards) → (row ≡ header form.Columns)
          ⊎ (row ≢ header form.Columns) → HasCards text ⊎ HasFault text
      by_first row rows are (inl is) other =
          headed form.Cards text rows (subst (λ first. AreRows text (first ∷ rows)) is are)
      by_first row rows are (inr none) (inl is) =
          headed form.Columns text rows (subst (λ first. AreRows text (first ∷ rows)) is are)
      by_first row rows are (inr none) (inr nor) =
          inr (
            headless,
            inl (
              inr (row, begin_with text (row ∷ []) rows are, neither row none nor),
              refl,
            ),
          )

      by : (rows : List Row) → AreRows text rows → HasCards text ⊎ HasFault text
      by [] are = inr (headless, inl (inl are, refl))
      by (row ∷ rows) are = by_first row rows are (row_or_not row (header form.Cards))
          (row_or_not row (header form.Columns))
