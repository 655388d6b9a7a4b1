-- Rows of any cards with different UIDs are read back.
use Rattle.std.proofs.Common.{◌≡◌, ◌≢◌, ◌+◌, ◌∷◌, ◌++◌, [], ℕ, suc, List, true, false, map, length}
use Rattle.std.proofs.Common.{get_or, drop, codes, IsUtf8, refl, sym, ap, subst, ◌∙◌, arith, inl}
use Rattle.std.proofs.Common.{inr, append_assoc}
use Rattle.std.specs.List.{AllByRecursion, AllPairs}
use Rattle.std.proofs.lemmas.List.{drop_at, length-append}
use Rattle.std.proofs.Math.Seq.{get_or-append_seam}
use Rattle.std.proofs.lemmas.Bool.{cases_Bool}
use Rattle.std.proofs.lemmas.Str.{IsUtf8-drop, IsUtf8-nil, IsCharBoundary-after_ascii}
use Rattle.csv.specs.Records.{AllText}
use Rattle.vcard_lines.specs.declared.line.Line.{Line}
use Rattle.vcard_lines.specs.Grammar.{group_text, line_text, params_text}
use Rattle.vcard_text.specs.Cards.{IsCard, IsProperLine, canonical_text, line_is_named, uid_of}
use Rattle.vcard_text.specs.Spelling.{Spells}
use Rattle.csv_cards.specs.declared.form.Form.TheVariants as form
use Rattle.csv_cards.specs.Reading.{TextHasCards, RowsRepresentEach, RowRepresents}
use Rattle.csv_cards.specs.Writing.{csv_text, card_row}
use Rattle.csv_cards.proofs.ReadBackLemmas.{rows_back}
use Rattle.std.specs.Prelude.{flat_map}
use Rattle.std.proofs.lemmas.List.Folds.{flat_map-map}
use Rattle.csv.specs.Writing.{default_writer, row_text}
use Rattle.card_conversion.specs.RowTexts.{card_row_text, header_row_text}

-- ---- a UID is text

after_colon : (front value : List ℕ) → IsUtf8 (front ++ 58 ∷ value) → IsUtf8 value
after_colon front value u =
    let whole = front ++ 58 ∷ value in
    let at : get_or whole (length front) 0 ≡ 58 = get_or-append_seam front 58 value 0 in
    let small : length whole ≡ length front + suc (length value) =
    length-append front (58 ∷ value) in
    let rest : drop (length front + 1) whole ≡ value =
    ap (drop (length front + 1)) (sym (append_assoc front (58 ∷ []) value))
    ∙ drop_at (front ++ 58 ∷ []) value (length front + 1) (length-append front (58 ∷ [])) in
    subst IsUtf8 rest (IsUtf8-drop whole (length front + 1) u (IsCharBoundary-after_ascii whole
    (length front) u (omega (arith, small)) (omega (arith, at))))

in_front : (line : Line) → line_text line ≡ group_text line.group
    ++ (line.name ++ params_text line.params) ++ 58 ∷ line.value
in_front line = sym (append_assoc (group_text line.group) (line.name ++ params_text line.params)
    (58 ∷ line.value) ∙ ap (λ rest. group_text line.group ++ rest)
    (append_assoc line.name (params_text line.params) (58 ∷ line.value)))

value_utf8 : (line : Line) → IsUtf8 (line_text line) → IsUtf8 line.value
value_utf8 line u = after_colon (group_text line.group ++ (line.name ++ params_text line.params))
    line.value (subst IsUtf8 (in_front line) u)

uid_here : (line : Line) (lines : List Line) → line_is_named (codes "UID") line ≡ true
    → uid_of (line ∷ lines) ≡ line.value
uid_here line lines e = rw e refl

uid_later : (line : Line) (lines : List Line) → line_is_named (codes "UID") line ≡ false
    → uid_of (line ∷ lines) ≡ uid_of lines
uid_later line lines e = rw e refl

uid_utf8 : (lines : List Line) → AllByRecursion IsProperLine lines → IsUtf8 (uid_of lines)
uid_utf8 [] all = IsUtf8-nil
uid_utf8 (line ∷ lines) all = elim (cases_Bool (line_is_named (codes "UID") line)) [
  | inl here ↦ subst IsUtf8 (sym (uid_here line lines here)) (value_utf8 line all.0.utf8)
  | inr later ↦ subst IsUtf8 (sym (uid_later line lines later)) (uid_utf8 lines all.1)
]

-- ---- cards

module _ (spells : (lines : List Line) → IsCard lines → Spells (canonical_text lines) lines) where
  row_represents : (card : List Line) → IsCard card
      → RowRepresents form.Cards (card_row form.Cards card) card
  unfolding AllText
  row_represents card is = record {
    fields = refl;
    utf8 = (uid_utf8 card is.proper, ((spells card is).utf8, tt));
    holds = record { text = spells card is; uid = inr refl };
  }

  each_represents : (cards : List (List Line)) → AllByRecursion IsCard cards
      → RowsRepresentEach form.Cards (map (card_row form.Cards) cards) cards
  each_represents [] all = tt
  each_represents (card ∷ cards) all = (row_represents card all.0, each_represents cards all.1)

  pub cards_read_back : (cards : List (List Line)) → AllByRecursion IsCard cards
      → AllPairs (λ a b. a ≢ b) (map uid_of cards) → TextHasCards (csv_text form.Cards cards) cards
  cards_read_back cards all distinct = record {
    kind = form.Cards;
    rows = map (card_row form.Cards) cards;
    are_rows = rows_back cards;
    represent = record { each = each_represents cards all; distinct = distinct };
  }

-- the rows after the header, one after another
pub rows_in_turn : (cards : List (List Line)) → csv_text form.Cards cards ≡ header_row_text
    ++ flat_map card_row_text cards
rows_in_turn cards = ap (λ rows. header_row_text ++ rows) (flat_map-map (row_text default_writer)
    (card_row form.Cards) cards)
