-- What form Cards writes is read back.
use Rattle.std.proofs.Common.{◌≡◌, ◌≢◌, ◌+◌, ◌∷◌, ◌++◌, [], ℕ, suc, List, Bool, true, false, map}
use Rattle.std.proofs.Common.{length, get_or, drop, codes, IsUtf8, refl, sym, ap, subst, ◌∙◌, arith}
use Rattle.std.proofs.Common.{inl, inr, append_assoc, Ordering, Less, Equal, Greater, is_eq, is_lt}
use Rattle.std.proofs.Common.{T}
use Rattle.std.specs.List.{AllByRecursion, AllPairs}
use Rattle.std.specs.FinMap as finite
use Rattle.std.specs.FinMap.Entries.{is_sorted, below_all}
use Rattle.std.proofs.lemmas.List.{drop_at, length-append}
use Rattle.std.proofs.Math.Seq.{get_or-append_seam}
use Rattle.std.proofs.lemmas.List.Kept.{AllPairs-cons}
use Rattle.std.proofs.lemmas.Bool.{and_parts, cases_Bool}
use Rattle.std.proofs.lemmas.List.Elements.{All-from_recursion}
use Rattle.std.proofs.lemmas.Map.Text.{is_eq-slice_cmp}
use Rattle.std.proofs.lemmas.Slice.Eq.{bytes_eq-Decides}
use Rattle.std.proofs.lemmas.Str.{IsUtf8-drop, IsUtf8-nil, IsCharBoundary-after_ascii}
use Rattle.base_types.specs.TextMaps.{text_cmp}
use Rattle.csv.specs.Machine.{next_record}
use Rattle.csv.specs.Records.{AllText}
use Rattle.csv.specs.Reading.{AreRecords, Reached, default_config, strip_bom}
use Rattle.csv.specs.Writing.{escaped, fields_text, is_blank}
use Rattle.csv.specs.declared.parser.State.TheVariants as st
use Rattle.csv.proofs.RoundTrip.{read-write}
use Rattle.vcard_lines.specs.declared.line.Line.{Line}
use Rattle.vcard_lines.specs.Grammar.{group_text, line_text, params_text}
use Rattle.vcard_text.specs.Cards.{IsCard, IsProperLine, canonical_text, line_is_named, uid_of}
use Rattle.vcard_text.specs.Spelling.{Spells}
use Rattle.csv_cards.specs.declared.form.Form.TheVariants as form
use Rattle.csv_cards.specs.Rows.{AreRows, header}
use Rattle.csv_cards.specs.Reading.{TextHasCards, RowsRepresentEach, RowRepresents}
use Rattle.csv_cards.specs.ReadBack.{AreUnderOwnUids, IsUnderOwnUid}
use Rattle.csv_cards.specs.Writing.{csv_text, card_row, rows_text}

-- ---- records

pub records_back : (cards : List (List Line))
    → AreRecords default_config st.StartRecord (rows_text (map (card_row form.Cards) cards))
    (map (card_row form.Cards) cards)
unfolding Reached next_record
records_back [] = (st.StartRecord, [], (refl, refl), refl)
records_back (card ∷ cards) =
    let more = records_back cards in
    let row = card_row form.Cards card in (
      more.0,
      more.1,
      (
        (row, st.StartRecord, rows_text (map (card_row form.Cards) cards)),
        read-write row (rows_text (map (card_row form.Cards) cards)),
        refl,
        more.2,
      ),
      more.3,
    )

pub rows_back : (cards : List (List Line))
    → AreRows (csv_text form.Cards cards) (header form.Cards ∷ map (card_row form.Cards) cards)
unfolding Reached next_record strip_bom fields_text is_blank escaped
rows_back cards =
    let more = records_back cards in (
      more.0,
      more.1,
      (
        (
          header form.Cards,
          st.StartRecord,
          rows_text (map (card_row form.Cards) cards),
        ),
        read-write (header form.Cards) (rows_text (map (card_row form.Cards) cards)),
        refl,
        more.2,
      ),
      more.3,
    )

-- ---- a UID is text

after_colon : (front value : List ℕ) → IsUtf8 (front ++ 58 ∷ value) → IsUtf8 value
after_colon front value u =
    let whole = front ++ 58 ∷ value in
    let at : get_or whole (length front) 0 ≡ 58 = get_or-append_seam front 58 value 0 in
    let small : length whole ≡ length front + suc (length value) =
    length-append front (58 ∷ value) in
    let rest : drop (length front + 1) whole ≡ value =
    ap (drop (length front + 1)) (sym (append_assoc front (58 ∷ []) value))
    ∙ drop_at (front ++ 58 ∷ []) value (length front + 1) (length-append front (58 ∷ [])) in
    subst IsUtf8 rest (IsUtf8-drop whole (length front + 1) u (IsCharBoundary-after_ascii whole
    (length front) u (omega (arith, small)) (omega (arith, at))))

in_front : (line : Line) → line_text line ≡ group_text line.group
    ++ (line.name ++ params_text line.params) ++ 58 ∷ line.value
in_front line = sym (append_assoc (group_text line.group) (line.name ++ params_text line.params)
    (58 ∷ line.value) ∙ ap (λ rest. group_text line.group ++ rest)
    (append_assoc line.name (params_text line.params) (58 ∷ line.value)))

value_utf8 : (line : Line) → IsUtf8 (line_text line) → IsUtf8 line.value
value_utf8 line u = after_colon (group_text line.group ++ (line.name ++ params_text line.params))
    line.value (subst IsUtf8 (in_front line) u)

uid_here : (line : Line) (lines : List Line) → line_is_named (codes "UID") line ≡ true
    → uid_of (line ∷ lines) ≡ line.value
uid_here line lines e = rw e refl

uid_later : (line : Line) (lines : List Line) → line_is_named (codes "UID") line ≡ false
    → uid_of (line ∷ lines) ≡ uid_of lines
uid_later line lines e = rw e refl

uid_utf8 : (lines : List Line) → AllByRecursion IsProperLine lines → IsUtf8 (uid_of lines)
uid_utf8 [] all = IsUtf8-nil
uid_utf8 (line ∷ lines) all = elim (cases_Bool (line_is_named (codes "UID") line)) [
  | inl here ↦ subst IsUtf8 (sym (uid_here line lines here)) (value_utf8 line all.0.utf8)
  | inr later ↦ subst IsUtf8 (sym (uid_later line lines later)) (uid_utf8 lines all.1)
]

-- ---- sorted keys

lower_differs : (a b : List ℕ) → is_lt (text_cmp a b) ≡ true → a ≢ b
lower_differs a b lower same = no_both (text_cmp a b) lower (is_eq-slice_cmp a b
    ∙ (bytes_eq-Decides a b).1 same)
  where
    no_both : (o : Ordering) → is_lt o ≡ true → is_eq o ≡ true → ⊥
    no_both Less lt eq = cc eq
    no_both Equal lt eq = cc lt
    no_both Greater lt eq = cc lt

later_differ : (key : List ℕ) (es : List (List ℕ × List Line)) → below_all text_cmp key es ≡ true
    → AllByRecursion IsUnderOwnUid es
    → AllByRecursion (λ uid. key ≢ uid) (map uid_of (map (λ e. e.1) es))
later_differ key [] below all = tt
later_differ key (e ∷ es) below all =
    let parts = and_parts (is_lt (text_cmp key e.0)) (below_all text_cmp key es) below in (
      subst (λ uid. key ≢ uid) all.0.uid (lower_differs key e.0 parts.0),
      later_differ key es parts.1 all.1,
    )

t_true : (b : Bool) → T b → b ≡ true
t_true true t = refl
t_true false t = absurd t

-- ---- cards

module _ (spells : (lines : List Line) → IsCard lines → Spells (canonical_text lines) lines) where
  row_represents : (card : List Line) → IsCard card
      → RowRepresents form.Cards (card_row form.Cards card) card
  unfolding AllText
  row_represents card is = record {
    fields = refl;
    utf8 = (uid_utf8 card is.proper, ((spells card is).utf8, tt));
    holds = record { text = spells card is; uid = inr refl };
  }

  each_represents : (entries : List (List ℕ × List Line)) → AllByRecursion IsUnderOwnUid entries
      → RowsRepresentEach form.Cards (map (card_row form.Cards) (map (λ e. e.1) entries))
      (map (λ e. e.1) entries)
  each_represents [] all = tt
  each_represents (e ∷ es) all = (row_represents e.1 all.0.card, each_represents es all.1)

  distinct : (entries : List (List ℕ × List Line)) → is_sorted text_cmp entries ≡ true
      → AllByRecursion IsUnderOwnUid entries
      → AllPairs (λ a b. a ≢ b) (map uid_of (map (λ e. e.1) entries))
  distinct [] sorted all = λ i j d below small. absurd (omega (arith, small))
  distinct (e ∷ es) sorted all =
      let parts = and_parts (below_all text_cmp e.0 es) (is_sorted text_cmp es) sorted in
      AllPairs-cons (λ a b. a ≢ b) (uid_of e.1) (map uid_of (map (λ e. e.1) es))
      (All-from_recursion (λ uid. uid_of e.1 ≢ uid) (map uid_of (map (λ e. e.1) es))
      (subst (λ key. AllByRecursion (λ uid. key ≢ uid) (map uid_of (map (λ e. e.1) es)))
      all.0.uid (later_differ e.0 es parts.0 all.1)))
      (distinct es parts.1 all.1)

  pub cards_read_back : (book : finite.FinMap text_cmp (List Line)) → AreUnderOwnUids book
      → TextHasCards (csv_text form.Cards (finite.values book)) (finite.values book)
  cards_read_back book all = record {
    kind = form.Cards;
    rows = map (card_row form.Cards) (finite.values book);
    are_rows = rows_back (finite.values book);
    represent = record {
      each = each_represents (finite.entries book) all;
      distinct = distinct (finite.entries book) (t_true _ (finite.entries_sorted book)) all;
    };
  }
