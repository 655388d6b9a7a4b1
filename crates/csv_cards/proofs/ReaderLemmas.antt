-- A reader that has read rows of its text, and reads one more.
use Rattle.std.proofs.Common.{Bor, ◌≡◌, ◌∷◌, ◌++◌, [], ℕ, List, Some, true, false, refl, sym, ap}
use Rattle.std.proofs.Common.{subst, ◌∙◌, inl, inr, ⊎_elim, map, cond, ◌≢◌, zero, suc, arith}
use Rattle.std.proofs.Common.{length, get_or, ◌<◌, ◌+◌}
use Rattle.csv.specs.Reading.{ReadRecord, reader_state, took_first, is_flexible, default_config}
use Rattle.csv.specs.Reading.{strip_bom}
use Rattle.csv.specs.declared.parser.State.TheVariants as st
use Rattle.csv.specs.declared.reader.Reader.{Reader}
use Rattle.csv.proofs.ReadFacts.{rows-more, rows-end}
use Rattle.csv_cards.specs.Rows.{Row, AreRows, header}
use Rattle.csv_cards.specs.internal.ReaderState.{HasUids, HasReadCards, HasReadRows, AppendsRowCard}
use Rattle.csv_cards.specs.Reading.{IsFirstFaultyRow, IsLeastCause, RowsRepresent}
use Rattle.csv_cards.specs.Reading.{RowsRepresentEach, RowRepresents, row_fault}
use Rattle.csv_cards.specs.declared.cause.CsvCause.{CsvCause}
use Rattle.csv_cards.specs.declared.form.Form.{Form}
use Rattle.std.specs.Option.{IsSome}
use Rattle.std.specs.Ordering.{eq_by_cmp}
use Rattle.std.specs.List.{AllPairs, Contains}
use Rattle.std.specs.FinMap as finite
use Rattle.std.specs.Cmp.Lexicographic.{nat_list_cmp_total}
use Rattle.std.proofs.lemmas.Bool.{both_ways, cases_Bool, cond-true, cond-false}
use Rattle.std.proofs.lemmas.Map.Text.{is_eq-slice_cmp}
use Rattle.std.proofs.lemmas.Slice.Eq.{bytes_eq-Decides}
use Rattle.std.proofs.lemmas.List.Quantifiers.{all_pairs_push}
use Rattle.std.proofs.lemmas.List.{length-append, map-append}
use Rattle.std.proofs.lemmas.List.Elements.{Contains-get_or, Contains-append_left}
use Rattle.std.proofs.lemmas.List.Elements.{Contains-append_right, Contains-append_cases}
use Rattle.base_types.specs.TextMaps.{text_cmp}
use Rattle.base_types.proofs.TextLemmas.{same-equal}
use Rattle.vcard_lines.specs.declared.line.Line.{Line}
use Rattle.vcard_text.specs.Cards.{uid_of}

module _ (a b : Reader (Bor (List ℕ))) (fields : Row) (text : List ℕ) (rows : List Row) where
  pub one_more_read : HasReadRows a text rows → ReadRecord (λ s. Some s.now) a b true fields
      → took_first b ≡ true → is_flexible b ≡ is_flexible a
      → HasReadRows b text (rows ++ fields ∷ [])
  one_more_read has_read read took flexible =
      let more = rows-more (λ (s : Bor (List ℕ)). Some s.now) a b fields default_config
      st.StartRecord (strip_bom text) has_read.rest rows has_read.config has_read.source
      has_read.reached read in
      record {
        plain = read.3 ∙ has_read.plain;
        ready = inl took;
        config = read.2 ∙ has_read.config;
        flexible = flexible ∙ has_read.flexible;
        rest = more.0;
        source = more.1;
        reached = more.2;
      }

  pub none_left : HasReadRows a text rows → ReadRecord (λ s. Some s.now) a b false fields
      → AreRows text rows
  none_left has_read read = (
    a.state,
    has_read.rest,
    has_read.reached,
    rows-end (λ (s : Bor (List ℕ)). Some s.now) a b
        fields default_config has_read.rest has_read.config has_read.source read,
  )

-- ---- the UIDs so far

text_same : (a b : List ℕ) → a ≡ b → eq_by_cmp text_cmp a b ≡ true
text_same a b e = is_eq-slice_cmp a b ∙ (bytes_eq-Decides a b).1 e

one_is : (x q : List ℕ) → Contains (x ∷ []) q → q ≡ x
one_is x q (zero, small, e) = sym e
one_is x q (suc i, small, e) = absurd (omega (arith, small))

one_has : (x : List ℕ) → Contains (x ∷ []) x
one_has x = (0, omega arith, refl)

module _ (uids : finite.FinMap text_cmp (Unit {0})) (cards : List (List Line)) (card : List Line)
    (has : HasUids uids cards) where
  uids_of_more : map uid_of (cards ++ card ∷ []) ≡ map uid_of cards ++ uid_of card ∷ []
  uids_of_more = map-append uid_of cards (card ∷ [])

  got : (q : List ℕ) → finite.get (finite.insert uids (uid_of card) tt) q
      ≡ cond (eq_by_cmp text_cmp q (uid_of card)) (Some tt) (finite.get uids q)
  got q = finite.get-insert nat_list_cmp_total uids (uid_of card) tt q

  pub one_more_uid : HasUids (finite.insert uids (uid_of card) tt) (cards ++ card ∷ [])
  one_more_uid q = elim (cases_Bool (eq_by_cmp text_cmp q (uid_of card))) [
    | inl here ↦
        let is : q ≡ uid_of card = same-equal q (uid_of card) here in (
          λ some. subst (λ all. Contains all q) (sym uids_of_more)
              (Contains-append_right (map uid_of cards) (uid_of card ∷ []) q
              (subst (Contains (uid_of card ∷ [])) (sym is) (one_has (uid_of card)))),
          λ had. subst IsSome (sym (got q ∙ cond-true _ _ _ here)) refl,
        )
    | inr there ↦ (
      λ some. subst (λ all. Contains all q) (sym uids_of_more)
          (Contains-append_left (map uid_of cards) (uid_of card ∷ []) q
          ((has q).0 (subst IsSome (got q ∙ cond-false _ _ _ there) some))),
      λ had. subst IsSome (sym (got q ∙ cond-false _ _ _ there)) (⊎_elim
          (λ earlier. (has q).1 earlier)
          (λ last. absurd (both_ways _ there (text_same q (uid_of card)
          (one_is (uid_of card) q last))))
          (Contains-append_cases (map uid_of cards) (uid_of card ∷ []) q
          (subst (λ all. Contains all q) uids_of_more had))),
    )
  ]

-- ---- one more row and its card

each_more : (f : Form) (rows : List Row) (cards : List (List Line)) (row : Row) (card : List Line)
    → RowsRepresentEach f rows cards → RowRepresents f row card
    → RowsRepresentEach f (rows ++ row ∷ []) (cards ++ card ∷ [])
each_more f [] [] row card each represents = (represents, tt)
each_more f [] (c ∷ cs) row card each represents = absurd each
each_more f (r ∷ rs) [] row card each represents = absurd each
each_more f (r ∷ rs) (c ∷ cs) row card each represents =
    (each.0, each_more f rs cs row card each.1 represents)

differs : (uids : List (List ℕ)) (uid : List ℕ) → (Contains uids uid → ⊥) → (k : ℕ) (d : List ℕ)
    → k < length uids → get_or uids k d ≢ uid
differs uids uid new k d small same =
    new (subst (Contains uids) same (Contains-get_or uids k d small))

pub one_more_represents : (f : Form) (rows : List Row) (row : Row) (old new : List (List Line))
    → RowsRepresent f rows old → AppendsRowCard f old row new
    → RowsRepresent f (rows ++ row ∷ []) new
one_more_represents f rows row old new represent takes = rw takes.has_read (record {
  each = each_more f rows old row takes.card represent.each takes.represents;
  distinct = subst (AllPairs (λ a b. a ≢ b)) (sym (map-append uid_of old (takes.card ∷ [])))
      (all_pairs_push (λ a b. a ≢ b) (map uid_of old) (uid_of takes.card) represent.distinct
      (differs (map uid_of old) (uid_of takes.card) takes.first));
})

pub none_yet : HasUids finite.empty []
none_yet q = (
  λ some. cc (subst IsSome (finite.get-empty text_cmp q) some),
  λ had. absurd (nothing q had),
)
  where
    nothing : (q : List ℕ) → Contains {X = List ℕ} [] q → ⊥
    nothing q (i, small, e) = omega (arith, small)

pub none_represent : (f : Form) → RowsRepresent f [] []
none_represent f = record {
  each = tt;
  distinct = λ i j d below small. absurd (omega (arith, small));
}

-- ---- from row to row

module _ (f : Form) (a b : Reader (Bor (List ℕ))) (text : List ℕ) (number : ℕ) (old new :
    List (List Line)) (row : Row) where
  pub goes_on : (read : HasReadCards f a text number old)
      → HasReadRows b text ((header f ∷ read.rows) ++ row ∷ []) → AppendsRowCard f old row new
      → HasReadCards f b text (number + 1) new
  goes_on read has_read takes = record {
    rows = read.rows ++ row ∷ [];
    has_read = has_read;
    represent = one_more_represents f read.rows row old new read.represent takes;
    count = ap (λ n. n + 1) read.count ∙ ap (λ n. n + 1) (sym (length-append read.rows (row ∷ [])));
  }

  pub fails : (why : CsvCause) (read : HasReadCards f a text number old)
      → HasReadRows b text ((header f ∷ read.rows) ++ row ∷ []) → IsLeastCause f old row why
      → IsFirstFaultyRow text (row_fault number why)
  fails why read has_read least = record {
    kind = f;
    before = read.rows;
    row = row;
    cards = old;
    begin = record { state = reader_state b; rest = has_read.rest; reached = has_read.reached };
    represent = read.represent;
    place = read.count;
    cause = least;
  }
