-- The pieces so far, and one more.
use Rattle.std.proofs.Common.{◌≡◌, ◌≢◌, ◌∷◌, ◌++◌, [], ℕ, List, Option, Some, None, refl, sym, ap}
use Rattle.std.proofs.Common.{subst, ◌∙◌, map, IfSome, append_assoc, append-nil, arith, ◌<◌, length}
use Rattle.std.proofs.Common.{get_or, zero, suc}
use Rattle.std.specs.List.{All, AllByRecursion, AllPairs, Contains}
use Rattle.std.specs.FinMap as finite
use Rattle.std.specs.Option.{IsSome}
use Rattle.std.specs.Io.KnownBytes.{Consumes, IsAtEnd}
use Rattle.std.proofs.lemmas.List.{flat_map_more}
use Rattle.std.proofs.lemmas.List.Elements.{Contains-append_left, Contains-append_right}
use Rattle.std.proofs.lemmas.List.Kept.{AllPairs-cons}
use Rattle.base_types.specs.TextMaps.{text_cmp}
use Rattle.vcard_lines.specs.declared.line.Line.{Line}
use Rattle.vcard_text.specs.Cards.{IsCard, uid_of}
use Rattle.convert_report.specs.declared.fate.Fate.{Fate}
use Rattle.card_conversion.specs.declared.piece_reader.PieceReader.{PieceReader}
use Rattle.convert_report.specs.declared.fate.Fate.TheVariants.{Blank, Other, Long, Overfull}
use Rattle.convert_report.specs.declared.fate.Fate.TheVariants.{Refused, Repeated, Crowded}
use Rattle.convert_report.specs.declared.fate.Fate.TheVariants.{Declined, Written, Moved}
use Rattle.card_conversion.specs.Accounts.{ConvertsAll}
use Rattle.convert_report.specs.Counts.{counted, nothing_counted}
use Rattle.card_conversion.specs.Counts.{summary_after}
use Rattle.card_conversion.specs.declared.course.Course.{Course}
use Rattle.convert_report.specs.declared.ledger.Summary.{Summary}
use Rattle.card_conversion.specs.Courses.{ConvertsPieces, counts_of}
use Rattle.std.proofs.lemmas.Grind.{fold-append}
use Rattle.card_conversion.specs.Deliveries.{HasUids, WritesInTurn}
use Rattle.card_conversion.specs.Fates.{Entry, HaveFates, IsFate, cards_of, cards_of_fate}
use Rattle.card_conversion.specs.Fates.{octets_of, pieces_of, uids_of, uids_of_fate}
use Rattle.card_conversion.specs.Moved.{own_uid}
use Rattle.vcard_changes.specs.declared.conversion.Conversion.{Conversion}
use Rattle.card_conversion.specs.internal.PieceReaders.{AreCutFrom, HasEnded, IsCutFrom, left_of}
use Rattle.card_conversion.specs.internal.States.{Progress, TakesPiece}
use Rattle.std.proofs.lemmas.List.{map-append}
use Rattle.card_conversion.proofs.CutLemmas.{all_cut, nothing_cut, one_more_cut}
use Rattle.import_text.proofs.FillLemmas.{consumes_more}

abbrev entry_of : List ℕ → Fate → Entry
entry_of octets fate = record { octets = octets; fate = fate }

-- a flat map of one more entry
more_octets : (entries : List Entry) (octets : List ℕ) (fate : Fate)
    → octets_of (entries ++ entry_of octets fate ∷ []) ≡ octets_of entries ++ octets
more_octets entries octets fate = sym (flat_map_more (λ (e : Entry). e.octets) [] entries
    (entry_of octets fate))

more_uids : (entries : List Entry) (octets : List ℕ) (fate : Fate)
    → uids_of (entries ++ entry_of octets fate ∷ []) ≡ uids_of entries ++ uids_of_fate octets fate
more_uids entries octets fate = sym (flat_map_more (λ (e : Entry). uids_of_fate e.octets e.fate) []
    entries (entry_of octets fate))

more_cards : (entries : List Entry) (octets : List ℕ) (fate : Fate)
    → cards_of (entries ++ entry_of octets fate ∷ []) ≡ cards_of entries ++ cards_of_fate fate
more_cards entries octets fate = sym (flat_map_more (λ (e : Entry). cards_of_fate e.fate) [] entries
    (entry_of octets fate))

more_counts : (start : Summary) (entries : List Entry) (octets : List ℕ) (fate : Fate)
    → summary_after start (entries ++ entry_of octets fate ∷ [])
    ≡ counted (summary_after start entries) fate
more_counts start entries octets fate = fold-append (λ (s : Summary) (e : Entry). counted s e.fate)
    start entries (entry_of octets fate ∷ [])

-- one more piece has its fate after the others
more_fates : (uids : List (List ℕ)) (entries : List Entry) (octets : List ℕ) (fate : Fate)
    → HaveFates uids entries → IsFate (uids ++ uids_of entries) octets fate
    → HaveFates uids (entries ++ entry_of octets fate ∷ [])
more_fates uids [] octets fate have is =
    (subst (λ all. IsFate all octets fate) (append-nil uids) is, tt)
more_fates uids (e ∷ es) octets fate have is = (
  have.0,
  more_fates (uids ++ uids_of_fate e.octets e.fate) es octets fate have.1
      (subst (λ all. IsFate all octets fate)
      (sym (append_assoc uids (uids_of_fate e.octets e.fate) (uids_of es))) is),
)

-- what was read up to the end is the whole
whole_read : (a b c : Option (List ℕ)) (octets : List ℕ) → Consumes a b octets → Consumes b c []
    → IsAtEnd c → IfSome a (λ input. input ≡ octets)
whole_read None b c octets p q e = tt
whole_read (Some x) None c octets p q e = absurd p
whole_read (Some x) (Some y) None octets p q e = absurd q
whole_read (Some x) (Some y) (Some z) octets p q e = p ∙ ap (λ rest. octets ++ rest) (q ∙ e)
    ∙ append-nil octets

-- ---- the UIDs of the cards that were written

module _ (P : List ℕ → Type 0) (rest : List (List Line)) where
  with_first : (uid : List ℕ) → P uid → All P (map uid_of rest) → All P (uid ∷ map uid_of rest)
  with_first uid is all = λ k d small. at k d small
    where
      at : (k : ℕ) (d : List ℕ) → k < length (uid ∷ map uid_of rest)
          → P (get_or (uid ∷ map uid_of rest) k d)
      at zero d small = is
      at (suc k) d small = all k d (omega (arith, small))

  with_card : (uids : List (List ℕ)) (octets : List ℕ) (fate : Fate) → IsFate uids octets fate
      → ((uid : List ℕ) → (Contains uids uid → ⊥) → P uid) → All P (map uid_of rest)
      → All P (map uid_of (cards_of_fate fate ++ rest))
  with_card uids octets Blank is new all = all
  with_card uids octets Other is new all = all
  with_card uids octets Long is new all = all
  with_card uids octets Overfull is new all = all
  with_card uids octets (Refused fault) is new all = all
  with_card uids octets (Repeated made) is new all = all
  with_card uids octets (Crowded made) is new all = all
  with_card uids octets (Declined made words) is new all = all
  with_card uids octets (Written made) is new all =
      with_first (uid_of made.card) (new (uid_of made.card) is.1) all
  with_card uids octets (Moved made) is new all =
      with_first (uid_of made.card) (new (uid_of made.card) is.1) all

-- none of them is among the UIDs of earlier cards
apart : (uids : List (List ℕ)) (entries : List Entry) → HaveFates uids entries
    → All (λ uid. Contains uids uid → ⊥) (map uid_of (cards_of entries))
apart uids [] have = λ k d small. absurd (omega (arith, small))
apart uids (e ∷ es) have =
    with_card (λ uid. Contains uids uid → ⊥) (cards_of es) uids e.octets e.fate have.0
    (λ uid new. new)
    (λ k d small had. apart (uids ++ uids_of_fate e.octets e.fate) es have.1 k d small
    (Contains-append_left uids (uids_of_fate e.octets e.fate) (get_or (map uid_of (cards_of es))
    k d) had))

first_has : (x : List ℕ) (others : List (List ℕ)) → Contains (x ∷ others) x
first_has x others = (0, omega arith, refl)

-- a card with a UID that none of the others has
with_pair : (uids : List (List ℕ)) (octets : List ℕ) (made : Conversion) (rest : List (List Line))
    → All (λ uid. Contains (uids ++ uid_of made.card ∷ own_uid octets made ∷ []) uid
    → ⊥) (map uid_of rest) → AllPairs (λ a b. a ≢ b) (map uid_of rest)
    → AllPairs (λ a b. a ≢ b) (uid_of made.card ∷ map uid_of rest)
with_pair uids octets made rest all pairs =
    AllPairs-cons (λ a b. a ≢ b) (uid_of made.card) (map uid_of rest)
    (λ k d small same. all k d small (subst
    (Contains (uids ++ uid_of made.card ∷ own_uid octets made ∷ [])) same
    (Contains-append_right uids (uid_of made.card ∷ own_uid octets made ∷ []) (uid_of made.card)
    (first_has (uid_of made.card) (own_uid octets made ∷ [])))))
    pairs

with_pairs : (uids : List (List ℕ)) (octets : List ℕ) (fate : Fate) (rest : List (List Line))
    → All (λ uid. Contains (uids ++ uids_of_fate octets fate) uid → ⊥) (map uid_of rest)
    → AllPairs (λ a b. a ≢ b) (map uid_of rest)
    → AllPairs (λ a b. a ≢ b) (map uid_of (cards_of_fate fate ++ rest))
with_pairs uids octets Blank rest all pairs = pairs
with_pairs uids octets Other rest all pairs = pairs
with_pairs uids octets Long rest all pairs = pairs
with_pairs uids octets Overfull rest all pairs = pairs
with_pairs uids octets (Refused fault) rest all pairs = pairs
with_pairs uids octets (Repeated made) rest all pairs = pairs
with_pairs uids octets (Crowded made) rest all pairs = pairs
with_pairs uids octets (Declined made words) rest all pairs = pairs
with_pairs uids octets (Written made) rest all pairs = with_pair uids octets made rest all pairs
with_pairs uids octets (Moved made) rest all pairs = with_pair uids octets made rest all pairs

apart_each : (uids : List (List ℕ)) (entries : List Entry) → HaveFates uids entries
    → AllPairs (λ a b. a ≢ b) (map uid_of (cards_of entries))
apart_each uids [] have = λ i j d below small. absurd (omega (arith, small))
apart_each uids (e ∷ es) have =
    with_pairs uids e.octets e.fate (cards_of es) (apart (uids ++ uids_of_fate e.octets e.fate) es
    have.1) (apart_each (uids ++ uids_of_fate e.octets e.fate) es have.1)

with_rules : (uids : List (List ℕ)) (octets : List ℕ) (fate : Fate) (rest : List (List Line))
    → IsFate uids octets fate → AllByRecursion IsCard rest
    → AllByRecursion IsCard (cards_of_fate fate ++ rest)
with_rules uids octets Blank rest is all = all
with_rules uids octets Other rest is all = all
with_rules uids octets Long rest is all = all
with_rules uids octets Overfull rest is all = all
with_rules uids octets (Refused fault) rest is all = all
with_rules uids octets (Repeated made) rest is all = all
with_rules uids octets (Crowded made) rest is all = all
with_rules uids octets (Declined made words) rest is all = all
with_rules uids octets (Written made) rest is all = (is.0.card, all)
with_rules uids octets (Moved made) rest is all = (is.0.moved.card, all)

each_card : (uids : List (List ℕ)) (entries : List Entry) → HaveFates uids entries
    → AllByRecursion IsCard (cards_of entries)
each_card uids [] have = tt
each_card uids (e ∷ es) have = with_rules uids e.octets e.fate (cards_of es) have.0
    (each_card (uids ++ uids_of_fate e.octets e.fate) es have.1)

-- ---- the same, with other cards after them

-- what is no UID of these and the later entries, in the order of the entries
later : (P : List (List ℕ) → Type 0) (uids : List (List ℕ)) (e : Entry) (es : List Entry)
    → P (uids ++ uids_of (e ∷ es)) → P ((uids ++ uids_of_fate e.octets e.fate) ++ uids_of es)
later P uids e es = subst P (sym (append_assoc uids (uids_of_fate e.octets e.fate) (uids_of es)))

abbrev NoneOf : List (List Line) → List (List ℕ) → Type 0
NoneOf rest uids = All (λ uid. Contains uids uid → ⊥) (map uid_of rest)

pub apart_then : (uids : List (List ℕ)) (entries : List Entry) (rest : List (List Line))
    → HaveFates uids entries → NoneOf rest (uids ++ uids_of entries)
    → NoneOf (cards_of entries ++ rest) uids
apart_then uids [] rest have all = subst (NoneOf rest) (append-nil uids) all
apart_then uids (e ∷ es) rest have all =
    subst (λ cards. NoneOf cards uids)
    (sym (append_assoc (cards_of_fate e.fate) (cards_of es) rest))
    (with_card (λ uid. Contains uids uid → ⊥) (cards_of es ++ rest) uids e.octets e.fate have.0
    (λ uid new. new)
    (λ k d small had. apart_then (uids ++ uids_of_fate e.octets e.fate) es rest have.1
    (later (NoneOf rest) uids e es all) k d small
    (Contains-append_left uids (uids_of_fate e.octets e.fate)
    (get_or (map uid_of (cards_of es ++ rest)) k d) had)))

pub pairs_then : (uids : List (List ℕ)) (entries : List Entry) (rest : List (List Line))
    → HaveFates uids entries → NoneOf rest (uids ++ uids_of entries)
    → AllPairs (λ a b. a ≢ b) (map uid_of rest)
    → AllPairs (λ a b. a ≢ b) (map uid_of (cards_of entries ++ rest))
pairs_then uids [] rest have all pairs = pairs
pairs_then uids (e ∷ es) rest have all pairs =
    let after = later (NoneOf rest) uids e es all in
    subst (λ cards. AllPairs (λ a b. a ≢ b) (map uid_of cards))
    (sym (append_assoc (cards_of_fate e.fate) (cards_of es) rest))
    (with_pairs uids e.octets e.fate (cards_of es ++ rest)
    (apart_then (uids ++ uids_of_fate e.octets e.fate) es rest have.1 after)
    (pairs_then (uids ++ uids_of_fate e.octets e.fate) es rest have.1 after pairs))

pub cards_then : (uids : List (List ℕ)) (entries : List Entry) (rest : List (List Line))
    → HaveFates uids entries → AllByRecursion IsCard rest
    → AllByRecursion IsCard (cards_of entries ++ rest)
cards_then uids [] rest have all = all
cards_then uids (e ∷ es) rest have all =
    subst (AllByRecursion IsCard) (sym (append_assoc (cards_of_fate e.fate) (cards_of es) rest))
    (with_rules uids e.octets e.fate (cards_of es ++ rest) have.0
    (cards_then (uids ++ uids_of_fate e.octets e.fate) es rest have.1 all))

-- no UID is known yet
pub none_known : HasUids finite.empty []
none_known uid = (
  λ some. cc (subst IsSome (finite.get-empty text_cmp uid) some),
  λ had. absurd (nothing uid had),
)
  where
    nothing : (q : List ℕ) → Contains {X = List ℕ} [] q → ⊥
    nothing q (i, small, e) = omega (arith, small)

module _ {A : Type 0} (writes : List Line → A → A → Type 0) where
  -- more cards are written after the others
  pub more_written : (cards more : List (List Line)) (a b c : A) → WritesInTurn writes cards a b
      → WritesInTurn writes more b c → WritesInTurn writes (cards ++ more) a c
  more_written [] more a b c first then = subst (λ x. WritesInTurn writes more x c) first then
  more_written (card ∷ cards) more a b c first then =
      (first.0, first.1, more_written cards more first.0 b c first.2 then)

  -- the first file is converted
  pub first_done : (input : Option (List ℕ)) (first course : Course) (before now : A)
      → counts_of first ≡ nothing_counted → ConvertsPieces writes input [] first course before now
      → ConvertsAll writes input before now (counts_of course)
  first_done input first course before now nothing converts = record {
    entries = converts.entries;
    accounts = record {
      whole = converts.whole;
      cut = converts.cut;
      fates = converts.part.fates;
      distinct = apart_each [] converts.entries converts.part.fates;
      cards = each_card [] converts.entries converts.part.fates;
      counts = converts.part.counts ∙ ap (λ start. summary_after start converts.entries) nothing;
    };
    written = converts.part.written;
  }

  module _ {R : Type 0} (remaining : R → Option (List ℕ)) (input : Option (List ℕ)) (uids :
      List (List ℕ)) (start : Summary) (before : A) where
    pub begun : (pieces : PieceReader R) (map : finite.FinMap text_cmp (Unit {0})) (summary :
        Summary) → Consumes input (left_of remaining pieces) [] → HasEnded remaining pieces
        → HasUids map uids → summary ≡ start → Progress writes remaining input uids start before
        before pieces map summary
    begun pieces map summary left ended known counts = record {
      entries = [];
      passed = left;
      cut = nothing_cut input (left_of remaining pieces) left;
      ended = ended;
      fates = tt;
      known = subst (HasUids map) (sym (append-nil uids)) known;
      written = refl;
      counts = counts;
    }

    pub one_piece : (now then : A) (old found new : PieceReader R) (map after :
        finite.FinMap text_cmp (Unit {0})) (octets : List ℕ) (fate : Fate) (summary more : Summary)
        → Progress writes remaining input uids start before now old map summary
        → Consumes (left_of remaining old) (left_of remaining found) []
        → IsCutFrom (left_of remaining found) octets
        → Consumes (left_of remaining found) (left_of remaining new) octets
        → HasEnded remaining new
        → TakesPiece writes octets map after now then fate
        → more ≡ counted summary fate
        → Progress writes remaining input uids start before then new after more
    one_piece now then old found new map after octets fate summary more p nothing cut passes ended
        takes counts =
        let taken = takes (uids ++ uids_of p.entries) p.known in
        record {
          entries = p.entries ++ entry_of octets fate ∷ [];
          passed = subst (Consumes input (left_of remaining new))
              (sym (more_octets p.entries octets fate))
              (consumes_more input (left_of remaining old) (left_of remaining new)
              (octets_of p.entries) octets p.passed
              (consumes_more (left_of remaining old) (left_of remaining found)
              (left_of remaining new) [] octets nothing passes));
          cut = subst (λ pieces. AreCutFrom input pieces (left_of remaining new))
              (sym (map-append (λ (e : Entry). e.octets) p.entries (entry_of octets fate ∷ [])))
              (one_more_cut input (left_of remaining old) (left_of remaining found)
              (left_of remaining new) (pieces_of p.entries) octets p.cut nothing cut passes);
          ended = ended;
          fates = more_fates uids p.entries octets fate p.fates taken.0;
          known = subst (λ all. HasUids after (uids ++ all)) (sym (more_uids p.entries octets fate))
              (subst (HasUids after) (append_assoc uids (uids_of p.entries)
              (uids_of_fate octets fate)) taken.1);
          written = subst (λ cards. WritesInTurn writes cards before then)
              (sym (more_cards p.entries octets fate))
              (more_written (cards_of p.entries) (cards_of_fate fate) before now
              then p.written taken.2);
          counts = counts ∙ ap (λ s. counted s fate) p.counts
              ∙ sym (more_counts start p.entries octets fate);
        }

  -- one more file is converted
  pub all_done : {R : Type 0} (remaining : R → Option (List ℕ)) (input : Option (List ℕ)) (uids :
      List (List ℕ)) (first course : Course) (before now : A) (old found : PieceReader R)
      → Progress writes remaining input uids (counts_of first) before now old course.uids
      (counts_of course)
      → Consumes (left_of remaining old) (left_of remaining found) []
      → IsAtEnd (left_of remaining found)
      → ConvertsPieces writes input uids first course before now
  all_done remaining input uids first course before now old found p nothing at_end = record {
    entries = p.entries;
    whole = whole_read input (left_of remaining old) (left_of remaining found) (octets_of p.entries)
        p.passed nothing at_end;
    cut = all_cut input (left_of remaining old) (left_of remaining found) (pieces_of p.entries)
        p.cut nothing at_end;
    part = record { fates = p.fates; known = p.known; written = p.written; counts = p.counts };
  }
