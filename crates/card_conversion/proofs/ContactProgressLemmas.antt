-- The rows so far, and one more.
use Rattle.std.proofs.Common.{◌≡◌, ◌≢◌, ◌∷◌, ◌++◌, [], ℕ, List, Option, Some, None, Result, Ok}
use Rattle.std.proofs.Common.{true, refl, sym, ap, subst, ◌∙◌, map, append_assoc, append-nil, arith}
use Rattle.std.proofs.Common.{◌<◌, length, get_or, zero, suc}
use Rattle.std.specs.List.{All, AllByRecursion, AllPairs, Contains}
use Rattle.std.specs.FinMap as finite
use Rattle.std.specs.Option.{IsSome}
use Rattle.std.proofs.lemmas.List.{flat_map_more}
use Rattle.std.proofs.lemmas.List.Elements.{Contains-append_left, Contains-append_right}
use Rattle.std.proofs.lemmas.List.Kept.{AllPairs-cons}
use Rattle.csv.specs.Reading.{ReadRecord}
use Rattle.csv.specs.declared.reader.Reader.{Reader}
use Rattle.base_types.specs.TextMaps.{text_cmp}
use Rattle.contact_csv.specs.declared.row_fault.RowFault.{RowFault}
use Rattle.vcard_lines.specs.declared.line.Line.{Line}
use Rattle.vcard_text.specs.Cards.{IsCard, uid_of}
use Rattle.vcard_changes.specs.declared.conversion.Conversion.{Conversion}
use Rattle.card_conversion.specs.Deliveries.{HasUids, WritesInTurn}
use Rattle.convert_report.specs.Counts.{nothing_counted}
use Rattle.card_conversion.specs.declared.course.Course.{Course}
use Rattle.convert_report.specs.declared.ledger.Summary.{Summary}
use Rattle.card_conversion.specs.Courses.{ConvertsRows, counts_of}
use Rattle.std.proofs.lemmas.Grind.{fold-append}
use Rattle.contact_csv.specs.Contacts.{BecomesContact, IsReady, columns_of, rows_of}
use Rattle.contact_columns.specs.declared.columns.Column.{Column}
use Rattle.contact_csv.specs.declared.rows.ContactReader.{ContactReader}
use Rattle.card_conversion.specs.declared.contacts.fate.RowFate.{RowFate}
use Rattle.card_conversion.specs.declared.contacts.fate.RowFate.TheVariants.{Refused, Repeated}
use Rattle.card_conversion.specs.declared.contacts.fate.RowFate.TheVariants.{Taken, Declined}
use Rattle.card_conversion.specs.declared.contacts.fate.RowFate.TheVariants.{Written}
use Rattle.card_conversion.specs.ContactAccounts.{ConvertsContacts, ReadsInTurn}
use Rattle.card_conversion.specs.ContactFates.{IsRowContact, RowEntry, HaveFates, IsFate, cards_of}
use Rattle.card_conversion.specs.ContactFates.{cards_of_fate, counted, summary_after, uids_of}
use Rattle.card_conversion.specs.ContactFates.{uids_of_fate}
use Rattle.card_conversion.specs.internal.ContactStates.{IsFateOf, Progress, ReadsRow, TakesRow}

abbrev entry_of : List (List ℕ) → RowFate → RowEntry
entry_of fields fate = record { fields = fields; fate = fate }

-- a flat map of one more entry
more_uids : (entries : List RowEntry) (fields : List (List ℕ)) (fate : RowFate)
    → uids_of (entries ++ entry_of fields fate ∷ []) ≡ uids_of entries ++ uids_of_fate fate
more_uids entries fields fate = sym (flat_map_more (λ (e : RowEntry). uids_of_fate e.fate) []
    entries (entry_of fields fate))

more_cards : (entries : List RowEntry) (fields : List (List ℕ)) (fate : RowFate)
    → cards_of (entries ++ entry_of fields fate ∷ []) ≡ cards_of entries ++ cards_of_fate fate
more_cards entries fields fate = sym (flat_map_more (λ (e : RowEntry). cards_of_fate e.fate) []
    entries (entry_of fields fate))

more_counts : (start : Summary) (entries : List RowEntry) (fields : List (List ℕ)) (fate : RowFate)
    → summary_after start (entries ++ entry_of fields fate ∷ [])
    ≡ counted (summary_after start entries) fate
more_counts start entries fields fate =
    fold-append (λ (s : Summary) (e : RowEntry). counted s e.fate) start entries
    (entry_of fields fate ∷ [])

-- one more row has its fate after the others
more_fates : (columns : List Column) (uids : List (List ℕ)) (entries : List RowEntry) (fields :
    List (List ℕ)) (fate : RowFate) → HaveFates columns uids entries
    → IsFate columns (uids ++ uids_of entries) fields fate
    → HaveFates columns uids (entries ++ entry_of fields fate ∷ [])
more_fates columns uids [] fields fate have is =
    (subst (λ all. IsFate columns all fields fate) (append-nil uids) is, tt)
more_fates columns uids (e ∷ es) fields fate have is = (
  have.0,
  more_fates columns (uids ++ uids_of_fate e.fate) es fields fate have.1
      (subst (λ all. IsFate columns all fields fate)
      (sym (append_assoc uids (uids_of_fate e.fate) (uids_of es))) is),
)

-- ---- the UIDs of the cards that were written

module _ (columns : List Column) (P : List ℕ → Type 0) (rest : List (List Line)) where
  with_card : (uids : List (List ℕ)) (fields : List (List ℕ)) (fate : RowFate)
      → IsFate columns uids fields fate → ((uid : List ℕ) → (Contains uids uid → ⊥) → P uid)
      → All P (map uid_of rest) → All P (map uid_of (cards_of_fate fate ++ rest))
  with_card uids fields (Refused fault) is new all = all
  with_card uids fields (Repeated made) is new all = all
  with_card uids fields (Taken made) is new all = all
  with_card uids fields (Declined made words) is new all = all
  with_card uids fields (Written made) is new all = λ k d small. at k d small
    where
      at : (k : ℕ) (d : List ℕ) → k < length (uid_of made.card ∷ map uid_of rest)
          → P (get_or (uid_of made.card ∷ map uid_of rest) k d)
      at zero d small = new (uid_of made.card) is.1
      at (suc k) d small = all k d (omega (arith, small))

-- none of them is among the UIDs of earlier cards
apart : (columns : List Column) (uids : List (List ℕ)) (entries : List RowEntry)
    → HaveFates columns uids entries → All (λ uid. Contains uids uid
    → ⊥) (map uid_of (cards_of entries))
apart columns uids [] have = λ k d small. absurd (omega (arith, small))
apart columns uids (e ∷ es) have =
    with_card columns (λ uid. Contains uids uid → ⊥) (cards_of es) uids e.fields e.fate have.0
    (λ uid new. new)
    (λ k d small had. apart columns (uids ++ uids_of_fate e.fate) es have.1 k d small
    (Contains-append_left uids (uids_of_fate e.fate) (get_or (map uid_of (cards_of es)) k d)
    had))

one_has : (x : List ℕ) → Contains (x ∷ []) x
one_has x = (0, omega arith, refl)

with_pairs : (uids : List (List ℕ)) (fate : RowFate) (rest : List (List Line))
    → All (λ uid. Contains (uids ++ uids_of_fate fate) uid → ⊥) (map uid_of rest)
    → AllPairs (λ a b. a ≢ b) (map uid_of rest)
    → AllPairs (λ a b. a ≢ b) (map uid_of (cards_of_fate fate ++ rest))
with_pairs uids (Refused fault) rest all pairs = pairs
with_pairs uids (Repeated made) rest all pairs = pairs
with_pairs uids (Taken made) rest all pairs = pairs
with_pairs uids (Declined made words) rest all pairs = pairs
with_pairs uids (Written made) rest all pairs =
    AllPairs-cons (λ a b. a ≢ b) (uid_of made.card) (map uid_of rest)
    (λ k d small same. all k d small (subst (Contains (uids ++ uid_of made.card ∷ [])) same
    (Contains-append_right uids (uid_of made.card ∷ []) (uid_of made.card)
    (one_has (uid_of made.card)))))
    pairs

apart_each : (columns : List Column) (uids : List (List ℕ)) (entries : List RowEntry)
    → HaveFates columns uids entries → AllPairs (λ a b. a ≢ b) (map uid_of (cards_of entries))
apart_each columns uids [] have = λ i j d below small. absurd (omega (arith, small))
apart_each columns uids (e ∷ es) have =
    with_pairs uids e.fate (cards_of es) (apart columns (uids ++ uids_of_fate e.fate) es have.1)
    (apart_each columns (uids ++ uids_of_fate e.fate) es have.1)

with_rules : (columns : List Column) (uids : List (List ℕ)) (fields : List (List ℕ)) (fate :
    RowFate) (rest : List (List Line)) → IsFate columns uids fields fate
    → AllByRecursion IsCard rest → AllByRecursion IsCard (cards_of_fate fate ++ rest)
with_rules columns uids fields (Refused fault) rest is all = all
with_rules columns uids fields (Repeated made) rest is all = all
with_rules columns uids fields (Taken made) rest is all = all
with_rules columns uids fields (Declined made words) rest is all = all
with_rules columns uids fields (Written made) rest is all = (is.0.card, all)

each_card : (columns : List Column) (uids : List (List ℕ)) (entries : List RowEntry)
    → HaveFates columns uids entries → AllByRecursion IsCard (cards_of entries)
each_card columns uids [] have = tt
each_card columns uids (e ∷ es) have = with_rules columns uids e.fields e.fate (cards_of es) have.0
    (each_card columns (uids ++ uids_of_fate e.fate) es have.1)

-- ---- the same, with other cards after them

-- what is no UID of these and the later entries, in the order of the entries
later : (P : List (List ℕ) → Type 0) (uids : List (List ℕ)) (e : RowEntry) (es : List RowEntry)
    → P (uids ++ uids_of (e ∷ es)) → P ((uids ++ uids_of_fate e.fate) ++ uids_of es)
later P uids e es = subst P (sym (append_assoc uids (uids_of_fate e.fate) (uids_of es)))

abbrev NoneOf : List (List Line) → List (List ℕ) → Type 0
NoneOf rest uids = All (λ uid. Contains uids uid → ⊥) (map uid_of rest)

pub apart_then : (columns : List Column) (uids : List (List ℕ)) (entries : List RowEntry) (rest :
    List (List Line)) → HaveFates columns uids entries → NoneOf rest (uids ++ uids_of entries)
    → NoneOf (cards_of entries ++ rest) uids
apart_then columns uids [] rest have all = subst (NoneOf rest) (append-nil uids) all
apart_then columns uids (e ∷ es) rest have all =
    subst (λ cards. NoneOf cards uids)
    (sym (append_assoc (cards_of_fate e.fate) (cards_of es) rest))
    (with_card columns (λ uid. Contains uids uid → ⊥) (cards_of es ++ rest) uids e.fields e.fate
    have.0 (λ uid new. new)
    (λ k d small had. apart_then columns (uids ++ uids_of_fate e.fate) es rest have.1
    (later (NoneOf rest) uids e es all) k d small
    (Contains-append_left uids (uids_of_fate e.fate) (get_or (map uid_of (cards_of es ++ rest))
    k d) had)))

pub pairs_then : (columns : List Column) (uids : List (List ℕ)) (entries : List RowEntry) (rest :
    List (List Line)) → HaveFates columns uids entries → NoneOf rest (uids ++ uids_of entries)
    → AllPairs (λ a b. a ≢ b) (map uid_of rest)
    → AllPairs (λ a b. a ≢ b) (map uid_of (cards_of entries ++ rest))
pairs_then columns uids [] rest have all pairs = pairs
pairs_then columns uids (e ∷ es) rest have all pairs =
    let after = later (NoneOf rest) uids e es all in
    subst (λ cards. AllPairs (λ a b. a ≢ b) (map uid_of cards))
    (sym (append_assoc (cards_of_fate e.fate) (cards_of es) rest))
    (with_pairs uids e.fate (cards_of es ++ rest) (apart_then columns (uids ++ uids_of_fate e.fate)
    es rest have.1 after) (pairs_then columns (uids ++ uids_of_fate e.fate) es rest have.1 after
    pairs))

pub cards_then : (columns : List Column) (uids : List (List ℕ)) (entries : List RowEntry) (rest :
    List (List Line)) → HaveFates columns uids entries → AllByRecursion IsCard rest
    → AllByRecursion IsCard (cards_of entries ++ rest)
cards_then columns uids [] rest have all = all
cards_then columns uids (e ∷ es) rest have all =
    subst (AllByRecursion IsCard) (sym (append_assoc (cards_of_fate e.fate) (cards_of es) rest))
    (with_rules columns uids e.fields e.fate (cards_of es ++ rest) have.0
    (cards_then columns (uids ++ uids_of_fate e.fate) es rest have.1 all))

-- no UID is known yet
pub none_known : HasUids finite.empty []
none_known uid = (
  λ some. cc (subst IsSome (finite.get-empty text_cmp uid) some),
  λ had. absurd (nothing uid had),
)
  where
    nothing : (q : List ℕ) → Contains {X = List ℕ} [] q → ⊥
    nothing q (i, small, e) = omega (arith, small)

-- ---- the reader

module _ {R : Type 0} (remaining : R → Option (List ℕ)) where
  -- one more record is read after the others
  more_read : (entries : List RowEntry) (fields : List (List ℕ)) (fate : RowFate) (a b c : Reader R)
      → ReadsInTurn remaining entries a b → ReadRecord remaining b c true fields
      → ReadsInTurn remaining (entries ++ entry_of fields fate ∷ []) a c
  more_read [] fields fate a b c same then =
      (c, subst (λ x. ReadRecord remaining x c true fields) same then, refl)
  more_read (e ∷ es) fields fate a b c first then =
      (first.0, first.1, more_read es fields fate first.0 b c first.2 then)

-- the row with these fields became a card or a fault, which has the fate
card_of : (columns : List Column) (fields : List (List ℕ)) (row : Result Conversion RowFault)
    (made : Conversion) → BecomesContact columns fields row → row ≡ Ok made → IsCard made.card
    → IsRowContact columns fields made
card_of columns fields row made becomes is card =
    record { card = card; contact = subst (BecomesContact columns fields) is becomes }

fate_of : (columns : List Column) (fields : List (List ℕ)) (uids : List (List ℕ)) (row :
    Result Conversion RowFault) (fate : RowFate) → BecomesContact columns fields row
    → IsFateOf uids row fate → IsFate columns uids fields fate
fate_of columns fields uids row (Refused fault) becomes is =
    subst (BecomesContact columns fields) is becomes
fate_of columns fields uids row (Repeated made) becomes is =
    (card_of columns fields row made becomes is.0 is.1, is.2)
fate_of columns fields uids row (Taken made) becomes is =
    (card_of columns fields row made becomes is.0 is.1, is.2)
fate_of columns fields uids row (Declined made words) becomes is =
    (card_of columns fields row made becomes is.0 is.1, is.2)
fate_of columns fields uids row (Written made) becomes is =
    (card_of columns fields row made becomes is.0 is.1, is.2)

-- ---- the loop

module _ {A : Type 0} (writes : List Line → A → A → Type 0) where
  -- more cards are written after the others
  more_written : (cards more : List (List Line)) (a b c : A) → WritesInTurn writes cards a b
      → WritesInTurn writes more b c → WritesInTurn writes (cards ++ more) a c
  more_written [] more a b c first then = subst (λ x. WritesInTurn writes more x c) first then
  more_written (card ∷ cards) more a b c first then =
      (first.0, first.1, more_written cards more first.0 b c first.2 then)

  module _ {R : Type 0} (remaining : R → Option (List ℕ)) (first : ContactReader R) (uids :
      List (List ℕ)) (start : Summary) (before : A) where
    abbrev pub SoFar : A → ContactReader R → finite.FinMap text_cmp (Unit {0}) → Summary → Type 0
    SoFar now reader map summary = Progress writes remaining (columns_of first) (rows_of first) uids
        start before now reader map summary

    pub begun : (map : finite.FinMap text_cmp (Unit {0})) (summary : Summary) → HasUids map uids
        → summary ≡ start → IsReady first → SoFar before first map summary
    begun map summary known counts ready = record {
      entries = [];
      read = refl;
      ready = ready;
      same_columns = refl;
      fates = tt;
      known = subst (HasUids map) (sym (append-nil uids)) known;
      written = refl;
      counts = counts;
    }

    pub one_row : (now then : A) (old new : ContactReader R) (map after :
        finite.FinMap text_cmp (Unit {0})) (row : Result Conversion RowFault) (fate : RowFate)
        (summary more : Summary)
        → SoFar now old map summary
        → ReadsRow remaining old new (Some row)
        → columns_of new ≡ columns_of old
        → IsReady new
        → TakesRow writes row map after now then fate
        → more ≡ counted summary fate
        → SoFar then new after more
    one_row now then old new map after row fate summary more p step same ready takes counts =
        let taken = takes (uids ++ uids_of p.entries) p.known in
        let fields = step.0 in
        record {
          entries = p.entries ++ entry_of fields fate ∷ [];
          read = more_read remaining p.entries fields fate (rows_of first) (rows_of old)
              (rows_of new) p.read step.1;
          ready = ready;
          same_columns = same ∙ p.same_columns;
          fates = more_fates (columns_of first) uids p.entries fields fate p.fates
              (subst (λ columns. IsFate columns (uids ++ uids_of p.entries) fields fate)
              p.same_columns (fate_of (columns_of old) fields (uids ++ uids_of p.entries) row
              fate step.2 taken.0));
          known = subst (λ all. HasUids after (uids ++ all)) (sym (more_uids p.entries fields fate))
              (subst (HasUids after) (append_assoc uids (uids_of p.entries) (uids_of_fate fate))
              taken.1);
          written = subst (λ cards. WritesInTurn writes cards before then)
              (sym (more_cards p.entries fields fate))
              (more_written (cards_of p.entries) (cards_of_fate fate) before now
              then p.written taken.2);
          counts = counts ∙ ap (λ s. counted s fate) p.counts
              ∙ sym (more_counts start p.entries fields fate);
        }

  module _ {R : Type 0} (remaining : R → Option (List ℕ)) (reader : ContactReader R) where
    -- one more file is converted
    pub all_done : (uids : List (List ℕ)) (first course : Course) (before now : A) (old found :
        ContactReader R)
        → SoFar remaining reader uids (counts_of first) before now old course.uids
        (counts_of course)
        → ReadsRow remaining old found None
        → ConvertsRows writes remaining reader uids first course before now
    all_done uids first course before now old found p none = record {
      entries = p.entries;
      reads = record {
        last = rows_of old;
        read = p.read;
        end = rows_of found;
        fields = none.0;
        no_more = none.1;
      };
      part = record { fates = p.fates; known = p.known; written = p.written; counts = p.counts };
    }

    -- the first file is converted
    pub first_done : (first course : Course) (before now : A) → counts_of first ≡ nothing_counted
        → ConvertsRows writes remaining reader [] first course before now
        → ConvertsContacts writes remaining reader before now (counts_of course)
    first_done first course before now nothing converts = record {
      entries = converts.entries;
      accounts = record {
        last = converts.reads.last;
        read = converts.reads.read;
        end = converts.reads.end;
        fields = converts.reads.fields;
        no_more = converts.reads.no_more;
        fates = converts.part.fates;
        distinct = apart_each (columns_of reader) [] converts.entries converts.part.fates;
        cards = each_card (columns_of reader) [] converts.entries converts.part.fates;
        counts = converts.part.counts ∙ ap (λ start. summary_after start converts.entries) nothing;
      };
      written = converts.part.written;
    }
