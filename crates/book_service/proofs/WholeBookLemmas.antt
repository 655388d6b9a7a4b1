-- Replies computed from a store's map of live cards.
use Rattle.std.proofs.Common.{◌≡◌, ℕ, Bool, true, false, T, List, [], ◌∷◌, map, cond, Option, Some}
use Rattle.std.proofs.Common.{None, Result, Ok, Err, String, BTreeMap, string_cmp, refl, sym, ap}
use Rattle.std.proofs.Common.{◌∙◌, subst, inl}
use Rattle.std.specs.BTreeMap.{IsOrdered}
use Rattle.std.specs.FinMap as finite
use Rattle.std.specs.FinMap.{entries-from_sorted, get-from_sorted}
use Rattle.std.specs.FinMap.Entries.{find, below_all, is_sorted}
use Rattle.std.specs.Option.{option_map}
use Rattle.std.specs.Ordering.{eq_by_cmp}
use Rattle.base_types.specs.TextMaps.{text_cmp, octet_map}
use Rattle.base_types.proofs.TextMapLemmas.{octet_entry, entries-texts}
use Rattle.vcard_text.specs.declared.kind.Kind.{Kind}
use Rattle.vcard_text.specs.declared.kind.Kind.TheVariants.{Individual, Group, Org, Location, Other}
use Rattle.vcard_lines.specs.declared.line.Line.{Line}
use Rattle.vcard_text.specs.Cards.{kind_of}
use Rattle.vcard_text.specs.FirstFaults.{is_group}
use Rattle.card_core.specs.declared.expansion.Expansion.{Expansion}
use Rattle.card_core.specs.Groups.{IsExpansion, IsNonGroupCard}
use Rattle.csv_cards.specs.declared.form.Form.{Form}
use Rattle.book_model.specs.declared.answers.Stored.{Stored}
use Rattle.book_model.specs.declared.denied.Denied.{Denied}
use Rattle.book_model.specs.declared.denied.Denied.TheVariants.{Refused, Fault}
use Rattle.book_model.specs.declared.denied.Fault.{Fault as FaultKind}
use Rattle.book_model.specs.declared.refusal.Refusal.{Refusal}
use Rattle.book_model.specs.declared.refusal.Refusal.TheVariants.{NoSuchCard, NotGroup}
use Rattle.book_model.specs.Bounds.{Bounds}
use Rattle.book_model.specs.Books.{Books, LiveCards}
use Rattle.book_model.specs.CallOutcomes.{◌>>=◌, refuse_unless, MatchesQuery, ReturnsExactly}
use Rattle.book_model.specs.BookQueries.{cards_step}
use Rattle.book_model.specs.Books.{live_or_no_such_card}
use Rattle.book_model.proofs.BasicLemmas.{T_parts, T_both}
use Rattle.book_laws.specs.Calls.{ReturnedCards, answer_in_state}
use Rattle.book_laws.specs.Refinement.{AreHistoriesOf}
use Rattle.book_laws.specs.EventLogs.{live}
use Rattle.book_laws.specs.QueryRefinement.{CardsRefine}
use Rattle.book_laws.specs.HistoryQueries.{cards_on_histories}
use Rattle.book_laws.specs.StoreHistories.{BookHistory, BookHistories, StoreHistory}
use Rattle.book_laws.specs.HistorySteps.{history_named}
use Rattle.book_commands.specs.declared.command.Command.{Command}
use Rattle.book_commands.specs.declared.command.Command.TheVariants.{Export, People}
use Rattle.book_commands.specs.declared.reply.Reply.{Reply}
use Rattle.book_commands.specs.declared.reply.Reply.TheVariants as reply
use Rattle.book_service.specs.Commands.{Outcome, DeliversOutcome, PerformsCommand}
use Rattle.book_service.specs.internal.RowSteps.{CommandOnRows}
use Rattle.book_service.specs.Replies.{denied_reply, reply_to}
use Rattle.book_service.specs.WholeBooks.{lines_by_uid, export_text}
use Rattle.book_service.proofs.PerformLemmas.{from_history, same_rows, keeps_same, fault_performs}
use Rattle.book_service.proofs.PerformLemmas.{received, returns_expected, read_keeps}

-- ---- cards without their versions

abbrev card_entry : List ℕ × Stored → List ℕ × List Line
card_entry entry = (entry.0, entry.1.card)

below-cards : (uid : List ℕ) (es : List (List ℕ × Stored)) → T (below_all text_cmp uid es)
    → T (below_all text_cmp uid (map card_entry es))
below-cards uid [] h = h
below-cards uid (e ∷ es) h = let parts = T_parts _ _ h in
    T_both _ _ parts.0 (below-cards uid es parts.1)

sorted-cards : (es : List (List ℕ × Stored)) → T (is_sorted text_cmp es)
    → T (is_sorted text_cmp (map card_entry es))
sorted-cards [] h = h
sorted-cards (e ∷ es) h = let parts = T_parts _ _ h in
    T_both _ _ (below-cards e.0 es parts.0) (sorted-cards es parts.1)

abbrev pub card_in : Stored → List Line
card_in stored = stored.card

find-cards : (uid : List ℕ) (es : List (List ℕ × Stored)) → find text_cmp uid (map card_entry es)
    ≡ option_map card_in (find text_cmp uid es)
find-cards uid [] = refl
find-cards uid (e ∷ es) = elim (eq_by_cmp text_cmp uid e.0) as
    (λ b. cond b (Some e.1.card) (find text_cmp uid (map card_entry es)) ≡ option_map card_in
    (cond b (Some e.1) (find text_cmp uid es))) [
      | true ↦ refl
      | false ↦ find-cards uid es
    ]

-- the card of a UID is that of the live entry
pub get-lines : (cards : LiveCards) (uid : List ℕ) → finite.get (lines_by_uid cards) uid
    ≡ option_map card_in (finite.get cards uid)
get-lines cards uid =
    get-from_sorted text_cmp (map card_entry (finite.entries cards)) uid
    (sorted-cards (finite.entries cards) (finite.entries_sorted cards))
    ∙ find-cards uid (finite.entries cards)
    ∙ ap (option_map card_in) (sym (finite.get-entries cards uid))

cards-octets : {A : Type 0} (es : List (String A × Stored))
    → map (λ e. e.1) (map card_entry (map octet_entry es)) ≡ map (λ e. e.1.card) es
cards-octets [] = refl
cards-octets (e ∷ es) = ap (λ cards. e.1.card ∷ cards) (cards-octets es)

-- the cards of a store's map are in its order
pub values-lines : {A : Type 0} (m : BTreeMap (String A) Stored) → IsOrdered string_cmp m
    → finite.values (lines_by_uid (octet_map m)) ≡ map (λ e. e.1.card) m.entries
values-lines m ordered =
    ap (map (λ e. e.1)) (entries-from_sorted text_cmp
    (map card_entry (finite.entries (octet_map m))) (sorted-cards (finite.entries (octet_map m))
    (finite.entries_sorted (octet_map m))))
    ∙ ap (λ es. map (λ e. e.1) (map card_entry es)) (entries-texts m ordered)
    ∙ cards-octets m.entries

-- ---- results of a store

-- an error is the same, whatever the value would have been
pub other_answer : {T A B : Type 0} (allows : T → A → Type 0) (others : T → B
    → Type 0) (error : Denied) (asked : Result T Refusal) (old new : Books)
    → MatchesQuery {A = A} allows (Err error) asked old new
    → MatchesQuery {A = B} others (Err error) asked old new
other_answer allows others (Refused refusal) (Ok asked) old new d = absurd d
other_answer allows others (Refused refusal) (Err wanted) old new d = d
other_answer allows others (Fault fault) asked old new d = d

module _ (limits : Bounds) (old new : Books) where
  pub exports : CardsRefine → (book : List ℕ) (form : Form) (call_result : Result LiveCards Denied)
      → ReturnsExactly call_result (cards_step old book) old new
      → CommandOnRows limits old (Export book form)
      (reply_to (λ cards. reply.Csv (export_text form cards)) call_result) new
  exports law book form call_result d =
      received (λ cards. reply.Csv (export_text form cards)) ReturnedCards (λ (t a : LiveCards). a
      ≡ t) (Export book form) (λ cards. refl) limits old new call_result (cards_step old book)
      (λ model. cards_on_histories model.books book)
      (λ model same w. returns_expected (cards_step old book) (cards_on_histories model.books book)
      (from_history (λ l b. cards_step b book ≡ cards_on_histories model.books book) model same
      w (law model.books book)))
      (λ model. refl) d

  -- memory ran out after the store's call
  pub fails : (command : Command) (fault : FaultKind) → new ≡ old
      → CommandOnRows limits old command (reply.Fault fault) new
  fails command fault same = record {
    kept = same;
    performed = λ model limits_are w. record {
      next = model.books;
      performs = fault_performs model command fault (reply.Fault fault) refl;
      histories = same_rows model old new same w;
    };
  }

  pub cards_keep : {A : Type 0} (allows : LiveCards → A → Type 0) (call_result : Result A Denied)
      (book : List ℕ) → MatchesQuery allows call_result (cards_step old book) old new → new ≡ old
  cards_keep allows call_result book d = read_keeps allows old new call_result (cards_step old book)
      d

-- ---- the people of a group

-- the outcome after the check of the kind
abbrev after_test : LiveCards → BookHistories → Result (Unit {0}) Refusal → Outcome
after_test cards books test = test >>= λ group. Ok (ReturnedCards cards, books)

-- the outcome if the UID's card is this one
abbrev after_found : LiveCards → BookHistories → Option Stored → Outcome
after_found cards books found =
    live_or_no_such_card found >>= λ (stored : Stored). refuse_unless
    (is_group (kind_of stored.card)) NotGroup >>= λ group. Ok (ReturnedCards cards, books)

-- the outcome if the book is this one
abbrev after_named : BookHistories → List ℕ → Result BookHistory Refusal → Outcome
after_named books uid named =
    (named >>= λ (history : BookHistory). live_or_no_such_card (finite.get (live history.log) uid))
    >>= λ (stored : Stored). refuse_unless (is_group (kind_of stored.card)) NotGroup
    >>= λ group. answer_in_state ReturnedCards books (named >>= λ (history : BookHistory). Ok
    (live history.log))

module _ (limits : Bounds) (old new : Books) (law : CardsRefine) (book uid : List ℕ) where
  abbrev SyncPage : Result LiveCards Denied → Result LiveCards Refusal → Type 0
  SyncPage call_result asked = ReturnsExactly call_result asked old new

  stays : (call_result : Result LiveCards Denied) → SyncPage call_result (cards_step old book)
      → new ≡ old
  stays call_result d = cards_keep limits old new (λ (t c : LiveCards). c ≡ t) call_result book d

  as_expected : (model : StoreHistory) → model.limits ≡ limits → AreHistoriesOf old model.books
      → (call_result : Result LiveCards Denied) → SyncPage call_result (cards_step old book)
      → SyncPage call_result (cards_on_histories model.books book)
  as_expected model same w call_result d =
      subst (SyncPage call_result) (from_history (λ l b. cards_step b book ≡ cards_on_histories
      model.books book) model same w (law model.books book)) d

  -- there is no such book
  no_book : (model : StoreHistory) (refusal : Refusal) (named : Result BookHistory Refusal)
      → history_named model.books book ≡ named
      → SyncPage (Err (Refused refusal)) (named >>= λ (history : BookHistory). Ok
      (live history.log))
      → PerformsCommand model (People book uid) (reply.Refused refusal) model.books
  no_book model refusal (Ok history) there d = absurd d
  no_book model refusal (Err other) there d = inl (record {
    outcome = Err other;
    has_outcome = sym (ap (after_named model.books uid) there);
    delivers = (ap (λ (r : Refusal). reply.Refused r) d.0, refl);
  })

  pub people_not : (error : Denied) → SyncPage (Err error) (cards_step old book)
      → CommandOnRows limits old (People book uid) (denied_reply error) new
  people_not (Refused refusal) d = record {
    kept = stays (Err (Refused refusal)) d;
    performed = λ model same w. record {
      next = model.books;
      performs = no_book model refusal (history_named model.books book) refl
          (as_expected model same w (Err (Refused refusal)) d);
      histories = same_rows model old new (stays (Err (Refused refusal)) d) w;
    };
  }
  people_not (Fault fault) d = fails limits old new (People book uid) fault d

  module _ (cards : LiveCards) (d : SyncPage (Ok cards) (cards_step old book)) where
    -- the store returned the cards, and this is the reply
    module _ (r : Reply) (answer : BookHistories → Outcome) (after : (books : BookHistories)
        → after_found cards books (finite.get cards uid) ≡ answer books) (delivers :
        (books : BookHistories) → DeliversOutcome (People book uid) books (answer books) r books)
      where
        by_history : (model : StoreHistory) (named : Result BookHistory Refusal)
            → history_named model.books book ≡ named
            → SyncPage (Ok cards) (named >>= λ (history : BookHistory). Ok (live history.log))
            → PerformsCommand model (People book uid) r model.books
        by_history model (Ok history) there t = inl (record {
          outcome = answer model.books;
          has_outcome = sym (ap (after_named model.books uid) there
              ∙ ap (λ (c : LiveCards). after_found c model.books (finite.get c uid)) (sym t.0)
              ∙ after model.books);
          delivers = delivers model.books;
        })
        by_history model (Err refusal) there t = absurd t

        is_received : CommandOnRows limits old (People book uid) r new
        is_received = record {
          kept = keeps_same r old new (stays (Ok cards) d);
          performed = λ model same w. record {
            next = model.books;
            performs = by_history model (history_named model.books book) refl
                (as_expected model same w (Ok cards) d);
            histories = same_rows model old new (stays (Ok cards) d) w;
          };
        }

    group_kind : (kind : Kind) → is_group kind ≡ true → kind ≡ Group
    group_kind Individual is = absurd (let no : false ≡ true = is in cc)
    group_kind Group is = refl
    group_kind Org is = absurd (let no : false ≡ true = is in cc)
    group_kind Location is = absurd (let no : false ≡ true = is in cc)
    group_kind Other is = absurd (let no : false ≡ true = is in cc)

    at_uid : (found : Option Stored) → finite.get cards uid ≡ found
        → finite.get (lines_by_uid cards) uid ≡ option_map card_in found
    at_uid found is = get-lines cards uid ∙ ap (option_map card_in) is

    pub reply_has_no_people : finite.get (lines_by_uid cards) uid ≡ None
        → CommandOnRows limits old (People book uid) (reply.Refused NoSuchCard) new
    reply_has_no_people none =
        is_received (reply.Refused NoSuchCard) (λ books. Err NoSuchCard)
        (λ books. ap (after_found cards books) (nothing (finite.get cards uid) refl))
        (λ books. (refl, refl))
      where
        nothing : (found : Option Stored) → finite.get cards uid ≡ found
            → finite.get cards uid ≡ None
        nothing None is = is
        nothing (Some stored) is = absurd (let no : None ≡ Some stored.card = sym none
            ∙ at_uid (Some stored) is in cc)

    other_kind : (stored : Stored) → finite.get cards uid ≡ Some stored
        → is_group (kind_of stored.card) ≡ false → IsNonGroupCard (lines_by_uid cards) uid
    other_kind stored is not = record {
      lines = stored.card;
      card = at_uid (Some stored) is;
      other = λ same. absurd (let no : true ≡ false = sym (ap is_group same) ∙ not in cc);
    }

    pub reply_is_not_group : IsNonGroupCard (lines_by_uid cards) uid
        → CommandOnRows limits old (People book uid) (reply.Refused NotGroup) new
    reply_is_not_group other = by_found (finite.get cards uid) refl
      where
        by_kind : (stored : Stored) → finite.get cards uid ≡ Some stored → (group : Bool)
            → is_group (kind_of stored.card) ≡ group → CommandOnRows limits old (People book uid)
            (reply.Refused NotGroup) new
        by_kind stored is true group =
            let card_is : Some stored.card ≡ Some other.lines = sym (at_uid (Some stored) is)
            ∙ other.card in
            let lines_are : stored.card ≡ other.lines = cc in
            absurd (other.other (subst (λ (lines : List Line). kind_of lines ≡ Group) lines_are
            (group_kind (kind_of stored.card) group)))
        by_kind stored is false group =
            is_received (reply.Refused NotGroup) (λ books. Err NotGroup)
            (λ books. ap (after_found cards books) is
            ∙ ap (λ (g : Bool). after_test cards books (refuse_unless g NotGroup)) group)
            (λ books. (refl, refl))

        by_found : (found : Option Stored) → finite.get cards uid ≡ found
            → CommandOnRows limits old (People book uid) (reply.Refused NotGroup) new
        by_found None is = absurd (let no : None ≡ Some other.lines = sym (at_uid None is)
            ∙ other.card in cc)
        by_found (Some stored) is = by_kind stored is (is_group (kind_of stored.card)) refl

    pub reply_has_people : (expansion : Expansion) → IsExpansion (lines_by_uid cards) uid expansion
        → (finite.get (lines_by_uid cards) uid ≡ None → ⊥)
        → (IsNonGroupCard (lines_by_uid cards) uid → ⊥)
        → CommandOnRows limits old (People book uid) (reply.People expansion) new
    reply_has_people expansion is_expansion some group_there = by_found (finite.get cards uid) refl
      where
        by_kind : (stored : Stored) → finite.get cards uid ≡ Some stored → (group : Bool)
            → is_group (kind_of stored.card) ≡ group → CommandOnRows limits old (People book uid)
            (reply.People expansion) new
        by_kind stored is true group =
            is_received (reply.People expansion) (λ books. Ok (ReturnedCards cards, books))
            (λ books. ap (after_found cards books) is
            ∙ ap (λ (g : Bool). after_test cards books (refuse_unless g NotGroup)) group)
            (λ books. (
              record {
                expansion = expansion;
                is_expansion = is_expansion;
                reply_is = refl;
              },
              refl,
            ))
        by_kind stored is false group = absurd (group_there (other_kind stored is group))

        by_found : (found : Option Stored) → finite.get cards uid ≡ found
            → CommandOnRows limits old (People book uid) (reply.People expansion) new
        by_found None is = absurd (some (at_uid None is))
        by_found (Some stored) is = by_kind stored is (is_group (kind_of stored.card)) refl
