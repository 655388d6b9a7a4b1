-- Imports into the rows refine those into histories, card by card.
use Rattle.std.proofs.Common.{◌≡◌, ℕ, ◌+◌, true, false, cond, List, [], ◌∷◌, length, fold, Option}
use Rattle.std.proofs.Common.{Some, None, Result, Ok, refl, sym, ap, ◌∙◌, subst}
use Rattle.std.specs.FinMap as finite
use Rattle.std.proofs.lemmas.Bool.{both_ways}
use Rattle.vcard_lines.specs.declared.line.Line.{Line}
use Rattle.vcard_text.specs.Cards.{uid_of}
use Rattle.book_model.specs.declared.answers.ImportTally.{ImportTally}
use Rattle.book_model.specs.declared.answers.Stored.{Stored}
use Rattle.book_model.specs.declared.change.StoreReason.{StoreReason}
use Rattle.book_model.specs.declared.change.StoreReason.TheVariants.{Import, ImportEdit}
use Rattle.book_model.specs.declared.change.Change.TheVariants.{Stores}
use Rattle.book_model.specs.declared.refusal.Refusal.{Refusal}
use Rattle.book_model.specs.declared.refusal.Refusal.TheVariants.{BadKey}
use Rattle.book_model.specs.Bounds.{Bounds}
use Rattle.book_model.specs.Books.{Book, Books, live_at}
use Rattle.book_laws.specs.ChangeRefinement.{ImportRefines}
use Rattle.book_laws.specs.LogCounts.{counts_of_log}
use Rattle.book_model.specs.Counting.{live_count}
use Rattle.book_laws.specs.EventLogs.{live}
use Rattle.book_model.specs.Importing.{Importing, import_state, import_card, import_cards}
use Rattle.book_model.specs.Importing.{import_tally, is_legal_key, book_after_store}
use Rattle.book_model.specs.Importing.{book_with_kept_import, import_under_key, import_with_reason}
use Rattle.book_model.specs.Importing.{import_reason}
use Rattle.book_laws.specs.ValidLogs.{MayStore}
use Rattle.book_model.specs.CallOutcomes.{◌>>=◌}
use Rattle.book_model.specs.SameCards.{same_card}
use Rattle.book_laws.specs.StoreHistories.{BookHistory, BookHistories, IsSoundHistory}
use Rattle.book_laws.specs.StoreHistories.{AreSoundHistories, StoreHistory, book_of_history}
use Rattle.book_laws.specs.StoreHistories.{rows_of}
use Rattle.book_laws.specs.HistoryChanges.{event, live_in_history, history_with_stored_card}
use Rattle.book_laws.specs.HistoryChanges.{history_import, history_with_kept_import}
use Rattle.book_laws.specs.HistoryChanges.{import_on_histories_under}
use Rattle.book_laws.specs.Refinement.{RefinesHistories}
use Rattle.book_laws.proofs.CountLemmas.{live_count_is}
use Rattle.book_laws.proofs.RefinementLemmas.{follow_named, follow_test, follow_given}
use Rattle.book_laws.proofs.DropLemmas.{book_of-with_event}
use Rattle.book_laws.proofs.RememberLemmas.{sound_with}
use Rattle.book_laws.proofs.RowLemmas.{live_by_row}
use Rattle.book_model.proofs.SameCardLemmas.{card-Decides}
use Rattle.book_laws.proofs.StoreHistoryLemmas.{wrote_history, same_histories}

-- the rows after the cards imported so far
abbrev rows_so_far : Importing BookHistory → Importing Book
rows_so_far state = import_state (book_of_history state.book) state.added state.edited state.same

abbrev one_card : Importing BookHistory → List Line → Importing BookHistory
one_card state card = import_card live_in_history history_with_stored_card state card

-- storing the card in the rows refines storing it in the history, which stays sound
record Keeps (state : Importing BookHistory) (card : List Line) : Type 0 where
  same : import_card live_at book_after_store (rows_so_far state) card
      ≡ rows_so_far (one_card state card)
  sound : IsSoundHistory (one_card state card).book

module _ (state : Importing BookHistory) (card : List Line) (sound : IsSoundHistory state.book)
  where
    stored_follows : (why : StoreReason) → book_after_store (book_of_history state.book) card why
        ≡ book_of_history (history_with_stored_card state.book card why)
    stored_follows why = sym (book_of-with_event state.book (event (uid_of card) (Stores card why))
        sound.within_log)

    stored_sound : (why : StoreReason)
        → MayStore why card (live_in_history state.book (uid_of card))
        → IsSoundHistory (history_with_stored_card state.book card why)
    stored_sound why may = sound_with state.book (event (uid_of card) (Stores card why)) sound (
      refl,
      may,
    )

    over : (found : Option Stored) → live_in_history state.book (uid_of card) ≡ found
        → (import_with_reason book_after_store (rows_so_far state) card (import_reason card found)
        ≡ rows_so_far (import_with_reason history_with_stored_card state card
        (import_reason card found))) × IsSoundHistory (import_with_reason history_with_stored_card
        state card (import_reason card found)).book
    over None e = (
      ap (λ (b : Book). import_state b (state.added + 1) state.edited state.same)
          (stored_follows Import),
      stored_sound Import e,
    )
    over (Some stored) e =
        elim (same_card stored.card card) as (λ t. same_card stored.card card ≡ t
        → (import_with_reason book_after_store (rows_so_far state) card
        (cond t None (Some ImportEdit))
        ≡ rows_so_far (import_with_reason history_with_stored_card state card
        (cond t None (Some ImportEdit))))
        × IsSoundHistory (import_with_reason history_with_stored_card state card
        (cond t None (Some ImportEdit))).book) [
          | true ↦ λ t. (refl, sound)
          | false ↦ λ t. (
            ap (λ (b : Book). import_state b state.added (state.edited + 1) state.same)
                (stored_follows ImportEdit),
            stored_sound ImportEdit (subst (λ (before : Option Stored). MayStore ImportEdit card
                before) (sym e) (λ same. both_ways _ t ((card-Decides stored.card card).1 same))),
          )
        ] refl

    keeps : Keeps state card
    keeps =
        let o = over (live_in_history state.book (uid_of card)) refl in
        record {
          same = ap (λ found. import_with_reason book_after_store (rows_so_far state) card
              (import_reason card found)) (live_by_row state.book.log state.book.horizon
              (uid_of card)) ∙ o.0;
          sound = o.1;
        }

-- all cards in their order
record KeepsAll (state : Importing BookHistory) (cards : List (List Line)) : Type 0 where
  same : fold (import_card live_at book_after_store) (rows_so_far state) cards
      ≡ rows_so_far (fold one_card state cards)
  sound : IsSoundHistory (fold one_card state cards).book

keeps_all : (cards : List (List Line)) (state : Importing BookHistory) → IsSoundHistory state.book
    → KeepsAll state cards
keeps_all [] state sound = record { same = refl; sound = sound }
keeps_all (card ∷ cards) state sound =
    let one = keeps state card sound in
    let rest = keeps_all cards (one_card state card) one.sound in
    record {
      same = ap (λ s. fold (import_card live_at book_after_store) s cards) one.same
          ∙ rest.same;
      sound = rest.sound;
    }

pub imported_sound : (history : BookHistory) (cards : List (List Line)) → IsSoundHistory history
    → IsSoundHistory (history_import history cards).book
imported_sound history cards sound = (keeps_all cards (import_state history 0 0 0) sound).sound

module _ (limits : Bounds) (history : BookHistory) (cards : List (List Line)) (sound :
    IsSoundHistory history) where
  abbrev done : Importing BookHistory
  done = history_import history cards

  rows_imported : import_cards live_at book_after_store (book_of_history history) cards
      ≡ rows_so_far done
  rows_imported = (keeps_all cards (import_state history 0 0 0) sound).same

  tally_is : import_tally limits (rows_so_far done) (live_count (counts_of_log done.book.log))
      (length done.book.log) ≡ import_tally limits done (finite.len (live done.book.log))
      (length done.book.log)
  tally_is = ap (λ n. import_tally limits done n (length done.book.log))
      (live_count_is done.book.log (imported_sound history cards sound).valid_log)

-- the history with the tally under its key is sound
pub keeping_sound : (history : BookHistory) (key : List ℕ) (tally : ImportTally)
    → IsSoundHistory history → IsSoundHistory (history_with_kept_import history key tally)
keeping_sound history key tally sound = record {
  valid_log = sound.valid_log;
  within_log = sound.within_log;
  keep_least = sound.keep_least;
  within_keep = sound.within_keep;
}

module _ (store : StoreHistory) (name key : List ℕ) (cards : List (List Line)) (history :
    BookHistory) (all : AreSoundHistories store.books) (sound : IsSoundHistory history) where
  abbrev written : Importing Book → ImportTally → Result (ImportTally × Books) Refusal
  written state tally = Ok (
    tally,
    finite.insert (rows_of store.books) name
        (book_with_kept_import state.book key tally),
  )

  abbrev wanted : ImportTally → Result (ImportTally × BookHistories) Refusal
  wanted tally =
      Ok (
        tally,
        finite.insert store.books name
            (history_with_kept_import (history_import history cards).book key tally),
      )

  under : (kept : Option ImportTally)
      → RefinesHistories (import_under_key store.limits (rows_of store.books) name
      (book_of_history history) key cards kept) (import_on_histories_under store.limits store.books
      name history key cards kept)
  under (Some kept) = (refl, same_histories store.books all)
  under None =
      subst (λ (state : Importing Book). RefinesHistories (import_tally store.limits state
      (live_count state.book.counts) state.book.number >>= written state)
      (import_on_histories_under store.limits store.books name history key cards None))
      (sym (rows_imported store.limits history cards sound))
      (subst (λ (given : Result ImportTally Refusal). RefinesHistories
      (given >>= written (rows_so_far (history_import history cards)))
      (import_on_histories_under store.limits store.books name history key cards None))
      (sym (tally_is store.limits history cards sound))
      (follow_given (import_tally store.limits (history_import history cards)
      (finite.len (live (history_import history cards).book.log))
      (length (history_import history cards).book.log))
      (written (rows_so_far (history_import history cards))) wanted (λ tally is. (
        refl,
        wrote_history store.books name (history_with_kept_import (history_import history cards).book
            key tally) (book_with_kept_import (book_of_history (history_import history cards).book)
            key tally) all
            (keeping_sound (history_import history cards).book key tally
            (imported_sound history cards sound)) refl,
      ))))

pub importing_follows : ImportRefines
importing_follows store name key cards all =
    follow_named store.books name _ _ all (λ history at sound.
    follow_test (is_legal_key key) BadKey _ _ (λ legal. under store name key cards history all sound
    (finite.get history.imports key)))
