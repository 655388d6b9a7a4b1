-- What an import counts, on histories.
use Rattle.std.proofs.Common.{◌≡◌, ℕ, ◌+◌, true, false, cond, List, [], ◌∷◌, length, fold, Option}
use Rattle.std.proofs.Common.{Some, None, is_some, refl, ap, ◌∙◌, arith}
use Rattle.std.specs.FinMap as finite
use Rattle.std.specs.FinMap.{get-insert}
use Rattle.std.proofs.lemmas.Bool.{cond-false}
use Rattle.vcard_lines.specs.declared.line.Line.{Line}
use Rattle.vcard_text.specs.Cards.{uid_of}
use Rattle.book_model.specs.declared.answers.Stored.{Stored}
use Rattle.book_model.specs.declared.change.StoreReason.{StoreReason}
use Rattle.book_model.specs.declared.change.StoreReason.TheVariants.{Import, ImportEdit}
use Rattle.book_model.specs.Books.{same_name}
use Rattle.book_model.specs.Importing.{Importing, import_state, import_card, import_with_reason}
use Rattle.book_model.specs.Importing.{import_reason}
use Rattle.book_model.specs.SameCards.{same_card}
use Rattle.book_laws.specs.EventLogs.{live}
use Rattle.book_laws.specs.ImportLaws.{ImportsCountLiveCards, ImportsAddEvents}
use Rattle.book_laws.specs.StoreHistories.{BookHistory}
use Rattle.book_laws.specs.HistoryChanges.{live_in_history, history_with_stored_card}
use Rattle.book_laws.proofs.CountLemmas.{stored_new, stored_over}
use Rattle.book_model.proofs.ImportCountLemmas.{apart_turned, counts_cards}
use Rattle.base_types.proofs.TextLemmas.{text_total}

history_apart : (history : BookHistory) (card : List Line) (why : StoreReason) (uid : List ℕ)
    → same_name (uid_of card) uid ≡ false
    → live_in_history (history_with_stored_card history card why) uid ≡ live_in_history history uid
history_apart history card why uid e =
    get-insert text_total (live history.log) (uid_of card)
    (record { version = length history.log + 1; card = card }) uid
    ∙ cond-false _ _ _ (apart_turned (uid_of card) uid e)

pub imports_count_live_cards : ImportsCountLiveCards
imports_count_live_cards = counts_cards live_in_history history_with_stored_card history_apart

abbrev live_count_in : BookHistory → ℕ
live_count_in history = finite.len (live history.log)

-- the effect of a part of an import on the history that it started from
record Takes (from to : Importing BookHistory) : Type 0 where
  events : length to.book.log + from.added + from.edited ≡ length from.book.log + to.added +
      to.edited
  cards : live_count_in to.book + from.added ≡ live_count_in from.book + to.added

takes_one : (state : Importing BookHistory) (card : List Line)
    → Takes state (import_card live_in_history history_with_stored_card state card)
takes_one state card = by (live_in_history state.book (uid_of card)) refl
  where
    by : (found : Option Stored) → live_in_history state.book (uid_of card) ≡ found
        → Takes state (import_with_reason history_with_stored_card state card
        (import_reason card found))
    by None e = let more = stored_new (live state.book.log) (uid_of card) card
        (length state.book.log + 1) Import e in record {
          events = omega arith;
          cards = omega (arith, more);
        }
    by (Some stored) e = elim (same_card stored.card card) as
        (λ b. Takes state (import_with_reason history_with_stored_card state card
        (cond b None (Some ImportEdit)))) [
          | true ↦ record { events = refl; cards = refl }
          | false ↦ let same = stored_over (live state.book.log) (uid_of card) card
              (length state.book.log + 1) ImportEdit (ap is_some e) in record {
                events = omega arith;
                cards = omega (arith, same);
              }
        ]

takes_all : (cards : List (List Line)) (state : Importing BookHistory)
    → Takes state (fold (import_card live_in_history history_with_stored_card) state cards)
takes_all [] state = record { events = refl; cards = refl }
takes_all (card ∷ cards) state =
    let one = takes_one state card in
    let rest = takes_all cards (import_card live_in_history history_with_stored_card state card) in
    let a = one.events in
    let b = rest.events in
    let c = one.cards in
    let d = rest.cards in
    record { events = omega (arith, a, b); cards = omega (arith, c, d) }

pub imports_take_events : ImportsAddEvents
imports_take_events history cards =
    let takes = takes_all cards (import_state history 0 0 0) in
    let a = takes.events in
    let b = takes.cards in
    record { events = omega (arith, a); cards = omega (arith, b) }
