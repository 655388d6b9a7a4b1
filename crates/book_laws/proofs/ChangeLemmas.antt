-- Removals and moves in the rows refine those on histories.
use Rattle.std.proofs.Common.{◌≡◌, ℕ, ◌+◌, true, not, List, [], ◌∷◌, length, Option, Some, None}
use Rattle.std.proofs.Common.{Result, Ok, is_some, refl, sym, ap, ◌∙◌, subst, ⊎_elim}
use Rattle.std.specs.Prelude.{IsSome}
use Rattle.std.specs.FinMap as finite
use Rattle.std.specs.FinMap.{get-empty, get-insert, get-remove}
use Rattle.std.proofs.lemmas.Bool.{cases_Bool, cond-true}
use Rattle.std.proofs.lemmas.Option.{same_Some}
use Rattle.base_types.specs.TextMaps.{text_cmp}
use Rattle.vcard_lines.specs.declared.line.Line.{Line}
use Rattle.vcard_text.specs.Cards.{uid_of}
use Rattle.book_model.specs.declared.answers.Moved.{Moved}
use Rattle.book_model.specs.declared.answers.Stored.{Stored}
use Rattle.book_model.specs.declared.change.Change.{Change}
use Rattle.book_model.specs.declared.change.Change.TheVariants.{Stores, TakesAway}
use Rattle.book_model.specs.declared.change.StoreReason.TheVariants.{MoveIn}
use Rattle.book_model.specs.declared.change.RemovalReason.TheVariants.{Deletion, MoveOut}
use Rattle.book_model.specs.declared.refusal.Refusal.{Refusal}
use Rattle.book_model.specs.declared.refusal.Refusal.TheVariants.{SameBook}
use Rattle.book_model.specs.Bounds.{Bounds}
use Rattle.book_model.specs.Books.{Books}
use Rattle.book_model.specs.BookChanges.{book_after_change}
use Rattle.book_laws.specs.ChangeRefinement.{RemoveRefines, MoveRefines}
use Rattle.book_laws.specs.EventLogs.{BookEvent, same_uid, cards_after_change, live}
use Rattle.book_laws.specs.ValidLogs.{IsPossibleChange, IsValidLog}
use Rattle.book_model.specs.Moving.{Moving, move_answer, books_after_move}
use Rattle.book_model.specs.CallOutcomes.{◌>>=◌}
use Rattle.book_model.specs.Putting.{FoundMember, found_in_book}
use Rattle.book_model.specs.Removing.{remove_number}
use Rattle.book_laws.specs.StoreHistories.{BookHistory, BookHistories, IsSoundHistory}
use Rattle.book_laws.specs.StoreHistories.{AreSoundHistories, book_of_history, rows_of}
use Rattle.book_laws.specs.HistoryChanges.{event, histories_after_move}
use Rattle.book_laws.specs.HistorySteps.{with_event, found_in_history}
use Rattle.book_laws.specs.Refinement.{AreHistoriesOf, RefinesHistories}
use Rattle.book_laws.proofs.RefinementLemmas.{follow_named, follow_test, follow_given}
use Rattle.book_laws.proofs.HistoryLemmas.{get-changed}
use Rattle.book_laws.proofs.DropLemmas.{book_of-with_event}
use Rattle.book_laws.proofs.RememberLemmas.{sound_with}
use Rattle.base_types.proofs.TextLemmas.{text_total, same-equal}
use Rattle.book_model.proofs.AnswerLemmas.{live_first, found_to_move, FoundToMove}
use Rattle.book_laws.proofs.StoreHistoryLemmas.{rows-insert, sound-insert, wrote_history, found_is}

-- ---- removing a card

some_is : {A : Type 0} (o : Option A) (x : A) → o ≡ Some x → IsSome o
some_is o x e = ap is_some e

pub removed_is_live : (limits : Bounds) (found : FoundMember) (expect : Option ℕ) (number : ℕ)
    → remove_number limits found expect ≡ Ok number → IsSome found.live
removed_is_live limits found expect number e = let l = live_first found.live _ number e in
    some_is found.live l.0 l.1

pub removing_follows : RemoveRefines
removing_follows store name uid expect all =
    follow_named store.books name _ _ all (λ history at sound.
    let e = event uid (TakesAway Deletion) in
    subst (λ (found : FoundMember). RefinesHistories
    (remove_number store.limits found expect >>= λ number. Ok (
      number,
      finite.insert (rows_of store.books) name (book_after_change (book_of_history history) uid
          (TakesAway Deletion)),
    ))
    (remove_number store.limits (found_in_history history.log uid) expect >>= λ number. Ok (
      number,
      finite.insert store.books name (with_event history e),
    )))
    (sym (found_is history uid sound))
    (follow_given (remove_number store.limits (found_in_history history.log uid) expect) _ _
    (λ number is. (
      refl,
      wrote_history store.books name (with_event history e)
          (book_after_change (book_of_history history) uid (TakesAway Deletion)) all
          (sound_with history e sound (removed_is_live store.limits (found_in_history history.log
          uid) expect number is))
          (book_of-with_event history e sound.within_log),
    ))))

-- ---- moving a card

-- the card that is live at a UID has the UID
pub live_uid : (h : List BookEvent) (uid : List ℕ) (s : Stored) → IsValidLog h
    → finite.get (live h) uid ≡ Some s → uid_of s.card ≡ uid
live_uid [] uid s valid_log e = absurd (none (sym (get-empty text_cmp uid) ∙ e))
  where
    none : None ≡ Some s → ⊥
    none n = cc
live_uid (e ∷ h) uid s valid_log is = ⊎_elim
    (λ here. newest e.change here valid_log.0 is)
    (λ other. live_uid h uid s valid_log.1
    (sym (get-changed (live h) e.uid uid e.change (length h + 1) other) ∙ is))
    (cases_Bool (same_uid uid e.uid))
  where
    newest : (change : Change) → same_uid uid e.uid ≡ true
        → IsPossibleChange e.uid change (finite.get (live h) e.uid)
        → finite.get (cards_after_change (live h) e.uid change (length h + 1)) uid ≡ Some s
        → uid_of s.card ≡ uid
    newest (Stores card why) here may g =
        let stored : record { version = length h + 1; card = card } ≡ s =
        same_Some _ _ (sym (get-insert text_total (live h) e.uid
        (record { version = length h + 1; card = card }) uid ∙ cond-true _ _ _ here) ∙ g) in
        ap (λ (t : Stored). uid_of t.card) (sym stored) ∙ may.0 ∙ sym (same-equal uid e.uid here)
    newest (TakesAway why) here may g =
        absurd (no (sym (get-remove text_total (live h) e.uid uid ∙ cond-true _ _ _ here) ∙ g))
      where
        no : None ≡ Some s → ⊥
        no n = cc

-- both histories of a move stay sound
pub record MovesSoundly (source target : BookHistory) (uid : List ℕ) (card : List Line) :
    Type 0 where
  pub left : IsSoundHistory (with_event source (event uid (TakesAway MoveOut)))
  pub target_stored : IsSoundHistory (with_event target (event uid (Stores card MoveIn)))

pub moves_soundly : (source target : BookHistory) (uid : List ℕ) (moving : Moving)
    → IsSoundHistory source → IsSoundHistory target → FoundToMove (found_in_history source.log uid)
    (found_in_history target.log uid) moving → MovesSoundly source target uid moving.card
moves_soundly source target uid moving s t f = record {
  left = sound_with source (event uid (TakesAway MoveOut)) s
      (some_is (finite.get (live source.log) uid) f.stored f.live);
  target_stored = sound_with target (event uid (Stores moving.card MoveIn)) t (
    ap uid_of f.card
        ∙ live_uid source.log uid f.stored s.valid_log f.live,
    f.free,
  );
}

wrote_both : (histories : BookHistories) (from to uid : List ℕ) (source target : BookHistory)
    (card : List Line) → AreSoundHistories histories → IsSoundHistory source → IsSoundHistory target
    → MovesSoundly source target uid card
    → AreHistoriesOf (books_after_move (rows_of histories) from to uid (book_of_history source)
    (book_of_history target) card) (histories_after_move histories from to uid source target
    card)
wrote_both histories from to uid source target card sound s t m =
    let target_stored : BookEvent = event uid (Stores card MoveIn) in
    let left : BookEvent = event uid (TakesAway MoveOut) in
    let first : BookHistories = finite.insert histories to (with_event target target_stored) in
    subst (λ (books : Books). AreHistoriesOf
    (finite.insert books from (book_after_change (book_of_history source) uid
    (TakesAway MoveOut))) (finite.insert first from (with_event source left)))
    (rows-insert histories to (with_event target target_stored)
    ∙ ap (finite.insert (rows_of histories) to) (book_of-with_event target target_stored
    t.within_log))
    (wrote_history first from (with_event source left) (book_after_change (book_of_history source)
    uid (TakesAway MoveOut))
    (sound-insert histories to (with_event target target_stored) sound m.target_stored) m.left
    (book_of-with_event source left s.within_log))

pub moving_follows : MoveRefines
moving_follows store from to uid expect all =
    follow_named store.books from _ _ all (λ source at s.
    follow_named store.books to _ _ all (λ target at' t.
    follow_test (not (same_uid from to)) SameBook _ _ (λ apart.
    subst (λ (found : FoundMember). RefinesHistories
    (move_answer store.limits found (found_in_book (book_of_history target) uid) expect >>=
    λ moving. Ok (
      moving.numbers,
      books_after_move (rows_of store.books) from to uid
          (book_of_history source) (book_of_history target) moving.card,
    ))
    (wanted source target))
    (sym (found_is source uid s))
    (subst (λ (found : FoundMember). RefinesHistories
    (move_answer store.limits (found_in_history source.log uid) found expect >>= λ moving. Ok (
      moving.numbers,
      books_after_move (rows_of store.books) from to uid (book_of_history source)
          (book_of_history target) moving.card,
    ))
    (wanted source target))
    (sym (found_is target uid t))
    (follow_given (move_answer store.limits (found_in_history source.log uid)
    (found_in_history target.log uid) expect) _ _ (λ moving is. (
      refl,
      wrote_both store.books from to uid source target moving.card all s t
          (moves_soundly source target uid moving s t (found_to_move store.limits
          (found_in_history source.log uid) (found_in_history target.log uid) expect moving is)),
    )))))))
  where
    wanted : BookHistory → BookHistory → Result (Moved × BookHistories) Refusal
    wanted source target = move_answer store.limits (found_in_history source.log uid)
        (found_in_history target.log uid) expect >>= λ moving. Ok (
          moving.numbers,
          histories_after_move store.books from to uid source target moving.card,
        )
