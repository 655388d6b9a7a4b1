-- Events are counted, and the live cards with them.
use Rattle.std.proofs.Common.{◌≡◌, ℕ, zero, suc, ◌+◌, ◌<◌, true, cond, List, [], ◌∷◌, length}
use Rattle.std.proofs.Common.{Option, Some, None, is_some, IsSomeAnd, ◌≢◌, refl, sym, ap, ◌∙◌}
use Rattle.std.proofs.Common.{arith}
use Rattle.std.specs.FinMap as finite
use Rattle.std.specs.FinMap.{get-empty, len-insert, len-remove, len-empty}
use Rattle.std.proofs.lemmas.Bool.{cond-true, cond-false, both_ways}
use Rattle.std.proofs.lemmas.List.Recursion.{is_count_by}
use Rattle.base_types.specs.TextMaps.{text_cmp}
use Rattle.vcard_lines.specs.declared.line.Line.{Line}
use Rattle.book_model.specs.declared.answers.Stored.{Stored}
use Rattle.book_model.specs.declared.change.Change.{Change}
use Rattle.book_model.specs.declared.change.Change.TheVariants.{Stores, TakesAway}
use Rattle.book_model.specs.declared.change.StoreReason.{StoreReason}
use Rattle.book_model.specs.declared.change.StoreReason.TheVariants.{Creation, Edit, Import}
use Rattle.book_model.specs.declared.change.StoreReason.TheVariants.{ImportEdit, MoveIn}
use Rattle.book_model.specs.declared.change.RemovalReason.TheVariants.{Deletion, MoveOut}
use Rattle.book_model.specs.declared.counts.Counts.{Counts}
use Rattle.book_model.specs.Counting.{counts_after_change, arrived_cards, departed_cards}
use Rattle.book_model.specs.Counting.{live_count}
use Rattle.book_laws.specs.LogCounts.{counts_of_log}
use Rattle.book_laws.specs.CountLaws.{EventsAreCounted, LiveCardsAreCounted, ReasonsAreCounted}
use Rattle.book_laws.specs.Reasons.{is_stored_for, is_removed_for}
use Rattle.book_laws.specs.EventLogs.{BookEvent, cards_after_change, live}
use Rattle.book_model.specs.Books.{LiveCards}
use Rattle.book_laws.specs.ValidLogs.{IsPossibleChange, IsValidLog}
use Rattle.base_types.proofs.TextLemmas.{text_total}
use Rattle.book_model.proofs.ChangeCountLemmas.{total-counted}

pub events_are_counted : EventsAreCounted
events_are_counted [] = refl
events_are_counted (e ∷ h) = let one = total-counted e.change (counts_of_log h) in let rest =
    events_are_counted h in omega (arith, one, rest)

replaced : (card : List Line) (before : Option Stored)
    → IsSomeAnd before (λ (stored : Stored). stored.card ≢ card) → is_some before ≡ true
replaced card (Some stored) other = refl
replaced card None other = absurd other

-- how the number of live cards changes, by the reason of the change
module _ (cards : LiveCards) (uid : List ℕ) where
  pub stored_new : (card : List Line) (number : ℕ) (why : StoreReason) → finite.get cards uid ≡ None
      → finite.len (cards_after_change cards uid (Stores card why) number) ≡ finite.len cards + 1
  stored_new card number why none = len-insert text_total cards uid (record {
    version = number;
    card = card;
  }) ∙ cond-false _ _ _ (ap is_some none)

  pub stored_over : (card : List Line) (number : ℕ) (why : StoreReason)
      → is_some (finite.get cards uid) ≡ true
      → finite.len (cards_after_change cards uid (Stores card why) number) ≡ finite.len cards
  stored_over card number why some = len-insert text_total cards uid (record {
    version = number;
    card = card;
  }) ∙ cond-true _ _ _ some

  some_live : finite.contains_key cards uid ≡ true → (n : ℕ) → n ≡ finite.len cards → 0 < n
  some_live some zero e =
      absurd (both_ways _ (ap is_some (ap (λ m. finite.get m uid)
      (finite.empty_of_len cards (sym e)) ∙ get-empty text_cmp uid)) some)
  some_live some (suc n) e = omega arith

  pub len-removed : finite.contains_key cards uid ≡ true → finite.len (finite.remove cards uid) + 1
      ≡ finite.len cards
  len-removed some =
      let less = len-remove text_total cards uid ∙ cond-true _ _ _ some in
      let one = some_live some (finite.len cards) refl in
      omega (arith, less, one)

live-counted : (cards : LiveCards) (c : Counts) (uid : List ℕ) (change : Change) (number : ℕ)
    → IsPossibleChange uid change (finite.get cards uid) → finite.len cards + departed_cards c
    ≡ arrived_cards c
    → finite.len (cards_after_change cards uid change number) + departed_cards
    (counts_after_change change c) ≡ arrived_cards (counts_after_change change c)
live-counted cards c uid (Stores card Creation) number may so = let n =
    stored_new cards uid card number Creation may.1 in omega (arith, n, so)
live-counted cards c uid (Stores card Edit) number may so = let n =
    stored_over cards uid card number Edit (replaced card _ may.1) in omega (arith, n, so)
live-counted cards c uid (Stores card Import) number may so = let n =
    stored_new cards uid card number Import may.1 in omega (arith, n, so)
live-counted cards c uid (Stores card ImportEdit) number may so = let n =
    stored_over cards uid card number ImportEdit (replaced card _ may.1) in omega (arith, n, so)
live-counted cards c uid (Stores card MoveIn) number may so = let n =
    stored_new cards uid card number MoveIn may.1 in omega (arith, n, so)
live-counted cards c uid (TakesAway Deletion) number may so = let n = len-removed cards uid may in
    omega (arith, n, so)
live-counted cards c uid (TakesAway MoveOut) number may so = let n = len-removed cards uid may in
    omega (arith, n, so)

pub live_are_counted : LiveCardsAreCounted
live_are_counted [] valid_log = let none = len-empty text_cmp Stored in omega (arith, none)
live_are_counted (e ∷ h) valid_log =
    live-counted (live h) (counts_of_log h) e.uid e.change (length h + 1) valid_log.0
    (live_are_counted h valid_log.1)

pub live_count_is : (h : List BookEvent) → IsValidLog h → live_count (counts_of_log h)
    ≡ finite.len (live h)
live_count_is h valid_log = let so = live_are_counted h valid_log in omega (arith, so)

-- ---- each count is the number of the events with its reason

created_more : (change : Change) (c : Counts) → (counts_after_change change c).created
    ≡ cond (is_stored_for Creation change) (1 + c.created) c.created
created_more (Stores card Creation) c = omega arith
created_more (Stores card Edit) c = refl
created_more (Stores card Import) c = refl
created_more (Stores card ImportEdit) c = refl
created_more (Stores card MoveIn) c = refl
created_more (TakesAway Deletion) c = refl
created_more (TakesAway MoveOut) c = refl

edited_more : (change : Change) (c : Counts) → (counts_after_change change c).edited
    ≡ cond (is_stored_for Edit change) (1 + c.edited) c.edited
edited_more (Stores card Creation) c = refl
edited_more (Stores card Edit) c = omega arith
edited_more (Stores card Import) c = refl
edited_more (Stores card ImportEdit) c = refl
edited_more (Stores card MoveIn) c = refl
edited_more (TakesAway Deletion) c = refl
edited_more (TakesAway MoveOut) c = refl

imported_more : (change : Change) (c : Counts) → (counts_after_change change c).imported
    ≡ cond (is_stored_for Import change) (1 + c.imported) c.imported
imported_more (Stores card Creation) c = refl
imported_more (Stores card Edit) c = refl
imported_more (Stores card Import) c = omega arith
imported_more (Stores card ImportEdit) c = refl
imported_more (Stores card MoveIn) c = refl
imported_more (TakesAway Deletion) c = refl
imported_more (TakesAway MoveOut) c = refl

import_edited_more : (change : Change) (c : Counts) → (counts_after_change change c).import_edited
    ≡ cond (is_stored_for ImportEdit change) (1 + c.import_edited) c.import_edited
import_edited_more (Stores card Creation) c = refl
import_edited_more (Stores card Edit) c = refl
import_edited_more (Stores card Import) c = refl
import_edited_more (Stores card ImportEdit) c = omega arith
import_edited_more (Stores card MoveIn) c = refl
import_edited_more (TakesAway Deletion) c = refl
import_edited_more (TakesAway MoveOut) c = refl

moved_in_more : (change : Change) (c : Counts) → (counts_after_change change c).moved_in
    ≡ cond (is_stored_for MoveIn change) (1 + c.moved_in) c.moved_in
moved_in_more (Stores card Creation) c = refl
moved_in_more (Stores card Edit) c = refl
moved_in_more (Stores card Import) c = refl
moved_in_more (Stores card ImportEdit) c = refl
moved_in_more (Stores card MoveIn) c = omega arith
moved_in_more (TakesAway Deletion) c = refl
moved_in_more (TakesAway MoveOut) c = refl

deleted_more : (change : Change) (c : Counts) → (counts_after_change change c).deleted
    ≡ cond (is_removed_for Deletion change) (1 + c.deleted) c.deleted
deleted_more (Stores card Creation) c = refl
deleted_more (Stores card Edit) c = refl
deleted_more (Stores card Import) c = refl
deleted_more (Stores card ImportEdit) c = refl
deleted_more (Stores card MoveIn) c = refl
deleted_more (TakesAway Deletion) c = omega arith
deleted_more (TakesAway MoveOut) c = refl

moved_out_more : (change : Change) (c : Counts) → (counts_after_change change c).moved_out
    ≡ cond (is_removed_for MoveOut change) (1 + c.moved_out) c.moved_out
moved_out_more (Stores card Creation) c = refl
moved_out_more (Stores card Edit) c = refl
moved_out_more (Stores card Import) c = refl
moved_out_more (Stores card ImportEdit) c = refl
moved_out_more (Stores card MoveIn) c = refl
moved_out_more (TakesAway Deletion) c = refl
moved_out_more (TakesAway MoveOut) c = omega arith

pub reasons_are_counted : ReasonsAreCounted
reasons_are_counted h = record {
  created = is_count_by (λ h. (counts_of_log h).created) (λ (e : BookEvent). is_stored_for Creation
      e.change) refl (λ e h. created_more e.change (counts_of_log h)) h;
  edited = is_count_by (λ h. (counts_of_log h).edited) (λ (e : BookEvent). is_stored_for Edit
      e.change) refl (λ e h. edited_more e.change (counts_of_log h)) h;
  imported = is_count_by (λ h. (counts_of_log h).imported) (λ (e : BookEvent). is_stored_for Import
      e.change) refl (λ e h. imported_more e.change (counts_of_log h)) h;
  import_edited = is_count_by (λ h. (counts_of_log h).import_edited)
      (λ (e : BookEvent). is_stored_for ImportEdit e.change) refl
      (λ e h. import_edited_more e.change (counts_of_log h)) h;
  moved_in = is_count_by (λ h. (counts_of_log h).moved_in) (λ (e : BookEvent). is_stored_for MoveIn
      e.change) refl (λ e h. moved_in_more e.change (counts_of_log h)) h;
  deleted = is_count_by (λ h. (counts_of_log h).deleted) (λ (e : BookEvent). is_removed_for Deletion
      e.change) refl (λ e h. deleted_more e.change (counts_of_log h)) h;
  moved_out = is_count_by (λ h. (counts_of_log h).moved_out) (λ (e : BookEvent). is_removed_for
      MoveOut e.change) refl (λ e h. moved_out_more e.change (counts_of_log h)) h;
}
