-- A move takes one card between two books, and alters nothing else.
use Rattle.std.proofs.Common.{◌≡◌, ℕ, ◌+◌, Bool, true, false, cond, not, T, List, [], ◌∷◌, length}
use Rattle.std.proofs.Common.{sum_by, Option, Some, None, Result, Ok, Err, is_some, nat_lt, is_eq}
use Rattle.std.proofs.Common.{Ordering, Less, Equal, Greater, refl, sym, ap, ◌∙◌, subst, arith}
use Rattle.std.specs.Ordering.{is_lt}
use Rattle.std.specs.Option.{option_map_or}
use Rattle.std.specs.FinMap as finite
use Rattle.std.specs.FinMap.{get-insert, get-remove, len-insert, entries-insert}
use Rattle.std.specs.FinMap.Entries.{find, put, by_order, below_all, is_sorted}
use Rattle.std.proofs.lemmas.Bool.{cond-true, cond-false}
use Rattle.std.proofs.lemmas.List.Sums.{sum_by-cons}
use Rattle.std.proofs.lemmas.Option.{same_Some}
use Rattle.base_types.specs.TextMaps.{text_cmp}
use Rattle.vcard_lines.specs.declared.line.Line.{Line}
use Rattle.book_model.specs.declared.answers.Moved.{Moved}
use Rattle.book_model.specs.declared.answers.Stored.{Stored}
use Rattle.book_model.specs.declared.change.Change.TheVariants.{Stores, TakesAway}
use Rattle.book_model.specs.declared.change.StoreReason.TheVariants.{MoveIn}
use Rattle.book_model.specs.declared.change.RemovalReason.TheVariants.{MoveOut}
use Rattle.book_model.specs.declared.refusal.Refusal.{Refusal}
use Rattle.book_model.specs.declared.refusal.Refusal.TheVariants.{NoSuchBook, SameBook, BookFull}
use Rattle.book_model.specs.declared.refusal.Refusal.TheVariants.{ChangesSpent}
use Rattle.book_model.specs.Bounds.{Bounds}
use Rattle.book_model.specs.Books.{same_name, LiveCards}
use Rattle.book_laws.specs.EventLogs.{live}
use Rattle.book_laws.specs.MoveLaws.{MoveCallsTransferOneCard}
use Rattle.book_laws.specs.CardMoves.{live_card_count, TransfersOneCard}
use Rattle.book_model.specs.Moving.{Moving, move_numbers, move_answer}
use Rattle.book_model.specs.CallOutcomes.{◌>>=◌, refuse_unless}
use Rattle.book_model.specs.Putting.{FoundMember, is_expected}
use Rattle.book_laws.specs.StoreHistories.{BookHistory, BookHistories}
use Rattle.book_laws.specs.HistoryChanges.{event, histories_after_move}
use Rattle.book_laws.specs.HistorySteps.{with_event, history_named, found_in_history}
use Rattle.book_model.proofs.BasicLemmas.{T_parts, T_both}
use Rattle.book_model.proofs.AnswerLemmas.{found_to_move, live_first, free_first, expected_first}
use Rattle.book_model.proofs.AnswerLemmas.{same_answer, no_answer}
use Rattle.book_laws.proofs.CountLemmas.{len-removed}
use Rattle.base_types.proofs.TextLemmas.{text_total, same_self, same_equiv, same-other}
use Rattle.base_types.proofs.TextLemmas.{get-insert_here}

-- ---- a sum over the entries of a map, where one is written over

is_less : (o : Ordering) → T (is_lt o) → o ≡ Less
is_less Less h = refl
is_less Equal h = absurd h
is_less Greater h = absurd h

module _ {X : Type 0} (weight : X → ℕ) where
  abbrev Entries : Type 0
  Entries = List (List ℕ × X)

  abbrev total : Entries → ℕ
  total es = sum_by (λ e. weight e.1) es

  below_by : (x y : List ℕ) (es : Entries) → text_cmp x y ≡ Less → T (below_all text_cmp y es)
      → T (below_all text_cmp x es)
  below_by x y [] p h = tt
  below_by x y (e ∷ es) p h = let parts = T_parts _ _ h in
      T_both _ _ (subst (λ o. T (is_lt o)) (sym (text_total.trans x y e.0 p (is_less _ parts.0)))
      tt) (below_by x y es p parts.1)

  none_below : (q : List ℕ) (es : Entries) → T (below_all text_cmp q es) → find text_cmp q es ≡ None
  none_below q [] h = refl
  none_below q (e ∷ es) h = let parts = T_parts _ _ h in
      ap (λ o. cond (is_eq o) (Some e.1) (find text_cmp q es)) (is_less _ parts.0)
      ∙ none_below q es parts.1

  no_some : (x : X) → ◌≡◌ {A = Option X} None (Some x) → ⊥
  no_some x e = cc

  written_over : (k : List ℕ) (v old : X) (es : Entries) → T (is_sorted text_cmp es)
      → find text_cmp k es ≡ Some old → total (put text_cmp k v es) + weight old ≡ total es + weight
      v
  written_over k v old [] s f = absurd (no_some old f)
  written_over k v old (e ∷ es) s f =
      let parts = T_parts _ _ s in
      let all = sum_by-cons (λ (d : List ℕ × X). weight d.1) e es in
      elim (text_cmp k e.0) as (λ o. text_cmp k e.0 ≡ o
      → cond (is_eq o) (Some e.1) (find text_cmp k es) ≡ Some old
      → total (by_order o ((k, v) ∷ e ∷ es) ((e.0, v) ∷ es) (e ∷ put text_cmp k v es)) + weight
      old ≡ total (e ∷ es) + weight v) [
        | Less ↦ λ p g. absurd (no_some old (sym (none_below k es (below_by k e.0 es p parts.0))
            ∙ g))
        | Equal ↦ λ p g.
            let new_named = ap weight (same_Some e.1 old g) in
            let new = sum_by-cons (λ (d : List ℕ × X). weight d.1) (e.0, v) es in
            omega (arith, all, new, new_named)
        | Greater ↦ λ p g.
            let rest = written_over k v old es parts.1 g in
            let new = sum_by-cons (λ (d : List ℕ × X). weight d.1) e (put text_cmp k v es) in
            omega (arith, all, new, rest)
      ] refl f

  pub total-insert : (m : finite.FinMap text_cmp X) (k : List ℕ) (v old : X)
      → finite.get m k ≡ Some old → total (finite.entries (finite.insert m k v)) + weight old
      ≡ total (finite.entries m) + weight v
  total-insert m k v old f =
      let w = written_over k v old (finite.entries m) (finite.entries_sorted m)
      (sym (finite.get-entries m k) ∙ f) in
      let new_named = ap total (entries-insert text_total m k v) in
      omega (arith, w, new_named)

-- ---- what a move that was answered found

numbers_are : (room source_change right : Bool) (n m : ℕ) (moved : Moved)
    → (refuse_unless room BookFull >>= λ _. (refuse_unless source_change ChangesSpent >>= λ _. Ok n)
    >>= λ from. (refuse_unless right ChangesSpent >>= λ _. Ok m) >>= λ version. Ok
    (record { from = from; version = version })) ≡ Ok moved
    → moved ≡ record { from = n; version = m }
numbers_are true true true n m moved e = sym (same_answer _ moved e)
numbers_are true true false n m moved e = absurd (no_answer ChangesSpent moved e)
numbers_are true false right n m moved e = absurd (no_answer ChangesSpent moved e)
numbers_are false source_change right n m moved e = absurd (no_answer BookFull moved e)

-- both books of a move that was answered, and what was answered
record MoveCall (limits : Bounds) (histories : BookHistories) (from to uid : List ℕ) (expect :
    Option ℕ) (moved : Moved) (after : BookHistories) : Type 0 where
  source : BookHistory
  target : BookHistory
  found_source : finite.get histories from ≡ Some source
  found_target : finite.get histories to ≡ Some target
  apart : same_name from to ≡ false
  moving : Moving
  given : move_answer limits (found_in_history source.log uid) (found_in_history target.log uid)
      expect ≡ Ok moving
  moved_is : moving.numbers ≡ moved
  after_is : histories_after_move histories from to uid source target moving.card ≡ after

module _ (limits : Bounds) (histories : BookHistories) (from to uid : List ℕ) (expect : Option ℕ)
    (moved : Moved) (after : BookHistories) where
  abbrev answer : BookHistory → BookHistory → Moving → Result (Moved × BookHistories) Refusal
  answer source target moving = Ok (
    moving.numbers,
    histories_after_move histories from to uid
        source target moving.card,
  )

  by_answer : (source target : BookHistory) → finite.get histories from ≡ Some source
      → finite.get histories to ≡ Some target → same_name from to ≡ false
      → (given : Result Moving Refusal) → move_answer limits (found_in_history source.log uid)
      (found_in_history target.log uid) expect ≡ given → (given >>= answer source target)
      ≡ Ok (moved, after) → MoveCall limits histories from to uid expect moved after
  by_answer source target s t apart (Ok moving) given e =
      let new_named = same_answer (
        moving.numbers,
        histories_after_move histories from to uid source
            target moving.card,
      ) (moved, after) e in
      record {
        source = source;
        target = target;
        found_source = s;
        found_target = t;
        apart = apart;
        moving = moving;
        given = given;
        moved_is = ap (λ p. p.0) new_named;
        after_is = ap (λ p. p.1) new_named;
      }
  by_answer source target s t apart (Err refusal) given e =
      absurd (no_answer refusal (moved, after) e)

  by_apart : (source target : BookHistory) → finite.get histories from ≡ Some source
      → finite.get histories to ≡ Some target → (test : Bool) → same_name from to ≡ test
      → (refuse_unless (not test) SameBook >>= λ _. move_answer limits (found_in_history source.log
      uid) (found_in_history target.log uid) expect >>= answer source target) ≡ Ok (
        moved,
        after,
      ) → MoveCall limits histories from to uid expect moved after
  by_apart source target s t false apart e =
      by_answer source target s t apart (move_answer limits (found_in_history source.log uid)
      (found_in_history target.log uid) expect) refl e
  by_apart source target s t true apart e = absurd (no_answer SameBook (moved, after) e)

  by_target : (source : BookHistory) → finite.get histories from ≡ Some source
      → (o : Option BookHistory) → finite.get histories to ≡ o
      → (option_map_or Ok o (Err NoSuchBook) >>= λ target. refuse_unless (not (same_name from to))
      SameBook >>= λ _. move_answer limits (found_in_history source.log uid)
      (found_in_history target.log uid) expect >>= answer source target) ≡ Ok (moved, after)
      → MoveCall limits histories from to uid expect moved after
  by_target source s (Some target) t e = by_apart source target s t (same_name from to) refl e
  by_target source s None t e = absurd (no_answer NoSuchBook (moved, after) e)

  by_source : (o : Option BookHistory) → finite.get histories from ≡ o
      → (option_map_or Ok o (Err NoSuchBook) >>= λ source. history_named histories to >>= λ target.
      refuse_unless (not (same_name from to)) SameBook >>= λ _. move_answer limits
      (found_in_history source.log uid) (found_in_history target.log uid) expect >>= answer
      source target) ≡ Ok (moved, after)
      → MoveCall limits histories from to uid expect moved after
  by_source (Some source) s e = by_target source s (finite.get histories to) refl e
  by_source None s e = absurd (no_answer NoSuchBook (moved, after) e)

-- ---- the whole

some_key : (cards : LiveCards) (uid : List ℕ) (s : Stored) → finite.get cards uid ≡ Some s
    → finite.contains_key cards uid ≡ true
some_key cards uid s e = ap is_some e

module _ (histories : BookHistories) (from to uid : List ℕ) (source target : BookHistory) (stored :
    Stored) (card : List Line) (s : finite.get histories from ≡ Some source) (t :
    finite.get histories to ≡ Some target) (apart : same_name from to ≡ false)
    (at : finite.get (live source.log) uid ≡ Some stored) (free : finite.get (live target.log) uid
    ≡ None) where
  abbrev source_change : BookHistory
  source_change = with_event source (event uid (TakesAway MoveOut))

  abbrev target_change : BookHistory
  target_change = with_event target (event uid (Stores card MoveIn))

  first : BookHistories
  first = finite.insert histories to target_change

  source_still : finite.get first from ≡ Some source
  unfolding first
  source_still = get-insert text_total histories to target_change from ∙ cond-false _ _ _ apart ∙ s

  apart_turned : same_name to from ≡ false
  apart_turned = same_equiv.symm to from ∙ apart

  target_there : finite.get (histories_after_move histories from to uid source target card) to
      ≡ Some target_change
  target_there = get-insert text_total (finite.insert histories to target_change) from source_change
      to ∙ cond-false _ _ _ apart_turned ∙ get-insert_here histories to target_change

  others : (name : List ℕ) → same_name name from ≡ false → same_name name to ≡ false
      → finite.get (histories_after_move histories from to uid source target card) name
      ≡ finite.get histories name
  others name a b = get-insert text_total (finite.insert histories to target_change) from
      source_change name ∙ cond-false _ _ _ a ∙ get-insert text_total histories to target_change
      name ∙ cond-false _ _ _ b

  one_less : finite.len (live source_change.log) + 1 ≡ finite.len (live source.log)
  one_less = len-removed (live source.log) uid (some_key (live source.log) uid stored at)

  one_more : finite.len (live target_change.log) ≡ finite.len (live target.log) + 1
  one_more = len-insert text_total (live target.log) uid (record {
    version = length target.log + 1;
    card = card;
  }) ∙ cond-false _ _ _ (ap is_some free)

  same_card_count : live_card_count (histories_after_move histories from to uid source target card)
      ≡ live_card_count histories
  unfolding first
  same_card_count =
      let a = total-insert (λ (history : BookHistory). finite.len (live history.log)) histories to
      target_change target t in
      let b = total-insert (λ (history : BookHistory). finite.len (live history.log)) first from
      source_change source source_still in
      let less = one_less in
      let more = one_more in
      omega (arith, a, b, less, more)

pub moves_transfer_one_card : MoveCallsTransferOneCard
moves_transfer_one_card store from to uid expect moved after e =
    let m = by_source store.limits store.books from to uid expect moved after
    (finite.get store.books from) refl e in
    let f = found_to_move store.limits (found_in_history m.source.log uid)
    (found_in_history m.target.log uid) expect m.moving m.given in
    let numbers = moved_numbers store.limits (found_in_history m.source.log uid)
    (found_in_history m.target.log uid) expect m.moving m.given in
    subst (λ (histories : BookHistories). TransfersOneCard store.books from to uid moved histories)
    m.after_is
    (subst (λ (card : List Line). TransfersOneCard store.books from to uid moved
    (histories_after_move store.books from to uid m.source m.target card)) (sym f.card)
    (record {
      stored = f.stored;
      source_change = record {
        old = m.source;
        new = with_event m.source (event uid (TakesAway MoveOut));
        old_named = m.found_source;
        new_named = get-insert_here (finite.insert store.books to
            (with_event m.target (event uid (Stores f.stored.card MoveIn)))) from
            (with_event m.source (event uid (TakesAway MoveOut)));
        extended_by = refl;
        member = get-remove text_total (live m.source.log) uid uid
            ∙ cond-true _ _ _ (same_self uid);
        others = λ other differs. get-remove text_total (live m.source.log) uid other
            ∙ cond-false _ _ _ (same-other other uid differs);
      };
      target_change = record {
        old = m.target;
        new = with_event m.target (event uid (Stores f.stored.card MoveIn));
        old_named = m.found_target;
        new_named = target_there store.books from to uid m.source m.target f.stored f.stored.card
            m.found_source m.found_target m.apart f.live f.free;
        extended_by = refl;
        member =
            get-insert_here (live m.target.log) uid (record {
              version = length m.target.log + 1;
              card = f.stored.card;
            })
            ∙ ap (λ n. Some (version_card n f.stored.card))
            (sym (ap (λ (x : Moved). x.version) (sym m.moved_is ∙ numbers)));
        others = λ other differs. get-insert text_total (live m.target.log) uid
            (record { version = length m.target.log + 1; card = f.stored.card }) other
            ∙ cond-false _ _ _ (same-other other uid differs);
      };
      card = f.live;
      free = f.free;
      numbers = sym m.moved_is ∙ numbers;
      other_books = λ name a b. others store.books from to uid m.source m.target f.stored
          f.stored.card m.found_source m.found_target m.apart f.live f.free name
          (same-other name from a) (same-other name to b);
      same_card_count = same_card_count store.books from to uid m.source m.target f.stored
          f.stored.card m.found_source m.found_target m.apart f.live f.free;
    }))
  where
    version_card : ℕ → List Line → Stored
    version_card n card = record { version = n; card = card }

    moved_numbers : (limits : Bounds) (a b : FoundMember) (expect : Option ℕ) (moving : Moving)
        → move_answer limits a b expect ≡ Ok moving → moving.numbers ≡ record {
          from = a.number + 1;
          version = b.number + 1;
        }
    moved_numbers limits a b expect moving given =
        let l = live_first a.live _ moving given in
        let f = free_first b.live _ moving l.2 in
        let g = expected_first (is_expected expect l.0.version) l.0.version l.0.card
        (move_numbers limits b.cards a.number b.number) moving f.1 in
        numbers_are (nat_lt b.cards limits.cards_max) (nat_lt a.number limits.changes_max)
        (nat_lt b.number limits.changes_max) (a.number + 1) (b.number + 1) moving.numbers g.0
