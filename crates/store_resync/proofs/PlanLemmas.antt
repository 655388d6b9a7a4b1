-- A planned resync against the step of the model.
use Rattle.std.proofs.Common.{◌≡◌, ◌<◌, ◌≤◌, ◌^◌, ◌+◌, IfSome, ℕ, Bool, true, false, List, [], ◌∷◌}
use Rattle.std.proofs.Common.{◌++◌, map, take, length, Option, Some, None, Result, Ok, Err, add-one}
use Rattle.std.proofs.Common.{refl, sym, ap, ap₂, subst, ◌∙◌}
use Rattle.std.specs.List.{AllByRecursion, slice_get}
use Rattle.std.proofs.Math.Seq.{take-length}
use Rattle.std.proofs.lemmas.List.{length-map}
use Rattle.std.specs.Option.{option_map, option_map_or}
use Rattle.std.specs.FinMap as finite
use Rattle.std.specs.FinMap.Entries.{find}
use Rattle.std.proofs.lemmas.Option.{same_Some, slice_get-map}
use Rattle.sqlite.specs.Tree.{Trees}
use Rattle.base_types.specs.TextMaps.{text_cmp}
use Rattle.book_model.specs.declared.answers.BookLine.{BookLine}
use Rattle.book_model.specs.declared.answers.Stored.{Stored}
use Rattle.book_model.specs.declared.denied.Denied.{Denied}
use Rattle.book_model.specs.declared.denied.Denied.TheVariants.{Refused, Fault}
use Rattle.book_model.specs.declared.refusal.Refusal.{Refusal}
use Rattle.book_model.specs.declared.refusal.Refusal.TheVariants.{NoSuchBook}
use Rattle.book_model.specs.Bounds.{Bounds}
use Rattle.book_model.specs.Books.{Book, Books, LiveCards, live_at}
use Rattle.book_model.specs.BookQueries.{book_line_in_rows, book_lines, cards_step, live_cards}
use Rattle.book_model.specs.CallOutcomes.{MatchesStep, ◌>>=◌}
use Rattle.book_resync.specs.Resyncing.{accept_books, books_after_resync, counts_after_pairs}
use Rattle.book_resync.specs.Resyncing.{first_live_card, has_room, last_number, last_number_of}
use Rattle.book_resync.specs.Resyncing.{number_after_pairs, renewed_card, resync_step}
use Rattle.book_model.specs.Counting.{live_count, total_changes}
use Rattle.book_model.specs.declared.counts.Counts.{Counts}
use Rattle.store_rows.specs.LookupLaws.{IsBookNamed}
use Rattle.store_rows.specs.TableBooks.{HeaderRow, books_of, line_row, row_book}
use Rattle.store_rows.specs.SoundTables.{AreSoundRows}
use Rattle.store_rows.specs.TableRows.{TableRows}
use Rattle.store_rows.specs.Values.{IsLegalUid}
use Rattle.store_rows.proofs.CardLemmas.{get-live_cards}
use Rattle.store_rows.proofs.UidLemmas.{live_legal}
use Rattle.store_tables.specs.Books.{BookRow}
use Rattle.store_lookups.specs.CallResults.{FindsHeader, FollowsStep}
use Rattle.store_lookups.specs.Faults.{IsDeniedFault}
use Rattle.store_writes.specs.TableChanges.{HoldBooksAfter, TreesHold}
use Rattle.store_resync.specs.declared.planning.BookPlan.{BookPlan}
use Rattle.store_resync.specs.declared.planning.Renewal.{Renewal}
use Rattle.store_resync.specs.internal.Plans.{ArePlans, HasCanonicalText, HasLegalRow, HasShortText}
use Rattle.store_resync.specs.internal.Plans.{IsBookPlan, IsRenewed, planned_entry}
use Rattle.store_resync.proofs.ListLemmas.{accepts_more, all_more, found_at, map_more, refuses_at}
use Rattle.store_resync.proofs.ListLemmas.{take_more}

-- ---- results

-- a fault is allowed in place of every answer
pub fault_follows : {T A : Type 0} (allows : T → A → Type 0) (denied : Denied) (due :
    Result T Refusal) → IsDeniedFault denied → FollowsStep allows (Err denied) due
fault_follows allows denied due fault = subst (λ d. FollowsStep allows (Err d) due) (sym fault.1) tt

-- the refusal of the step
pub refusal_follows : {T A : Type 0} (allows : T → A → Type 0) (refusal : Refusal) (due :
    Result T Refusal) → due ≡ Err refusal
    → FollowsStep {T = T} {A = A} allows (Err (Refused refusal)) due
refusal_follows {T = T} {A = A} allows refusal due is =
    subst (λ d. FollowsStep {T = T} {A = A} allows (Err (Refused refusal)) d) (sym is) refl

-- the answer of the step
pub answer_follows : {T A : Type 0} (allows : T → A → Type 0) (answer : A) (due : Result T Refusal)
    (asked : T) → due ≡ Ok asked → allows asked answer → FollowsStep allows (Ok answer) due
answer_follows allows answer due asked is allowed =
    subst (λ d. FollowsStep allows (Ok answer) d) (sym is) allowed

-- what an answer says of the step
pub answer_of : {T A : Type 0} (allows : T → A → Type 0) (answer : A) (due : Result T Refusal)
    → FollowsStep allows (Ok answer) due → (asked : T) × (due ≡ Ok asked) × allows asked answer
answer_of allows answer (Ok asked) follows = (asked, refl, follows)
answer_of allows answer (Err refusal) follows = absurd follows

-- and a refusal
pub refused_as : {T A : Type 0} (allows : T → A → Type 0) (refusal : Refusal) (due :
    Result T Refusal) → FollowsStep {T = T} {A = A} allows (Err (Refused refusal)) due
    → due ≡ Err refusal
refused_as allows refusal (Ok asked) follows = absurd follows
refused_as allows refusal (Err wanted) follows = ap Err (sym follows)

-- ---- one book

-- the cards of a book that is there
pub cards_found : {A : Type 0} (cards_of : A → LiveCards) (books : Books) (name : List ℕ) (book :
    Book) (r : Result A Denied) → finite.get books name ≡ Some book
    → FollowsStep (λ wanted cards. cards_of cards ≡ wanted) r (cards_step books name)
    → FollowsStep (λ wanted cards. cards_of cards ≡ wanted) r (Ok (live_cards book))
cards_found cards_of books name book r at follows =
    subst (λ found. FollowsStep (λ wanted cards. cards_of cards ≡ wanted) r
    (option_map_or Ok found (Err NoSuchBook) >>= λ (b : Book). Ok (live_cards b))) at follows

-- a look-up of its name isn't refused
pub never_missing : (rows : TableRows) (name : List ℕ) (book : Book) (refusal : Refusal)
    → finite.get (books_of rows) name ≡ Some book → FindsHeader rows name (Err (Refused refusal))
    → ⊥
never_missing rows name book refusal at finds = none (sym finds.1.book ∙ at)
  where
    none : ◌≡◌ {A = Option Book} None (Some book) → ⊥
    none e = cc

pub with_room : (limits : Bounds) (book : Book) → has_room limits (live_count book.counts) ≡ true
    → IsRenewed None (renewed_card limits book)
with_room limits book room = rw room tt

pub without_room : (limits : Bounds) (book : Book) (renewed : Option Renewal)
    → has_room limits (live_count book.counts) ≡ false → IsRenewed renewed (first_live_card book)
    → IsRenewed renewed (renewed_card limits book)
without_room limits book renewed full is = rw full is

-- the card that is renewed is live, so its UID is legal
pub renewed_legal : (rows : TableRows) (b : BookRow) (renewed : Option Renewal) → AreSoundRows rows
    → IsRenewed renewed (first_live_card (row_book rows b)) → IfSome renewed HasCanonicalText
    → IfSome renewed HasLegalRow
renewed_legal rows b renewed sound = go renewed (first_live_card (row_book rows b)) refl
  where
    live : (entry : List ℕ × Stored) → first_live_card (row_book rows b) ≡ Some entry
        → live_at (row_book rows b) entry.0 ≡ Some entry.1
    live entry at =
        sym (get-live_cards (row_book rows b).members entry.0)
        ∙ finite.get-entries (live_cards (row_book rows b)) entry.0
        ∙ found_at (finite.entries (live_cards (row_book rows b))) 0 entry
        (finite.entries_sorted (live_cards (row_book rows b))) at

    go : (r : Option Renewal) (o : Option (List ℕ × Stored)) → first_live_card (row_book rows b) ≡ o
        → IsRenewed r o → IfSome r HasCanonicalText → IfSome r HasLegalRow
    go None o at is text = tt
    go (Some renewal) None at is text = absurd is
    go (Some renewal) (Some entry) at is text =
        record {
          uid = subst IsLegalUid (sym is.0) (live_legal rows b entry.0 entry.1 sound
              (live entry at));
          text = text;
        }

-- a header that was not found
pub header_denied : {T A : Type 0} (allows : T → A → Type 0) (rows : TableRows) (name : List ℕ)
    (book : Book) (denied : Denied) (due : Result T Refusal) → finite.get (books_of rows) name
    ≡ Some book → FindsHeader rows name (Err denied) → FollowsStep allows (Err denied) due
header_denied allows rows name book (Refused refusal) due at finds =
    absurd (never_missing rows name book refusal at finds)
header_denied allows rows name book (Fault fault) due at finds = tt

-- the cards of a book that is there were not read
pub cards_denied : {T A B : Type 0} (cards_of : B → LiveCards) (allows : T → A
    → Type 0) (books : Books) (name : List ℕ) (book : Book) (denied : Denied) (due :
    Result T Refusal) → finite.get books name ≡ Some book
    → FollowsStep (λ wanted cards. cards_of cards ≡ wanted) (Err denied) (cards_step books name)
    → FollowsStep allows (Err denied) due
cards_denied cards_of allows books name book denied due at follows =
    by denied (cards_found cards_of books name book (Err denied) at follows)
  where
    by : (denied : Denied) → FollowsStep (λ wanted cards. cards_of cards ≡ wanted) (Err denied)
        (Ok (live_cards book)) → FollowsStep allows (Err denied) due
    by (Refused refusal) follows = absurd follows
    by (Fault fault) follows = tt

-- the plan of one book
module _ (limits : Bounds) (pairs : ℕ) (rows : TableRows) (name : List ℕ) (header : HeaderRow)
    (book : Book) (named : IsBookNamed rows name header) (at : finite.get (books_of rows) name
    ≡ Some book) where
  abbrev pub Allows : ℕ → BookPlan → Type 0
  Allows last plan = IsBookPlan limits pairs rows plan × (plan.name ≡ name)

  same_book : row_book rows (line_row name header) ≡ book
  same_book = same_Some (row_book rows (line_row name header)) book (sym named.book ∙ at)

  pub book_refused : (refusal : Refusal)
      → last_number limits pairs header.number (live_count header.counts) ≡ Err refusal
      → FollowsStep Allows (Err (Refused refusal)) (last_number_of limits pairs book)
  book_refused refusal is = refusal_follows Allows refusal (last_number_of limits pairs book)
      (ap (last_number_of limits pairs) (sym same_book) ∙ is)

  pub book_planned : (own : List ℕ) (last : ℕ) (counts : Counts) (renewed : Option Renewal)
      → own ≡ name → last_number limits pairs header.number (live_count header.counts) ≡ Ok last
      → total_changes header.counts ≡ header.number
      → header.horizon ≤ header.number → last ≡ number_after_pairs header.number pairs
      → last < 2 ^ 62 → counts ≡ counts_after_pairs header.counts pairs
      → IsRenewed renewed (renewed_card limits (row_book rows (line_row name header)))
      → IfSome renewed HasShortText → IfSome renewed HasLegalRow
      → FollowsStep Allows (Ok (record {
        name = own;
        header = header;
        last = last;
        counts = counts;
        renewed = renewed;
      })) (last_number_of limits pairs book)
  book_planned own last counts renewed own_is value sum horizon last_is fits counts_is renewed_is
      short legal =
      subst (λ n. FollowsStep Allows (Ok (plan_with n)) (last_number_of limits pairs book))
      (sym own_is)
      (answer_follows Allows (plan_with name) (last_number_of limits pairs book) last
      (ap (last_number_of limits pairs) (sym same_book) ∙ value) (planned, refl))
    where
      plan_with : List ℕ → BookPlan
      plan_with n = record {
        name = n;
        header = header;
        last = last;
        counts = counts;
        renewed = renewed;
      }

      planned : IsBookPlan limits pairs rows (plan_with name)
      planned = record {
        named = named;
        sum = sum;
        horizon = horizon;
        last = last_is;
        fits = fits;
        counts = counts_is;
        renewed = renewed_is;
        short = short;
        legal = legal;
      }

-- ---- the book of a line

pub line_entry : (books : Books) (lines : List BookLine) (i : ℕ) (line : BookLine)
    → book_lines books ≡ lines → slice_get lines i ≡ Some line
    → (entry : List ℕ × Book) × (slice_get (finite.entries books) i ≡ Some entry)
    × (entry.0 ≡ line.name) × (finite.get books line.name ≡ Some entry.1)
line_entry books lines i line are at =
    by (slice_get (finite.entries books) i) refl
    (sym (slice_get-map book_line_in_rows (finite.entries books) i) ∙ ap (λ l. slice_get l i) are
    ∙ at)
  where
    by : (o : Option (List ℕ × Book)) → slice_get (finite.entries books) i ≡ o
        → option_map book_line_in_rows o ≡ Some line
        → (entry : List ℕ × Book) × (slice_get (finite.entries books) i ≡ Some entry)
        × (entry.0 ≡ line.name) × (finite.get books line.name ≡ Some entry.1)
    by None is e = absurd (let bad = e in cc)
    by (Some entry) is e =
        let name : entry.0 ≡ line.name =
        ap (λ (l : BookLine). l.name) (same_Some (book_line_in_rows entry) line e) in (
          entry,
          is,
          name,
          ap (finite.get books) (sym name) ∙ finite.get-entries books entry.0
              ∙ found_at (finite.entries books) i entry (finite.entries_sorted books) is,
        )

-- ---- the step

module _ (limits : Bounds) (books : Books) (pairs : ℕ) where
  abbrev done : ℕ × Books
  done = (finite.len books, books_after_resync limits books pairs)

  pub denied_resync : {A : Type 0} (allows : Unit {0} → A → Type 0) (denied : Denied) (old new :
      Books) → FollowsStep allows (Err denied) (accept_books limits pairs (finite.entries books))
      → new ≡ old
      → MatchesStep {A = ℕ} (Err denied) (resync_step limits books pairs) old new
  denied_resync allows denied old new follows same =
      by (accept_books limits pairs (finite.entries books)) denied follows
    where
      by : (due : Result (Unit {0}) Refusal) (denied : Denied) → FollowsStep allows (Err denied) due
          → MatchesStep {A = ℕ} (Err denied) (due >>= λ _. Ok done) old new
      by (Ok asked) (Refused refusal) follows = absurd follows
      by (Err wanted) (Refused refusal) follows = (follows, same)
      by due (Fault fault) follows = same

  pub resync_does : (count : ℕ) (old new : Books) → accept_books limits pairs (finite.entries books)
      ≡ Ok tt → finite.len books ≡ count → new ≡ books_after_resync limits books pairs
      → MatchesStep (Ok count) (resync_step limits books pairs) old new
  resync_does count old new accepted counted is =
      subst (λ due. MatchesStep {A = ℕ} (Ok count) (due >>= λ _. Ok done) old new) (sym accepted)
      (sym counted, is)

  pub resync_left : (db : Trees) → accept_books limits pairs (finite.entries books) ≡ Ok tt
      → TreesHold (books_after_resync limits books pairs) db
      → HoldBooksAfter (resync_step limits books pairs) db
  resync_left db accepted held = subst (λ due. HoldBooksAfter {A = ℕ} (due >>= λ _. Ok done) db)
      (sym accepted) held

-- ---- all books

-- a name and its book as an entry
named_entry : (rows : TableRows) (plan : BookPlan) (entry : List ℕ × Book) → plan.name ≡ entry.0
    → row_book rows (line_row plan.name plan.header) ≡ entry.1 → planned_entry rows plan ≡ entry
named_entry rows plan entry name book = ap₂ (λ n b. (n, b)) name book

module _ (limits : Bounds) (pairs : ℕ) (rows : TableRows) (lines : List BookLine) (plans :
    List BookPlan) (i : ℕ) (line : BookLine) (are : book_lines (books_of rows) ≡ lines) (at :
    slice_get lines i ≡ Some line) where
  abbrev entries : List (List ℕ × Book)
  entries = finite.entries (books_of rows)

  abbrev Wanted : ℕ → BookPlan → Type 0
  Wanted last plan = IsBookPlan limits pairs rows plan × (plan.name ≡ line.name)

  -- one more plan
  module _ (plan : BookPlan) (follows : (book : Book) → finite.get (books_of rows) line.name
      ≡ Some book → FollowsStep Wanted (Ok plan) (last_number_of limits pairs book)) where
    pub entries_more : map (planned_entry rows) plans ≡ take i entries
        → map (planned_entry rows) (plans ++ plan ∷ []) ≡ take (i + 1) entries
    entries_more so_far =
        let it = line_entry (books_of rows) lines i line are at in
        let entry = it.0 in
        let made = answer_of Wanted plan (last_number_of limits pairs entry.1)
        (follows entry.1 it.3) in
        let book = same_Some _ _ (sym made.2.0.named.book ∙ ap (finite.get (books_of rows)) made.2.1
        ∙ it.3) in
        map_more (planned_entry rows) plans plan
        ∙ ap₂ (λ es e. es ++ e ∷ []) so_far (named_entry rows plan entry (made.2.1 ∙ sym it.2) book)
        ∙ sym (take_more entries i entry it.1)
        ∙ ap (λ n. take n entries) (sym (add-one i))

    pub each_more : AllByRecursion (IsBookPlan limits pairs rows) plans
        → AllByRecursion (IsBookPlan limits pairs rows) (plans ++ plan ∷ [])
    each_more so_far =
        let it = line_entry (books_of rows) lines i line are at in
        let made = answer_of Wanted plan (last_number_of limits pairs it.0.1)
        (follows it.0.1 it.3) in
        all_more (IsBookPlan limits pairs rows) plans plan so_far made.2.0

    pub accepted_more : accept_books limits pairs (take i entries) ≡ Ok tt
        → accept_books limits pairs (take (i + 1) entries) ≡ Ok tt
    accepted_more so_far =
        let it = line_entry (books_of rows) lines i line are at in
        let made = answer_of Wanted plan (last_number_of limits pairs it.0.1)
        (follows it.0.1 it.3) in
        ap (λ n. accept_books limits pairs (take n entries)) (add-one i)
        ∙ accepts_more limits pairs entries i it.0 made.0 so_far it.1 made.1

  -- a book that is refused, or was not read
  pub denied_here : {A : Type 0} (allows : Unit {0} → A → Type 0) (denied : Denied)
      → ((book : Book) → finite.get (books_of rows) line.name ≡ Some book
      → FollowsStep Wanted (Err denied) (last_number_of limits pairs book))
      → accept_books limits pairs (take i entries) ≡ Ok tt
      → FollowsStep allows (Err denied) (accept_books limits pairs entries)
  denied_here {A = A} allows denied follows so_far = by denied follows
    where
      by : (denied : Denied) → ((book : Book) → finite.get (books_of rows) line.name ≡ Some book
          → FollowsStep Wanted (Err denied) (last_number_of limits pairs book))
          → FollowsStep allows (Err denied) (accept_books limits pairs entries)
      by (Refused refusal) follows =
          let it = line_entry (books_of rows) lines i line are at in
          let why = refused_as Wanted refusal (last_number_of limits pairs it.0.1)
          (follows it.0.1 it.3) in
          refusal_follows allows refusal (accept_books limits pairs entries)
          (refuses_at limits pairs entries i it.0 refusal so_far it.1 why)
      by (Fault fault) follows = tt

-- the whole list
pub all_planned : (limits : Bounds) (pairs : ℕ) (rows : TableRows) (lines : List BookLine) (plans :
    List BookPlan) (i : ℕ) → book_lines (books_of rows) ≡ lines → i ≡ length lines
    → map (planned_entry rows) plans ≡ take i (finite.entries (books_of rows))
    → AllByRecursion (IsBookPlan limits pairs rows) plans
    → accept_books limits pairs (take i (finite.entries (books_of rows))) ≡ Ok tt
    → FollowsStep (λ (_ : Unit {0}) ps. ArePlans limits pairs rows ps) (Ok plans)
    (accept_books limits pairs (finite.entries (books_of rows)))
all_planned limits pairs rows lines plans i are end listed each accepted =
    let es = finite.entries (books_of rows) in
    let whole : take i es ≡ es = ap (λ n. take n es) (end ∙ sym (ap length are)
    ∙ length-map es book_line_in_rows) ∙ take-length es in
    answer_follows (λ (_ : Unit {0}) ps. ArePlans limits pairs rows ps) plans
    (accept_books limits pairs es) tt (ap (accept_books limits pairs) (sym whole)
    ∙ accepted) (record { entries = listed ∙ whole; each = each })

-- lines that were not read: a fault, since the step has no refusal
pub lines_denied : {T A B : Type 0} (lists : List BookLine → B → Type 0) (allows : T → A
    → Type 0) (wanted : List BookLine) (denied : Denied) (due : Result T Refusal)
    → FollowsStep lists (Err denied) (Ok wanted) → FollowsStep allows (Err denied) due
lines_denied lists allows wanted (Refused refusal) due follows = absurd follows
lines_denied lists allows wanted (Fault fault) due follows = tt
