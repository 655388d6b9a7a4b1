-- What a resync leaves: the rows, the live cards, and what devices are answered. Given here: an
-- induction over the later events (`later_or_live`); whether a row is that of the card that was
-- renewed; and the histories of the rows before and after the resync (`has_grown`).
use Rattle.std.proofs.Common.{◌≡◌, ℕ, ◌+◌, ◌<◌, ◌≤◌, ◌⊎◌, inl, inr, ◌==◌, ◌&&◌, ◌||◌, Bool, true}
use Rattle.std.proofs.Common.{false, cond, List, [], ◌∷◌, ◌++◌, length, Option, Some, None, is_some}
use Rattle.std.proofs.Common.{nat_lt, nat_le, Result, Ok, Err, refl, sym, ap, ◌∙◌, subst, ⊎_elim}
use Rattle.std.proofs.Common.{arith}
use Rattle.std.specs.Option.{option_map, option_map_or, option_and_then}
use Rattle.std.specs.FinMap as finite
use Rattle.std.specs.FinMap.{get-insert}
use Rattle.std.proofs.lemmas.Bool.{cases_Bool, cond-true, cond-false, or_cases, le-leb, lt-ltb}
use Rattle.std.proofs.lemmas.Bool.{ltb-true, leb-true}
use Rattle.std.proofs.lemmas.Bool.Decides.{Decides-eqb}
use Rattle.std.proofs.lemmas.List.{length-append}
use Rattle.std.proofs.lemmas.Option.{same_Some, cond_some}
use Rattle.std.proofs.lemmas.Result.{IfOk-at_ok}
use Rattle.vcard_lines.specs.declared.line.Line.{Line}
use Rattle.book_model.specs.declared.answers.Stored.{Stored}
use Rattle.book_model.specs.declared.page.Page.{Page}
use Rattle.book_model.specs.declared.refusal.Refusal.{Refusal}
use Rattle.book_model.specs.declared.refusal.Refusal.TheVariants.{NoSuchBook, BadToken}
use Rattle.book_model.specs.declared.refusal.TokenCause.TheVariants.{OtherBook, TooNew, TooOld}
use Rattle.book_model.specs.declared.row.Row.{Row}
use Rattle.book_model.specs.declared.token.Mark.{Mark}
use Rattle.book_model.specs.declared.token.Token.{Token}
use Rattle.book_model.specs.Bounds.{Bounds, IsInRange}
use Rattle.book_model.specs.Books.{Book, Books, live_at, same_name, stored_in_row}
use Rattle.book_model.specs.BookQueries.{live_cards}
use Rattle.book_model.specs.CallOutcomes.{◌>>=◌, refuse_unless}
use Rattle.book_model.specs.Counting.{live_count}
use Rattle.book_model.specs.Devices.{DeviceState}
use Rattle.book_model.specs.Forgetting.{is_row_kept}
use Rattle.book_model.specs.Pages.{ReportRequest, IsReport, page_size, requested_mark, report_step}
use Rattle.book_resync.specs.Resyncing.{number_after_resync, first_live_card, renewed_card}
use Rattle.book_resync.specs.Resyncing.{rows_after_renewal, book_after_resync}
use Rattle.book_model.specs.WellFormed.{IsWellFormedBook, IsWellFormed}
use Rattle.book_laws.specs.Calls.{Call, histories_after_calls}
use Rattle.book_laws.specs.EventLogs.{BookEvent, same_uid, live}
use Rattle.book_laws.specs.HistoryExtension.{Extends}
use Rattle.book_laws.specs.HistorySteps.{report_on_histories}
use Rattle.book_laws.specs.Refinement.{PagesRefineHistories}
use Rattle.book_resync.specs.ResyncCalls.{resync_calls}
use Rattle.book_laws.specs.RowsAfterCalls.{rows_after_calls}
use Rattle.book_resync.specs.ResyncLaws.{IsResync, ResyncedRowsAreLive, ResyncsKeepCards}
use Rattle.book_resync.specs.ResyncLaws.{ResyncsKeepVersions, ResyncsExpireTokens}
use Rattle.book_resync.specs.ResyncLaws.{InitialPagesCompleteCopies, LostVersionsNeverReturn}
use Rattle.book_resync.specs.ResyncLaws.{ExpiredTokensStayRefused}
use Rattle.book_laws.specs.StoreHistories.{BookHistory, BookHistories, AreSoundHistories}
use Rattle.book_laws.specs.StoreHistories.{StoreHistory, book_of_history, rows_of}
use Rattle.book_model.proofs.BasicLemmas.{both}
use Rattle.base_types.proofs.TextLemmas.{text_total, same-equal}
use Rattle.book_laws.proofs.DeviceLemmas.{devices_start_consistent, last_pages_complete_all}
use Rattle.book_laws.proofs.ExtensionLemmas.{calls_extend_histories}
use Rattle.book_laws.proofs.HistoryLemmas.{last_here, get-changed, version_is}
use Rattle.book_laws.proofs.RowLemmas.{live_by_row}
use Rattle.book_laws.proofs.RunLemmas.{stays_sound, rows_match_histories_after_calls}
use Rattle.book_laws.proofs.StoreHistoryLemmas.{get-rows, reports_follow}
use Rattle.book_laws.proofs.WellFormedBooks.{written_or_there}
use Rattle.book_resync.proofs.BookLemmas.{IsOfNamed, asked_of_named, get-live_cards, same_live}
use Rattle.book_resync.proofs.BookResyncLemmas.{Rows, kept, get-forgotten, first_is_live}
use Rattle.book_resync.proofs.AllBooksLemmas.{resyncs_change_each_book, resyncs_match_histories}
use Rattle.book_resync.proofs.AllBooksLemmas.{spare_cards_exist}

-- ---- rows

-- no row has a number above the last
renewed_known : (limits : Bounds) (book : Book) (renewed : Option (List ℕ × Stored)) (number : ℕ)
    (uid : List ℕ) (row : Row) → IsWellFormedBook limits book → book.number ≤ number
    → finite.get (rows_after_renewal book.members renewed number) uid ≡ Some row
    → row.changed ≤ number
renewed_known limits book None number uid row form le at = let known =
    (form.rows uid row at).known in omega (arith, known, le)
renewed_known limits book (Some renewed) number uid row form le at = ⊎_elim
    (λ here. let n = ap (λ (r : Row). r.changed) here.1 in omega (arith, n))
    (λ there. let known = (form.rows uid row there).known in omega (arith, known, le))
    (written_or_there book.members renewed.0 (record {
      changed = number;
      card = Some renewed.1.card;
    }) uid row at)

kept_is : (upto : ℕ) (o : Option Row) (row : Row) → kept upto o ≡ Some row → (o ≡ Some row)
    × (is_row_kept upto row ≡ true)
kept_is upto None row e = cc
kept_is upto (Some x) row e =
    let is = cond_some (is_row_kept upto x) x row e in
    (ap Some is.1, subst (λ (y : Row). is_row_kept upto y ≡ true) is.1 is.0)

pub resynced_rows_are_live : ResyncedRowsAreLive
resynced_rows_are_live limits book pairs uid row form at =
    let number = number_after_resync book pairs in
    let members : Rows = rows_after_renewal book.members (renewed_card limits book) number in
    let is = kept_is number (finite.get members uid) row (sym (get-forgotten members number uid)
    ∙ at) in
    let known = renewed_known limits book (renewed_card limits book) number uid row form
    (omega arith) is.0 in
    ⊎_elim
    (λ here. here)
    (λ late. let lt : number < row.changed = ltb-true number row.changed late in
    absurd (omega (arith, lt, known)))
    (or_cases _ _ is.1)

-- ---- live cards

-- a forget keeps what is live
live-kept : (upto : ℕ) (o : Option Row) → option_and_then stored_in_row (kept upto o)
    ≡ option_and_then stored_in_row o
live-kept upto None = refl
live-kept upto (Some row) = by row.card refl
  where
    by : (o : Option (List Line)) → row.card ≡ o
        → option_and_then stored_in_row (kept upto (Some row)) ≡ stored_in_row row
    by (Some card) e = ap (λ (o : Option (List Line)). option_and_then stored_in_row
        (cond (is_some o || nat_lt upto row.changed) (Some row) None)) e
    by None e = either (is_row_kept upto row)
      where
        none : stored_in_row row ≡ None
        none = ap (λ (o : Option (List Line)). option_map (λ (card : List Line). let s :
            Stored = record { version = row.changed; card = card } in s) o) e

        either : (b : Bool) → option_and_then stored_in_row (cond b (Some row) None)
            ≡ stored_in_row row
        either true = refl
        either false = sym none

module _ (limits : Bounds) (book : Book) (pairs : ℕ) where
  abbrev number : ℕ
  number = number_after_resync book pairs

  live_then : (uid : List ℕ) → live_at (book_after_resync limits book pairs) uid
      ≡ option_and_then stored_in_row (finite.get (rows_after_renewal book.members
      (renewed_card limits book) number) uid)
  live_then uid =
      let members : Rows = rows_after_renewal book.members (renewed_card limits book) number in
      ap (option_and_then stored_in_row) (get-forgotten members number uid)
      ∙ live-kept number (finite.get members uid)

  same_card_at : (form : IsWellFormedBook limits book) (renewed : Option (List ℕ × Stored))
      → ((r : List ℕ × Stored) → renewed ≡ Some r → live_at book r.0 ≡ Some r.1) → (uid : List ℕ)
      → option_map (λ (s : Stored). s.card) (option_and_then stored_in_row
      (finite.get (rows_after_renewal book.members renewed number) uid))
      ≡ option_map (λ (s : Stored). s.card) (live_at book uid)
  same_card_at form None live uid = refl
  same_card_at form (Some renewed) live uid =
      let row : Row = record { changed = number; card = Some renewed.1.card } in
      ap (λ (o : Option Row). option_map (λ (s : Stored). s.card) (option_and_then stored_in_row o))
      (get-insert text_total book.members renewed.0 row uid)
      ∙ ⊎_elim
      (λ here.
      ap (λ (o : Option Row). option_map (λ (s : Stored). s.card) (option_and_then stored_in_row o))
      (cond-true (same_name uid renewed.0) (Some row) (finite.get book.members uid) here)
      ∙ sym (ap (λ (u : List ℕ). option_map (λ (s : Stored). s.card) (live_at book u))
      (same-equal uid renewed.0 here)
      ∙ ap (option_map (λ (s : Stored). s.card)) (live renewed refl)))
      (λ other. ap (λ (o : Option Row). option_map (λ (s : Stored). s.card)
      (option_and_then stored_in_row o)) (cond-false (same_name uid renewed.0) (Some row)
      (finite.get book.members uid) other))
      (cases_Bool (same_name uid renewed.0))

  renewed_is_live : (form : IsWellFormedBook limits book) (b : Bool) (r : List ℕ × Stored)
      → cond b None (first_live_card book) ≡ Some r → live_at book r.0 ≡ Some r.1
  renewed_is_live form true r e = cc
  renewed_is_live form false r e = first_is_live limits book form r e

pub resyncs_keep_cards : ResyncsKeepCards
resyncs_keep_cards limits book pairs uid form =
    ap (option_map (λ (s : Stored). s.card)) (live_then limits book pairs uid)
    ∙ same_card_at limits book pairs form (renewed_card limits book) (renewed_is_live limits book
    pairs form (nat_lt (live_count book.counts) limits.cards_max)) uid

pub resyncs_keep_versions : ResyncsKeepVersions
resyncs_keep_versions limits book pairs form room =
    let none : renewed_card limits book ≡ None = cond-true _ _ _ (lt-ltb _ _ room) in
    same_live (live_cards book) (book_after_resync limits book pairs) (λ q.
    live_then limits book pairs q
    ∙ ap (λ (o : Option (List ℕ × Stored)). option_and_then stored_in_row
    (finite.get (rows_after_renewal book.members o (number_after_resync book pairs)) q)) none
    ∙ sym (get-live_cards book q))

-- ---- devices

-- a token of the book is too old where its base is below the horizon
pub too_old : (limits : Bounds) (books : Books) (name : List ℕ) (book : Book) (token : Token)
    (limit : Option ℕ) → finite.get books name ≡ Some book → token.book ≡ book.id
    → token.mark.at ≤ book.number → token.mark.base ≤ book.number → token.mark.base < book.horizon
    → report_step limits books name (Some token) limit ≡ Err (BadToken TooOld)
too_old limits books name book token limit at own known also old =
    ap (λ (o : Option Book). option_map_or Ok o (Err NoSuchBook) >>= asking) at
    ∙ refused (token.book == book.id) (nat_le token.mark.at book.number && nat_le token.mark.base
    book.number) (nat_le book.horizon token.mark.base)
    ((Decides-eqb token.book book.id).1 own) (both _ _ (le-leb _ _ known) (le-leb _ _ also))
    (not_le book.horizon token.mark.base old)
  where
    asking : Book → Result ReportRequest Refusal
    asking b = requested_mark b.id b.number b.horizon (Some token) >>= λ mark. page_size
        limits.page_max limit >>= λ size. Ok (record { book = b; mark = mark; size = size })

    rest : Mark → Result ReportRequest Refusal
    rest mark = page_size limits.page_max limit >>= λ size. Ok (record {
      book = book;
      mark = mark;
      size = size;
    })

    refused : (a b c : Bool) → a ≡ true → b ≡ true → c ≡ false
        → ((refuse_unless a (BadToken OtherBook) >>= λ _. refuse_unless b (BadToken TooNew) >>= λ _.
        refuse_unless c (BadToken TooOld) >>= λ _. Ok token.mark) >>= rest) ≡ Err (BadToken TooOld)
    refused true true false p q r = refl
    refused true true true p q r = cc
    refused true false c p q r = cc
    refused false b c p q r = cc

    not_le : (n base : ℕ) → base < n → nat_le n base ≡ false
    not_le n base lt = by (nat_le n base) refl
      where
        by : (b : Bool) → nat_le n base ≡ b → b ≡ false
        by false e = refl
        by true e = let le : n ≤ base = leb-true n base e in absurd (omega (arith, le, lt))

pub resyncs_expire_tokens : ResyncsExpireTokens
resyncs_expire_tokens limits books left pairs name book token limit is at own known old =
    let there : finite.get left name ≡ Some (book_after_resync limits book pairs) =
    resyncs_change_each_book limits books left pairs name is
    ∙ ap (option_map (λ (b : Book). book_after_resync limits b pairs)) at in
    too_old limits left name (book_after_resync limits book pairs) token limit there own known
    (omega (arith, old)) old

-- a page of the rows of sound histories is the page of the histories
page_of_histories : (store : StoreHistory) (name : List ℕ) (limit : Option ℕ) (asked :
    ReportRequest) (page : Page) → AreSoundHistories store.books
    → report_step store.limits (rows_of store.books) name None limit ≡ Ok asked
    → IsReport asked page
    → report_on_histories store.limits store.books name None limit ≡ Ok page
page_of_histories store name limit asked page sound e is =
    by (report_step store.limits (rows_of store.books) name None limit)
    (report_on_histories store.limits store.books name None limit) e
    (reports_follow store name None limit sound)
  where
    by : (step : Result ReportRequest Refusal) (wanted : Result Page Refusal) → step ≡ Ok asked
        → PagesRefineHistories step wanted → wanted ≡ Ok page
    by (Ok other) (Ok wanted) e refines =
        ap (λ (p : Page). Ok p) (sym (refines page (subst (λ (r : ReportRequest). IsReport r page)
        (sym (same_Ok e)) is)))
      where
        same_Ok : ◌≡◌ {A = Result ReportRequest Refusal} (Ok other) (Ok asked) → other ≡ asked
        same_Ok e = cc
    by (Ok other) (Err refusal) e refines = absurd refines
    by (Err refusal) wanted e refines = cc

pub initial_pages_complete_copies : InitialPagesCompleteCopies
initial_pages_complete_copies store left pairs name limit asked page range sound form is e report
    whole =
    let spare = spare_cards_exist (rows_of store.books) in
    let calls = resync_calls store.limits spare.0 pairs (rows_of store.books) in
    let then : StoreHistory = record {
      limits = store.limits;
      books = histories_after_calls store.limits store.books calls;
    } in
    let rows_are : left ≡ rows_of then.books =
    resyncs_match_histories store left spare.0 pairs range sound form spare.1 is in
    let asked_then = ap (λ (b : Books). report_step store.limits b name None limit) (sym rows_are)
    ∙ e in
    let sound_then = stays_sound store calls range sound in
    let device : DeviceState = record { book = name; copy = finite.empty; token = None } in
    let up = last_pages_complete_all then.limits then.books device limit page
    (devices_start_consistent then.books device refl) (page_of_histories
    then name limit asked page sound_then asked_then report) whole in
    let found = IfOk-at_ok (IsOfNamed (rows_of then.books) name) asked_then
    (asked_of_named then.limits (rows_of then.books) name None limit) in
    let same : book_of_history up.history ≡ asked.book =
    same_Some _ _ (sym (get-rows then.books name ∙ ap (option_map book_of_history) up.found)
    ∙ found) in
    up.copy
    ∙ sym (same_live (live up.history.log) (book_of_history up.history)
    (λ q. live_by_row up.history.log up.history.horizon q))
    ∙ ap live_cards same

-- ---- after any calls

-- the history of a book's rows
history_at : (histories : BookHistories) (name : List ℕ) (book : Book)
    → finite.get (rows_of histories) name ≡ Some book → (history : BookHistory)
    × (finite.get histories name ≡ Some history) × (book_of_history history ≡ book)
history_at histories name book e =
    by (finite.get histories name) refl (sym (get-rows histories name) ∙ e)
  where
    by : (o : Option BookHistory) → finite.get histories name ≡ o → option_map book_of_history o
        ≡ Some book → (history : BookHistory) × (finite.get histories name ≡ Some history)
        × (book_of_history history ≡ book)
    by (Some history) at e = (history, at, same_Some (book_of_history history) book e)
    by None at e = cc

-- a live card was stored by a later event, or was live before
later_or_live : (later h : List BookEvent) (uid : List ℕ) (stored : Stored)
    → finite.get (live (later ++ h)) uid ≡ Some stored → (length h < stored.version)
    ⊎ (finite.get (live h) uid ≡ Some stored)
later_or_live [] h uid stored e = inr e
later_or_live (event ∷ later) h uid stored e = ⊎_elim
    (λ here.
    let version = version_is (event ∷ later ++ h) uid stored e in
    let newest = last_here (later ++ h) event uid here in
    let long = length-append later h in
    inl (omega (arith, version, newest, long)))
    (λ other. later_or_live later h uid stored
    (sym (get-changed (live (later ++ h)) event.uid uid event.change (length (later ++ h) + 1)
    other) ∙ e))
    (cases_Bool (same_uid uid event.uid))

-- what is live after a resync was live before it, or has the new number as its version
live_or_renewed : (limits : Bounds) (book : Book) (pairs : ℕ) (renewed : Option (List ℕ × Stored))
    (uid : List ℕ) (stored : Stored)
    → option_and_then stored_in_row (finite.get (rows_after_renewal book.members renewed
    (number_after_resync book pairs)) uid) ≡ Some stored → (live_at book uid ≡ Some stored)
    ⊎ (number_after_resync book pairs ≤ stored.version)
live_or_renewed limits book pairs None uid stored e = inl e
live_or_renewed limits book pairs (Some renewed) uid stored e =
    let number = number_after_resync book pairs in
    let row : Row = record { changed = number; card = Some renewed.1.card } in
    let is = ap (option_and_then stored_in_row)
    (sym (get-insert text_total book.members renewed.0 row uid)) ∙ e in
    ⊎_elim
    (λ here.
    let written : stored_in_row row ≡ Some stored =
    ap (option_and_then stored_in_row)
    (sym (cond-true (same_name uid renewed.0) (Some row) (finite.get book.members uid) here))
    ∙ is in
    let version = ap (λ (s : Stored). s.version) (same_Some (record {
      version = number;
      card = renewed.1.card;
    }) stored written) in
    inr (omega (arith, version)))
    (λ other. inl (ap (option_and_then stored_in_row)
    (sym (cond-false (same_name uid renewed.0) (Some row) (finite.get book.members uid) other))
    ∙ is))
    (cases_Bool (same_name uid renewed.0))

module _ (store : StoreHistory) (left : Books) (pairs : ℕ) (calls : List Call) (name : List ℕ)
    (book : Book)
    (range : IsInRange store.limits) (sound : AreSoundHistories store.books) (form :
    IsWellFormed store.limits (rows_of store.books)) (is :
    IsResync store.limits (rows_of store.books) pairs left) (at :
    finite.get (rows_of store.books) name ≡ Some book) where
  abbrev commands : List Call
  commands = resync_calls store.limits (spare_cards_exist (rows_of store.books)).0 pairs
      (rows_of store.books)

  abbrev then : StoreHistory
  then = record {
    limits = store.limits;
    books = histories_after_calls store.limits store.books commands;
  }

  abbrev resynced : Book
  resynced = book_after_resync store.limits book pairs

  rows_then : left ≡ rows_of then.books
  rows_then = let spare = spare_cards_exist (rows_of store.books) in
      resyncs_match_histories store left spare.0 pairs range sound form spare.1 is

  resynced_at : finite.get (rows_of then.books) name ≡ Some resynced
  resynced_at =
      ap (λ (b : Books). finite.get b name) (sym rows_then)
      ∙ resyncs_change_each_book store.limits (rows_of store.books) left pairs name is
      ∙ ap (option_map (λ (b : Book). book_after_resync store.limits b pairs)) at

  rows_later : rows_after_calls store.limits left calls
      ≡ rows_of (histories_after_calls store.limits then.books calls)
  rows_later =
      ap (λ (b : Books). rows_after_calls store.limits b calls) rows_then
      ∙ rows_match_histories_after_calls then calls range (stays_sound store commands range sound)

  -- the history of the book after the resync, and after the calls
  record HasGrown : Type 0 where
    first : BookHistory
    first_is : book_of_history first ≡ resynced
    last : BookHistory
    last_at : finite.get (rows_after_calls store.limits left calls) name
        ≡ Some (book_of_history last)
    extended : Extends first last

  has_grown : HasGrown
  has_grown =
      let history = history_at then.books name resynced resynced_at in
      let grown = calls_extend_histories store.limits then.books calls name history.0 history.1 in
      record {
        first = history.0;
        first_is = history.2;
        last = grown.0;
        last_at =
            ap (λ (b : Books). finite.get b name) rows_later
            ∙ get-rows (histories_after_calls store.limits then.books calls) name
            ∙ ap (option_map book_of_history) grown.1;
        extended = grown.2;
      }

  tokens_stay_refused : (token : Token) (limit : Option ℕ) → token.book ≡ book.id
      → token.mark.at ≤ number_after_resync book pairs
      → token.mark.base < number_after_resync book pairs
      → report_step store.limits (rows_after_calls store.limits left calls) name (Some token) limit
      ≡ Err (BadToken TooOld)
  tokens_stay_refused token limit own known old =
      let grown = has_grown in
      let id = ap (λ (b : Book). b.id) grown.first_is in
      let number = ap (λ (b : Book). b.number) grown.first_is in
      let horizon = ap (λ (b : Book). b.horizon) grown.first_is in
      let long = ap length grown.extended.log
      ∙ length-append grown.extended.later grown.first.log in
      let rises = grown.extended.horizon in
      too_old store.limits (rows_after_calls store.limits left calls) name
      (book_of_history grown.last) token limit grown.last_at
      (own ∙ sym id ∙ sym grown.extended.id)
      (omega (arith, known, number, long)) (omega (arith, old, number, long)) (omega (
        arith,
        old,
        horizon,
        rises,
      ))

  versions_stay_apart : (uid : List ℕ) (later : Book) (stored : Stored)
      → finite.get (rows_after_calls store.limits left calls) name ≡ Some later
      → live_at later uid ≡ Some stored
      → (live_at book uid ≡ Some stored) ⊎ (number_after_resync book pairs ≤ stored.version)
  versions_stay_apart uid later stored later_at lives =
      let grown = has_grown in
      let number = ap (λ (b : Book). b.number) grown.first_is in
      let same : later ≡ book_of_history grown.last =
      same_Some _ _ (sym later_at ∙ grown.last_at) in
      let live_last : finite.get (live grown.last.log) uid ≡ Some stored =
      sym (live_by_row grown.last.log grown.last.horizon uid)
      ∙ ap (λ (b : Book). live_at b uid) (sym same) ∙ lives in
      ⊎_elim
      (λ new. inr (omega (arith, new, number)))
      (λ old. live_or_renewed store.limits book pairs (renewed_card store.limits book) uid stored
      (sym (live_then store.limits book pairs uid)
      ∙ ap (λ (b : Book). live_at b uid) (sym grown.first_is)
      ∙ live_by_row grown.first.log grown.first.horizon uid ∙ old))
      (later_or_live grown.extended.later grown.first.log uid stored
      (ap (λ (h : List BookEvent). finite.get (live h) uid) (sym grown.extended.log)
      ∙ live_last))

pub lost_versions_never_return : LostVersionsNeverReturn
lost_versions_never_return store left pairs calls name uid book later stored range sound form is at
    later_at lives = versions_stay_apart store left pairs calls name book range sound form is at uid
    later stored later_at lives

pub expired_tokens_stay_refused : ExpiredTokensStayRefused
expired_tokens_stay_refused store left pairs calls name book token limit range sound form is at own
    known old = tokens_stay_refused store left pairs calls name book range sound form is at token
    limit own known old
