-- The rows of a store's histories, before and after a step.
use Rattle.std.proofs.Common.{◌≡◌, ℕ, ◌≤◌, Bool, true, false, cond, ◌&&◌, T, List, [], ◌∷◌, length}
use Rattle.std.proofs.Common.{map, Option, Some, None, Result, Ok, Err, is_some, nat_le, ◌==◌, refl}
use Rattle.std.proofs.Common.{sym, ap, ◌∙◌, subst, arith}
use Rattle.std.specs.Option.{option_map, option_map_or}
use Rattle.std.specs.FinMap as finite
use Rattle.std.specs.FinMap.{get-empty, get-insert, same_map, entries-from_sorted, get-from_sorted}
use Rattle.std.specs.FinMap.Entries.{find, below_all, is_sorted}
use Rattle.std.proofs.lemmas.Bool.{leb-true}
use Rattle.std.proofs.lemmas.List.{length-map, nil_from_length}
use Rattle.std.proofs.lemmas.Map.Lookups.{exact_bytes}
use Rattle.base_types.specs.TextMaps.{text_cmp}
use Rattle.vcard_text.specs.Cards.{uid_of}
use Rattle.book_model.specs.declared.answers.PutAnswer.{PutAnswer}
use Rattle.book_model.specs.declared.answers.Stored.{Stored}
use Rattle.book_model.specs.declared.change.Change.TheVariants.{Stores}
use Rattle.book_model.specs.declared.change.StoreReason.{StoreReason}
use Rattle.book_model.specs.declared.page.Page.{Page}
use Rattle.book_model.specs.declared.refusal.Refusal.{Refusal}
use Rattle.book_model.specs.declared.refusal.Refusal.TheVariants.{NoSuchBook, BadToken}
use Rattle.book_model.specs.declared.refusal.TokenCause.TheVariants.{OtherBook, TooNew, TooOld}
use Rattle.book_model.specs.declared.row.Row.{Row}
use Rattle.book_model.specs.declared.token.Mark.{Mark}
use Rattle.book_model.specs.declared.token.Token.{Token}
use Rattle.book_model.specs.Bounds.{Bounds}
use Rattle.book_model.specs.Books.{Book, fresh_book}
use Rattle.book_model.specs.BookChanges.{book_after_change}
use Rattle.book_model.specs.Counting.{no_counts, live_count}
use Rattle.book_laws.specs.LogCounts.{counts_of_log}
use Rattle.book_model.specs.Creating.{new_id}
use Rattle.book_laws.specs.EventLogs.{BookEvent, same_uid, live}
use Rattle.book_laws.specs.ValidLogs.{MayStore}
use Rattle.book_model.specs.CallOutcomes.{◌>>=◌, refuse_unless}
use Rattle.book_model.specs.Pages.{ReportRequest, requested_mark, page_size, page_of}
use Rattle.book_model.specs.Putting.{FoundMember, put_answer, put_store_reason, found_in_book}
use Rattle.book_model.specs.Putting.{books_after_put}
use Rattle.book_laws.specs.Reports.{report}
use Rattle.book_laws.specs.LogRows.{all_rows_of_log, is_row_of_log, rows_of_log}
use Rattle.book_laws.specs.StoreHistories.{BookHistory, BookHistories, IsSoundHistory}
use Rattle.book_laws.specs.StoreHistories.{AreSoundHistories, book_of_history, rows_of}
use Rattle.book_laws.specs.HistorySteps.{empty_history, with_event, create_on_histories}
use Rattle.book_laws.specs.HistorySteps.{found_in_history, histories_after_put, put_on_histories}
use Rattle.book_laws.specs.HistorySteps.{report_on_histories}
use Rattle.book_laws.specs.Refinement.{AreHistoriesOf, RefinesHistories, PagesRefineHistories}
use Rattle.book_laws.specs.ChangeRefinement.{EmptyStoresHaveNoHistories, CreateRefines, PutRefines}
use Rattle.book_laws.specs.QueryRefinement.{ReportsRefine}
use Rattle.book_model.proofs.BasicLemmas.{T_parts, T_both, is_some-map}
use Rattle.base_types.proofs.TextLemmas.{text_total}
use Rattle.book_laws.proofs.CountLemmas.{live_count_is}
use Rattle.book_laws.proofs.DropLemmas.{book_of-with_event}
use Rattle.book_laws.proofs.PutLemmas.{may_store}
use Rattle.book_laws.proofs.RememberLemmas.{sound_with}
use Rattle.book_laws.proofs.ReportLemmas.{page_is_report}
use Rattle.book_laws.proofs.RowLemmas.{get-kept_rows, live_by_row}

abbrev named_rows : List ℕ × BookHistory → List ℕ × Book
named_rows named = (named.0, book_of_history named.1)

below-map : (name : List ℕ) (es : List (List ℕ × BookHistory)) → T (below_all text_cmp name es)
    → T (below_all text_cmp name (map named_rows es))
below-map name [] h = h
below-map name (e ∷ es) h = let parts = T_parts _ _ h in
    T_both _ _ parts.0 (below-map name es parts.1)

sorted-map : (es : List (List ℕ × BookHistory)) → T (is_sorted text_cmp es)
    → T (is_sorted text_cmp (map named_rows es))
sorted-map [] h = h
sorted-map (e ∷ es) h = let parts = T_parts _ _ h in
    T_both _ _ (below-map e.0 es parts.0) (sorted-map es parts.1)

find-map : (name : List ℕ) (es : List (List ℕ × BookHistory))
    → find text_cmp name (map named_rows es) ≡ option_map book_of_history (find text_cmp name es)
find-map name [] = refl
find-map name (e ∷ es) = elim (same_uid name e.0) as (λ b. cond b (Some (book_of_history e.1))
    (find text_cmp name (map named_rows es)) ≡ option_map book_of_history
    (cond b (Some e.1) (find text_cmp name es))) [
      | true ↦ refl
      | false ↦ find-map name es
    ]

-- the rows of the book of a name, and how many books there are
pub get-rows : (histories : BookHistories) (name : List ℕ) → finite.get (rows_of histories) name
    ≡ option_map book_of_history (finite.get histories name)
get-rows histories name =
    get-from_sorted text_cmp (map named_rows (finite.entries histories)) name
    (sorted-map (finite.entries histories) (finite.entries_sorted histories))
    ∙ find-map name (finite.entries histories)
    ∙ ap (option_map book_of_history) (sym (finite.get-entries histories name))

pub entries-rows : (histories : BookHistories) → finite.entries (rows_of histories)
    ≡ map named_rows (finite.entries histories)
entries-rows histories = entries-from_sorted text_cmp (map named_rows (finite.entries histories))
    (sorted-map (finite.entries histories) (finite.entries_sorted histories))

pub len-rows : (histories : BookHistories) → finite.len (rows_of histories) ≡ finite.len histories
len-rows histories =
    finite.len-entries (rows_of histories) ∙ ap length (entries-rows histories)
    ∙ length-map (finite.entries histories) named_rows ∙ sym (finite.len-entries histories)

pub rows-insert : (histories : BookHistories) (name : List ℕ) (history : BookHistory)
    → rows_of (finite.insert histories name history) ≡ finite.insert (rows_of histories) name
    (book_of_history history)
rows-insert histories name history = same_map text_total exact_bytes _ _ (λ q.
    get-rows (finite.insert histories name history) q
    ∙ ap (option_map book_of_history) (get-insert text_total histories name history q)
    ∙ elim (same_uid q name) as (λ b. option_map book_of_history
    (cond b (Some history) (finite.get histories q)) ≡ cond b (Some (book_of_history history))
    (option_map book_of_history (finite.get histories q))) [ true ↦ refl | false ↦ refl ]
    ∙ ap (cond (same_uid q name) (Some (book_of_history history))) (sym (get-rows histories q))
    ∙ sym (get-insert text_total (rows_of histories) name (book_of_history history) q))

-- ---- histories stay sound

sound_either : (b : Bool) (history other : BookHistory) (before : Option BookHistory)
    → IsSoundHistory history → (before ≡ Some other → IsSoundHistory other)
    → cond b (Some history) before ≡ Some other → IsSoundHistory other
sound_either true history other before sound was e = let is : history ≡ other = cc in
    subst IsSoundHistory is sound
sound_either false history other before sound was e = was e

pub sound-insert : (histories : BookHistories) (name : List ℕ) (history : BookHistory)
    → AreSoundHistories histories → IsSoundHistory history
    → AreSoundHistories (finite.insert histories name history)
sound-insert histories name history sound one q other e =
    sound_either (same_uid q name) history other (finite.get histories q) one (sound q other)
    (sym (get-insert text_total histories name history q) ∙ e)

-- a book was written
pub wrote_history : (histories : BookHistories) (name : List ℕ) (history : BookHistory) (book :
    Book) → AreSoundHistories histories → IsSoundHistory history → book_of_history history ≡ book
    → AreHistoriesOf (finite.insert (rows_of histories) name book) (finite.insert histories name
    history)
wrote_history histories name history book sound one is = record {
  sound = sound-insert histories name history sound one;
  rows_are = rows-insert histories name history ∙ ap (finite.insert (rows_of histories) name) is;
}

pub same_histories : (histories : BookHistories) → AreSoundHistories histories
    → AreHistoriesOf (rows_of histories) histories
same_histories histories sound = record { sound = sound; rows_are = refl }

-- ---- creating a book

no_rows : rows_of_log [] 0 ≡ finite.empty
no_rows = same_map text_total exact_bytes _ _ (λ q. get-kept_rows [] 0 q
    ∙ none (is_row_of_log [] 0 q) q ∙ sym (get-empty text_cmp q))
  where
    none : (b : Bool) (q : List ℕ) → cond b (finite.get (all_rows_of_log []) q) None ≡ None
    none true q = get-empty text_cmp q
    none false q = refl

book_of-empty : (id keep : ℕ) → book_of_history (empty_history id keep) ≡ fresh_book id keep
book_of-empty id keep = ap (λ (members : finite.FinMap text_cmp Row). let b :
    Book = record {
      id = id;
      number = 0;
      horizon = 0;
      keep = keep;
      counts = no_counts;
      members = members;
      imports = finite.empty;
    } in b) no_rows

pub creating_follows : CreateRefines
creating_follows store name range sound =
    subst (λ (name_exists : Bool). RefinesHistories (new_id limits name name_exists
    (finite.len (rows_of histories)) >>= λ id. Ok (
      id,
      finite.insert (rows_of histories) name
          (fresh_book id limits.keep),
    )) (create_on_histories limits histories name))
    (sym (ap is_some (get-rows histories name)
    ∙ is_some-map book_of_history (finite.get histories name)))
    (subst (λ n. RefinesHistories (new_id limits name (finite.contains_key histories name) n >>=
    λ id. Ok (id, finite.insert (rows_of histories) name (fresh_book id limits.keep)))
    (create_on_histories limits histories name))
    (sym (len-rows histories)) (by_id (new_id limits name (finite.contains_key histories name)
    (finite.len histories))))
  where
    limits : Bounds
    limits = store.limits

    histories : BookHistories
    histories = store.books

    by_id : (given : Result ℕ Refusal)
        → RefinesHistories (given >>= λ id. Ok (
          id,
          finite.insert (rows_of histories) name
              (fresh_book id limits.keep),
        )) (given >>= λ id. Ok (
          id,
          finite.insert histories name (empty_history id limits.keep),
        ))
    by_id (Ok id) = (
      refl,
      wrote_history histories name (empty_history id limits.keep)
          (fresh_book id limits.keep) sound (record {
            valid_log = tt;
            within_log = omega arith;
            keep_least = range.keep_least;
            within_keep = omega arith;
          }) (book_of-empty id limits.keep),
    )
    by_id (Err refusal) = refl

-- ---- storing a card

pub found_is : (history : BookHistory) (uid : List ℕ) → IsSoundHistory history
    → found_in_book (book_of_history history) uid ≡ found_in_history history.log uid
found_is history uid sound =
    let F : Option Stored → ℕ → FoundMember = λ live cards. record {
      live = live;
      cards = cards;
      number = length history.log;
    } in
    ap (λ live. F live (live_count (counts_of_log history.log)))
    (live_by_row history.log history.horizon uid)
    ∙ ap (F (finite.get (live history.log) uid)) (live_count_is history.log sound.valid_log)

pub putting_follows : PutRefines
putting_follows store name card expect all =
    subst (λ (o : Option Book). RefinesHistories (option_map_or Ok o (Err NoSuchBook) >>= λ book.
    put_answer limits (found_in_book book uid) card expect >>= λ answer. Ok (
      answer,
      books_after_put (rows_of histories) name book card (put_store_reason answer),
    ))
    (put_on_histories limits histories name card expect))
    (sym (get-rows histories name)) (by_history (finite.get histories name) (all name))
  where
    limits : Bounds
    limits = store.limits

    histories : BookHistories
    histories = store.books

    uid : List ℕ
    uid = uid_of card

    after : (history : BookHistory) (answer : PutAnswer) (why : Option StoreReason)
        → IsSoundHistory history → ((reason : StoreReason) → why ≡ Some reason
        → MayStore reason card (finite.get (live history.log) uid))
        → AreHistoriesOf (books_after_put (rows_of histories) name (book_of_history history) card
        why) (histories_after_put histories name history card why)
    after history answer None sound may = same_histories histories all
    after history answer (Some why) sound may =
        let e : BookEvent = record { uid = uid; change = Stores card why } in
        wrote_history histories name (with_event history e)
        (book_after_change (book_of_history history) uid (Stores card why)) all
        (sound_with history e sound (refl, may why refl))
        (book_of-with_event history e sound.within_log)

    by_answer : (history : BookHistory) → IsSoundHistory history
        → (given : Result PutAnswer Refusal) → put_answer limits (found_in_history history.log uid)
        card expect ≡ given
        → RefinesHistories (given >>= λ answer. Ok (
          answer,
          books_after_put (rows_of histories) name
              (book_of_history history) card (put_store_reason answer),
        ))
        (given >>= λ answer. Ok (
          answer,
          histories_after_put histories name history card
              (put_store_reason answer),
        ))
    by_answer history sound (Ok answer) e = (
      refl,
      after history answer (put_store_reason answer) sound
          (λ why r. may_store limits (found_in_history history.log uid) card expect answer why e r),
    )
    by_answer history sound (Err refusal) e = refl

    by_history : (o : Option BookHistory) → ((history : BookHistory) → o ≡ Some history
        → IsSoundHistory history)
        → RefinesHistories (option_map_or Ok (option_map book_of_history o) (Err NoSuchBook) >>=
        λ book. put_answer limits (found_in_book book uid) card expect >>= λ answer. Ok (
          answer,
          books_after_put (rows_of histories) name book card (put_store_reason answer),
        ))
        (option_map_or Ok o (Err NoSuchBook) >>= λ history. put_answer limits
        (found_in_history history.log uid) card expect >>= λ answer. Ok (
          answer,
          histories_after_put histories name history card (put_store_reason answer),
        ))
    by_history None sound = refl
    by_history (Some history) sound =
        subst (λ (found : FoundMember). RefinesHistories (put_answer limits found card expect >>=
        λ answer. Ok (
          answer,
          books_after_put (rows_of histories) name (book_of_history history)
              card (put_store_reason answer),
        ))
        (put_answer limits (found_in_history history.log uid) card expect >>= λ answer. Ok (
          answer,
          histories_after_put histories name history card (put_store_reason answer),
        )))
        (sym (found_is history uid (sound history refl))) (by_answer history (sound history refl)
        (put_answer limits (found_in_history history.log uid) card expect) refl)

-- ---- a report

remembered : (own known old : Bool) (mark asked : Mark)
    → (refuse_unless own (BadToken OtherBook) >>= λ _. refuse_unless known (BadToken TooNew) >>=
    λ _. refuse_unless old (BadToken TooOld) >>= λ _. Ok mark) ≡ Ok asked → (old ≡ true)
    × (mark ≡ asked)
remembered true true true mark asked e = (refl, cc)
remembered true true false mark asked e = cc
remembered true false old mark asked e = cc
remembered false known old mark asked e = cc

asked-le : (id number horizon : ℕ) (token : Option Token) (mark : Mark)
    → requested_mark id number horizon token ≡ Ok mark → horizon ≤ number → horizon ≤ mark.base
asked-le id number horizon None mark e le =
    let is : record { at = 0; base = number } ≡ mark = cc in
    let base : number ≡ mark.base = ap (λ (m : Mark). m.base) is in omega (arith, le, base)
asked-le id number horizon (Some token) mark e le =
    let known = remembered (token.book == id) (nat_le token.mark.at number && nat_le token.mark.base
    number) (nat_le horizon token.mark.base) token.mark mark e in
    let base = ap (λ (m : Mark). m.base) known.1 in
    let within_log : horizon ≤ token.mark.base = leb-true _ _ known.0 in
    omega (arith, within_log, base)

pub reports_follow : ReportsRefine
reports_follow store name token limit all =
    subst (λ (o : Option Book). PagesRefineHistories (option_map_or Ok o (Err NoSuchBook) >>=
    λ book. asked book (requested_mark book.id book.number book.horizon token)
    (page_size limits.page_max limit)) (report_on_histories limits histories name token limit))
    (sym (get-rows histories name)) (by_history (finite.get histories name) (all name))
  where
    limits : Bounds
    limits = store.limits

    histories : BookHistories
    histories = store.books

    asked : Book → Result Mark Refusal → Result ℕ Refusal → Result ReportRequest Refusal
    asked book mark size = mark >>= λ m. size >>= λ k. Ok (record {
      book = book;
      mark = m;
      size = k;
    })

    wanted : BookHistory → Result Mark Refusal → Result ℕ Refusal → Result Page Refusal
    wanted history mark size = mark >>= λ m. size >>= λ k. Ok
        (page_of history.id (report history.log m k))

    by_mark : (history : BookHistory) → IsSoundHistory history
        → (mark : Result Mark Refusal) (size : Result ℕ Refusal)
        → requested_mark history.id (length history.log) history.horizon token ≡ mark
        → PagesRefineHistories (asked (book_of_history history) mark size)
        (wanted history mark size)
    by_mark history sound (Ok mark) (Ok size) e =
        λ page is. page_is_report history mark size page (asked-le history.id (length history.log)
        history.horizon token mark e sound.within_log) is
    by_mark history sound (Ok mark) (Err refusal) e = refl
    by_mark history sound (Err refusal) size e = refl

    by_history : (o : Option BookHistory) → ((history : BookHistory) → o ≡ Some history
        → IsSoundHistory history)
        → PagesRefineHistories (option_map_or Ok (option_map book_of_history o) (Err NoSuchBook) >>=
        λ book. asked book (requested_mark book.id book.number book.horizon token)
        (page_size limits.page_max limit))
        (option_map_or Ok o (Err NoSuchBook) >>= λ history. wanted history
        (requested_mark history.id (length history.log) history.horizon token)
        (page_size limits.page_max limit))
    by_history None sound = refl
    by_history (Some history) sound =
        by_mark history (sound history refl) (requested_mark history.id (length history.log)
        history.horizon token) (page_size limits.page_max limit) refl

-- without books there are no rows
rows-empty : rows_of finite.empty ≡ finite.empty
rows-empty =
    let none : finite.entries finite.empty ≡ [] =
    nil_from_length _ (sym (finite.len-entries finite.empty)
    ∙ finite.len-empty text_cmp BookHistory) in
    ap (λ (es : List (List ℕ × BookHistory)). finite.from_sorted (map named_rows es)) none
    ∙ same_map text_total exact_bytes _ _ (λ q. get-from_sorted text_cmp [] q tt
    ∙ sym (get-empty text_cmp q))

pub nothing_follows : EmptyStoresHaveNoHistories
nothing_follows =
    record {
      sound = λ name history e. absurd (none history (sym (get-empty text_cmp name) ∙ e));
      rows_are = rows-empty;
    }
  where
    none : (history : BookHistory) → None ≡ Some history → ⊥
    none history e = cc
