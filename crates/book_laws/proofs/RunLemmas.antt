-- Lists of calls, by the rows.
use Rattle.std.proofs.Common.{◌≡◌, [], ◌∷◌, Result, Ok, Err, refl, sym, ap, ◌∙◌, subst}
use Rattle.std.specs.Result.{result_unwrap_or}
use Rattle.book_model.specs.declared.page.Page.{Page}
use Rattle.book_model.specs.declared.refusal.Refusal.{Refusal}
use Rattle.book_model.specs.Bounds.{Bounds, IsInRange}
use Rattle.book_model.specs.Books.{Books}
use Rattle.book_laws.specs.Calls.{Call, CreateBookCall, PutCall, RemoveCall, MoveCall, ImportCall}
use Rattle.book_laws.specs.Calls.{ForgetCall, ReportCall, KeptImportCall, BooksCall, BookLineCall}
use Rattle.book_laws.specs.Calls.{GetCall, CardsCall, TallyCall, CallAnswer, ReturnedId}
use Rattle.book_laws.specs.Calls.{ReturnedPut, ReturnedRemoval, ReturnedMove, ReturnedImport}
use Rattle.book_laws.specs.Calls.{ReturnedDropped, ReturnedPage, ReturnedKeptImport, ReturnedBooks}
use Rattle.book_laws.specs.Calls.{ReturnedBookLine, ReturnedCard, ReturnedCards, ReturnedTally}
use Rattle.book_laws.specs.Calls.{map_answer, answer_in_state, call_on_histories, answer_only}
use Rattle.book_laws.specs.Calls.{state_after_call, histories_after_call, answers_to_calls}
use Rattle.book_model.specs.Creating.{create_step}
use Rattle.book_model.specs.Forgetting.{forget_step}
use Rattle.book_model.specs.Importing.{import_step, kept_import_step}
use Rattle.book_model.specs.Moving.{move_step}
use Rattle.book_model.specs.Pages.{ReportRequest, MemberWithRow, due_rows, IsReport, report_answer}
use Rattle.book_model.specs.Pages.{report_step, page_of}
use Rattle.book_model.specs.Putting.{put_step}
use Rattle.book_model.specs.BookQueries.{book_lines, book_line_step, get_step, cards_step}
use Rattle.book_model.specs.BookQueries.{tally_step}
use Rattle.book_model.specs.Removing.{remove_step}
use Rattle.book_laws.specs.RunLaws.{CallsKeepHistoriesSound, RowsMatchHistoriesAfterCalls}
use Rattle.book_laws.specs.RunLaws.{RowsDetermineAnswers}
use Rattle.book_laws.specs.RowsAfterCalls.{rows_of_step, rows_after_call, rows_after_calls}
use Rattle.book_laws.specs.StoreHistories.{BookHistories, AreSoundHistories, StoreHistory, rows_of}
use Rattle.book_laws.specs.HistoryChanges.{remove_on_histories, move_on_histories}
use Rattle.book_laws.specs.HistoryChanges.{import_on_histories, forget_on_histories}
use Rattle.book_laws.specs.HistorySteps.{create_on_histories, put_on_histories, report_on_histories}
use Rattle.book_laws.specs.Refinement.{RefinesHistories, PagesRefineHistories}
use Rattle.book_laws.proofs.ChangeLemmas.{removing_follows, moving_follows}
use Rattle.book_laws.proofs.ForgetLemmas.{forgetting_follows}
use Rattle.book_laws.proofs.ImportLemmas.{importing_follows}
use Rattle.book_laws.proofs.ReadLemmas.{books_follow, book_lines_follow, getting_follows}
use Rattle.book_laws.proofs.ReadLemmas.{cards_follow, kept_imports_follow, tallies_follow}
use Rattle.book_laws.proofs.SortLemmas.{sorted, sorted_same, sorted_rises}
use Rattle.book_laws.proofs.StoreHistoryLemmas.{creating_follows, putting_follows, reports_follow}

-- ---- one call of a store

-- the histories after a call are sound
sound_by : {A : Type 0} (histories : BookHistories) (f : A → CallAnswer) (step :
    Result (A × Books) Refusal) (wanted : Result (A × BookHistories) Refusal)
    → AreSoundHistories histories → RefinesHistories step wanted
    → AreSoundHistories (state_after_call histories (map_answer f wanted))
sound_by histories f (Ok done) (Ok wanted) sound follows = follows.1.sound
sound_by histories f (Ok done) (Err refusal) sound follows = absurd follows
sound_by histories f (Err refusal) (Ok wanted) sound follows = absurd follows
sound_by histories f (Err refusal) (Err other) sound follows = sound

reading_sound : {A : Type 0} (histories : BookHistories) (f : A → CallAnswer) (reading :
    Result A Refusal) → AreSoundHistories histories
    → AreSoundHistories (state_after_call histories (answer_in_state f histories reading))
reading_sound histories f (Ok returned) sound = sound
reading_sound histories f (Err refusal) sound = sound

sound_after : (store : StoreHistory) (call : Call) → IsInRange store.limits
    → AreSoundHistories store.books → AreSoundHistories (histories_after_call store.limits
    store.books call)
sound_after store (CreateBookCall name) range sound =
    sound_by store.books ReturnedId _ _ sound (creating_follows store name range sound)
sound_after store (PutCall name card expect) range sound =
    sound_by store.books ReturnedPut _ _ sound (putting_follows store name card expect sound)
sound_after store (RemoveCall name uid expect) range sound =
    sound_by store.books ReturnedRemoval _ _ sound (removing_follows store name uid expect sound)
sound_after store (MoveCall from to uid expect) range sound =
    sound_by store.books ReturnedMove _ _ sound (moving_follows store from to uid expect sound)
sound_after store (ImportCall name key cards) range sound =
    sound_by store.books ReturnedImport _ _ sound (importing_follows store name key cards sound)
sound_after store (ForgetCall name upto) range sound =
    sound_by store.books ReturnedDropped _ _ sound (forgetting_follows store.books name upto sound)
sound_after store (ReportCall name token limit) range sound =
    reading_sound store.books ReturnedPage _ sound
sound_after store (KeptImportCall name key) range sound =
    reading_sound store.books ReturnedKeptImport _ sound
sound_after store BooksCall range sound = sound
sound_after store (BookLineCall name) range sound =
    reading_sound store.books ReturnedBookLine _ sound
sound_after store (GetCall name uid) range sound = reading_sound store.books ReturnedCard _ sound
sound_after store (CardsCall name) range sound = reading_sound store.books ReturnedCards _ sound
sound_after store (TallyCall name) range sound = reading_sound store.books ReturnedTally _ sound

abbrev next : StoreHistory → Call → StoreHistory
next store call = record {
  limits = store.limits;
  books = histories_after_call store.limits store.books call;
}

pub stays_sound : CallsKeepHistoriesSound
stays_sound store [] range sound = sound
stays_sound store (call ∷ calls) range sound =
    stays_sound (next store call) calls range (sound_after store call range sound)

-- ---- the rows after calls

rows_by : {A : Type 0} (histories : BookHistories) (f : A → CallAnswer) (step :
    Result (A × Books) Refusal) (wanted : Result (A × BookHistories) Refusal)
    → RefinesHistories step wanted
    → result_unwrap_or (rows_of_step step) (rows_of histories)
    ≡ rows_of (state_after_call histories (map_answer f wanted))
rows_by histories f (Ok done) (Ok wanted) follows = sym follows.1.rows_are
rows_by histories f (Ok done) (Err refusal) follows = absurd follows
rows_by histories f (Err refusal) (Ok wanted) follows = absurd follows
rows_by histories f (Err refusal) (Err other) follows = refl

rows_by_reading : {A : Type 0} (histories : BookHistories) (f : A → CallAnswer) (reading :
    Result A Refusal) → rows_of histories
    ≡ rows_of (state_after_call histories (answer_in_state f histories reading))
rows_by_reading histories f (Ok returned) = refl
rows_by_reading histories f (Err refusal) = refl

rows_follow : (store : StoreHistory) (call : Call) → IsInRange store.limits
    → AreSoundHistories store.books → rows_after_call store.limits (rows_of store.books) call
    ≡ rows_of (histories_after_call store.limits store.books call)
rows_follow store (CreateBookCall name) range sound =
    rows_by store.books ReturnedId _ _ (creating_follows store name range sound)
rows_follow store (PutCall name card expect) range sound =
    rows_by store.books ReturnedPut _ _ (putting_follows store name card expect sound)
rows_follow store (RemoveCall name uid expect) range sound =
    rows_by store.books ReturnedRemoval _ _ (removing_follows store name uid expect sound)
rows_follow store (MoveCall from to uid expect) range sound =
    rows_by store.books ReturnedMove _ _ (moving_follows store from to uid expect sound)
rows_follow store (ImportCall name key cards) range sound =
    rows_by store.books ReturnedImport _ _ (importing_follows store name key cards sound)
rows_follow store (ForgetCall name upto) range sound =
    rows_by store.books ReturnedDropped _ _ (forgetting_follows store.books name upto sound)
rows_follow store (ReportCall name token limit) range sound =
    rows_by_reading store.books ReturnedPage _
rows_follow store (KeptImportCall name key) range sound =
    rows_by_reading store.books ReturnedKeptImport _
rows_follow store BooksCall range sound = refl
rows_follow store (BookLineCall name) range sound = rows_by_reading store.books ReturnedBookLine _
rows_follow store (GetCall name uid) range sound = rows_by_reading store.books ReturnedCard _
rows_follow store (CardsCall name) range sound = rows_by_reading store.books ReturnedCards _
rows_follow store (TallyCall name) range sound = rows_by_reading store.books ReturnedTally _

pub rows_match_histories_after_calls : RowsMatchHistoriesAfterCalls
rows_match_histories_after_calls store [] range sound = refl
rows_match_histories_after_calls store (call ∷ calls) range sound =
    ap (λ (books : Books). rows_after_calls store.limits books calls) (rows_follow store call range
    sound)
    ∙ rows_match_histories_after_calls (next store call) calls range (sound_after store call range
    sound)

-- ---- one call of two stores with the same rows

-- two results with the same answer, whose histories have the same rows
record SameStep (olds news : BookHistories) (a b : Result (CallAnswer × BookHistories) Refusal) :
    Type 0 where
  answers_same : answer_only a ≡ answer_only b
  rows_same : rows_of (state_after_call olds a) ≡ rows_of (state_after_call news b)

-- a page that rows allow
some_page : (asked : ReportRequest) → (page : Page) × IsReport asked page
some_page asked =
    let due = due_rows asked.book.members asked.mark in
    let ordered = sorted (λ (m : MemberWithRow). m.1.changed) due in (
      page_of asked.book.id (report_answer asked ordered),
      record {
        ordered = ordered;
        by_number = record {
          same = sorted_same (λ (m : MemberWithRow). m.1.changed) due;
          rises = sorted_rises (λ (m : MemberWithRow). m.1.changed) due;
        };
        page_is = refl;
      },
    )

module _ (a b : StoreHistory) (same : rows_of a.books ≡ rows_of b.books) where
  change_same : {A : Type 0} (f : A → CallAnswer) (step : Result (A × Books) Refusal) (x y :
      Result (A × BookHistories) Refusal) → RefinesHistories step x → RefinesHistories step y
      → SameStep a.books b.books (map_answer f x) (map_answer f y)
  change_same f (Ok done) (Ok x) (Ok y) p q =
      record {
        answers_same = ap (λ z. Ok (f z)) (sym p.0 ∙ q.0);
        rows_same = p.1.rows_are
            ∙ sym q.1.rows_are;
      }
  change_same f (Ok done) (Ok x) (Err r) p q = absurd q
  change_same f (Ok done) (Err r) y p q = absurd p
  change_same f (Err r) (Ok x) y p q = absurd p
  change_same f (Err r) (Err s) (Ok y) p q = absurd q
  change_same f (Err r) (Err s) (Err t) p q = record {
    answers_same = ap (λ z. Err z) (sym p ∙ q);
    rows_same = same;
  }

  read_same : {A : Type 0} (f : A → CallAnswer) (x y : Result A Refusal) → x ≡ y
      → SameStep a.books b.books (answer_in_state f a.books x) (answer_in_state f b.books y)
  read_same {A = A} f x y e = subst (λ z. SameStep a.books b.books (answer_in_state f a.books x)
      (answer_in_state f b.books z)) e (alone x)
    where
      alone : (z : Result A Refusal) → SameStep a.books b.books (answer_in_state f a.books z)
          (answer_in_state f b.books z)
      alone (Ok returned) = record { answers_same = refl; rows_same = same }
      alone (Err refusal) = record { answers_same = refl; rows_same = same }

  page_same : (step : Result ReportRequest Refusal) (x y : Result Page Refusal)
      → PagesRefineHistories step x → PagesRefineHistories step y → x ≡ y
  page_same (Ok asked) (Ok x) (Ok y) p q = let some = some_page asked in
      ap (λ z. Ok z) (sym (p some.0 some.1) ∙ q some.0 some.1)
  page_same (Ok asked) (Ok x) (Err r) p q = absurd q
  page_same (Ok asked) (Err r) y p q = absurd p
  page_same (Err r) (Ok x) y p q = absurd p
  page_same (Err r) (Err s) (Ok y) p q = absurd q
  page_same (Err r) (Err s) (Err t) p q = ap (λ z. Err z) (sym p ∙ q)

-- under the limits of the first, which are those of the second
module _ (a b : StoreHistory) (range : IsInRange a.limits) (sound : AreSoundHistories a.books)
    (other_sound : AreSoundHistories b.books) (limits_same : a.limits ≡ b.limits) (same :
    rows_of a.books ≡ rows_of b.books) where
  turned : {A : Type 0} (step : Bounds → Books → Result (A × Books) Refusal) (wanted : Bounds
      → BookHistories → Result (A × BookHistories) Refusal)
      → RefinesHistories (step b.limits (rows_of b.books)) (wanted b.limits b.books)
      → RefinesHistories (step a.limits (rows_of a.books)) (wanted a.limits b.books)
  turned step wanted f =
      subst (λ (limits : Bounds). RefinesHistories (step limits (rows_of a.books))
      (wanted limits b.books)) (sym limits_same)
      (subst (λ (books : Books). RefinesHistories (step b.limits books) (wanted b.limits b.books))
      (sym same) f)

  turned_page : (step : Bounds → Books → Result ReportRequest Refusal) (wanted : Bounds
      → BookHistories → Result Page Refusal)
      → PagesRefineHistories (step b.limits (rows_of b.books)) (wanted b.limits b.books)
      → PagesRefineHistories (step a.limits (rows_of a.books)) (wanted a.limits b.books)
  turned_page step wanted f =
      subst (λ (limits : Bounds). PagesRefineHistories (step limits (rows_of a.books))
      (wanted limits b.books)) (sym limits_same)
      (subst (λ (books : Books). PagesRefineHistories (step b.limits books)
      (wanted b.limits b.books)) (sym same) f)

  answers_alike : {A : Type 0} (step : Books → A) (x y : A) → step (rows_of a.books) ≡ x
      → step (rows_of b.books) ≡ y → x ≡ y
  answers_alike step x y p q = sym p ∙ ap step same ∙ q

  call_alike : (call : Call) → SameStep a.books b.books (call_on_histories a.limits a.books call)
      (call_on_histories a.limits b.books call)
  call_alike (CreateBookCall name) =
      change_same a b same ReturnedId (create_step a.limits (rows_of a.books) name) _ _
      (creating_follows a name range sound) (turned (λ limits books. create_step limits books name)
      (λ limits histories. create_on_histories limits histories name)
      (creating_follows b name (subst IsInRange limits_same range) other_sound))
  call_alike (PutCall name card expect) =
      change_same a b same ReturnedPut (put_step a.limits (rows_of a.books) name card expect) _ _
      (putting_follows a name card expect sound)
      (turned (λ limits books. put_step limits books name card expect)
      (λ limits histories. put_on_histories limits histories name card expect)
      (putting_follows b name card expect other_sound))
  call_alike (RemoveCall name uid expect) =
      change_same a b same ReturnedRemoval (remove_step a.limits (rows_of a.books) name uid expect)
      _ _ (removing_follows a name uid expect sound)
      (turned (λ limits books. remove_step limits books name uid expect)
      (λ limits histories. remove_on_histories limits histories name uid expect)
      (removing_follows b name uid expect other_sound))
  call_alike (MoveCall from to uid expect) =
      change_same a b same ReturnedMove (move_step a.limits (rows_of a.books) from to uid expect) _
      _ (moving_follows a from to uid expect sound)
      (turned (λ limits books. move_step limits books from to uid expect)
      (λ limits histories. move_on_histories limits histories from to uid expect)
      (moving_follows b from to uid expect other_sound))
  call_alike (ImportCall name key cards) =
      change_same a b same ReturnedImport (import_step a.limits (rows_of a.books) name key cards) _
      _ (importing_follows a name key cards sound)
      (turned (λ limits books. import_step limits books name key cards)
      (λ limits histories. import_on_histories limits histories name key cards)
      (importing_follows b name key cards other_sound))
  call_alike (ForgetCall name upto) =
      change_same a b same ReturnedDropped (forget_step (rows_of a.books) name upto) _ _
      (forgetting_follows a.books name upto sound)
      (turned (λ limits books. forget_step books name upto) (λ limits histories. forget_on_histories
      histories name upto) (forgetting_follows b.books name upto other_sound))
  call_alike (ReportCall name token limit) =
      read_same a b same ReturnedPage _ _
      (page_same a b same (report_step a.limits (rows_of a.books) name token limit) _ _
      (reports_follow a name token limit sound)
      (turned_page (λ limits books. report_step limits books name token limit)
      (λ limits histories. report_on_histories limits histories name token limit)
      (reports_follow b name token limit other_sound)))
  call_alike (KeptImportCall name key) =
      read_same a b same ReturnedKeptImport _ _
      (answers_alike (λ books. kept_import_step books name key) _ _ (kept_imports_follow a.books
      name key) (kept_imports_follow b.books name key))
  call_alike BooksCall = record {
    answers_same = ap (λ z. Ok (ReturnedBooks z))
        (answers_alike book_lines _ _ (books_follow a.books) (books_follow b.books));
    rows_same = same;
  }
  call_alike (BookLineCall name) = read_same a b same ReturnedBookLine _ _
      (answers_alike (λ books. book_line_step books name) _ _ (book_lines_follow a.books name)
      (book_lines_follow b.books name))
  call_alike (GetCall name uid) = read_same a b same ReturnedCard _ _
      (answers_alike (λ books. get_step books name uid) _ _ (getting_follows a.books name uid)
      (getting_follows b.books name uid))
  call_alike (CardsCall name) = read_same a b same ReturnedCards _ _
      (answers_alike (λ books. cards_step books name) _ _ (cards_follow a.books name)
      (cards_follow b.books name))
  call_alike (TallyCall name) = read_same a b same ReturnedTally _ _
      (answers_alike (λ books. tally_step books name) _ _ (tallies_follow a.books name sound)
      (tallies_follow b.books name other_sound))

  step_alike : (call : Call) → SameStep a.books b.books (call_on_histories a.limits a.books call)
      (call_on_histories b.limits b.books call)
  step_alike call = subst (λ (limits : Bounds). SameStep a.books b.books
      (call_on_histories a.limits a.books call) (call_on_histories limits b.books call)) limits_same
      (call_alike call)

-- ---- lists of calls

pub rows_determine_answers : RowsDetermineAnswers
rows_determine_answers a b [] range sound other_sound limits same =
    record { answers_are = refl; rows_are = same }
rows_determine_answers a b (call ∷ calls) range sound other_sound limits same =
    let now = step_alike a b range sound other_sound limits same call in
    let rest = rows_determine_answers (next a call) (next b call) calls range
    (sound_after a call range sound) (sound_after b call (subst IsInRange limits range)
    other_sound) limits now.rows_same in
    record {
      answers_are =
          ap (λ t. t ∷ answers_to_calls a.limits (histories_after_call a.limits a.books call) calls)
          now.answers_same
          ∙ ap (λ ts. answer_only (call_on_histories b.limits b.books call) ∷ ts) rest.answers_are;
      rows_are = rest.rows_are;
    }
