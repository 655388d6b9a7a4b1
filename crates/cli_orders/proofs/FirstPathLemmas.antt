-- One card into an empty book: on histories, and so on the rows of a store.
use Rattle.std.proofs.Common.{◌≡◌, ◌≢◌, ℕ, ◌+◌, nat_lt, List, [], Option, None, Result, Ok, Err}
use Rattle.std.proofs.Common.{refl, sym, ap, subst, arith, ◌∙◌}
use Rattle.std.specs.Prelude.{codes, MatchResult, length, is_some}
use Rattle.std.specs.Cmp.Lexicographic.{nat_list_cmp_total}
use Rattle.std.specs.Option.{option_map_or}
use Rattle.std.specs.FinMap as finite
use Rattle.std.specs.FinMap.{get-empty, get-insert, len-empty}
use Rattle.vcard_lines.specs.declared.fault.CardFault.{CardFault}
use Rattle.vcard_lines.specs.declared.fault.CardFault.TheVariants.{TooLong, NotUtf8, BadChar}
use Rattle.vcard_lines.specs.declared.fault.CardFault.TheVariants.{BadLine, NoBegin, BadVersion}
use Rattle.vcard_lines.specs.declared.fault.CardFault.TheVariants.{NoEnd, NoName, NoUid, BadUid}
use Rattle.vcard_lines.specs.declared.fault.CardFault.TheVariants.{Twice, MemberOutsideGroup}
use Rattle.vcard_lines.specs.declared.fault.CardFault.TheVariants.{Memory as NoRoom}
use Rattle.vcard_lines.specs.declared.line.Line.{Line}
use Rattle.vcard_text.specs.Cards.{uid_of}
use Rattle.vcard_text.specs.FirstFaults.{IsFirstFaultOfText}
use Rattle.base_types.specs.TextMaps.{text_cmp}
use Rattle.book_model.specs.declared.answers.PutAnswer.{PutAnswer}
use Rattle.book_model.specs.declared.answers.PutAnswer.TheVariants.{Created}
use Rattle.book_model.specs.declared.answers.Stored.{Stored}
use Rattle.book_model.specs.declared.denied.Denied.{Denied}
use Rattle.book_model.specs.declared.denied.Denied.TheVariants.{Refused, Fault}
use Rattle.book_model.specs.declared.page.Page.{Page}
use Rattle.book_model.specs.declared.refusal.Refusal.{Refusal}
use Rattle.book_model.specs.declared.refusal.Refusal.TheVariants.{NoSuchBook, BookFull}
use Rattle.book_model.specs.declared.refusal.Refusal.TheVariants.{ChangesSpent, TooManyBooks}
use Rattle.book_model.specs.Bounds.{Bounds, IsInRange, standard_keep, standard_limits}
use Rattle.book_model.specs.Books.{Books}
use Rattle.book_model.specs.Creating.{new_id, create_step}
use Rattle.book_model.specs.CallOutcomes.{◌>>=◌, refuse_unless, MatchesStep, MatchesQuery, IfFault}
use Rattle.book_model.specs.CallOutcomes.{IsOutOfMemory, denied_no_memory, denied_card_fault}
use Rattle.book_model.specs.Pages.{ReportRequest, IsReport, requested_mark, page_size, report_step}
use Rattle.book_model.specs.Pages.{page_of}
use Rattle.book_model.specs.Putting.{answer_over_live, put_answer, next_number, put_store_reason}
use Rattle.book_model.specs.Putting.{put_step}
use Rattle.book_laws.specs.Reports.{report}
use Rattle.book_laws.specs.StoreHistories.{BookHistory, BookHistories, StoreHistory}
use Rattle.book_laws.specs.HistorySteps.{empty_history, history_named, create_on_histories}
use Rattle.book_laws.specs.HistorySteps.{found_in_history, histories_after_put, put_on_histories}
use Rattle.book_laws.specs.HistorySteps.{report_on_histories}
use Rattle.book_laws.specs.Refinement.{AreHistoriesOf, RefinesHistories, PagesRefineHistories}
use Rattle.book_laws.specs.ChangeRefinement.{EmptyStoresHaveNoHistories, CreateRefines, PutRefines}
use Rattle.book_laws.specs.QueryRefinement.{ReportsRefine}
use Rattle.cli_orders.specs.TryResults.{one_creation, first_page}
use Rattle.cli_orders.specs.TryStops.{IsTryStop}
use Rattle.cli_orders.specs.Stops.{stop_of}

-- the limits that the program's store has
pub record AreStandard (limits : Bounds) : Type 0 where
  pub page : limits.page_max ≡ 100
  pub cards : limits.cards_max ≡ 10000
  pub changes : limits.changes_max ≡ 1000000000000
  pub books : limits.books_max ≡ 100
  pub keep : limits.keep ≡ standard_keep

pub are_standard : AreStandard standard_limits
are_standard = record { page = refl; cards = refl; changes = refl; books = refl; keep = refl }

abbrev name : List ℕ
name = codes "try"

-- the one book, before and after the card was put
abbrev pub with_book : BookHistories
with_book = finite.insert finite.empty name (empty_history 1 standard_keep)

abbrev story_after : List Line → BookHistory
story_after card = record (empty_history 1 standard_keep) { log = one_creation card }

abbrev pub with_card : List Line → BookHistories
with_card card = finite.insert with_book name (story_after card)

-- ---- what the calls mean

abbrev world_of : Bounds → BookHistories → StoreHistory
world_of limits histories = record { limits = limits; books = histories }

pub created : (limits : Bounds) → AreStandard limits → create_on_histories limits finite.empty name
    ≡ Ok (1, with_book)
created limits s =
    ap (λ b. new_id limits name (is_some b) (finite.len {X = BookHistory} {R = text_cmp}
    finite.empty) >>= λ id. Ok (
      id,
      finite.insert finite.empty name
          (empty_history id limits.keep),
    )) (get-empty text_cmp name)
    ∙ ap (λ n. (refuse_unless (nat_lt n limits.books_max) TooManyBooks >>= λ _. Ok (n + 1)) >>=
    λ id. Ok (id, finite.insert finite.empty name (empty_history id limits.keep)))
    (len-empty text_cmp BookHistory)
    ∙ ap (λ m. (refuse_unless (nat_lt 0 m) TooManyBooks >>= λ _. Ok 1) >>= λ id. Ok (
      id,
      finite.insert finite.empty name (empty_history id limits.keep),
    )) s.books
    ∙ ap (λ k. Ok (1, finite.insert finite.empty name (empty_history 1 k))) s.keep

in_range : (limits : Bounds) → AreStandard limits → IsInRange limits
in_range limits s = record {
  page_least = omega (arith, s.page);
  page_most = omega (arith, s.page);
  cards_least = omega (arith, s.cards);
  cards_most = omega (arith, s.cards);
  changes_least = omega (arith, s.changes);
  changes_most = omega (arith, s.changes);
  books_least = omega (arith, s.books);
  books_most = omega (arith, s.books);
  keep_least = omega (arith, s.keep);
  keep_most = omega (arith, s.keep);
}

book_found : (histories : BookHistories) (history : BookHistory)
    → history_named (finite.insert histories name history) name ≡ Ok history
book_found histories history = ap (λ (o : Option BookHistory). option_map_or Ok o (Err NoSuchBook))
    (get-insert nat_list_cmp_total histories name history name)

module _ (limits : Bounds) (s : AreStandard limits) (card : List Line) where
  abbrev answered : Result PutAnswer Refusal → Result (PutAnswer × BookHistories) Refusal
  answered r = r >>= λ answer. Ok (
    answer,
    histories_after_put with_book name (empty_history 1 standard_keep) card
        (put_store_reason answer),
  )

  pub stored : put_on_histories limits with_book name card None ≡ Ok (Created 1, with_card card)
  stored =
      ap (λ (r : Result BookHistory Refusal). r >>= λ history. put_answer limits
      (found_in_history history.log (uid_of card)) card None >>= λ answer. Ok (
        answer,
        histories_after_put with_book name history card (put_store_reason answer),
      ))
      (book_found finite.empty (empty_history 1 standard_keep))
      ∙ ap (λ (o : Option Stored). answered
      (answer_over_live limits (found_in_history [] (uid_of card)) card o))
      (get-empty text_cmp (uid_of card))
      ∙ ap (λ n. answered (refuse_unless (nat_lt n limits.cards_max) BookFull >>= λ _. next_number
      limits 0 >>= λ version. Ok (Created version))) (len-empty text_cmp Stored)
      ∙ ap (λ m. answered (refuse_unless (nat_lt 0 m) BookFull >>= λ _. next_number limits 0 >>=
      λ version. Ok (Created version))) s.cards
      ∙ ap (λ m. answered ((refuse_unless (nat_lt 0 m) ChangesSpent >>= λ _. Ok 1) >>= λ version. Ok
      (Created version))) s.changes

  pub reported : report_on_histories limits (with_card card) name None None ≡ Ok (first_page card)
  reported =
      ap (λ (r : Result BookHistory Refusal). r >>= λ history. requested_mark history.id
      (length history.log) history.horizon None >>= λ mark. page_size limits.page_max None >>=
      λ size. Ok (page_of history.id (report history.log mark size)))
      (book_found with_book (story_after card))
      ∙ ap (λ size. Ok (page_of 1 (report (one_creation card) (record { at = 0; base = 1 }) size)))
      s.page

-- ---- what the calls did

-- the answer and stories with the rows that are left, or out of memory
abbrev pub Did : {A : Type 0} → Result A Denied → A → BookHistories → Books → Type 0
Did result answer histories books =
    MatchResult result (λ a. (a ≡ answer) × AreHistoriesOf books histories) (λ denied. denied
    ≡ denied_no_memory)

pub did : {A : Type 0} (result : Result A Denied) (step : Result (A × Books) Refusal) (meaning :
    Result (A × BookHistories) Refusal) (answer : A) (histories : BookHistories) (old new : Books)
    → MatchesStep result step old new → RefinesHistories step meaning
    → meaning ≡ Ok (answer, histories) → IfFault result IsOutOfMemory
    → Did result answer histories new
did {A} result step meaning answer histories old new does follows is sound =
    by_result result step does (subst (RefinesHistories step) is follows) sound
  where
    by_result : (r : Result A Denied) (done : Result (A × Books) Refusal)
        → MatchesStep r done old new → RefinesHistories done (Ok (answer, histories))
        → IfFault r IsOutOfMemory → Did r answer histories new
    by_result (Ok a) (Ok done) d f n =
        (d.0 ∙ f.0, subst (λ (books : Books). AreHistoriesOf books histories) (sym d.1) f.1)
    by_result (Ok a) (Err refusal) d f n = absurd d
    by_result (Err (Refused refusal)) (Ok done) d f n = absurd d
    by_result (Err (Refused refusal)) (Err other) d f n = absurd f
    by_result (Err (Fault fault)) done d f n = ap Fault n

pub gave : (result : Result Page Denied) (step : Result ReportRequest Refusal) (meaning :
    Result Page Refusal) (page : Page) (old new : Books)
    → MatchesQuery IsReport result step old new → PagesRefineHistories step meaning
    → meaning ≡ Ok page → IfFault result IsOutOfMemory
    → MatchResult result (λ p. p ≡ page) (λ denied. denied ≡ denied_no_memory)
gave result step meaning page old new reads reports is sound =
    by_result result step reads (subst (PagesRefineHistories step) is reports) sound
  where
    by_result : (r : Result Page Denied) (asked : Result ReportRequest Refusal)
        → MatchesQuery IsReport r asked old new → PagesRefineHistories asked (Ok page)
        → IfFault r IsOutOfMemory → MatchResult r (λ p. p ≡ page) (λ denied. denied
        ≡ denied_no_memory)
    by_result (Ok p) (Ok asked) d f n = f p d.0
    by_result (Ok p) (Err refusal) d f n = absurd d
    by_result (Err (Refused refusal)) (Ok asked) d f n = absurd d
    by_result (Err (Refused refusal)) (Err other) d f n = absurd f
    by_result (Err (Fault fault)) asked d f n = ap Fault n

-- ---- the three calls, by the laws of stores

module _ (limits : Bounds) (s : AreStandard limits) where
  pub book_made : EmptyStoresHaveNoHistories → CreateRefines
      → (result : Result ℕ Denied) (old new : Books) → old ≡ finite.empty
      → MatchesStep result (create_step limits old name) old new → IfFault result IsOutOfMemory
      → Did result 1 with_book new
  book_made nothing creating result old new empty does sound =
      did result (create_step limits old name) (create_on_histories limits finite.empty name) 1
      with_book old new does
      (subst (λ (books : Books). RefinesHistories (create_step limits books name)
      (create_on_histories limits finite.empty name)) (nothing.rows_are
      ∙ sym empty) (creating (world_of limits finite.empty) name (in_range limits s)
      nothing.sound))
      (created limits s) sound

  pub card_put : PutRefines → (card : List Line) (result : Result PutAnswer Denied) (old new :
      Books) → AreHistoriesOf old with_book
      → MatchesStep result (put_step limits old name card None) old new
      → IfFault result IsOutOfMemory → Did result (Created 1) (with_card card) new
  card_put putting card result old new w does sound =
      did result (put_step limits old name card None) (put_on_histories limits with_book name card
      None) (Created 1) (with_card card) old new does
      (subst (λ (books : Books). RefinesHistories (put_step limits books name card None)
      (put_on_histories limits with_book name card None)) w.rows_are
      (putting (world_of limits with_book) name card None w.sound))
      (stored limits s card) sound

  pub page_given : ReportsRefine → (card : List Line) (result : Result Page Denied) (old new :
      Books) → AreHistoriesOf old (with_card card)
      → MatchesQuery IsReport result (report_step limits old name None None) old new
      → IfFault result IsOutOfMemory → MatchResult result (λ p. p ≡ first_page card)
      (λ denied. denied ≡ denied_no_memory)
  page_given reporting card result old new w reads sound =
      gave result (report_step limits old name None None)
      (report_on_histories limits (with_card card) name None None) (first_page card) old new
      reads
      (subst (λ (books : Books). PagesRefineHistories (report_step limits books name None None)
      (report_on_histories limits (with_card card) name None None)) w.rows_are
      (reporting (world_of limits (with_card card)) name None None w.sound))
      (reported limits s card) sound

-- ---- a text that is no card

abbrev read_as : CardFault → Result (List Line) CardFault
read_as fault = Err fault

not_read : (fault : CardFault) (card : List Line) → read_as fault ≡ Ok card → ⊥
not_read fault card e = cc

pub denied_for : (text : List ℕ) (fault : CardFault)
    → ((fault ≡ NoRoom → ⊥) → IsFirstFaultOfText text fault)
    → IsTryStop text (stop_of (denied_card_fault fault))
denied_for text TooLong first = record {
  fault = TooLong;
  first = first (λ e. cc);
  refusal_is = refl;
}
denied_for text NotUtf8 first = record {
  fault = NotUtf8;
  first = first (λ e. cc);
  refusal_is = refl;
}
denied_for text BadChar first = record {
  fault = BadChar;
  first = first (λ e. cc);
  refusal_is = refl;
}
denied_for text BadLine first = record {
  fault = BadLine;
  first = first (λ e. cc);
  refusal_is = refl;
}
denied_for text NoBegin first = record {
  fault = NoBegin;
  first = first (λ e. cc);
  refusal_is = refl;
}
denied_for text BadVersion first = record {
  fault = BadVersion;
  first = first (λ e. cc);
  refusal_is = refl;
}
denied_for text NoEnd first = record { fault = NoEnd; first = first (λ e. cc); refusal_is = refl }
denied_for text NoName first = record { fault = NoName; first = first (λ e. cc); refusal_is = refl }
denied_for text NoUid first = record { fault = NoUid; first = first (λ e. cc); refusal_is = refl }
denied_for text BadUid first = record { fault = BadUid; first = first (λ e. cc); refusal_is = refl }
denied_for text Twice first = record { fault = Twice; first = first (λ e. cc); refusal_is = refl }
denied_for text MemberOutsideGroup first = record {
  fault = MemberOutsideGroup;
  first = first (λ e. cc);
  refusal_is = refl;
}
denied_for text NoRoom first = refl

-- a text that spells a card is denied for memory alone
pub denied_memory : (fault : CardFault) (card : List Line) → (read_as fault ≢ Err NoRoom
    → read_as fault ≡ Ok card) → denied_card_fault fault ≡ denied_no_memory
denied_memory TooLong card h = absurd (not_read TooLong card (h (λ e. cc)))
denied_memory NotUtf8 card h = absurd (not_read NotUtf8 card (h (λ e. cc)))
denied_memory BadChar card h = absurd (not_read BadChar card (h (λ e. cc)))
denied_memory BadLine card h = absurd (not_read BadLine card (h (λ e. cc)))
denied_memory NoBegin card h = absurd (not_read NoBegin card (h (λ e. cc)))
denied_memory BadVersion card h = absurd (not_read BadVersion card (h (λ e. cc)))
denied_memory NoEnd card h = absurd (not_read NoEnd card (h (λ e. cc)))
denied_memory NoName card h = absurd (not_read NoName card (h (λ e. cc)))
denied_memory NoUid card h = absurd (not_read NoUid card (h (λ e. cc)))
denied_memory BadUid card h = absurd (not_read BadUid card (h (λ e. cc)))
denied_memory Twice card h = absurd (not_read Twice card (h (λ e. cc)))
denied_memory MemberOutsideGroup card h = absurd (not_read MemberOutsideGroup card (h (λ e. cc)))
denied_memory NoRoom card h = refl
