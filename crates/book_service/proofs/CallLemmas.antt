-- Each command, by its store call.
use Rattle.std.proofs.Common.{◌≡◌, ℕ, List, length, Option, Result, Ok, Err, refl, sym, ap, ◌∙◌}
use Rattle.std.proofs.Common.{subst, inl, ◌⊎◌}
use Rattle.vcard_lines.specs.declared.line.Line.{Line}
use Rattle.book_model.specs.declared.answers.BookLine.{BookLine}
use Rattle.book_model.specs.declared.answers.Moved.{Moved}
use Rattle.book_model.specs.declared.answers.PutAnswer.{PutAnswer}
use Rattle.book_model.specs.declared.answers.Stored.{Stored}
use Rattle.book_model.specs.declared.answers.Tally.{Tally}
use Rattle.book_model.specs.declared.denied.Denied.{Denied}
use Rattle.book_model.specs.declared.denied.Denied.TheVariants.{Refused, Fault}
use Rattle.book_model.specs.declared.denied.Fault.{Fault as FaultKind}
use Rattle.book_model.specs.declared.page.Page.{Page}
use Rattle.book_model.specs.declared.refusal.Refusal.{Refusal}
use Rattle.book_model.specs.declared.token.Token.{Token}
use Rattle.book_model.specs.Bounds.{Bounds, IsInRange}
use Rattle.book_model.specs.Books.{Books}
use Rattle.book_model.specs.Creating.{create_step}
use Rattle.book_model.specs.Forgetting.{forget_step}
use Rattle.book_model.specs.Moving.{move_step}
use Rattle.book_model.specs.CallOutcomes.{◌>>=◌, MatchesStep, MatchesQuery, ReturnsExactly}
use Rattle.book_model.specs.Pages.{ReportRequest, IsReport, report_step, requested_mark, page_size}
use Rattle.book_model.specs.Pages.{page_of}
use Rattle.book_model.specs.Putting.{put_step, put_answer, put_store_reason}
use Rattle.book_model.specs.BookQueries.{book_lines, book_line_step, get_step, tally_step}
use Rattle.book_model.specs.Removing.{remove_step}
use Rattle.vcard_text.specs.Cards.{uid_of}
use Rattle.book_laws.specs.Calls.{PutCall, ReportCall, ReturnedDropped, ReturnedMove, ReturnedPut}
use Rattle.book_laws.specs.Calls.{ReturnedRemoval, ReturnedId, ReturnedBooks, ReturnedCard}
use Rattle.book_laws.specs.Calls.{ReturnedPage, ReturnedTally, call_on_histories, map_answer}
use Rattle.book_laws.specs.Calls.{answer_in_state}
use Rattle.book_laws.specs.ChangeRefinement.{CreateRefines, PutRefines, RemoveRefines, MoveRefines}
use Rattle.book_laws.specs.ChangeRefinement.{ForgetRefines}
use Rattle.book_laws.specs.Refinement.{AreHistoriesOf, RefinesHistories, PagesRefineHistories}
use Rattle.book_laws.specs.QueryRefinement.{BooksRefine, BookLinesRefine, GetRefines, TalliesRefine}
use Rattle.book_laws.specs.QueryRefinement.{ReportsRefine}
use Rattle.book_laws.specs.Reports.{report}
use Rattle.book_laws.specs.HistoryChanges.{remove_on_histories, move_on_histories}
use Rattle.book_laws.specs.HistoryChanges.{forget_on_histories}
use Rattle.book_laws.specs.HistoryQueries.{books_on_histories, book_line_on_histories}
use Rattle.book_laws.specs.HistoryQueries.{get_on_histories, tally_on_histories}
use Rattle.book_laws.specs.StoreHistories.{BookHistory, StoreHistory}
use Rattle.book_laws.specs.HistorySteps.{history_named, create_on_histories, found_in_history}
use Rattle.book_laws.specs.HistorySteps.{histories_after_put, put_on_histories, report_on_histories}
use Rattle.book_commands.specs.declared.command.Command.TheVariants.{CreateBook, Books as ListBooks}
use Rattle.book_commands.specs.declared.command.Command.TheVariants.{Get, Put, Remove, MoveCard}
use Rattle.book_commands.specs.declared.command.Command.TheVariants.{Report, Forget, TallyOf}
use Rattle.book_commands.specs.declared.reply.Reply.{Reply}
use Rattle.book_commands.specs.declared.reply.Reply.TheVariants as reply
use Rattle.book_service.specs.internal.RowSteps.{CommandOnRows, first_denial, IsFirstDenial}
use Rattle.book_service.specs.internal.RowSteps.{IsFaultReply}
use Rattle.book_service.specs.Replies.{denied_reply, reply_to}
use Rattle.book_service.specs.Texts.{ReadsCard, ReadsToken}
use Rattle.book_service.specs.internal.TextParsers.{ParserReturns}
use Rattle.book_service.proofs.PerformLemmas.{from_history, same_rows, keeps_same, fault_performs}
use Rattle.book_service.proofs.PerformLemmas.{did, received, ReadFollows, returns_expected}
use Rattle.book_service.proofs.PerformLemmas.{denied_read}

module _ (limits : Bounds) (old new : Books) where
  pub creates : CreateRefines → IsInRange limits → (book : List ℕ) (call_result : Result ℕ Denied)
      → MatchesStep call_result (create_step limits old book) old new
      → CommandOnRows limits old (CreateBook book) (reply_to reply.Created call_result) new
  creates law range book call_result d =
      did reply.Created ReturnedId (CreateBook book) (λ id. refl) limits old new call_result
      (create_step limits old book) (λ model. create_on_histories model.limits model.books book)
      (λ id. tt)
      (λ model same w. from_history (λ l b. RefinesHistories (create_step l b book)
      (create_on_histories model.limits model.books book)) model same w
      (law model book (subst IsInRange (sym same) range) w.sound))
      (λ model. refl) d

  pub removes : RemoveRefines → (book uid : List ℕ) (expect : Option ℕ) (call_result :
      Result ℕ Denied) → MatchesStep call_result (remove_step limits old book uid expect) old new
      → CommandOnRows limits old (Remove book uid expect) (reply_to reply.Gone call_result) new
  removes law book uid expect call_result d =
      did reply.Gone ReturnedRemoval (Remove book uid expect) (λ number. refl) limits old new
      call_result (remove_step limits old book uid expect) (λ model. remove_on_histories
      model.limits model.books book uid expect) (λ number. tt)
      (λ model same w. from_history (λ l b. RefinesHistories (remove_step l b book uid expect)
      (remove_on_histories model.limits model.books book uid expect)) model same w
      (law model book uid expect w.sound))
      (λ model. refl) d

  pub moves : MoveRefines → (book to uid : List ℕ) (expect : Option ℕ) (call_result :
      Result Moved Denied) → MatchesStep call_result (move_step limits old book to uid expect) old
      new → CommandOnRows limits old (MoveCard book uid to expect)
      (reply_to reply.Moved call_result) new
  moves law book to uid expect call_result d =
      did reply.Moved ReturnedMove (MoveCard book uid to expect) (λ numbers. refl) limits old new
      call_result (move_step limits old book to uid expect) (λ model. move_on_histories
      model.limits model.books book to uid expect) (λ numbers. tt)
      (λ model same w. from_history (λ l b. RefinesHistories (move_step l b book to uid expect)
      (move_on_histories model.limits model.books book to uid expect)) model same w
      (law model book to uid expect w.sound))
      (λ model. refl) d

  pub forgets : ForgetRefines → (book : List ℕ) (upto : ℕ) (call_result : Result ℕ Denied)
      → MatchesStep call_result (forget_step old book upto) old new
      → CommandOnRows limits old (Forget book upto) (reply_to (λ dropped. reply.Forgot dropped upto)
      call_result) new
  forgets law book upto call_result d =
      did (λ dropped. reply.Forgot dropped upto) ReturnedDropped (Forget book upto)
      (λ dropped. refl) limits old new call_result (forget_step old book upto)
      (λ model. forget_on_histories model.books book upto) (λ dropped. tt)
      (λ model same w. from_history (λ l b. RefinesHistories (forget_step b book upto)
      (forget_on_histories model.books book upto)) model same w (law model.books book upto
      w.sound))
      (λ model. refl) d

  pub puts : PutRefines → (book uid : List ℕ) (card : List Line) (expect : Option ℕ) (text : List ℕ)
      (call_result : Result PutAnswer Denied) → ReadsCard uid text (Ok card)
      → MatchesStep call_result (put_step limits old book card expect) old new
      → CommandOnRows limits old (Put book uid expect text) (reply_to reply.Put call_result) new
  puts law book uid card expect text call_result reads d =
      did reply.Put ReturnedPut (Put book uid expect text) (λ answer. refl) limits old new
      call_result (put_step limits old book card expect) (λ model. put_on_histories model.limits
      model.books book card expect) (λ answer. tt)
      (λ model same w. from_history (λ l b. RefinesHistories (put_step l b book card expect)
      (put_on_histories model.limits model.books book card expect)) model same w
      (law model book card expect w.sound))
      (λ model. record { read = Ok card; read_is = reads; outcome_is = refl }) d

  pub gets : GetRefines → (book uid : List ℕ) (call_result : Result Stored Denied)
      → ReturnsExactly call_result (get_step old book uid) old new
      → CommandOnRows limits old (Get book uid)
      (reply_to (λ (stored : Stored). reply.Card uid stored.version stored.card) call_result)
      new
  gets law book uid call_result d =
      received (λ (stored : Stored). reply.Card uid stored.version stored.card) ReturnedCard
      (λ (t a : Stored). a ≡ t) (Get book uid) (λ stored. refl) limits old new call_result
      (get_step old book uid) (λ model. get_on_histories model.books book uid)
      (λ model same w. returns_expected (get_step old book uid) (get_on_histories model.books book
      uid) (from_history (λ l b. get_step b book uid ≡ get_on_histories model.books book uid)
      model same w (law model.books book uid)))
      (λ model. refl) d

  -- memory ran out after the store's call
  pub gets_not : (book uid : List ℕ) (fault : FaultKind) → new ≡ old
      → CommandOnRows limits old (Get book uid) (reply.Fault fault) new
  gets_not book uid fault same = record {
    kept = same;
    performed = λ model limits_are w. record {
      next = model.books;
      performs = fault_performs model (Get book uid) fault (reply.Fault fault) refl;
      histories = same_rows model old new same w;
    };
  }

  pub tallies : TalliesRefine → (book : List ℕ) (call_result : Result Tally Denied)
      → ReturnsExactly call_result (tally_step old book) old new
      → CommandOnRows limits old (TallyOf book) (reply_to reply.Tally call_result) new
  tallies law book call_result d =
      received reply.Tally ReturnedTally (λ (t a : Tally). a ≡ t) (TallyOf book) (λ tally. refl)
      limits old new call_result (tally_step old book) (λ model. tally_on_histories model.books
      book)
      (λ model same w. returns_expected (tally_step old book) (tally_on_histories model.books book)
      (from_history (λ l b. tally_step b book ≡ tally_on_histories model.books book) model same
      w (law model.books book w.sound)))
      (λ model. refl) d

  pub lists : BooksRefine → (lines : List BookLine) → (lines ≡ book_lines old) × (new ≡ old)
      → CommandOnRows limits old ListBooks (reply.Books lines) new
  lists law lines d = record {
    kept = d.1;
    performed = λ model same w. record {
      next = model.books;
      performs = inl (record {
        outcome = Ok (ReturnedBooks (books_on_histories model.books), model.books);
        has_outcome = refl;
        delivers = (
          ap (λ (ls : List BookLine). reply.Books ls) (d.0
              ∙ from_history (λ l b. book_lines b ≡ books_on_histories model.books) model same w
              (law model.books)),
          refl,
        );
      });
      histories = same_rows model old new d.1 w;
    };
  }

  -- nothing refuses the list of books
  pub lists_not : {A : Type 0} (allows : List BookLine → A → Type 0) (call_result : Result A Denied)
      (error : Denied) → call_result ≡ Err error
      → MatchesQuery allows call_result (Ok (book_lines old)) old new
      → CommandOnRows limits old ListBooks (denied_reply error) new
  lists_not {A = A} allows call_result error is d =
      by_error error (subst (λ (o : Result A Denied). MatchesQuery allows o (Ok (book_lines old))
      old new) is d)
    where
      by_error : (error : Denied) → MatchesQuery {A = A} allows (Err error) (Ok (book_lines old))
          old new → CommandOnRows limits old ListBooks (denied_reply error) new
      by_error (Refused refusal) d = absurd d
      by_error (Fault fault) d = record {
        kept = d;
        performed = λ model same w. record {
          next = model.books;
          performs = fault_performs model ListBooks fault (reply.Fault fault) refl;
          histories = same_rows model old new d w;
        };
      }

  page_follows : (asked : Result ReportRequest Refusal) (outcome : Result Page Refusal)
      → PagesRefineHistories asked outcome → ReadFollows IsReport asked outcome
  page_follows (Ok asked) (Ok outcome) follows = follows
  page_follows (Ok asked) (Err refusal) follows = follows
  page_follows (Err refusal) (Ok outcome) follows = follows
  page_follows (Err refusal) (Err other) follows = follows

  pub reports : ReportsRefine → (book : List ℕ) (token : Option Token) (text : List ℕ) (limit :
      Option ℕ) (call_result : Result Page Denied) → ReadsToken text (Ok token)
      → MatchesQuery IsReport call_result (report_step limits old book token limit) old new
      → CommandOnRows limits old (Report book text limit) (reply_to reply.Page call_result) new
  reports law book token text limit call_result reads d =
      received reply.Page ReturnedPage IsReport (Report book text limit) (λ page. refl) limits old
      new call_result (report_step limits old book token limit) (λ model. report_on_histories
      model.limits model.books book token limit)
      (λ model same w. page_follows (report_step limits old book token limit)
      (report_on_histories model.limits model.books book token limit)
      (from_history (λ l b. PagesRefineHistories (report_step l b book token limit)
      (report_on_histories model.limits model.books book token limit)) model same w
      (law model book token limit w.sound)))
      (λ model. record { read = Ok token; read_is = reads; outcome_is = refl }) d

  -- a command whose text was denied
  denial : BookLinesRefine → (model : StoreHistory) → model.limits ≡ limits
      → AreHistoriesOf old model.books → (book : List ℕ) (error : Denied) (r : Reply)
      → IsFirstDenial old book error r
      → (r ≡ first_denial (book_line_on_histories model.books book) error) ⊎ IsFaultReply r
  denial law model same w book error r d =
      subst (λ (line : Result BookLine Refusal). (r ≡ first_denial line error) ⊎ IsFaultReply r)
      (from_history (λ l b. book_line_step b book ≡ book_line_on_histories model.books book)
      model same w (law model.books book)) d

  pub puts_not : BookLinesRefine → (book uid : List ℕ) (expect : Option ℕ) (text : List ℕ) (error :
      Denied) (r : Reply) → ParserReturns {A = List Line} (ReadsCard uid text) (Err error)
      → IsFirstDenial old book error r → new ≡ old
      → CommandOnRows limits old (Put book uid expect text) r new
  puts_not law book uid expect text error r is d same = record {
    kept = keeps_same r old new same;
    performed = λ model limits_are w. record {
      next = model.books;
      performs =
          denied_read model (Put book uid expect text) book (ReadsCard uid text)
          (λ card. PutCall book card expect) (λ outcome has_outcome. has_outcome)
          (unnamed model) error r is
          (denial law model limits_are w book error r d);
      histories = same_rows model old new same w;
    };
  }
    where
      unnamed : (model : StoreHistory) (card : List Line) (refusal : Refusal)
          → history_named model.books book ≡ Err refusal
          → call_on_histories model.limits model.books (PutCall book card expect) ≡ Err refusal
      unnamed model card refusal none =
          ap (λ (named : Result BookHistory Refusal). map_answer ReturnedPut
          (named >>= λ (history : BookHistory). put_answer model.limits
          (found_in_history history.log (uid_of card)) card expect >>= λ answer. Ok (
            answer,
            histories_after_put model.books book history card (put_store_reason answer),
          ))) none

  pub reports_not : BookLinesRefine → (book text : List ℕ) (limit : Option ℕ) (refusal : Refusal)
      (r : Reply) → ReadsToken text (Err refusal) → IsFirstDenial old book (Refused refusal) r
      → new ≡ old
      → CommandOnRows limits old (Report book text limit) r new
  reports_not law book text limit refusal r is d same = record {
    kept = keeps_same r old new same;
    performed = λ model limits_are w. record {
      next = model.books;
      performs =
          denied_read model (Report book text limit) book (ReadsToken text)
          (λ token. ReportCall book token limit) (λ outcome has_outcome. has_outcome)
          (unnamed model) (Refused refusal) r is
          (denial law model limits_are w book (Refused refusal) r d);
      histories = same_rows model old new same w;
    };
  }
    where
      unnamed : (model : StoreHistory) (token : Option Token) (other : Refusal)
          → history_named model.books book ≡ Err other → call_on_histories model.limits model.books
          (ReportCall book token limit) ≡ Err other
      unnamed model token other none =
          ap (λ (named : Result BookHistory Refusal). answer_in_state ReturnedPage model.books
          (named >>= λ (history : BookHistory). requested_mark history.id (length history.log)
          history.horizon token >>= λ mark. page_size model.limits.page_max limit >>= λ size. Ok
          (page_of history.id (report history.log mark size)))) none
