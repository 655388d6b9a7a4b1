-- The properties of a page of well-formed books, by its rows.
use Rattle.std.proofs.Common.{◌≡◌, ℕ, zero, suc, ◌-◌, ◌≤◌, ◌==◌, ◌&&◌, Bool, true, false, cond}
use Rattle.std.proofs.Common.{List, [], ◌∷◌, length, map, take, Option, Some, None, nat_lt, nat_le}
use Rattle.std.proofs.Common.{Result, Ok, Err, refl, sym, ap, ◌∙◌, subst, arith}
use Rattle.std.specs.Result.{IfOk}
use Rattle.std.specs.Option.{option_map_or}
use Rattle.std.specs.List.{All, AllByRecursion}
use Rattle.std.specs.FinMap as finite
use Rattle.std.proofs.lemmas.Bool.{and_parts, leb-true, eqb-true, false_from_ne_true}
use Rattle.std.proofs.lemmas.List.Elements.{All-from_recursion, recursion_from_All, All-filter}
use Rattle.std.proofs.lemmas.List.Elements.{All-map, All-take, All-weaker}
use Rattle.std.proofs.lemmas.List.Sorted.{All-permutation}
use Rattle.std.proofs.lemmas.Result.{IfOk-at_ok}
use Rattle.vcard_lines.specs.declared.line.Line.{Line}
use Rattle.book_model.specs.declared.page.Entry.TheVariants.{Changed, Removed}
use Rattle.book_model.specs.declared.page.Page.{Page}
use Rattle.book_model.specs.declared.refusal.Refusal.{Refusal}
use Rattle.book_model.specs.declared.refusal.Refusal.TheVariants.{BadToken, NoSuchBook}
use Rattle.book_model.specs.declared.refusal.TokenCause.TheVariants.{OtherBook, TooNew, TooOld}
use Rattle.book_model.specs.declared.token.Mark.{Mark}
use Rattle.book_model.specs.declared.token.Token.{Token}
use Rattle.book_model.specs.Bounds.{Bounds}
use Rattle.book_model.specs.Books.{Book, Books}
use Rattle.book_model.specs.CallOutcomes.{◌>>=◌, refuse_unless}
use Rattle.book_model.specs.Pages.{ReportRequest, IsOrderedByNumber, MemberWithRow}
use Rattle.book_model.specs.Pages.{truncated_answer, due_rows, entry_of_row, requested_mark}
use Rattle.book_model.specs.Pages.{number_at_index, page_of, page_size, report_step, is_due_row}
use Rattle.book_model.specs.Pages.{complete_answer}
use Rattle.book_model.specs.WellFormed.{IsWellFormedBook}
use Rattle.book_laws.specs.WellFormedPages.{EntryFitsBook, IsPageOfBook}
use Rattle.book_laws.specs.WellFormedLaws.{PagesFitBooks, PagesHaveShortNumbers}
use Rattle.book_laws.specs.WellFormedLaws.{OtherBooksTokensAreRefused}
use Rattle.book_laws.proofs.AcceptedLemmas.{after_test, after_known, after_any, after_named}
use Rattle.book_laws.proofs.ReportLemmas.{each_found}

-- ---- the request

record IsAsked (books : Books) (name : List ℕ) (asked : ReportRequest) : Type 0 where
  found : finite.get books name ≡ Some asked.book
  within_log : asked.mark.base ≤ asked.book.number

base_past : (id number horizon : ℕ) (token : Option Token)
    → IfOk (requested_mark id number horizon token) (λ mark. mark.base ≤ number)
base_past id number horizon None = omega arith
base_past id number horizon (Some token) =
    let P : Mark → Type 0 = λ mark. mark.base ≤ number in
    after_test P (token.book == id) (BadToken OtherBook) _ (λ own.
    after_test P (nat_le token.mark.at number && nat_le token.mark.base number) (BadToken TooNew) _
    (λ known.
    after_test P (nat_le horizon token.mark.base) (BadToken TooOld) (Ok token.mark) (λ remembered.
    leb-true token.mark.base number (and_parts _ _ known).1)))

is_asked : (limits : Bounds) (books : Books) (name : List ℕ) (token : Option Token) (limit :
    Option ℕ) → IfOk (report_step limits books name token limit) (IsAsked books name)
is_asked limits books name token limit =
    let P = IsAsked books name in
    after_named P books name _ (λ book at.
    after_known P (λ (mark : Mark). mark.base ≤ book.number) (requested_mark book.id book.number
    book.horizon token) _ (base_past book.id book.number book.horizon token) (λ mark within_log.
    after_any P (page_size limits.page_max limit) _ (λ size. record {
      found = at;
      within_log = within_log;
    })))

-- ---- the rows of a page

module _ (limits : Bounds) (book : Book) (is : IsWellFormedBook limits book) where
  abbrev IsOfBook : MemberWithRow → Type 0
  IsOfBook m = finite.get book.members m.0 ≡ Some m.1

  all_of_book : (mark : Mark) (ordered : List MemberWithRow)
      → IsOrderedByNumber (due_rows book.members mark) ordered → All IsOfBook ordered
  all_of_book mark ordered by =
      let test : MemberWithRow → Bool = λ m. is_due_row mark m.1 in
      All-permutation IsOfBook (due_rows book.members mark) ordered by.same
      (All-filter test IsOfBook (finite.entries book.members) (All-from_recursion IsOfBook
      (finite.entries book.members) (each_found book.members)))

  entry_fits : (m : MemberWithRow) → IsOfBook m → EntryFitsBook book (entry_of_row m)
  entry_fits m at = by m.1.card refl
    where
      by : (o : Option (List Line)) → m.1.card ≡ o
          → EntryFitsBook book (option_map_or (λ card. Changed m.0 m.1.changed card) o
          (Removed m.0))
      by (Some card) e = let row = is.rows m.0 m.1 at in (row.first, row.known, row.own_card card e)
      by None e = tt

  all_fit : (ms : List MemberWithRow) → All IsOfBook ms
      → All (EntryFitsBook book) (map entry_of_row ms)
  all_fit ms all = All-map (EntryFitsBook book) entry_of_row ms
      (All-weaker IsOfBook (λ m. EntryFitsBook book (entry_of_row m)) entry_fits ms all)

  number_known : (ms : List MemberWithRow) (i : ℕ) → AllByRecursion IsOfBook ms
      → number_at_index ms i ≤ book.number
  number_known [] i all = omega arith
  number_known (m ∷ ms) zero all = (is.rows m.0 m.1 all.0).known
  number_known (m ∷ ms) (suc i) all = number_known ms i all.1

  page_fits : (mark : Mark) (ordered : List MemberWithRow) (size : ℕ) (more : Bool)
      → mark.base ≤ book.number → All IsOfBook ordered
      → IsPageOfBook book (page_of book.id (cond more (truncated_answer mark ordered size)
      (complete_answer book.number ordered)))
  page_fits mark ordered size true within_log all =
      let known = number_known ordered (size - 1) (recursion_from_All IsOfBook ordered all) in
      record {
        own = refl;
        ordered = omega arith;
        known = omega (arith, known, within_log);
        entries = all_fit (take size ordered) (All-take IsOfBook size ordered all);
      }
  page_fits mark ordered size false within_log all = record {
    own = refl;
    ordered = omega arith;
    known = omega arith;
    entries = all_fit ordered all;
  }

pub pages_fit_books : PagesFitBooks
pages_fit_books limits books name token limit asked page is e report =
    let a = IfOk-at_ok (IsAsked books name) e (is_asked limits books name token limit) in
    let form = is.each name asked.book a.found in
    subst (λ (p : Page). IsPageOfBook asked.book p) (sym report.page_is)
    (page_fits limits asked.book form asked.mark report.ordered asked.size
    (nat_lt asked.size (length report.ordered)) a.within_log (all_of_book limits asked.book form
    asked.mark report.ordered report.by_number))

pub pages_have_short_numbers : PagesHaveShortNumbers
pages_have_short_numbers limits books name token limit asked page range is e report =
    let a = IfOk-at_ok (IsAsked books name) e (is_asked limits books name token limit) in
    let fits = pages_fit_books limits books name token limit asked page is e report in
    let own = fits.own in
    let ordered = fits.ordered in
    let known = fits.known in
    let id = is.last_id name asked.book a.found in
    let books_most = is.within_limit in
    let number = (is.each name asked.book a.found).within_limit in
    let few = range.books_most in
    let most = range.changes_most in
    record {
      short_book = omega (arith, own, id, books_most, few);
      short_at = omega (arith, ordered, known, number, most);
      short_base = omega (arith, known, number, most);
    }

-- ---- tokens of other books

refused_by_test : {A B : Type 0} (test : Bool) (refusal : Refusal) (r : Result A Refusal) (f : A
    → Result B Refusal) → test ≡ false → ((refuse_unless test refusal >>= λ _. r) >>= f)
    ≡ Err refusal
refused_by_test true refusal r f e = cc
refused_by_test false refusal r f e = refl

pub other_books_tokens_are_refused : OtherBooksTokensAreRefused
other_books_tokens_are_refused limits books name other book another token limit is at there differs
    own =
    ap (λ (o : Option Book). option_map_or Ok o (Err NoSuchBook) >>= asking) at
    ∙ refused_by_test (token.book == book.id) (BadToken OtherBook) _
    (λ mark. page_size limits.page_max limit >>= λ size. Ok (record {
      book = book;
      mark = mark;
      size = size;
    })) (false_from_ne_true (token.book == book.id) foreign)
  where
    asking : Book → Result ReportRequest Refusal
    asking b = requested_mark b.id b.number b.horizon (Some token) >>= λ mark. page_size
        limits.page_max limit >>= λ size. Ok (record { book = b; mark = mark; size = size })

    foreign : (token.book == book.id) ≡ true → ⊥
    foreign e = differs (is.ids_apart name other book another at there
        (sym (eqb-true token.book book.id e) ∙ own))
