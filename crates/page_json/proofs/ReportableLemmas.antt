-- Every page that a report of well-formed books returns is well formed.
use Rattle.std.proofs.Common.{◌≡◌, ◌<◌, ℕ, List, [], ◌∷◌, Option, Some, None, Result, Ok, Err, refl}
use Rattle.std.proofs.Common.{sym, ap, ◌∙◌, arith}
use Rattle.std.specs.Option.{option_map_or}
use Rattle.std.specs.List.{AllByRecursion}
use Rattle.std.specs.FinMap as finite
use Rattle.std.proofs.lemmas.List.Elements.{recursion_from_All}
use Rattle.book_model.specs.declared.page.Entry.{Entry}
use Rattle.book_model.specs.declared.page.Entry.TheVariants.{Changed, Removed}
use Rattle.book_model.specs.declared.refusal.Refusal.{Refusal}
use Rattle.book_model.specs.declared.refusal.Refusal.TheVariants.{NoSuchBook}
use Rattle.book_model.specs.declared.token.Mark.{Mark}
use Rattle.book_model.specs.declared.token.Token.{Token}
use Rattle.book_model.specs.Bounds.{Bounds}
use Rattle.book_model.specs.Books.{Book, Books}
use Rattle.book_model.specs.CallOutcomes.{◌>>=◌}
use Rattle.book_model.specs.Pages.{ReportRequest, requested_mark, page_size, report_step}
use Rattle.book_laws.specs.WellFormedPages.{EntryFitsBook}
use Rattle.book_laws.specs.WellFormedLaws.{PagesFitBooks, PagesHaveShortNumbers}
use Rattle.page_json.specs.WrittenPages.{IsWellFormedEntry}
use Rattle.page_json.specs.ReportLaws.{ReportPagesAreWellFormed}

-- ---- the book that was asked

abbrev asked_of : Book → Mark → ℕ → ReportRequest
asked_of book mark size = record { book = book; mark = mark; size = size }

asked_one : (a b : ReportRequest) (r : Result ReportRequest Refusal) → r ≡ Ok a → r ≡ Ok b → a ≡ b
asked_one a b r e f = cc (sym e ∙ f)

of_book : (book : Book) (mark : Result Mark Refusal) (size : Result ℕ Refusal) (asked :
    ReportRequest) → (mark >>= λ m. size >>= λ n. Ok (asked_of book m n)) ≡ Ok asked
    → book ≡ asked.book
of_book book (Ok m) (Ok n) asked e =
    ap (λ a. a.book) (asked_one (asked_of book m n) asked (Ok asked) (sym e) refl)
of_book book (Ok m) (Err r) asked e = absurd (cc e)
of_book book (Err r) size asked e = absurd (cc e)

found_at : (limits : Bounds) (book : Option Book) (token : Option Token) (limit : Option ℕ) (asked :
    ReportRequest)
    → (option_map_or Ok book (Err NoSuchBook) >>= λ b. requested_mark b.id b.number b.horizon token
    >>= λ m. page_size limits.page_max limit >>= λ n. Ok (asked_of b m n)) ≡ Ok asked
    → book ≡ Some asked.book
found_at limits None token limit asked e = absurd (cc e)
found_at limits (Some book) token limit asked e =
    ap Some (of_book book (requested_mark book.id book.number book.horizon token)
    (page_size limits.page_max limit) asked e)

found : (limits : Bounds) (books : Books) (name : List ℕ) (token : Option Token) (limit : Option ℕ)
    (asked : ReportRequest) → report_step limits books name token limit ≡ Ok asked
    → finite.get books name ≡ Some asked.book
found limits books name token limit asked e =
    found_at limits (finite.get books name) token limit asked e

-- ---- its page

entry_reportable : (book : Book) → book.number < 10000000000000 → (e : Entry) → EntryFitsBook book e
    → IsWellFormedEntry e
entry_reportable book few (Changed uid version card) fits =
    ((fits.0, omega (arith, few, fits.1)), fits.2)
entry_reportable book few (Removed uid) fits = tt

entries_reportable : (book : Book) → book.number < 10000000000000 → (es : List Entry)
    → AllByRecursion (EntryFitsBook book) es → AllByRecursion IsWellFormedEntry es
entries_reportable book few [] all = tt
entries_reportable book few (e ∷ es) all =
    (entry_reportable book few e all.0, entries_reportable book few es all.1)

pub reports_reportable : PagesFitBooks → PagesHaveShortNumbers → ReportPagesAreWellFormed
reports_reportable fit short limits books name token limit asked page range is e report =
    let fits = fit limits books name token limit asked page is e report in
    let numbers = short limits books name token limit asked page range is e report in
    let within =
    (is.each name asked.book (found limits books name token limit asked e)).within_limit in
    let most = range.changes_most in
    record {
      entries = entries_reportable asked.book (omega (arith, within, most)) page.entries
          (recursion_from_All (EntryFitsBook asked.book) page.entries fits.entries);
      token = record {
        spelled = refl;
        short_book = numbers.short_book;
        short_at = numbers.short_at;
        short_base = numbers.short_base;
        ordered = fits.ordered;
      };
    }
