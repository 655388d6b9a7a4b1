-- Rows that look-ups returned, against the books.
use Rattle.std.proofs.Common.{◌≡◌, ℕ, ℤ, pos, Bool, true, List, [], ◌∷◌, find, Option, Some, None}
use Rattle.std.proofs.Common.{Ok, refl, ap, subst, ◌∙◌}
use Rattle.std.specs.Option.{option_map, option_map_or, option_and_then}
use Rattle.sqlite.specs.declared.types.Value.TheVariants.{Int, Text}
use Rattle.sqlite.specs.Order.{Row}
use Rattle.sqlite.specs.Values.{or_null}
use Rattle.sqlite_rules.specs.Edit.{id_in}
use Rattle.sqlite_rules.specs.Lists.{Has}
use Rattle.base_types.proofs.TextLemmas.{same_text}
use Rattle.book_model.specs.declared.answers.ImportTally.{ImportTally}
use Rattle.book_model.specs.declared.answers.Stored.{Stored}
use Rattle.book_model.specs.Books.{stored_in_row}
use Rattle.store_tables.specs.QueryResults.{FindsRow}
use Rattle.store_tables.specs.Books.{BookRow, Numbers, has_name, number_cells, numbers_shown}
use Rattle.store_tables.specs.Members.{MemberRow, has_uid, number_card_shown}
use Rattle.store_tables.specs.Imports.{ImportRow, has_key, import_shown}
use Rattle.store_tables.specs.Keeps.{KeepRow, is_keep_of, keep_shown}
use Rattle.store_rows.specs.Values.{natural, text_or_empty, text_card, lines_or_none}
use Rattle.store_rows.specs.TableBooks.{HeaderRow, numbers_row, line_row, model_row, row_tally}
use Rattle.store_rows.specs.TableBooks.{row_book}
use Rattle.store_rows.specs.ShownRows.{ShowsHeader, ShowsCounts, ShowsLive, ShowsTally, ShowsNumber}
use Rattle.store_rows.specs.LookupLaws.{BooksAreFound, BooksAreMissing, MembersAreFound}
use Rattle.store_rows.specs.LookupLaws.{MembersAreMissing, ImportsAreFound, ImportsAreMissing}
use Rattle.store_rows.specs.LookupLaws.{KeepsAreFound}
use Rattle.store_rows.proofs.KeyedEntries.{Single, find_single, find_none, has_filtered}
use Rattle.store_rows.proofs.RowLemmas.{single_named, single_member, single_import, single_keep}
use Rattle.store_rows.proofs.RowLemmas.{get-books_of, get-members_in, get-imports_in}

pub int_of : (a b : ℤ) → Int a ≡ Int b → a ≡ b
int_of a b e = ap id_in e

pub natural_of : (a : ℤ) (n : ℕ) → Int a ≡ Int (pos n) → natural a ≡ n
natural_of a n e = ap natural (int_of a (pos n) e)

-- the row that a look-up returns is the first that passes
pub the_one : {X : Type 0} (p : X → Bool) (show : X → Row) (xs : List X) (row : Row) → Single p xs
    → (h : FindsRow p show xs (Ok row)) → find p xs ≡ Some h.0
the_one p show xs row one h = let it = has_filtered p xs h.0 h.1 in
    find_single p xs h.0 one it.0 it.1

-- ---- books

pub numbers_are : (n : Numbers) (header : HeaderRow) → Int n.number ≡ Int (pos header.number)
    → Int n.horizon ≡ Int (pos header.horizon) → ShowsCounts 2 (number_cells n) header.counts
    → n ≡ numbers_row header.number header.horizon header.counts
numbers_are n f number horizon h =
    let a = int_of n.number _ number in
    let b = int_of n.horizon _ horizon in
    let c1 = int_of n.created _ h.created in
    let c2 = int_of n.edited _ h.edited in
    let c3 = int_of n.imported _ h.imported in
    let c4 = int_of n.import_edited _ h.import_edited in
    let c5 = int_of n.moved_in _ h.moved_in in
    let c6 = int_of n.deleted _ h.deleted in
    let c7 = int_of n.moved_out _ h.moved_out in
    λ i. record {
      number = a i;
      horizon = b i;
      created = c1 i;
      edited = c2 i;
      imported = c3 i;
      import_edited = c4 i;
      moved_in = c5 i;
      deleted = c6 i;
      moved_out = c7 i;
    }

line_is : (name : List ℕ) (b : BookRow) (header : HeaderRow) → has_name name b ≡ true
    → ShowsHeader (numbers_shown b) header → b ≡ line_row name header
line_is name b f here h =
    let id = int_of b.id (pos f.id) h.id in
    let same = same_text b.name name here in
    let counts : ShowsCounts 2 (number_cells b.numbers) f.counts =
    record {
      created = h.counts.created;
      edited = h.counts.edited;
      imported = h.counts.imported;
      import_edited = h.counts.import_edited;
      moved_in = h.counts.moved_in;
      deleted = h.counts.deleted;
      moved_out = h.counts.moved_out;
    } in
    let numbers = numbers_are b.numbers f h.number h.horizon counts in
    λ i. record { id = id i; name = same i; numbers = numbers i }

pub book_found : BooksAreFound
book_found rows name row f sound h shows =
    let it = has_filtered (has_name name) rows.books h.0 h.1 in
    let is = line_is name h.0 f it.1 (subst (λ r. ShowsHeader r f) h.2 shows) in
    record {
      there = subst (Has rows.books) is it.0;
      book = get-books_of rows name ∙ ap (option_map (row_book rows))
          (the_one (has_name name) numbers_shown rows.books row (single_named name rows.books
          sound.books) h ∙ ap Some is);
    }

pub book_missing : BooksAreMissing
book_missing rows name h = record {
  none = h refl;
  book = get-books_of rows name
      ∙ ap (option_map (row_book rows)) (find_none (has_name name) rows.books (h refl));
}

-- ---- members

live_is : (m : MemberRow) (live : Option Stored) → ShowsLive (number_card_shown m) live
    → stored_in_row (model_row m) ≡ live
live_is m live h = step m.card live h
  where
    step : (card : Option (List ℕ)) (live : Option Stored)
        → ShowsLive (Int m.changed ∷ or_null Text card ∷ []) live
        → stored_in_row (model_row (record m { card = card })) ≡ live
    step None None h = refl
    step None (Some s) h = absurd (let e = h.1.1 in cc)
    step (Some t) None h = absurd (let e = h in cc)
    step (Some t) (Some s) h =
        let version = natural_of m.changed s.version h.0 in
        let card : text_card t ≡ s.card = ap (λ v. text_card (text_or_empty v)) h.1.1
        ∙ ap lines_or_none h.1.2 in
        λ i. Some (record { version = version i; card = card i })

pub member_found : MembersAreFound
member_found rows b uid row live sound h shows =
    ap (option_and_then stored_in_row) (get-members_in b.id rows.members uid
    ∙ ap (option_map model_row) (the_one (has_uid b.id uid) number_card_shown rows.members row
    (single_member b.id uid rows.members sound.members) h))
    ∙ live_is h.0 live (subst (λ r. ShowsLive r live) h.2 shows)

pub member_missing : MembersAreMissing
member_missing rows b uid h =
    ap (option_and_then stored_in_row) (get-members_in b.id rows.members uid
    ∙ ap (option_map model_row) (find_none (has_uid b.id uid) rows.members (h refl)))

-- ---- imports

tally_is : (i : ImportRow) (tally : ImportTally) → ShowsTally (import_shown i) tally
    → row_tally i ≡ tally
tally_is i tally h =
    let added = natural_of i.added tally.added h.added in
    let edited = natural_of i.edited tally.edited h.edited in
    let same = natural_of i.same tally.same h.same in
    let number = natural_of i.number tally.number h.number in
    λ k. record { added = added k; edited = edited k; same = same k; number = number k }

pub import_found : ImportsAreFound
import_found rows b key row tally sound h shows =
    get-imports_in b.id rows.imports key
    ∙ ap (option_map row_tally) (the_one (has_key b.id key) import_shown rows.imports row
    (single_import b.id key rows.imports sound.imports) h)
    ∙ ap Some (tally_is h.0 tally (subst (λ r. ShowsTally r tally) h.2 shows))

pub import_missing : ImportsAreMissing
import_missing rows b key h = record {
  none = h refl;
  tally = get-imports_in b.id rows.imports key
      ∙ ap (option_map row_tally) (find_none (has_key b.id key) rows.imports (h refl));
}

-- ---- keeps

pub keep_found : KeepsAreFound
keep_found rows b row keep sound h shows =
    ap (λ o. option_map_or (λ (k : KeepRow). natural k.keep) o 0)
    (the_one (is_keep_of b.id) keep_shown rows.keeps row (single_keep b.id rows.keeps
    sound.keeps) h)
    ∙ natural_of h.0.keep keep (subst (λ r. ShowsNumber r keep) h.2 shows)
