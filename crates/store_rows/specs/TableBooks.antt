-- The books of the model that the rows of the tables represent.
use Rattle.std.specs.Prelude.{ℕ, ℤ, pos, List, map, filter, find}
use Rattle.std.specs.Option.{option_map, option_map_or}
use Rattle.std.specs.Ordering.{int_eq}
use Rattle.std.specs.FinMap as finite
use Rattle.sqlite.specs.Tree.{Trees}
use Rattle.base_types.specs.TextMaps.{text_cmp}
use Rattle.book_model.specs.declared.answers.ImportTally.{ImportTally}
use Rattle.book_model.specs.declared.counts.Counts.{Counts}
use Rattle.book_model.specs.declared.row.Row.{Row}
use Rattle.book_model.specs.Books.{Book, Books}
use Rattle.store_tables.specs.Books.{BookRow, Numbers, numbers}
use Rattle.store_tables.specs.Members.{MemberRow, is_in_book}
use Rattle.store_tables.specs.Imports.{ImportRow}
use Rattle.store_tables.specs.Keeps.{KeepRow, is_keep_of}
use Rattle.store_rows.specs.Values.{natural, text_card}
use Rattle.store_rows.specs.TableRows.{TableRows, rows_in}

-- ---- one book

abbrev pub model_row : MemberRow → Row
model_row m = record { changed = natural m.changed; card = option_map text_card m.card }

abbrev pub member_entry : MemberRow → List ℕ × Row
member_entry m = (m.uid, model_row m)

-- the members of the book with the id, by UID
abbrev pub members_in : ℤ → List MemberRow → finite.FinMap text_cmp Row
members_in book ms = finite.from_entries (map member_entry (filter (is_in_book book) ms))

abbrev pub row_tally : ImportRow → ImportTally
row_tally i = record {
  added = natural i.added;
  edited = natural i.edited;
  same = natural i.same;
  number = natural i.number;
}

abbrev pub import_entry : ImportRow → List ℕ × ImportTally
import_entry i = (i.key, row_tally i)

-- the results of the imports of the book with the id, by key
abbrev pub imports_in : ℤ → List ImportRow → finite.FinMap text_cmp ImportTally
imports_in book imports =
    finite.from_entries (map import_entry (filter (λ i. int_eq i.book book) imports))

-- the keep of the book with the id; 0 if it has none
abbrev pub keep_of_book : ℤ → List KeepRow → ℕ
keep_of_book book keeps = option_map_or (λ k. natural k.keep) (find (is_keep_of book) keeps) 0

abbrev pub row_counts : Numbers → Counts
row_counts n = record {
  created = natural n.created;
  edited = natural n.edited;
  imported = natural n.imported;
  import_edited = natural n.import_edited;
  moved_in = natural n.moved_in;
  deleted = natural n.deleted;
  moved_out = natural n.moved_out;
}

-- the book of a row of `book`, with the members, the imports and the keep of its id
abbrev pub row_book : TableRows → BookRow → Book
row_book rows b = record {
  id = natural b.id;
  number = natural b.numbers.number;
  horizon = natural b.numbers.horizon;
  keep = keep_of_book b.id rows.keeps;
  counts = row_counts b.numbers;
  members = members_in b.id rows.members;
  imports = imports_in b.id rows.imports;
}

-- ---- all books

abbrev pub book_entry : TableRows → BookRow → List ℕ × Book
book_entry rows b = (b.name, row_book rows b)

-- a book for each row of `book`
abbrev pub books_of : TableRows → Books
books_of rows = finite.from_entries (map (book_entry rows) rows.books)

abbrev pub books_in : Trees → Books
books_in trees = books_of (rows_in trees)

-- ---- the header of a book

-- the row of a book without its name
pub record HeaderRow : Type 0 where
  pub id : ℕ
  pub number : ℕ
  pub horizon : ℕ
  pub counts : Counts

abbrev pub numbers_row : ℕ → ℕ → Counts → Numbers
numbers_row number horizon counts =
    numbers (pos number) (pos horizon) (pos counts.created) (pos counts.edited)
    (pos counts.imported) (pos counts.import_edited) (pos counts.moved_in) (pos counts.deleted)
    (pos counts.moved_out)

-- the row of a book with this name and header
abbrev pub line_row : List ℕ → HeaderRow → BookRow
line_row name line = record {
  id = pos line.id;
  name = name;
  numbers = numbers_row line.number line.horizon line.counts;
}
