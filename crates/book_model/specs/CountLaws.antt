-- When numbers of tombstones stay right.
use Rattle.std.specs.Prelude.{ℕ, ◌≡◌, ◌+◌, List, Some, None}
use Rattle.std.specs.FinMap as finite
use Rattle.vcard_lines.specs.declared.line.Line.{Line}
use Rattle.book_model.specs.declared.change.Change.TheVariants.{Stores}
use Rattle.book_model.specs.declared.change.StoreReason.{StoreReason}
use Rattle.book_model.specs.Books.{Book, Books}
use Rattle.book_model.specs.BookChanges.{book_after_change}
use Rattle.book_model.specs.BookQueries.{tombstone_count}
use Rattle.book_model.specs.Counting.{one_if}
use Rattle.book_model.specs.Counts.{AreCountsOf, CountsByName, IsWritten, is_tombstone_at}

-- a stored card takes the place of the tombstone under its UID, if there is one
abbrev pub StoredCardsReplaceTombstones : Type 0
StoredCardsReplaceTombstones =
    (book : Book) (uid : List ℕ) (card : List Line) (why : StoreReason) →
    tombstone_count (book_after_change book uid (Stores card why))
    + one_if (is_tombstone_at book uid) ≡ tombstone_count book

-- ---- a book is changed

-- its number is set to the new one
abbrev pub SetCountsAreRight : Type 0
SetCountsAreRight = (counts after : CountsByName) (books : Books) (name : List ℕ) (book : Book) →
    AreCountsOf counts books → IsWritten counts after name (tombstone_count book) →
    AreCountsOf after (finite.insert books name book)

-- its number is forgotten
abbrev pub ClearedCountsAreRight : Type 0
ClearedCountsAreRight = (counts : CountsByName) (books : Books) (name : List ℕ) (book : Book) →
    AreCountsOf counts books →
    AreCountsOf (finite.remove counts name) (finite.insert books name book)

-- it has as many tombstones as before
abbrev pub SameCountsAreRight : Type 0
SameCountsAreRight = (counts : CountsByName) (books : Books) (name : List ℕ) (old new : Book) →
    AreCountsOf counts books → finite.get books name ≡ Some old →
    tombstone_count new ≡ tombstone_count old → AreCountsOf counts (finite.insert books name new)

-- it is created
abbrev pub CountsOfOthersAreRight : Type 0
CountsOfOthersAreRight = (counts : CountsByName) (books : Books) (name : List ℕ) (new : Book) →
    AreCountsOf counts books → finite.get books name ≡ None →
    AreCountsOf counts (finite.insert books name new)

-- ---- no book is changed

-- a book is counted
abbrev pub CountedBooksAreRight : Type 0
CountedBooksAreRight = (counts after : CountsByName) (books : Books) (name : List ℕ) →
    (book : Book) → AreCountsOf counts books → finite.get books name ≡ Some book →
    IsWritten counts after name (tombstone_count book) → AreCountsOf after books

-- a number is forgotten
abbrev pub FewerCountsAreRight : Type 0
FewerCountsAreRight = (counts : CountsByName) (books : Books) (name : List ℕ) →
    AreCountsOf counts books → AreCountsOf (finite.remove counts name) books
