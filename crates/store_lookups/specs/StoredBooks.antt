-- The books in a database, and the invariants of a store over it.
use Rattle.std.specs.Prelude.{◌≡◌, IsTrue}
use Rattle.sqlite.specs.State.{State, HasCleanDisk}
use Rattle.book_model.specs.Books.{Books}
use Rattle.book_model.specs.Counts.{AreCountsOf, CountsByName}
use Rattle.store_rows.specs.SoundTables.{HoldsSoundRows}
use Rattle.store_rows.specs.TableBooks.{books_in}

-- the books that the tables hold
abbrev pub stored_books : State → Books
stored_books s = books_in s.now.trees

-- the disk has returned what was written so far, and the connection is open
abbrev pub IsOpenOnHonestDisk : State → Type 0
IsOpenOnHonestDisk s = HasCleanDisk s × IsTrue s.is_open

-- the visible state is the committed one, and the tables are sound
pub record IsCommittedAndSound (s : State) : Type 0 where
  pub committed : s.now ≡ s.committed
  pub sound : HoldsSoundRows s.now

-- the numbers are those of the stored books, as long as these are known: the connection is open on an
-- honest disk, and the tables are committed and sound
abbrev pub HoldCounts : State → CountsByName → Type 0
HoldCounts s counts =
    IsOpenOnHonestDisk s → IsCommittedAndSound s → AreCountsOf counts (stored_books s)

-- If the numbers before a call are those of the books before it, the numbers after it are those of
-- the books after it.
abbrev pub KeepsCounts : State → State → CountsByName → CountsByName → Type 0
KeepsCounts old new before after = IsOpenOnHonestDisk new → IsCommittedAndSound old →
    AreCountsOf before (stored_books old) → AreCountsOf after (stored_books new)
