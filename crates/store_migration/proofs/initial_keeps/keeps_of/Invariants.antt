use Rattle.std.proofs.Common.{◌≡◌, take}
use Rattle.store_migration.specs.InitialKeeps.{initial_keep_rows}
use Rattle.store_migration.proofs.initial_keeps.keeps_of.Given as goal

-- the keeps of the books so far
abbrev pub invariant-loop-book : goal.invariant-loop-book
invariant-loop-book l = l.keeps.items ≡ initial_keep_rows (take l.book-index l.books) l.members
