use Rattle.std.proofs.Common.{◌≡◌, ◌++◌, flat_map, take}
use Rattle.cli_host.specs.Listings.{listed_row}
use Rattle.sync_core.specs.StoreModels.{KeepsBooks}
use Rattle.cli_host.proofs.listing.write_books.Given as goal

-- if the premise holds, the books are unchanged, and the lines so far are written
abbrev pub invariant-loop-line : goal.invariant-loop-line
invariant-loop-line g l =
    (g.S.BookStore.model.premise l.store → g.S.BookStore.model.premise l.fn.store)
    × KeepsBooks g.S.BookStore.model l.fn.store l.store
    × (g.S.BookStore.model.premise l.store → l.out.items ≡ l.fn.out.items
    ++ flat_map (listed_row (g.S.BookStore.model.books l.fn.store)) (take l.line-index l.lines))
