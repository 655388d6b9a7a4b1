-- Rows that a reader skips.
use Rattle.std.specs.Prelude.{ℕ, ◌≡◌, ◌<◌, List, ◌++◌, length}
use Rattle.std.specs.Borrow.{Bor}
use Rattle.csv.specs.declared.reader.Reader.{Reader}
use Rattle.csv_cards.specs.Rows.{Row, AreRows}
use Rattle.csv_cards.specs.internal.ReaderState.{HasReadRows}

-- this many further rows were read
pub record SkipsRows (reader : Reader (Bor (List ℕ))) (text : List ℕ) (rows : List Row) (count : ℕ)
    : Type 0 where
  pub skipped : List Row
  pub count_is : length skipped ≡ count
  pub after : HasReadRows reader text (rows ++ skipped)

-- the text has fewer further rows than this
pub record HasFewerRows (text : List ℕ) (rows : List Row) (count : ℕ) : Type 0 where
  pub others : List Row
  pub fewer : length others < count
  pub are_rows : AreRows text (rows ++ others)
