use Rattle.std.proofs.Common.{ℕ, List, [], ◌∷◌}
use Rattle.csv_cards.specs.Rows.{header}
use Rattle.csv_cards.specs.internal.ReaderState.{HasUids, HasReadCards, HasReadRows}
use Rattle.csv_cards.proofs.reading.read_cards.Given as goal

-- the rows so far represent the cards so far
abbrev pub invariant-loop-number : goal.invariant-loop-number
invariant-loop-number l = record {
  uids : HasUids l.uids l.cards.items;
  read : (text : List ℕ) → HasReadRows l.fn.reader text (header l.fn.form ∷ [])
      → HasReadCards l.fn.form l.reader text l.number l.cards.items;
}
