-- A number and the numbers after it.
use Rattle.std.proofs.Common.{◌≡◌, ℕ, List, Some}

pub same_split : (a b : ℕ × List ℕ) → Some a ≡ Some b → a ≡ b
same_split a b e = cc
