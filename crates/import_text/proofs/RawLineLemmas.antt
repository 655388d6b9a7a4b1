-- Logical lines: one more physical line.
use Rattle.std.proofs.Common.{◌≡◌, ℕ, suc, ◌+◌, ◌<◌, List, [], ◌∷◌, ◌++◌, true, false, refl, ap}
use Rattle.std.proofs.Common.{sym, ◌∙◌, arith, Bor, map, drop, length, get_or, drop-cons}
use Rattle.import_text.specs.declared.raw_line.RawLine.{RawLine}
use Rattle.import_text.specs.declared.lines.Folding.{Folding}
use Rattle.import_text.specs.RawLines.{is_joined, joined, raw_line, nonempty, lines_from}
use Rattle.import_text.specs.RawLines.{without_returns}

-- a physical line that belongs to the line so far
pub goes_on : (folding : Folding) (start : ℕ) (line : List ℕ) (place : ℕ) (piece : List ℕ) (pieces :
    List (List ℕ)) → is_joined line piece ≡ true
    → lines_from folding (raw_line start (joined folding line piece)) (place + 1) pieces
    ≡ lines_from folding (raw_line start line) place (piece ∷ pieces)
unfolding lines_from
goes_on folding start line place piece pieces e = rw e refl

-- a physical line that begins a new line
pub begins : (folding : Folding) (start : ℕ) (line : List ℕ) (place : ℕ) (piece : List ℕ) (pieces :
    List (List ℕ)) → is_joined line piece ≡ false → nonempty (raw_line start line)
    ++ lines_from folding (raw_line place piece) (place + 1) pieces ≡ lines_from folding
    (raw_line start line) place (piece ∷ pieces)
unfolding lines_from
begins folding start line place piece pieces e = rw e refl

-- no physical line is left
pub ends : (folding : Folding) (line : RawLine) (place : ℕ)
    → nonempty line ≡ lines_from folding line place []
unfolding lines_from
ends folding line place = refl

-- the physical lines that are left, each without its line end
abbrev pub texts : List (Bor (List ℕ)) → List (List ℕ)
texts pieces = map without_returns (map (λ piece. piece.now) pieces)

-- one more of them is taken
pub one_taken : (pieces : List (Bor (List ℕ))) (place : ℕ) (none : Bor (List ℕ))
    → place < length pieces → without_returns (get_or pieces place none).now ∷ texts
    (drop (place + 1) pieces) ≡ texts (drop place pieces)
one_taken pieces place none within =
    let next : place + 1 ≡ suc place = omega arith in
    ap (λ n. without_returns (get_or pieces place none).now ∷ texts (drop n pieces)) next
    ∙ ap texts (sym (drop-cons pieces place none within))
