-- Physical lines that are read one by one, to see whether a logical line was cut at a width.
use Rattle.std.proofs.Common.{◌≡◌, Bool, true, false, not, ◌&&◌, if◌then◌else◌, List, [], ◌∷◌, refl}
use Rattle.std.proofs.Common.{ap, sym, ◌∙◌}
use Rattle.vcard_import.specs.Folds.{go_on, is_cut, is_filled}
use Rattle.vcard_import.specs.declared.folds.Cut.{Cut}
use Rattle.vcard_import.specs.declared.folds.PhysicalLine.{PhysicalLine}

-- one more physical line
one_read : (cut : Cut) (line : PhysicalLine) (lines : List PhysicalLine)
    → is_cut cut (line ∷ lines)
    ≡ (if go_on lines then is_filled cut line lines && is_cut cut lines else true)
unfolding is_cut
one_read cut line lines = refl

none_left : (cut : Cut) → is_cut cut [] ≡ true
unfolding is_cut
none_left cut = refl

ended_by : (goes full rest : Bool) → not (goes && full) ≡ true
    → (if goes then full && rest else true) ≡ not goes
ended_by true true rest e = absurd (cc e)
ended_by true false rest e = refl
ended_by false full rest e = refl

rest_decides : (goes full rest : Bool) → not (goes && full) ≡ false
    → rest ≡ (if goes then full && rest else true)
rest_decides true true rest e = refl
rest_decides true false rest e = absurd (cc e)
rest_decides false full rest e = absurd (cc e)

-- the line isn't filled, or is the last one of the logical line
pub stops : (cut : Cut) (rest : List PhysicalLine) (line : PhysicalLine)
    (others : List PhysicalLine)
    → rest ≡ line ∷ others → not (go_on others && is_filled cut line others) ≡ true
    → is_cut cut rest ≡ not (go_on others)
stops cut rest line others is e = ap (is_cut cut) is ∙ one_read cut line others
    ∙ ended_by (go_on others) (is_filled cut line others) (is_cut cut others) e

-- a filled line goes on
pub goes_on : (cut : Cut) (rest : List PhysicalLine) (line : PhysicalLine)
    (others : List PhysicalLine)
    → rest ≡ line ∷ others → not (go_on others && is_filled cut line others) ≡ false
    → is_cut cut others ≡ is_cut cut rest
goes_on cut rest line others is e =
    rest_decides (go_on others) (is_filled cut line others) (is_cut cut others) e
    ∙ sym (one_read cut line others) ∙ ap (is_cut cut) (sym is)

-- no line is left
pub all_read : (cut : Cut) (rest : List PhysicalLine) → rest ≡ [] → is_cut cut rest ≡ true
all_read cut rest is = ap (is_cut cut) is ∙ none_left cut
