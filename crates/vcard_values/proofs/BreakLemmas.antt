-- The loop over a text makes a line feed of each line break.
use Rattle.std.proofs.Common.{◌≡◌, ℕ, Bool, false, ◌==◌, List, [], ◌∷◌, ◌++◌, fold, append_assoc}
use Rattle.std.proofs.Common.{sym, ap, ◌∙◌}
use Rattle.std.specs.Str.{encode_utf8_all}
use Rattle.std.proofs.lemmas.List.{append-nil}
use Rattle.std.proofs.lemmas.Str.{encodes-append}
use Rattle.vcard_values.specs.ValueTexts.{line_break, line_feeds_after}
use Rattle.vcard_values.specs.internal.BreakLoop.{break_char, break_state}

breaks_after : (cs octets : List ℕ) (after_return : Bool)
    → (fold break_char (break_state octets after_return) cs).octets
    ≡ octets ++ encode_utf8_all (line_feeds_after after_return cs)
unfolding line_feeds_after
breaks_after [] octets after_return = sym (append-nil octets)
breaks_after (c ∷ cs) octets after_return =
    breaks_after cs (octets ++ encode_utf8_all (line_break after_return c)) (c == 13)
    ∙ append_assoc octets (encode_utf8_all (line_break after_return c))
    (encode_utf8_all (line_feeds_after (c == 13) cs))
    ∙ ap (λ end. octets ++ end) (sym (encodes-append (line_break after_return c)
    (line_feeds_after (c == 13) cs)))

pub breaks_all : (cs : List ℕ) → (fold break_char (break_state [] false) cs).octets
    ≡ encode_utf8_all (line_feeds_after false cs)
breaks_all cs = breaks_after cs [] false
