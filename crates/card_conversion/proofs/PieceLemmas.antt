-- What a reader of pieces has left after it read and passed octets.
use Rattle.std.proofs.Common.{◌≡◌, [], ◌++◌, ◌+◌, ℕ, List, Option, Some, None, take, drop, refl}
use Rattle.std.proofs.Common.{sym, ap, ◌∙◌, append_assoc, ◌||◌, Bool, true, false}
use Rattle.std.proofs.lemmas.List.{take-append-drop, drop-drop}
use Rattle.std.proofs.lemmas.List.Folds.{list_any-append}
use Rattle.std.specs.Io.KnownBytes.{Consumes, IsAtEnd, prepend_known}
use Rattle.std.specs.Prelude.{◌==◌}
use Rattle.base_types.specs.Octets.{line_feed}
use Rattle.import_text.specs.PieceLaws.{has_line_end}

-- what was read comes after what was unread
pub read_on : (unread chunk : List ℕ) (a b : Option (List ℕ)) → Consumes a b chunk
    → Consumes (prepend_known unread a) (prepend_known (unread ++ chunk) b) []
read_on unread chunk None b p = tt
read_on unread chunk (Some x) None p = absurd p
read_on unread chunk (Some x) (Some y) p = ap (λ z. unread ++ z) p
    ∙ sym (append_assoc unread chunk y)

-- the front of what was unread is passed
pub passes : (octets : List ℕ) (start len : ℕ) (rest : Option (List ℕ))
    → Consumes (prepend_known (drop start octets) rest) (prepend_known (drop (start + len) octets)
    rest) (take len (drop start octets))
passes octets start len None = tt
passes octets start len (Some xs) =
    ap (λ ys. ys ++ xs) (sym (take-append-drop len (drop start octets)))
    ∙ append_assoc (take len (drop start octets)) (drop len (drop start octets)) xs
    ∙ ap (λ ys. take len (drop start octets) ++ (ys ++ xs)) (drop-drop len start octets)

pub nothing_read : (a : Option (List ℕ)) → Consumes a a []
nothing_read None = tt
nothing_read (Some x) = refl

pub no_more : (a b c : Option (List ℕ)) → Consumes a b [] → Consumes b c [] → Consumes a c []
no_more None b c p q = tt
no_more (Some x) None c p q = absurd p
no_more (Some x) (Some y) None p q = absurd q
no_more (Some x) (Some y) (Some z) p q = p ∙ q

pub ends : (unread : List ℕ) (a : Option (List ℕ)) → unread ≡ [] → IsAtEnd a
    → IsAtEnd (prepend_known unread a)
ends unread None e at_end = tt
ends unread (Some x) e at_end = rw (e, at_end) refl

-- ---- a line that ends

either_way : (p q : Bool) → (p || q) ≡ (q || p)
either_way true true = refl
either_way true false = refl
either_way false true = refl
either_way false false = refl

-- a line ends in the back or in the front
pub in_either : (octets front back : List ℕ) → octets ≡ front ++ back
    → (has_line_end back || has_line_end front) ≡ has_line_end octets
in_either octets front back e =
    either_way (has_line_end back) (has_line_end front)
    ∙ sym (list_any-append (λ octet. octet == line_feed) front back) ∙ sym (ap has_line_end e)
