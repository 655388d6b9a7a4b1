-- The cards of files that are converted one after another.
use Rattle.std.proofs.Common.{◌≡◌, ◌≢◌, ◌∷◌, ◌++◌, [], ℕ, List, map, arith}
use Rattle.std.specs.List.{All, AllByRecursion, AllPairs, Contains}
use Rattle.vcard_lines.specs.declared.line.Line.{Line}
use Rattle.vcard_text.specs.Cards.{IsCard, uid_of}
use Rattle.card_conversion.specs.Courses.{AllHaveFates, HaveFates, Part, cards_of, cards_of_all}
use Rattle.card_conversion.specs.Courses.{of_pieces, of_rows, uids_of}
use Rattle.card_conversion.proofs.ProgressLemmas as pieces
use Rattle.card_conversion.proofs.ContactProgressLemmas as rows

abbrev NoneOf : List (List Line) → List (List ℕ) → Type 0
NoneOf rest uids = All (λ uid. Contains uids uid → ⊥) (map uid_of rest)

-- ---- one file, with other cards after it

part_apart : (uids : List (List ℕ)) (part : Part) (rest : List (List Line)) → HaveFates uids part
    → NoneOf rest (uids ++ uids_of part) → NoneOf (cards_of part ++ rest) uids
part_apart uids (of_pieces entries) rest have all = pieces.apart_then uids entries rest have all
part_apart uids (of_rows columns entries) rest have all =
    rows.apart_then columns uids entries rest have all

part_pairs : (uids : List (List ℕ)) (part : Part) (rest : List (List Line)) → HaveFates uids part
    → NoneOf rest (uids ++ uids_of part) → AllPairs (λ a b. a ≢ b) (map uid_of rest)
    → AllPairs (λ a b. a ≢ b) (map uid_of (cards_of part ++ rest))
part_pairs uids (of_pieces entries) rest have all pairs =
    pieces.pairs_then uids entries rest have all pairs
part_pairs uids (of_rows columns entries) rest have all pairs =
    rows.pairs_then columns uids entries rest have all pairs

part_cards : (uids : List (List ℕ)) (part : Part) (rest : List (List Line)) → HaveFates uids part
    → AllByRecursion IsCard rest → AllByRecursion IsCard (cards_of part ++ rest)
part_cards uids (of_pieces entries) rest have all = pieces.cards_then uids entries rest have all
part_cards uids (of_rows columns entries) rest have all =
    rows.cards_then columns uids entries rest have all

-- ---- all files

all_apart : (uids : List (List ℕ)) (parts : List Part) → AllHaveFates uids parts
    → NoneOf (cards_of_all parts) uids
all_apart uids [] have = λ k d small. absurd (omega (arith, small))
all_apart uids (part ∷ parts) have =
    part_apart uids part (cards_of_all parts) have.0 (all_apart (uids ++ uids_of part) parts have.1)

pub all_pairs : (uids : List (List ℕ)) (parts : List Part) → AllHaveFates uids parts
    → AllPairs (λ a b. a ≢ b) (map uid_of (cards_of_all parts))
all_pairs uids [] have = λ i j d below small. absurd (omega (arith, small))
all_pairs uids (part ∷ parts) have =
    part_pairs uids part (cards_of_all parts) have.0 (all_apart (uids ++ uids_of part) parts have.1)
    (all_pairs (uids ++ uids_of part) parts have.1)

pub all_cards : (uids : List (List ℕ)) (parts : List Part) → AllHaveFates uids parts
    → AllByRecursion IsCard (cards_of_all parts)
all_cards uids [] have = tt
all_cards uids (part ∷ parts) have =
    part_cards uids part (cards_of_all parts) have.0 (all_cards (uids ++ uids_of part) parts have.1)
