-- The state of a conversion between two pieces.
use Rattle.std.specs.Prelude.{ℕ, ◌≡◌, ◌++◌, [], ◌∷◌, Bool, true, false, List, Option}
use Rattle.std.specs.FinMap as finite
use Rattle.std.specs.List.{Contains}
use Rattle.std.specs.Io.KnownBytes.{Consumes}
use Rattle.base_types.specs.TextMaps.{text_cmp}
use Rattle.vcard_lines.specs.declared.line.Line.{Line}
use Rattle.vcard_text.specs.Cards.{uid_of}
use Rattle.card_conversion.specs.Moved.{own_uid}
use Rattle.vcard_changes.specs.declared.conversion.Conversion.{Conversion}
use Rattle.card_conversion.specs.declared.card_sink.Delivery.{Delivery}
use Rattle.card_conversion.specs.declared.card_sink.Delivery.TheVariants as sink
use Rattle.convert_report.specs.declared.fate.Fate.{Fate}
use Rattle.card_conversion.specs.Fates.{Entry, HaveFates, IsFate, cards_of, cards_of_fate}
use Rattle.card_conversion.specs.Fates.{octets_of, pieces_of, uids_of, uids_of_fate}
use Rattle.card_conversion.specs.Counts.{summary_after}
use Rattle.convert_report.specs.declared.ledger.Summary.{Summary}
use Rattle.card_conversion.specs.Deliveries.{HasUids, WritesInTurn}
use Rattle.card_conversion.specs.internal.PieceReaders.{AreCutFrom, HasEnded, left_of}
use Rattle.card_conversion.specs.declared.piece_reader.PieceReader.{PieceReader}

-- The UID isn't one of the known ones, and the map has it now; or it is one of them.
abbrev pub IsAdmitted : List (List ℕ) → List ℕ → finite.FinMap text_cmp (Unit {0}) → Bool → Type 0
IsAdmitted known uid after true = (Contains known uid → ⊥) × HasUids after (known ++ uid ∷ [])
IsAdmitted known uid after false = Contains known uid × HasUids after known

-- The card, which was made of the octets, was written or the sink declined it. The map has its UID,
-- and if it was written also the one of its own.
abbrev pub DeliversNew : {A : Type 0} → (List Line → A → A → Type 0) → List (List ℕ) → List ℕ
    → Conversion → finite.FinMap text_cmp (Unit {0}) → A → A → Delivery → Type 0
DeliversNew writes uids octets made map before after sink.Written =
    HasUids map (uids ++ uid_of made.card ∷ own_uid octets made ∷ [])
    × writes made.card before after
DeliversNew writes uids octets made map before after (sink.Refused words) =
    HasUids map (uids ++ uid_of made.card ∷ []) × (after ≡ before)

-- The piece has the fate after pieces whose cards have these UIDs. The map has the UIDs after it.
abbrev pub TakesAfter : {A : Type 0} → (List Line → A → A → Type 0) → List ℕ → List (List ℕ)
    → finite.FinMap text_cmp (Unit {0}) → A → A → Fate → Type 0
TakesAfter writes octets uids map before after fate =
    IsFate uids octets fate × HasUids map (uids ++ uids_of_fate octets fate)
    × WritesInTurn writes (cards_of_fate fate) before after

-- The piece has the fate after pieces whose cards have the UIDs of the map.
abbrev pub TakesPiece : {A : Type 0} → (List Line → A → A → Type 0) → List ℕ
    → finite.FinMap text_cmp (Unit {0}) → finite.FinMap text_cmp (Unit {0}) → A → A → Fate → Type 0
TakesPiece writes octets map_before map_after before after fate =
    (uids : List (List ℕ)) → HasUids map_before uids
    → TakesAfter writes octets uids map_after before after fate

-- Pieces are passed, after cards with these UIDs and these numbers. Each has its fate, and the
-- cards among them are written in order.
pub record Progress {A R : Type 0} (writes : List Line → A → A → Type 0)
    (remaining : R → Option (List ℕ)) (input : Option (List ℕ)) (uids : List (List ℕ))
    (start : Summary) (before now : A) (pieces : PieceReader R)
    (map : finite.FinMap text_cmp (Unit {0})) (summary : Summary) : Type 0
  where
    pub entries : List Entry
    pub passed : Consumes input (left_of remaining pieces) (octets_of entries)
    pub cut : AreCutFrom input (pieces_of entries) (left_of remaining pieces)
    pub ended : HasEnded remaining pieces
    pub fates : HaveFates uids entries
    pub known : HasUids map (uids ++ uids_of entries)
    pub written : WritesInTurn writes (cards_of entries) before now
    pub counts : summary ≡ summary_after start entries
