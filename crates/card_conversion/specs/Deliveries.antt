-- What became of a card at a sink.
use Rattle.std.specs.Prelude.{ℕ, ◌≡◌, ◌↔◌, List, [], ◌∷◌, ◌++◌}
use Rattle.std.specs.FinMap as finite
use Rattle.std.specs.List.{Contains}
use Rattle.std.specs.Option.{IsSome}
use Rattle.base_types.specs.TextMaps.{text_cmp}
use Rattle.vcard_lines.specs.declared.line.Line.{Line}
use Rattle.vcard_text.specs.Cards.{uid_of}
use Rattle.card_conversion.specs.declared.delivery.Outcome.{Outcome}
use Rattle.card_conversion.specs.declared.delivery.Outcome.TheVariants as outcome
use Rattle.card_conversion.specs.declared.card_sink.Delivery.{Delivery}
use Rattle.card_conversion.specs.declared.card_sink.Delivery.TheVariants.{Written, Refused}

-- the card was written, or the sink is unchanged
abbrev pub Delivers : {A : Type 0} → (A → A → Type 0) → Delivery → A → A → Type 0
Delivers writes Written before after = writes before after
Delivers writes (Refused words) before after = after ≡ before

-- the cards were written one after another, and nothing else
abbrev pub WritesInTurn : {A : Type 0} → (List Line → A → A → Type 0) → List (List Line) → A → A
    → Type 0
WritesInTurn writes [] before after = after ≡ before
WritesInTurn {A} writes (card ∷ cards) before after =
    (between : A) × writes card before between × WritesInTurn writes cards between after

-- the keys of the map are these UIDs
abbrev pub HasUids : finite.FinMap text_cmp (Unit {0}) → List (List ℕ) → Type 0
HasUids map uids = (uid : List ℕ) → IsSome (finite.get map uid) ↔ Contains uids uid

-- What became of a card after cards with these UIDs came to the sink. It has one of the UIDs, and
-- the sink is unchanged; or it has a new one, and the sink is unchanged or wrote the card. The
-- map has the UIDs of the cards that came to the sink.
abbrev pub ComesTo : {A : Type 0} → (List Line → A → A → Type 0) → List (List ℕ) → List Line
    → finite.FinMap text_cmp (Unit {0}) → A → A → Outcome → Type 0
ComesTo writes uids card map before after outcome.Repeated =
    Contains uids (uid_of card) × HasUids map uids × (after ≡ before)
ComesTo writes uids card map before after (outcome.Declined words) =
    (Contains uids (uid_of card) → ⊥) × HasUids map (uids ++ uid_of card ∷ []) × (after ≡ before)
ComesTo writes uids card map before after outcome.Written =
    (Contains uids (uid_of card) → ⊥) × HasUids map (uids ++ uid_of card ∷ [])
    × writes card before after
