-- What becomes of the pictures and sounds that cards are carried without, because they would be too
-- long with them. `takes` is what writing octets does to their sink.
use Rattle.std.specs.Prelude.{ℕ, ◌≡◌, ◌⊎◌, ⊤, List, [], ◌∷◌, Option, Some, None}
use Rattle.import_text.specs.declared.raw_line.RawLine.{RawLine}
use Rattle.vcard_text.specs.Cards.{uid_of}
use Rattle.vcard_import.specs.Conversions.{left_out_lines}
use Rattle.vcard_changes.specs.declared.change.Change.{Change}
use Rattle.vcard_values.specs.Media.{media_octets}
use Rattle.convert_report.specs.declared.fate.Fate.{Fate}
use Rattle.convert_report.specs.declared.fate.Fate.TheVariants.{Blank, Other, Long, Overfull}
use Rattle.convert_report.specs.declared.fate.Fate.TheVariants.{Refused, Repeated, Crowded}
use Rattle.convert_report.specs.declared.fate.Fate.TheVariants.{Declined}
use Rattle.convert_report.specs.declared.fate.Fate.TheVariants as fate
use Rattle.convert_report.specs.declared.media_delivery.MediaDelivery.{MediaDelivery}
use Rattle.convert_report.specs.declared.media_delivery.MediaDelivery.TheVariants as delivery

-- what became of one: it was written, or it was refused and the sink is unchanged
abbrev pub Puts : {A : Type 0} → (A → A → Type 0) → MediaDelivery → A → A → Type 0
Puts takes (delivery.Written name) before after = takes before after
Puts takes (delivery.Refused words) before after = after ≡ before

-- The octets of a logical line were written or refused. A line without any was refused.
abbrev pub PutsLine : {A : Type 0} → (List ℕ → A → A → Type 0) → Option (List ℕ) → MediaDelivery
    → A → A → Type 0
PutsLine takes None is before after = Puts (λ _ _. ⊥) is before after
PutsLine takes (Some octets) is before after = Puts (takes octets) is before after

-- what became of the octets that each of the lines encodes, in order
abbrev pub PutsLines : {A : Type 0} → (List ℕ → A → A → Type 0) → List RawLine
    → List MediaDelivery → A → A → Type 0
PutsLines takes [] [] before after = after ≡ before
PutsLines takes [] (is ∷ all) before after = ⊥
PutsLines takes (line ∷ lines) [] before after = ⊥
PutsLines {A} takes (line ∷ lines) (is ∷ all) before after =
    (between : A) × PutsLine takes (media_octets line.octets) is before between
    × PutsLines takes lines all between after

-- none was written
abbrev pub AreRefused : List MediaDelivery → Type 0
AreRefused [] = ⊤
AreRefused (delivery.Written name ∷ all) = ⊥
AreRefused (delivery.Refused words ∷ all) = AreRefused all

-- The pictures and sounds of a card, which the changes of its conversion call left out: each was
-- written or refused, in order, or none was written.
abbrev pub PutsMedia : {A : Type 0} → (List ℕ → A → A → Type 0) → List ℕ → List Change
    → List MediaDelivery → A → A → Type 0
PutsMedia takes octets changes all before after =
    PutsLines takes (left_out_lines octets changes) all before after
    ⊎ (AreRefused all × (after ≡ before))

-- Those of a card that was written, under its UID. Nothing was written of any other piece.
abbrev pub PutsOfFate : {A : Type 0} → (List ℕ → List ℕ → A → A → Type 0) → List ℕ → Fate
    → List MediaDelivery → A → A → Type 0
PutsOfFate takes octets Blank all before after = after ≡ before
PutsOfFate takes octets Other all before after = after ≡ before
PutsOfFate takes octets Long all before after = after ≡ before
PutsOfFate takes octets Overfull all before after = after ≡ before
PutsOfFate takes octets (Refused fault) all before after = after ≡ before
PutsOfFate takes octets (Repeated made) all before after = after ≡ before
PutsOfFate takes octets (Crowded made) all before after = after ≡ before
PutsOfFate takes octets (Declined made words) all before after = after ≡ before
PutsOfFate takes octets (fate.Written made) all before after =
    PutsMedia (takes (uid_of made.card)) octets made.changes all before after
PutsOfFate takes octets (fate.Moved made) all before after =
    PutsMedia (takes (uid_of made.card)) octets made.changes all before after
