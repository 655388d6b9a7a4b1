-- What a card in memory caches beside its lines: its kind, and the index of its UID line. Defines
-- no rule of its own.
use Rattle.std.specs.Prelude.{ℕ, ◌≡◌, List, [], slice_get}
use Rattle.std.specs.Option.{option_map_or}
use Rattle.vcard_text.specs.declared.kind.Kind.{Kind}
use Rattle.vcard_lines.specs.declared.line.Line.{Line}
use Rattle.vcard_text.specs.Cards.{uid_of, kind_of, IsCard}

-- the value of the line at the index
abbrev pub uid_at : List Line → ℕ → List ℕ
uid_at lines place = option_map_or (λ line. line.value) (slice_get lines place) []

pub record HasCachedParts (lines : List Line) (kind : Kind) (place : ℕ) : Type 0 where
  pub card : IsCard lines
  pub kind_is : kind ≡ kind_of lines
  pub uid_is : uid_at lines place ≡ uid_of lines
