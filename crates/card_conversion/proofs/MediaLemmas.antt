-- Pictures and sounds that are given to their sink one after another.
use Rattle.std.proofs.Common.{◌≡◌, ◌<◌, ◌+◌, ◌∷◌, ◌++◌, ◌∙◌, [], ℕ, List, length, take, refl, sym}
use Rattle.std.proofs.Common.{ap, subst}
use Rattle.std.specs.Prelude.{get_or}
use Rattle.std.proofs.lemmas.List.{take_more}
use Rattle.import_text.specs.declared.raw_line.RawLine.{RawLine}
use Rattle.vcard_values.specs.Media.{media_octets}
use Rattle.card_conversion.specs.Media.{PutsLine, PutsLines}
use Rattle.convert_report.specs.declared.media_delivery.MediaDelivery.{MediaDelivery}

module _ {A : Type 0} (takes : List ℕ → A → A → Type 0) where
  -- what one more line has in it was put after that of others
  one_more_line : (lines : List RawLine) (all : List MediaDelivery) (line : RawLine) (is :
      MediaDelivery) (a b c : A) → PutsLines takes lines all a b
      → PutsLine takes (media_octets line.octets) is b c
      → PutsLines takes (lines ++ line ∷ []) (all ++ is ∷ []) a c
  one_more_line [] [] line is a b c same put =
      (c, subst (λ x. PutsLine takes (media_octets line.octets) is x c) same put, refl)
  one_more_line [] (other ∷ all) line is a b c never put = absurd never
  one_more_line (other ∷ lines) [] line is a b c never put = absurd never
  one_more_line (other ∷ lines) (that ∷ all) line is a b c first put =
      (first.0, first.1, one_more_line lines all line is first.0 b c first.2 put)

  -- what the line at a place has in it was put, after that of those before it
  pub line_step : (lines : List RawLine) (i : ℕ) (line : RawLine) (old new : List MediaDelivery)
      (is : MediaDelivery) (a b c : A) → i < length lines → line ≡ get_or lines i line
      → new ≡ old ++ is ∷ []
      → PutsLines takes (take i lines) old a b → PutsLine takes (media_octets line.octets) is b c
      → PutsLines takes (take (i + 1) lines) new a c
  line_step lines i line old new is a b c within at grows first put =
      subst (λ all. PutsLines takes all new a c) (sym (take_more lines i line within
      ∙ ap (λ e. take i lines ++ e ∷ []) (sym at)))
      (subst (λ all. PutsLines takes (take i lines ++ line ∷ []) all a c) (sym grows)
      (one_more_line (take i lines) old line is a b c first put))
