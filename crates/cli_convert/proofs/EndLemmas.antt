-- Files that are converted one after another.
use Rattle.std.proofs.Common.{◌≡◌, ◌≢◌, ◌∷◌, ◌++◌, ◌∙◌, [], ℕ, List, Option, refl, sym, ap}
use Rattle.std.proofs.Common.{subst, map, append_assoc, append-nil}
use Rattle.std.specs.Prelude.{flat_map}
use Rattle.std.specs.List.{AllByRecursion, AllPairs}
use Rattle.std.specs.Io.KnownBytes.{Appends}
use Rattle.std.proofs.lemmas.List.{flat_map_more}
use Rattle.std.proofs.lemmas.Grind.{fold-append}
use Rattle.vcard_lines.specs.declared.line.Line.{Line}
use Rattle.vcard_text.specs.Cards.{IsCard, uid_of}
use Rattle.csv_cards.specs.Reading.{TextHasCards}
use Rattle.csv_cards.specs.Writing.{csv_text}
use Rattle.csv_cards.specs.declared.form.Form.TheVariants.{Cards}
use Rattle.convert_report.specs.Counts.{nothing_counted}
use Rattle.card_conversion.specs.Courses.{AllHaveFates, ConvertsPart, ConvertsParts, HaveFates}
use Rattle.card_conversion.specs.Courses.{Knows, Part, cards_of, cards_of_all, counted, counts_of}
use Rattle.card_conversion.specs.Courses.{summary_of_all, uids_of, uids_of_all}
use Rattle.card_conversion.specs.Deliveries.{WritesInTurn}
use Rattle.card_conversion.specs.RowTexts.{card_row_text, header_row_text}
use Rattle.card_conversion.specs.declared.course.Course.{Course}
use Rattle.convert_report.specs.declared.ledger.Summary.{Summary}
use Rattle.card_conversion.proofs.RowLemmas.{rows_written}
use Rattle.cli_convert.specs.Endings.{Converts, Prints}
use Rattle.cli_convert.specs.FileTexts.{ArePartsOf}

more_uids : (parts : List Part) (part : Part) → uids_of_all (parts ++ part ∷ []) ≡ uids_of_all parts
    ++ uids_of part
more_uids parts part = sym (flat_map_more uids_of [] parts part)

more_cards : (parts : List Part) (part : Part) → cards_of_all (parts ++ part ∷ [])
    ≡ cards_of_all parts ++ cards_of part
more_cards parts part = sym (flat_map_more cards_of [] parts part)

more_counts : (parts : List Part) (part : Part) → summary_of_all (parts ++ part ∷ [])
    ≡ counted (summary_of_all parts) part
more_counts parts part = fold-append counted nothing_counted parts (part ∷ [])

more_fates : (uids : List (List ℕ)) (parts : List Part) (part : Part) → AllHaveFates uids parts
    → HaveFates (uids ++ uids_of_all parts) part → AllHaveFates uids (parts ++ part ∷ [])
more_fates uids [] part have is = (subst (λ all. HaveFates all part) (append-nil uids) is, tt)
more_fates uids (p ∷ ps) part have is = (
  have.0,
  more_fates (uids ++ uids_of p) ps part have.1 (subst (λ all. HaveFates all part)
      (sym (append_assoc uids (uids_of p) (uids_of_all ps))) is),
)

module _ {A : Type 0} (writes : List Line → A → A → Type 0) where
  more_written : (cards more : List (List Line)) (a b c : A) → WritesInTurn writes cards a b
      → WritesInTurn writes more b c → WritesInTurn writes (cards ++ more) a c
  more_written [] more a b c first then = subst (λ x. WritesInTurn writes more x c) first then
  more_written (card ∷ cards) more a b c first then =
      (first.0, first.1, more_written cards more first.0 b c first.2 then)

  -- no file was converted yet
  pub begun : (course : Course) (before : A) → Knows course [] → counts_of course ≡ nothing_counted
      → ConvertsParts writes [] course before before
  begun course before known counts = record {
    fates = tt;
    known = known;
    written = refl;
    counts = counts;
  }

  -- one more file was
  pub one_more : (parts : List Part) (part : Part) (old new : Course) (before now then : A)
      → ConvertsParts writes parts old before now → ConvertsPart writes part (uids_of_all parts) old
      new now then → ConvertsParts writes (parts ++ part ∷ []) new before then
  one_more parts part old new before now then sofar more = record {
    fates = more_fates [] parts part sofar.fates more.fates;
    known = subst (Knows new) (sym (more_uids parts part)) more.known;
    written = subst (λ cards. WritesInTurn writes cards before then) (sym (more_cards parts part))
        (more_written (cards_of_all parts) (cards_of part) before now
        then sofar.written more.written);
    counts = more.counts ∙ ap (λ summary. counted summary part) sofar.counts
        ∙ sym (more_counts parts part);
  }

  -- all of them were
  pub all_done : (parts : List Part) (texts : List (Option (List ℕ))) (course : Course)
      (before now : A) → ArePartsOf texts parts → ConvertsParts writes parts course before now
      → Converts writes texts before now (counts_of course)
  all_done parts texts course before now are sofar = record {
    parts = parts;
    are = are;
    fates = sofar.fates;
    written = sofar.written;
    counts = sofar.counts;
  }

-- their cards were written as rows
pub printed : {A : Type 0} (contents : A → Option (List ℕ)) (texts : List (Option (List ℕ)))
    (before : Option (List ℕ)) (start now : A) (summary : Summary)
    → Appends before (contents start) header_row_text
    → Converts (λ card a b. Appends (contents a) (contents b) (card_row_text card)) texts start
    now summary
    → ((cards : List (List Line)) → csv_text Cards cards ≡ header_row_text ++ flat_map card_row_text
    cards)
    → ((cards : List (List Line)) → AllByRecursion IsCard cards
    → AllPairs (λ a b. a ≢ b) (map uid_of cards) → TextHasCards (csv_text Cards cards) cards)
    → ((parts : List Part) → AllHaveFates [] parts → AllByRecursion IsCard (cards_of_all parts))
    → ((parts : List Part) → AllHaveFates [] parts
    → AllPairs (λ a b. a ≢ b) (map uid_of (cards_of_all parts)))
    → Prints texts before (contents now) summary
printed contents texts before start now summary header converts text read rules distinct = record {
  parts = converts.parts;
  are = converts.are;
  fates = converts.fates;
  counts = converts.counts;
  rows = rows_written contents (cards_of_all converts.parts) before start now header
      converts.written (rules converts.parts converts.fates)
      (distinct converts.parts converts.fates) text read;
}
