-- The lines above a header that count: each is as a row that isn't carried.
use Rattle.std.proofs.Common.{◌≡◌, ℕ, List, [], ◌∷◌, ◌++◌, refl, sym, ap, subst, ◌∙◌, append-nil}
use Rattle.vcard_lines.specs.declared.line.Line.{Line}
use Rattle.contact_columns.specs.declared.above.AboveLine.{AboveLine}
use Rattle.contact_columns.specs.declared.above.AboveLine.TheVariants.{Blank, Note, Row}
use Rattle.contact_columns.specs.declared.columns.Column.{Column}
use Rattle.card_conversion.specs.AboveLines.{rows_above, with_lines_above}
use Rattle.card_conversion.specs.ContactFates.{RowEntry, HaveFates, cards_of, summary_after}
use Rattle.card_conversion.specs.ContactFates.{uids_of}
use Rattle.convert_report.specs.Counts.{with_refused}
use Rattle.card_conversion.specs.Courses.{ConvertsPart, Knows, counts_of, of_rows}
use Rattle.card_conversion.specs.Deliveries.{WritesInTurn}
use Rattle.card_conversion.specs.declared.course.Course.{Course}
use Rattle.convert_report.specs.declared.ledger.Summary.{Summary}

above_fates : (columns : List Column) (uids : List (List ℕ)) (lines : List AboveLine) (entries :
    List RowEntry) → HaveFates columns uids entries
    → HaveFates columns uids (rows_above lines ++ entries)
above_fates columns uids [] entries have = have
above_fates columns uids (Blank ∷ lines) entries have = above_fates columns uids lines entries have
above_fates columns uids (Note ∷ lines) entries have = above_fates columns uids lines entries have
above_fates columns uids (Row ∷ lines) entries have = (
  refl,
  subst (λ all. HaveFates columns all (rows_above lines ++ entries))
      (sym (append-nil uids)) (above_fates columns uids lines entries have),
)

above_cards : (lines : List AboveLine) (entries : List RowEntry)
    → cards_of (rows_above lines ++ entries) ≡ cards_of entries
above_cards [] entries = refl
above_cards (Blank ∷ lines) entries = above_cards lines entries
above_cards (Note ∷ lines) entries = above_cards lines entries
above_cards (Row ∷ lines) entries = above_cards lines entries

above_uids : (lines : List AboveLine) (entries : List RowEntry)
    → uids_of (rows_above lines ++ entries) ≡ uids_of entries
above_uids [] entries = refl
above_uids (Blank ∷ lines) entries = above_uids lines entries
above_uids (Note ∷ lines) entries = above_uids lines entries
above_uids (Row ∷ lines) entries = above_uids lines entries

above_counts : (start : Summary) (lines : List AboveLine) (entries : List RowEntry)
    → summary_after start (rows_above lines ++ entries)
    ≡ summary_after (with_lines_above start lines) entries
above_counts start [] entries = refl
above_counts start (Blank ∷ lines) entries = above_counts start lines entries
above_counts start (Note ∷ lines) entries = above_counts start lines entries
above_counts start (Row ∷ lines) entries = above_counts (with_refused start) lines entries

-- rows were converted after these lines were counted
pub under_lines : {A : Type 0} (writes : List Line → A → A → Type 0) (columns : List Column) (uids :
    List (List ℕ)) (old mid new : Course) (before after : A) (lines : List AboveLine) (entries :
    List RowEntry)
    → counts_of mid ≡ with_lines_above (counts_of old) lines
    → ConvertsPart writes (of_rows columns entries) uids mid new before after
    → ConvertsPart writes (of_rows columns (rows_above lines ++ entries)) uids old new before after
under_lines writes columns uids old mid new before after lines entries counted part = record {
  fates = above_fates columns uids lines entries part.fates;
  known = subst (λ more. Knows new (uids ++ more)) (sym (above_uids lines entries)) part.known;
  written = subst (λ cards. WritesInTurn writes cards before after)
      (sym (above_cards lines entries)) part.written;
  counts = part.counts ∙ ap (λ start. summary_after start entries) counted
      ∙ sym (above_counts (counts_of old) lines entries);
}
