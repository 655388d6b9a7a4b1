-- Texts that are converted one after another.
use Rattle.std.proofs.Common.{◌≡◌, ◌∷◌, ◌++◌, [], ℕ, List, refl, sym, ap, subst, ◌∙◌, append_assoc}
use Rattle.std.proofs.Common.{append-nil}
use Rattle.std.proofs.lemmas.Grind.{flat_map-append, fold-append}
use Rattle.vcard_lines.specs.declared.line.Line.{Line}
use Rattle.convert_report.specs.Counts.{counted}
use Rattle.card_conversion.specs.Counts.{summary_after}
use Rattle.card_conversion.specs.Courses.{ConvertsTexts, Knows, counts_of}
use Rattle.card_conversion.specs.Deliveries.{HasUids, WritesInTurn}
use Rattle.card_conversion.specs.Fates.{Entry, HaveFates, cards_of, cards_of_fate, uids_of}
use Rattle.card_conversion.specs.Fates.{uids_of_fate}
use Rattle.card_conversion.specs.declared.course.Course.{Course}
use Rattle.convert_report.specs.declared.fate.Fate.{Fate}
use Rattle.convert_report.specs.declared.ledger.Summary.{Summary}
use Rattle.card_conversion.specs.internal.States.{TakesPiece}
use Rattle.card_conversion.proofs.ProgressLemmas.{more_written}

-- the later entries have their fates after the first ones
both_have : (uids : List (List ℕ)) (first then : List Entry) → HaveFates uids first
    → HaveFates (uids ++ uids_of first) then → HaveFates uids (first ++ then)
both_have uids [] then have more = subst (λ all. HaveFates all then) (append-nil uids) more
both_have uids (e ∷ es) then have more = (
  have.0,
  both_have (uids ++ uids_of_fate e.octets e.fate) es
      then have.1 (subst (λ all. HaveFates all then)
      (sym (append_assoc uids (uids_of_fate e.octets e.fate) (uids_of es))) more),
)

module _ {A : Type 0} (writes : List Line → A → A → Type 0) (uids : List (List ℕ)) where
  -- nothing is converted yet
  pub begun : (old new : Course) (at : A) → Knows new uids → counts_of new ≡ counts_of old
      → ConvertsTexts writes uids old new at at
  begun old new at known counts = (
    [],
    record {
      fates = tt;
      known = subst (HasUids new.uids) (sym (append-nil uids)) known;
      written = refl;
      counts = counts;
    },
  )

  -- one piece is converted
  pub one_text : (octets : List ℕ) (fate : Fate) (old new : Course) (before after : A)
      → TakesPiece writes octets old.uids new.uids before after fate
      → counts_of new ≡ counted (counts_of old) fate → Knows old uids
      → ConvertsTexts writes uids old new before after
  one_text octets fate old new before after takes counts known =
      let taken = takes uids known in (
        record { octets = octets; fate = fate } ∷ [],
        record {
          fates = (taken.0, tt);
          known = subst (λ all. HasUids new.uids (uids ++ all))
              (sym (append-nil (uids_of_fate octets fate))) taken.1;
          written = subst (λ cards. WritesInTurn writes cards before after)
              (sym (append-nil (cards_of_fate fate))) taken.2;
          counts = counts;
        },
      )

-- some texts are converted after others
pub joined : {A : Type 0} (writes : List Line → A → A → Type 0) (uids : List (List ℕ))
    (old course new : Course) (before at after : A)
    → (first : ConvertsTexts writes uids old course before at)
    → ((known : List (List ℕ)) → Knows course known
    → ConvertsTexts writes known course new at after)
    → ConvertsTexts writes uids old new before after
joined writes uids old course new before at after (es, first) more =
    let then = more (uids ++ uids_of es) first.known in
    let fs = then.0 in (
      es ++ fs,
      record {
        fates = both_have uids es fs first.fates then.1.fates;
        known = subst (HasUids new.uids) (append_assoc uids (uids_of es) (uids_of fs)
            ∙ ap (λ all. uids ++ all) (sym (flat_map-append (λ (e : Entry). uids_of_fate e.octets
            e.fate) es fs))) then.1.known;
        written = subst (λ cards. WritesInTurn writes cards before after)
            (sym (flat_map-append (λ (e : Entry). cards_of_fate e.fate) es fs))
            (more_written writes (cards_of es) (cards_of fs) before at after first.written
            then.1.written);
        counts = then.1.counts ∙ ap (λ s. summary_after s fs) first.counts
            ∙ sym (fold-append (λ (s : Summary) (e : Entry). counted s e.fate) (counts_of old) es
            fs);
      },
    )
