-- A text has at most one reading: one list of cards, or one first fault.
use Rattle.std.proofs.Common.{◌≡◌, ◌∷◌, ◌++◌, [], ℕ, List, Some, None, length, refl, sym, ap, subst}
use Rattle.std.proofs.Common.{◌∙◌, arith, drop}
use Rattle.std.proofs.lemmas.List.{append-nil, length-append}
use Rattle.csv.specs.Machine.{Read, next_record}
use Rattle.csv.specs.Reading.{Reached, default_config, strip_bom}
use Rattle.csv.specs.declared.parser.State.{State}
use Rattle.csv.specs.declared.parser.State.TheVariants as st
use Rattle.vcard_lines.specs.declared.line.Line.{Line}
use Rattle.vcard_text.specs.Spelling.{Spells}
use Rattle.csv_cards.specs.declared.form.Form.{Form}
use Rattle.csv_cards.specs.declared.form.Form.TheVariants as form
use Rattle.csv_cards.specs.Rows.{Row, AreRows, header}
use Rattle.csv_cards.specs.Reading.{TextHasCards, RowsRepresentEach, RowRepresents}

-- ---- rows

pub some_read : (a b : Read) → Some a ≡ Some b → a ≡ b
some_read a b e = cc e

-- rows that a text begins with begin all its rows
pub starts : (s : State) (text : List ℕ) (rows all : List Row) (s2 t2 : State) (y z : List ℕ)
    → Reached default_config s text rows s2 y → Reached default_config s text all t2 z
    → next_record default_config t2 [] [] z ≡ None → (others : List Row) × (all ≡ rows ++ others)
unfolding Reached
starts s text [] all s2 t2 y z some whole end = (all, refl)
starts s text (r ∷ rs) [] s2 t2 y z some whole end =
    cc (sym some.1 ∙ subst (λ at. next_record default_config at [] [] text ≡ None) (sym whole.0)
    (subst (λ rest. next_record default_config t2 [] [] rest ≡ None) (sym whole.1) end))
starts s text (r ∷ rs) (a ∷ whole_rows) s2 t2 y z some whole end =
    let one : some.0 ≡ whole.0 = some_read some.0 whole.0 (sym some.1 ∙ whole.1) in
    let more = starts whole.0.1 whole.0.2 rs whole_rows s2 t2 y z
    (subst (λ p. Reached default_config p.1 p.2 rs s2 y) one some.3) whole.3 end in (
      more.0,
      ap (λ fields. fields ∷ whole_rows) (whole.2 ∙ sym (ap (λ p. p.0) one) ∙ sym some.2)
          ∙ ap (λ rows. r ∷ rows) more.1,
    )

all_rows_one : (s : State) (text : List ℕ) (a b : List Row) (s2 t2 : State) (y z : List ℕ)
    → Reached default_config s text a s2 y → next_record default_config s2 [] [] y ≡ None
    → Reached default_config s text b t2 z → next_record default_config t2 [] [] z ≡ None → a ≡ b
all_rows_one s text a b s2 t2 y z one end other last =
    let more = starts s text a b s2 t2 y z one other last in
    let less = starts s text b a t2 s2 z y other one end in
    same_rows a b more.0 less.0 more.1 less.1
  where
    same_rows : (a b c d : List Row) → b ≡ a ++ c → a ≡ b ++ d → a ≡ b
    same_rows a b [] d e f = sym (e ∙ append-nil a)
    same_rows a b (x ∷ c) d e f =
        let l = ap length e ∙ length-append a (x ∷ c) in
        let m = ap length f ∙ length-append b d in
        absurd (omega (arith, l, m))

pub are_rows_one : (text : List ℕ) (a b : List Row) → AreRows text a → AreRows text b → a ≡ b
are_rows_one text a b one other = all_rows_one st.StartRecord (strip_bom text) a b one.0 other.0
    one.1 other.1 one.2 one.3 other.2 other.3

-- ---- cards

abbrev first_length : List Row → ℕ
first_length [] = 0
first_length (r ∷ rs) = length r

pub header_one : (f g : Form) (rows more : List Row) → header f ∷ rows ≡ header g ∷ more → f ≡ g
header_one form.Cards form.Cards rows more e = refl
header_one form.Columns form.Columns rows more e = refl
header_one form.Cards form.Columns rows more e = absurd (omega (arith, ap first_length e))
header_one form.Columns form.Cards rows more e = absurd (omega (arith, ap first_length e))

module _ (one_card : (text : List ℕ) (a b : List Line) → Spells text a → Spells text b
    → a ≡ b) where
  pub represents_one : (f : Form) (row : Row) (a b : List Line) → RowRepresents f row a
      → RowRepresents f row b → a ≡ b
  represents_one form.Cards row a b one other = one_card _ a b one.holds.text other.holds.text
  represents_one form.Columns row a b one other = one.holds.lines ∙ sym other.holds.lines

  pub each_one : (f : Form) (rows : List Row) (a b : List (List Line)) → RowsRepresentEach f rows a
      → RowsRepresentEach f rows b → a ≡ b
  each_one f [] [] [] one other = refl
  each_one f [] [] (d ∷ ds) one other = absurd other
  each_one f [] (c ∷ cs) b one other = absurd one
  each_one f (r ∷ rs) [] b one other = absurd one
  each_one f (r ∷ rs) (c ∷ cs) [] one other = absurd other
  each_one f (r ∷ rs) (c ∷ cs) (d ∷ ds) one other =
      ap (λ x. x ∷ cs) (represents_one f r c d one.0 other.0)
      ∙ ap (λ xs. d ∷ xs) (each_one f rs cs ds one.1 other.1)

  pub cards_one : (text : List ℕ) (a b : List (List Line)) → TextHasCards text a
      → TextHasCards text b → a ≡ b
  cards_one text a b one other =
      let rows = are_rows_one text _ _ one.are_rows other.are_rows in
      let kind = header_one one.kind other.kind one.rows other.rows rows in
      each_one other.kind other.rows a b (subst (λ f. RowsRepresentEach f other.rows a) kind
      (subst (λ rs. RowsRepresentEach one.kind rs a) (ap (drop 1) rows) one.represent.each))
      other.represent.each
