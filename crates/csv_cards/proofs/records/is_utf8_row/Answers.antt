use Rattle.std.proofs.Common.{sym, ◌∙◌, subst, arith, IsUtf8}
use Rattle.csv.specs.Records.{AllText, fields_of}
use Rattle.csv_cards.proofs.RecordLemmas.{all_text-more, text_at}
use Rattle.csv_cards.proofs.records.is_utf8_row.Goals as goal

pub loop-place-init : goal.loop-place-init
unfolding AllText
loop-place-init c = tt

pub returns-then-not-is_utf8 : goal.returns-then-not-is_utf8
returns-then-not-is_utf8 c = (
  λ e. cc e,
  λ all. sym c.if-not-is_utf8.true ∙ c.is_utf8.ensures.1 (subst IsUtf8 (sym c.row_field.ensures)
      (text_at (fields_of c.args.row.now) c.loop-place.place (omega (
        arith,
        c.len-place-end.ensures,
        c.loop-place-test.true,
      )) all)),
)

pub loop-place-preserved : goal.loop-place-preserved
loop-place-preserved c = all_text-more (fields_of c.args.row.now) c.loop-place.place
    (omega (arith, c.len-place-end.ensures)) c.loop-place.invariant
    (subst IsUtf8 c.row_field.ensures (c.is_utf8.ensures.0 c.if-not-is_utf8.false))
