use Rattle.std.proofs.Common.{◌≡◌, map, take, Some}
use Rattle.csv.specs.Writing.{text_written}
use Rattle.csv_cards.specs.Writing.{csv_text}
use Rattle.csv_cards.specs.internal.WriterState.{IsAtRowStart}
use Rattle.csv_cards.proofs.writing.write_list.Given as goal

-- the header and the rows so far are written
abbrev pub invariant-loop-card : goal.invariant-loop-card
invariant-loop-card l = record {
  fresh : IsAtRowStart l.writer;
  text : text_written (λ vec. Some vec.items) l.writer
      ≡ Some (csv_text l.form (map (λ card. card.now) (take l.card-index l.cards)));
}
