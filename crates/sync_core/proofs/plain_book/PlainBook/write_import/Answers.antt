use Rattle.std.proofs.Common.{length, fold, arith, sym, ap, ◌∙◌}
use Rattle.std.specs.FinMap as finite
use Rattle.std.proofs.lemmas.List.{take_all}
use Rattle.base_types.specs.TextMaps.{text_cmp}
use Rattle.book_model.specs.declared.answers.ImportTally.{ImportTally}
use Rattle.book_model.specs.Books.{Book}
use Rattle.sync_core.specs.ImportedRows.{with_imported}
use Rattle.sync_core.proofs.ImportLemmas.{anyway}
use Rattle.sync_core.proofs.plain_book.PlainBook.write_import.Goals as goal

pub returns-in_err-insert-clause-err : goal.returns-in_err-insert-clause-err
returns-in_err-insert-clause-err c =
    anyway _ c.from_residual-in_err-insert.result (
      length c.args.cards.now,
      ap (λ (m : finite.FinMap text_cmp ImportTally). let b : Book = record {
        id = c.self.inside.id;
        number = c.self.inside.number;
        horizon = c.self.inside.horizon;
        keep = c.self.inside.keep;
        counts = c.self.inside.counts;
        members = c.self.inside.members;
        imports = m;
      } in
          b) c.in_err-insert.ensures.err
          ∙ c.self.view_is
          ∙ c.in_ok-write_cards.ensures.ok
          ∙ ap (fold with_imported c.args.self.now)
          (sym (take_all (length c.args.cards.now) c.args.cards.now (omega arith))),
    )
