use Rattle.std.proofs.Common.{ap, ◌∙◌}
use Rattle.book_model.specs.Books.{Book}
use Rattle.book_model.specs.BookChanges.{book_after_drop, forced_horizon}
use Rattle.book_model.specs.declared.change.Change.TheVariants.{TakesAway}
use Rattle.sync_core.proofs.plain_book.PlainBook.remove_card.Goals as goal

pub returns-clause-written : goal.returns-clause-written
returns-clause-written c = λ there.
    c.drop_oldest_removal.ensures c.args.why
    ∙ ap (λ (b : Book). book_after_drop b (forced_horizon (TakesAway c.args.why) b))
    (c.overwrite-card.ensures.written there)
