use Rattle.std.proofs.Common.{◌≡◌, IfSome, Option, sym, ap, ◌∙◌, subst}
use Rattle.std.specs.FinMap as finite
use Rattle.book_model.specs.Books.{Book, live_at}
use Rattle.book_model.specs.Importing.{import_cards, book_after_store, book_with_kept_import}
use Rattle.sync_core.proofs.MapLemmas.{on_ok_map, on_err_map, in_place, insert_same}
use Rattle.sync_core.proofs.plain_store.import_into.Goals as goal

pub returns-clause-ok : goal.returns-clause-ok
returns-clause-ok c = on_ok_map c.import-done.result c.import-done.ensures.ok (λ e.
    subst (λ (o : Option Book). IfSome o (λ book. c.replace-2.new.self
    ≡ finite.insert c.args.books.now c.args.name.now
    (book_with_kept_import (import_cards live_at book_after_store book c.args.cards.now).book
    c.args.key.now c.args.tally))) c.in-Some.ensures.value
    (in_place c.args.books.now c.replace.new.self c.replace-2.new.self c.args.name.now c.new.result
    c.import-done.new.self c.replace-2.result c.in-Some.ensures.written
    c.replace-2.ensures.value c.replace-2.ensures.written
    ∙ ap (finite.insert c.args.books.now c.args.name.now) (e
    ∙ ap (λ key. book_with_kept_import (import_cards live_at book_after_store c.in-Some.book
    c.args.cards.now).book key c.args.tally) c.in_ok-key.ensures.ok)))

pub returns-clause-err : goal.returns-clause-err
returns-clause-err c = on_err_map c.import-done.result c.import-done.ensures.err (λ e.
    in_place c.args.books.now c.replace.new.self c.replace-2.new.self c.args.name.now c.new.result
    c.import-done.new.self c.replace-2.result c.in-Some.ensures.written
    c.replace-2.ensures.value c.replace-2.ensures.written
    ∙ ap (finite.insert c.args.books.now c.args.name.now) e
    ∙ insert_same c.args.books.now c.args.name.now c.in-Some.book (sym c.in-Some.ensures.value))
