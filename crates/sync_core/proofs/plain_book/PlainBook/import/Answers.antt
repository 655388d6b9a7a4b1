use Rattle.std.proofs.Common.{ℕ, ◌≤◌, List, string_bytes, take, sym, ap, ◌∙◌, subst}
use Rattle.book_model.specs.Books.{Book}
use Rattle.book_model.specs.Importing.{book_with_kept_import}
use Rattle.sync_core.specs.declared.plain_book.importing.SavedRow.{SavedRow}
use Rattle.book_model.specs.BookQueries.{tombstone_count_after}
use Rattle.sync_core.specs.BookInvariants.{HasSoundNumbers}
use Rattle.sync_core.specs.ImportedRows.{NumberFits, rows_restored}
use Rattle.sync_core.proofs.ImportLemmas.{import_is, put_in, same_horizon, rolled_back}
use Rattle.sync_core.proofs.RowLemmas.{Rows}
use Rattle.sync_core.proofs.plain_book.PlainBook.import.Goals as goal

pub write_import-requires : goal.write_import-requires
write_import-requires c = subst (λ (b : Book). NumberFits c.args.self.now b)
    (import_is c.args.self.now c.args.cards.now) c.requires

pub invariant_of-self : goal.invariant_of-self
invariant_of-self c =
    let rows = c.restore_rows.ensures
    ∙ ap (λ (b : Book). rows_restored c.write_import.new.written.items b.members) c.self-2.view_is
    ∙ c.in-Err.ensures.restorable
    ∙ ap (λ (ws : List SavedRow). rows_restored ws c.args.self.now.members)
    c.new-written.ensures.items
    ∙ sym (ap (λ (b : Book). b.members) c.self.view_is) in
    let horizon = ap (λ (b : Book). b.horizon) c.self-2.view_is
    ∙ same_horizon c.args.self.now c.write_import.new.self (take c.in-Err.ensures.err.0
    c.args.cards.now) c.in-Err.ensures.err.1
    ∙ sym (ap (λ (b : Book). b.horizon) c.self.view_is) in (
      subst (λ (m : Rows). HasSoundNumbers c.self.inside.number c.self.inside.counts m) (sym rows)
          c.self.invariant.0,
      subst (λ (m : Rows). tombstone_count_after m c.self-2.inside.horizon ≤
          c.self.inside.remembered_bound) (sym rows)
          (subst (λ (h : ℕ). tombstone_count_after c.self.inside.members h ≤
          c.self.inside.remembered_bound) (sym horizon) c.self.invariant.1),
    )

pub returns-in_default-clause-ok : goal.returns-in_default-clause-ok
returns-in_default-clause-ok c =
    c.in_default.ensures.ok
    ∙ ap (λ (b : Book). book_with_kept_import b (string_bytes c.args.key) c.args.tally)
    (sym (import_is c.args.self.now c.args.cards.now))

pub returns-clause-err : goal.returns-clause-err
returns-clause-err c =
    let rows = c.restore_rows.ensures
    ∙ ap (λ (b : Book). rows_restored c.write_import.new.written.items b.members) c.self-2.view_is
    ∙ c.in-Err.ensures.restorable
    ∙ ap (λ (ws : List SavedRow). rows_restored ws c.args.self.now.members)
    c.new-written.ensures.items in
    ap (λ (b : Book). put_in b c.self.inside.number c.self.inside.counts c.restore_rows.new.rows)
    c.self-2.view_is
    ∙ ap (λ (b : Book). put_in c.write_import.new.self b.number b.counts c.restore_rows.new.rows)
    c.self.view_is
    ∙ rolled_back c.args.self.now c.write_import.new.self (take c.in-Err.ensures.err.0
    c.args.cards.now) c.restore_rows.new.rows c.in-Err.ensures.err.1 rows
