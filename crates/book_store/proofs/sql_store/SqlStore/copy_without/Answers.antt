use Rattle.std.proofs.Common.{◌≡◌, ◌∙◌, rules, IsTrue, subst}
use Rattle.sqlite.specs.Files.{file_state}
use Rattle.sqlite.specs.Held.{state}
use Rattle.store_lookups.specs.StoredBooks.{stored_books}
use Rattle.store_copy.proofs.RestLemmas.{names_are_books}
use Rattle.book_store.specs.Copies.{AreRestarted}
use Rattle.book_store.proofs.CopyLemmas.{always, both, restarted_rest}
use Rattle.book_store.proofs.sql_store.SqlStore.copy_without.Goals as goal

pub returns-clause-rest : goal.returns-clause-rest
returns-clause-rest g c =
    let same : c.in_ok-copy.copy.limits ≡ c.args.self.now.limits = c.in_ok-copy.ensures.limits
    ∙ c.list_rows.ensures.terms.limits in
    let books = stored_books (file_state c.in_ok-copy.copy.conn) in
    both c.restart_copy.result _ _ _ (λ made restarted was_open honest clean.
    restarted_rest made.0 c.args.self.now.limits (state g.S.Store c.args.self.now.conn)
    (file_state c.in_ok-copy.copy.conn) c.args.names.now c.in-Ok.rows
    c.restarting_pairs-pairs.result
    (c.in-Ok.ensures.lists honest) (c.in_ok-copy.ensures.rest (was_open clean))
    c.restarting_pairs-pairs.ensures.above
    (subst (λ l. AreRestarted g.D.Disk made.0 l books c.restarting_pairs-pairs.result) same
    (restarted clean))) c.restart_copy.ensures.restarted c.restart_copy.ensures.was_open

pub returns-clause-named : goal.returns-clause-named
returns-clause-named g c =
    let each : IsTrue c.has_books.result = search (rules) in
    always c.restart_copy.result (λ honest.
    let listed = c.in-Ok.ensures.lists honest in
    names_are_books (state g.S.Store c.args.self.now.conn).now c.in-Ok.rows c.args.names.now
    listed.has listed.sound (c.has_books.ensures each))
