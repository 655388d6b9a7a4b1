use Rattle.std.proofs.Common.{◌≡◌, IfErr, IfOk, List, subst, ℕ}
use Rattle.sqlite.specs.Files.{file_state}
use Rattle.sqlite.specs.Recovery.{Image}
use Rattle.sqlite.specs.Start.{FindsIn}
use Rattle.store_lookups.specs.StoredBooks.{IsOpenOnHonestDisk, stored_books}
use Rattle.book_model.specs.Books.{Books}
use Rattle.book_store.specs.Restarts.{HasPathCause, HoldsStore, declared_over}
use Rattle.book_store.proofs.PathLemmas.{unless_empty}
use Rattle.book_store.proofs.named_stores.SqlStore+FileStore+FileFrom+S.open_filled.Goals as goal

pub returns-in-Ok-false-clause-found : goal.returns-in-Ok-false-clause-found
returns-in-Ok-false-clause-found g c =
    subst (λ (image : List ℕ → Image). IfOk c.open_in.result (λ store.
    IsOpenOnHonestDisk (file_state store.conn)
    → FindsIn (image c.args.path.now) (file_state store.conn)))
    c.is_empty_without_log.ensures.same c.open_in.ensures.found

pub returns-in-Ok-false-clause-opens : goal.returns-in-Ok-false-clause-opens
returns-in-Ok-false-clause-opens g c =
    subst (λ (image : List ℕ → Image). (books : Books) → HoldsStore (image c.args.path.now) books
    → IfOk c.open_in.result (λ store. IsOpenOnHonestDisk (file_state store.conn)
    → stored_books (file_state store.conn) ≡ books)) c.is_empty_without_log.ensures.same
    c.open_in.ensures.opens

pub returns-in-Ok-false-clause-cause : goal.returns-in-Ok-false-clause-cause
returns-in-Ok-false-clause-cause g c books holds =
    let causes = subst (λ (image : List ℕ → Image). (books : Books)
    → (holds : HoldsStore (image c.args.path.now) books) → IfErr c.open_in.result (λ refused.
    HasPathCause (image c.args.path.now) (declared_over holds.trees) refused.0 refused.1))
    c.is_empty_without_log.ensures.same c.open_in.ensures.cause in
    unless_empty c.open_in.result (λ refused.
    HasPathCause (g.F.NamedFiles.image c.args.files.now c.args.path.now)
    (declared_over holds.trees) refused.0 refused.1) (causes books holds)
