use Rattle.std.proofs.Common.{◌≡◌, ◌↔◌, IsTrue, false, int_eq, map, subst, sym}
use Rattle.sqlite_trees.specs.Tree.{IsAscending}
use Rattle.store_tables.specs.Books.{BookRow, has_name}
use Rattle.store_check.proofs.DistinctLemmas.{two_keys}
use Rattle.store_check.specs.RowChecks.{decode_book}
use Rattle.store_check.proofs.keys.have_book_keys.Goals as goal

pub returns : goal.returns
returns c =
    subst (λ returned. IsTrue returned ↔ IsAscending (λ (a b : BookRow). (int_eq a.id b.id ≡ false)
    × (has_name a.name b ≡ false)) (map decode_book c.args.books.now)) (sym c.are_both.ensures)
    (two_keys (λ (a b : BookRow). int_eq a.id b.id ≡ false) (λ (a b : BookRow). has_name a.name b
    ≡ false) decode_book c.args.books.now c.in_ok-have_ids.have_ids
    c.in_ok-have_names.have_names c.in_ok-have_ids.ensures c.in_ok-have_names.ensures)
