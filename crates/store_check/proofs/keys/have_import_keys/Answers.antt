use Rattle.std.proofs.Common.{◌≡◌, ◌↔◌, IsTrue, false, int_eq, map, subst, sym}
use Rattle.sqlite_trees.specs.Tree.{IsAscending}
use Rattle.store_tables.specs.Imports.{ImportRow, has_key}
use Rattle.store_check.proofs.DistinctLemmas.{two_keys}
use Rattle.store_rows.specs.TableRows.{load_import}
use Rattle.store_check.proofs.keys.have_import_keys.Goals as goal

pub returns : goal.returns
returns c =
    subst (λ returned. IsTrue returned ↔ IsAscending (λ (a b : ImportRow). (int_eq a.id b.id
    ≡ false) × (has_key a.book a.key b ≡ false)) (map load_import c.args.imports.now))
    (sym c.are_both.ensures)
    (two_keys (λ (a b : ImportRow). int_eq a.id b.id ≡ false) (λ (a b : ImportRow). has_key a.book
    a.key b ≡ false) load_import c.args.imports.now c.in_ok-have_ids.have_ids
    c.in_ok-have_unique_keys.have_unique_keys c.in_ok-have_ids.ensures
    c.in_ok-have_unique_keys.ensures)
