use Rattle.std.proofs.Common.{◌≡◌, ◌↔◌, IsTrue, false, int_eq, map, subst, sym}
use Rattle.sqlite_trees.specs.Tree.{IsAscending}
use Rattle.store_tables.specs.Members.{MemberRow, has_uid}
use Rattle.store_check.proofs.DistinctLemmas.{two_keys}
use Rattle.store_rows.specs.TableRows.{load_member}
use Rattle.store_check.proofs.keys.have_member_keys.Goals as goal

pub returns : goal.returns
returns c =
    subst (λ returned. IsTrue returned ↔ IsAscending (λ (a b : MemberRow). (int_eq a.id b.id
    ≡ false) × (has_uid a.book a.uid b ≡ false)) (map load_member c.args.members.now))
    (sym c.are_both.ensures)
    (two_keys (λ (a b : MemberRow). int_eq a.id b.id ≡ false) (λ (a b : MemberRow). has_uid a.book
    a.uid b ≡ false) load_member c.args.members.now c.in_ok-have_ids.have_ids
    c.in_ok-have_uids.have_uids c.in_ok-have_ids.ensures c.in_ok-have_uids.ensures)
