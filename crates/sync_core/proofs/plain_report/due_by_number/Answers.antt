use Rattle.std.proofs.Common.{subst, List, map, IsPermutation, rules}
use Rattle.std.specs.Map.Iter.{deref_pair}
use Rattle.std.proofs.lemmas.List.Sorted.{IsNonDecreasingBy-from_sort_by_key, IsPermutation-map}
use Rattle.book_model.specs.Pages.{MemberWithRow}
use Rattle.sync_core.proofs.PageLemmas.{rises-map}
use Rattle.sync_core.proofs.plain_report.due_by_number.Goals as goal

pub returns : goal.returns
returns c = record {
  same = subst (λ (ms : List MemberWithRow). IsPermutation ms
      (map deref_pair c.sort_by_key.new.self.items)) c.in_ok-due.ensures
      (IsPermutation-map deref_pair _ _ c.in_ok-sort_by_key.ensures.permutation);
  rises = rises-map deref_pair (λ m. m.1.changed) c.sort_by_key.new.self.items
      (IsNonDecreasingBy-from_sort_by_key (λ m. m.1.now.changed) _
      c.in_ok-sort_by_key.ensures.sorted (λ a r q k. search rules));
}
