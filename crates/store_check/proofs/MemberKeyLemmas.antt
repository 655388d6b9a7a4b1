-- The keys of the members, which the declared tables keep unique.
use Rattle.std.proofs.Common.{◌≡◌, ℕ, ℤ, true, false, not, ◌&&◌, true≢false, List, [], ◌∷◌}
use Rattle.std.proofs.Common.{IsPermutation, int_eq, int_lt, map, refl, sym, ap, subst, subst₂, ◌∙◌}
use Rattle.std.proofs.Common.{arith}
use Rattle.std.proofs.lemmas.Int.{ints}
use Rattle.std.proofs.lemmas.Bool.{and_parts, false_from_ne_true, not-true}
use Rattle.std.proofs.lemmas.Map.Text.{is_eq-slice_cmp}
use Rattle.std.specs.List.{AllByRecursion}
use Rattle.sqlite.specs.Order.{Row}
use Rattle.sqlite.specs.Tree.{Trees, rowid}
use Rattle.sqlite_rules.specs.Lists.{Has}
use Rattle.sqlite_rules.proofs.ListLemmas.{all_from, all_has, some_from}
use Rattle.sqlite_schema.specs.declared.schema.Constraint.TheVariants.{Unique}
use Rattle.sqlite_schema.specs.Rules.{Obeys, agree, clashes, differ, passes}
use Rattle.sqlite_sql.specs.declared.ops.CompareOp.TheVariants.{Eq, Ne}
use Rattle.sqlite_trees.specs.Tree.{IsAscending}
use Rattle.sqlite_trees.proofs.ListLemmas.{all_both, ascending-map, ascending_weaker}
use Rattle.sqlite_typed.proofs.TestLemmas.{at_ints, at_texts, last_term, then_term}
use Rattle.sqlite_value.specs.Keys.{first_key, plain}
use Rattle.store_tables.specs.Members.{MemberRow, has_uid, member_cells, member_row}
use Rattle.store_tables.specs.Tables.{book_schema, member}
use Rattle.store_tables.proofs.Cells.{cells_has}
use Rattle.store_tables.proofs.FreshLemmas.{has_permuted}
use Rattle.std.proofs.lemmas.List.Sorted.{IsPermutation-sym}
use Rattle.store_rows.specs.TableRows.{load_member}
use Rattle.store_check.specs.BookChecks.{is_written_by}
use Rattle.store_check.specs.MemberScans.{HaveRisingIds}
use Rattle.store_check.specs.RowChecks.{IsMemberRow, int_cell}
use Rattle.store_check.specs.StoredTests.{HaveMemberKeys}
use Rattle.store_check.proofs.ListedLemmas.{member_back}

-- ---- the keys of two members, as the database compares them

same_uid : (x n : MemberRow) → agree plain (1 ∷ 2 ∷ []) (member_row x) (1 ∷ 2 ∷ []) (member_row n)
    ≡ has_uid n.book n.uid x
unfolding first_key
same_uid x n = then_term (at_ints false Eq x.book n.book) (last_term (at_texts false Eq x.uid n.uid
    ∙ is_eq-slice_cmp x.uid n.uid))

same_number : (x n : MemberRow) → agree plain (1 ∷ 3 ∷ []) (member_row x) (1 ∷ 3 ∷ [])
    (member_row n) ≡ is_written_by n.book n.changed x
unfolding first_key
same_number x n = then_term (at_ints false Eq x.book n.book)
    (last_term (at_ints false Eq x.changed n.changed))

other_id : (a b : ℤ) → int_lt a b ≡ true → int_eq a b ≡ false
other_id a b h = grind (arith, ints)

turned_id : (a b : ℤ) → int_lt a b ≡ true → int_eq b a ≡ false
turned_id a b h = grind (arith, ints)

-- the ids and the keys of two rows differ
record AreApart (x y : Row) : Type 0 where
  ids : int_eq (int_cell 0 x) (int_cell 0 y) ≡ false
  uids : has_uid (load_member x).book (load_member x).uid (load_member y) ≡ false
  numbers : is_written_by (load_member x).book (load_member x).changed (load_member y) ≡ false

abbrev Rises : Row → Row → Type 0
Rises x y = int_lt (int_cell 0 x) (int_cell 0 y) ≡ true

module _ (db : Trees) (obeys : Obeys book_schema db) where
  unique_rule : AllByRecursion (λ row. passes Unique book_schema db member row ≡ true) (db 4)
  unique_rule = (obeys.rules Unique).1.1.0

  no_clash : (r : Row) → Has (db 4) r → (clashes plain (1 ∷ 2 ∷ []) (db 4) r ≡ false)
      × (clashes plain (1 ∷ 3 ∷ []) (db 4) r ≡ false)
  no_clash r there =
      let h : (not (clashes plain (1 ∷ 2 ∷ []) (db 4) r)
      && (not (clashes plain (1 ∷ 3 ∷ []) (db 4) r) && true)) ≡ true =
      all_has (λ row. passes Unique book_schema db member row ≡ true) (db 4) r unique_rule
      there in
      let parts = and_parts _ _ h in
      (not-true _ parts.0, not-true _ (and_parts _ _ parts.1).0)

  -- no other row has the same values in these columns
  module _ (places : List ℕ) (ra rb : Row) (there : Has (db 4) rb) (a :
      IsMemberRow (member_cells ra)) (b : IsMemberRow (member_cells rb)) (rises :
      Rises (member_cells ra) (member_cells rb)) where
    differs : differ (rowid rb) (rowid ra) ≡ true
    differs = subst₂ (λ v w. differ v w ≡ true) (sym b.id) (sym a.id)
        (at_ints false Ne (int_cell 0 (member_cells rb)) (int_cell 0 (member_cells ra))
        ∙ ap not (turned_id (int_cell 0 (member_cells ra)) (int_cell 0 (member_cells rb))
        rises))

    never_agree : clashes plain places (db 4) ra ≡ false → agree plain places rb places ra ≡ false
    never_agree none = false_from_ne_true _ (λ same.
        let clash : clashes plain places (db 4) ra ≡ true =
        some_from (λ other. agree plain places other places ra && differ (rowid other)
        (rowid ra)) (db 4) rb there (then_term same differs) in
        true≢false (sym clash ∙ none))

  apart : (ra rb : Row) → Has (db 4) ra → Has (db 4) rb → IsMemberRow (member_cells ra)
      → IsMemberRow (member_cells rb) → Rises (member_cells ra) (member_cells rb)
      → AreApart (member_cells ra) (member_cells rb)
  apart ra rb at there a b rises =
      let none = no_clash ra at in
      record {
        ids = other_id (int_cell 0 (member_cells ra)) (int_cell 0 (member_cells rb)) rises;
        uids = sym (same_uid (load_member (member_cells rb)) (load_member (member_cells ra)))
            ∙ subst₂ (λ y x. agree plain (1 ∷ 2 ∷ []) y (1 ∷ 2 ∷ []) x ≡ false)
            (sym (member_back rb b)) (sym (member_back ra a)) (never_agree (1 ∷ 2 ∷ []) ra rb
            there a b rises none.0);
        numbers = sym (same_number (load_member (member_cells rb)) (load_member (member_cells ra)))
            ∙ subst₂ (λ y x. agree plain (1 ∷ 3 ∷ []) y (1 ∷ 3 ∷ []) x ≡ false)
            (sym (member_back rb b)) (sym (member_back ra a)) (never_agree (1 ∷ 3 ∷ []) ra rb
            there a b rises none.1);
      }

  -- the row is one of the table, and has a member's columns
  record IsStored (x : Row) : Type 0 where
    row : Row
    there : Has (db 4) row
    is : x ≡ member_cells row
    shown : IsMemberRow x

  both_apart : (x y : Row) → IsStored x → IsStored y → Rises x y → AreApart x y
  both_apart x y p q rises =
      subst₂ AreApart (sym p.is) (sym q.is)
      (apart p.row q.row p.there q.there (subst IsMemberRow p.is p.shown)
      (subst IsMemberRow q.is q.shown) (subst₂ Rises p.is q.is rises))

  all_apart : (xs : List Row) → AllByRecursion IsStored xs → IsAscending Rises xs
      → IsAscending AreApart xs
  all_apart [] all rising = tt
  all_apart (x ∷ xs) all rising = (
    all_both IsStored (Rises x) (AreApart x) (λ y q rises. both_apart x y all.0 q rises) xs all.1
        rising.0,
    all_apart xs all.1 rising.1,
  )

  pub keys_hold : (rows : List Row) → IsPermutation (map member_cells (db 4)) rows
      → HaveRisingIds rows → AllByRecursion IsMemberRow rows → HaveMemberKeys rows
  keys_hold rows same rising shown = record {
    keys = ascending-map (λ (a b : MemberRow). (int_eq a.id b.id ≡ false)
        × (has_uid a.book a.uid b ≡ false)) load_member rows
        (ascending_weaker AreApart (λ x y. (int_eq (load_member x).id (load_member y).id ≡ false)
        × (has_uid (load_member x).book (load_member x).uid (load_member y) ≡ false))
        (λ x y h. (h.ids, h.uids)) rows all);
    apart = ascending-map (λ (a b : MemberRow). is_written_by a.book a.changed b ≡ false)
        load_member rows
        (ascending_weaker AreApart (λ x y. is_written_by (load_member x).book
        (load_member x).changed (load_member y) ≡ false) (λ x y h. h.numbers) rows all);
  }
    where
      stored : (x : Row) → Has rows x → IsStored x
      stored x there =
          let it = cells_has member_cells (λ _. refl) (db 4) x
          (has_permuted rows (map member_cells (db 4)) x (IsPermutation-sym _ _ same) there) in
          record {
            row = it.0;
            there = it.1;
            is = it.2;
            shown = all_has IsMemberRow rows x shown there;
          }

      all : IsAscending AreApart rows
      all = all_apart rows (all_from IsStored rows stored) rising
