-- The result of the look-up of a member by the name of its book.
use Rattle.std.proofs.Common.{◌≡◌, ◌≢◌, ℕ, Bool, true, false, ◌&&◌, List, [], ◌∷◌, filter, Ok, Err}
use Rattle.std.proofs.Common.{Result, IfErr, bytes_eq, int_eq, inl, inr, refl, sym, ap₂, subst, ◌∙◌}
use Rattle.std.proofs.lemmas.Map.Text.{is_eq-slice_cmp}
use Rattle.std.proofs.lemmas.List.Sorted.{IsPermutation-sym}
use Rattle.sqlite.specs.declared.error.Error.{Error}
use Rattle.sqlite.specs.declared.error.Error.TheVariants.{QueryReturnedNoRows, SqliteFailure}
use Rattle.sqlite.specs.declared.error.ErrorCode.TheVariants.{OutOfMemory}
use Rattle.sqlite.specs.declared.types.Value.TheVariants.{Text}
use Rattle.sqlite.specs.Listing.{understood}
use Rattle.sqlite.specs.Order.{Row}
use Rattle.sqlite.specs.Program.{overlay}
use Rattle.sqlite.specs.State.{State, QueriesRow, FailsToQuery}
use Rattle.sqlite.specs.Tree.{Trees}
use Rattle.sqlite.proofs.Callers.{first_as, reads_as}
use Rattle.sqlite_rules.specs.Lists.{Has}
use Rattle.sqlite_sql.specs.declared.ops.CompareOp.TheVariants.{Eq}
use Rattle.sqlite_tied.specs.Compute.{everything}
use Rattle.sqlite_typed.proofs.TestLemmas.{at_ints, at_texts, then_term, last_term}
use Rattle.store_tables.proofs.FailureLemmas.{row_fails}
use Rattle.store_tables.proofs.Lookups.{never_none}
use Rattle.store_tables.specs.Books.{BookRow, book_row, book_cells, has_name, HoldBooks}
use Rattle.store_tables.specs.Failures.{HasOutsideCause}
use Rattle.store_tables.specs.Members.{MemberRow, member_row, member_cells, has_uid, HoldMembers}
use Rattle.store_tables.specs.Tables.{book_schema}
use Rattle.store_tables.proofs.HasLemmas.{has_moved, has_passing, none_there, passing_has}
use Rattle.store_tables.proofs.JoinLemmas.{item_of, row_of, pair_passes, pair_shows, shown_pairs}
use Rattle.store_tables.proofs.JoinLemmas.{picked_pairs, pair_of, has_pair}
use Rattle.store_tables.proofs.JoinQueries.{named_text, named_query, named_tests, named_terms}
use Rattle.store_tables.proofs.JoinTexts.{named_is}
use Rattle.store_tables.specs.NamedMembers.{FindsNamedMember}

three_hold : (a b c : Bool) → (a && (b && c)) ≡ true → (b ≡ true) × ((a && c) ≡ true)
three_hold true true true h = (refl, refl)
three_hold true true false h = absurd cc
three_hold true false c h = absurd cc
three_hold false b c h = absurd cc

hold_three : (a b c : Bool) → b ≡ true → (a && c) ≡ true → (a && (b && c)) ≡ true
hold_three true true c b h = h
hold_three true false c b h = absurd cc
hold_three false b c e h = absurd cc

module _ (name uid : List ℕ) where
  abbrev keys : Row
  keys = Text name ∷ Text uid ∷ []

  abbrev passes : Row → Row → Bool
  passes = pair_passes 2 4 named_tests named_terms keys

  abbrev shows : Row → Row → Row
  shows = pair_shows 2 4 named_tests named_terms keys

  abbrev shown : Trees → List Row
  shown = shown_pairs 2 4 named_tests named_terms keys

  passing : (b : BookRow) (m : MemberRow) → passes (book_row b) (member_row m)
      ≡ (int_eq m.book b.id && (bytes_eq b.name name && bytes_eq m.uid uid))
  passing b m = then_term (at_ints false Eq m.book b.id) (then_term (at_texts false Eq b.name name
      ∙ is_eq-slice_cmp b.name name) (last_term (at_texts false Eq m.uid uid
      ∙ is_eq-slice_cmp m.uid uid)))

  module _ (db : Trees) (bs : List BookRow) (ms : List MemberRow) (books : HoldBooks (db 2) bs)
      (members : HoldMembers (db 4) ms) where
    found : (row : Row) → Has (shown db) row → FindsNamedMember name uid bs ms (Ok row)
    found row h =
        let pair = pair_of 2 4 named_tests named_terms keys db row h in
        let b = item_of book_row book_cells bs (db 2) books pair.one pair.has_one in
        let m = item_of member_row member_cells ms (db 4) members pair.two pair.has_two in
        let test : passes (book_cells pair.one) (member_cells pair.two) ≡ true = pair.passes in
        let both = three_hold _ _ _ (sym (passing b.0 m.0) ∙ sym (ap₂ passes b.2 m.2) ∙ test) in
        let cells : row ≡ shows (book_cells pair.one) (member_cells pair.two) = pair.shown in (
          b.0,
          has_passing (has_name name) bs b.0 both.0 b.1,
          (m.0, has_passing (has_uid b.0.id uid) ms m.0 both.1 m.1, cells ∙ ap₂ shows b.2 m.2),
        )

    missing : (e : Error) → shown db ≡ [] → FindsNamedMember name uid bs ms (Err e)
    missing e none b named = λ _. none_there (filter (has_uid b.id uid) ms) (λ m h.
        let there = passing_has (has_name name) bs b named in
        let kept = passing_has (has_uid b.id uid) ms m h in
        let one = row_of book_row book_cells bs (db 2) books b there.0 in
        let two = row_of member_row member_cells ms (db 4) members m kept.0 in
        let test : passes (book_cells one.0) (member_cells two.0) ≡ true =
        sym (ap₂ passes one.2 two.2) ∙ passing b m ∙ hold_three _ _ _ there.1 kept.1 in
        subst (λ rows. Has rows (shows one.0 two.0)) none (has_pair 2 4 named_tests named_terms keys
        db one.0 two.0 one.1 two.1 test))

  pub finds_named : (old new : State) (bs : List BookRow) (ms : List MemberRow) (r :
      Result Row Error) → old.now.schema ≡ book_schema → HoldBooks (old.now.trees 2) bs
      → HoldMembers (old.now.trees 4) ms
      → QueriesRow named_text keys old new r → FindsNamedMember name uid bs ms r
  unfolding QueriesRow
  finds_named old new bs ms (Ok row) has books members h =
      let got = (first_as named_text _ old new book_schema has _ named_is.0 named_is.2 named_is.1
      row h).1 in
      let db : Trees = overlay old.now.trees [] in
      found db bs ms books members row (has_moved (shown db) (row ∷ got.0) row
      (picked_pairs 2 4 named_tests named_terms keys db (row ∷ got.0) got.1) (inl refl))
  finds_named old new bs ms (Err e) has books members (inl h) =
      λ b named none. absurd (never_none named_text _ old new book_schema has _ _ named_is.0
      named_is.2 (subst (FailsToQuery named_text _ old new) none h))
  finds_named old new bs ms (Err e) has books members (inr h) =
      let got = (reads_as named_text _ old new book_schema has _ named_is.0 named_is.2 named_is.1 []
      h.1).answer in
      let db : Trees = overlay old.now.trees [] in
      missing db bs ms books members e (none_there (shown db) (λ row there. has_moved [] (shown db)
      row (IsPermutation-sym _ _ (picked_pairs 2 4 named_tests named_terms keys db [] got))
      there))

  pub named_fails : (old new : State) (r : Result Row Error) → old.now.schema ≡ book_schema
      → QueriesRow named_text keys old new r → IfErr r (λ e. e ≢ QueryReturnedNoRows
      → e ≢ SqliteFailure OutOfMemory → HasOutsideCause old new)
  unfolding understood everything
  named_fails old new r has = row_fails named_text keys old new has named_query _ named_is (
    refl,
    refl,
  ) refl (λ db h. h) refl r
