-- The results of the ordered queries over members.
use Rattle.std.proofs.Common.{◌≡◌, ℕ, ℤ, pos, false, true, not, List, [], ◌∷◌, filter, Option, Some}
use Rattle.std.proofs.Common.{None, is_some, IfOk, Result, refl, ◌∙◌}
use Rattle.std.specs.declared.alloc.Global.{Global}
use Rattle.std.specs.Prelude.{Vec}
use Rattle.sqlite.specs.declared.error.Error.{Error}
use Rattle.sqlite.specs.declared.types.Value.TheVariants.{Int, Text}
use Rattle.sqlite.specs.Order.{Row}
use Rattle.sqlite.specs.Query.{output_cmp}
use Rattle.sqlite.specs.State.{State, Shown, QueriesRow}
use Rattle.sqlite_sql.specs.declared.ops.CompareOp.TheVariants.{Eq, Gt}
use Rattle.sqlite_typed.proofs.TestLemmas.{at_ints, at_or, at_not, at_is_null, then_term, last_term}
use Rattle.sqlite_value.proofs.OrderLemmas.{value_cmp-Int, then-Equal}
use Rattle.store_tables.specs.QueryResults.{AreFirstRowsInOrder, AreRowsInOrder, FindsFirstRow}
use Rattle.store_tables.specs.Members.{MemberRow, member_row, member_cells, HoldMembers}
use Rattle.store_tables.specs.Members.{is_member_due, is_in_book, is_removed_above, member_shown}
use Rattle.store_tables.specs.Members.{number_shown, by_changed}
use Rattle.store_tables.specs.Tables.{book_schema}
use Rattle.store_tables.proofs.ForgetLemmas.{null_first, gone_card}
use Rattle.store_tables.proofs.OrderLemmas.{first_of, first_row, all_of}
use Rattle.store_tables.proofs.Picks.{passes}
use Rattle.store_tables.proofs.Queries.{due_text, due_query, due_tests, count_tests, removed_text}
use Rattle.store_tables.proofs.Queries.{removed_query, members_text, members_query}
use Rattle.store_tables.proofs.Texts.{due_is, removed_is, members_is}

by_change : (a b : MemberRow) → output_cmp due_query (number_shown a, member_shown a)
    (number_shown b, member_shown b) ≡ by_changed a b
by_change a b = then-Equal _ ∙ value_cmp-Int a.changed b.changed

there : (card : Option (List ℕ)) → not (Rattle.sqlite_typed.specs.Tests.is_none card) ≡ is_some card
there None = refl
there (Some t) = refl

-- the first due members
pub due_first : (old new : State) (book at base : ℤ) (most : ℕ) (ms : List MemberRow) (r :
    Result (Vec Row Global) Error) → old.now.schema ≡ book_schema → HoldMembers (old.now.trees 4) ms
    → IfOk r (λ rows. Shown due_text (Int book ∷ Int at ∷ Int base ∷ Int (pos most) ∷ []) old new
    rows.items)
    → IfOk r (λ rows. AreFirstRowsInOrder by_changed member_shown most
    (filter (is_member_due book at base) ms) rows.items)
due_first old new book at base most ms r schema has =
    let asked : Row = Int book ∷ Int at ∷ Int base ∷ Int (pos most) ∷ [] in
    let passing : (m : MemberRow) → passes 4 due_tests due_query.project (λ _. []) asked
    (member_row m) ≡ is_member_due book at base m = λ m.
    then_term (at_ints false Eq m.book book) (then_term (at_ints false Gt m.changed at)
    (last_term (at_or false _ _ (at_not false _ (at_is_null Text true null_first m.card)
    ∙ there m.card) (at_ints false Gt m.changed base)))) in
    first_of 4 due_tests due_query.project due_query.order asked member_cells member_row
    number_shown member_shown (is_member_due book at base) by_changed
    (λ _. refl) (λ _. refl) passing (λ _. refl) by_change due_query.limit most refl due_text _
    due_is (λ _. refl) old ms schema has new r

-- the least removed row
pub removed_first : (old new : State) (book horizon : ℤ) (ms : List MemberRow) (r :
    Result Row Error) → old.now.schema ≡ book_schema → HoldMembers (old.now.trees 4) ms
    → QueriesRow removed_text (Int book ∷ Int horizon ∷ []) old new r
    → FindsFirstRow by_changed number_shown (filter (is_removed_above book horizon) ms) r
removed_first old new book horizon ms r schema has =
    first_row 4 count_tests removed_query.project removed_query.order (Int book ∷ Int horizon ∷ [])
    member_cells member_row number_shown number_shown (is_removed_above book horizon) by_changed
    (λ _. refl) (λ _. refl) (λ m. then_term (at_ints false Eq m.book book)
    (then_term (at_is_null Text false null_first m.card ∙ gone_card m.card)
    (last_term (at_ints false Gt m.changed horizon)))) (λ _. refl)
    by_change removed_text _ removed_is (λ _. refl) old ms schema has new r

-- the members of a book
pub members_in_order : (old new : State) (book : ℤ) (ms : List MemberRow) (r :
    Result (Vec Row Global) Error) → old.now.schema ≡ book_schema → HoldMembers (old.now.trees 4) ms
    → IfOk r (λ rows. Shown members_text (Int book ∷ []) old new rows.items)
    → IfOk r (λ rows. AreRowsInOrder by_changed member_shown (filter (is_in_book book) ms)
    rows.items)
members_in_order old new book ms r schema has =
    all_of 4 members_query.filter members_query.project members_query.order (Int book ∷ [])
    member_cells member_row number_shown member_shown (is_in_book book) by_changed
    (λ _. refl) (λ _. refl) (λ m. last_term (at_ints false Eq m.book book)) (λ _. refl)
    by_change members_text _ members_is (λ _. refl) old ms schema has new r
