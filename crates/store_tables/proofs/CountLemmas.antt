-- The result of a count of members.
use Rattle.std.proofs.Common.{◌≡◌, ℕ, ℤ, refl, Bool, true, false, List, [], ◌∷◌, map, filter}
use Rattle.std.proofs.Common.{length, Some, Ok, Err, Result, IfErr, IfOk, sym, ap, subst, ◌∙◌}
use Rattle.std.proofs.Common.{pos, ◌≢◌}
use Rattle.std.specs.Prelude.{⊤}
use Rattle.std.specs.List.{AllZip}
use Rattle.std.specs.List.Sorted.{IsPermutation}
use Rattle.std.proofs.lemmas.List.{length-map}
use Rattle.std.proofs.lemmas.List.Sorted.{IsPermutation-refl, length_permutation}
use Rattle.std.proofs.lemmas.List.Elements.{filter_agree}
use Rattle.sqlite.specs.declared.types.Value.TheVariants.{Null, Int, Text}
use Rattle.sqlite.specs.declared.error.Error.{Error}
use Rattle.sqlite.specs.Order.{Row, column}
use Rattle.sqlite.specs.Tree.{Trees}
use Rattle.sqlite.specs.Term.{Env}
use Rattle.sqlite.specs.Program.{overlay}
use Rattle.sqlite.specs.Query.{IsSureAnswer, IsAnswer, Output, output}
use Rattle.sqlite.specs.State.{HasCleanDisk, IsUnchanged, QueriesRow, State}
use Rattle.sqlite.proofs.Callers.{first_as, one_permutation}
use Rattle.sqlite_sql.specs.Group.{Grouping, IsSummary, Aggregate, value_over}
use Rattle.sqlite_sql.specs.declared.aggregate.AggregateOp.TheVariants.{CountRows}
use Rattle.sqlite.specs.Collation.TheVariants.{Binary}
use Rattle.sqlite.specs.Term.{Term, lit, col}
use Rattle.sqlite_trees.proofs.ListLemmas.{filter-map, IsPermutation-filter}
use Rattle.sqlite_sql.specs.declared.ops.CompareOp.TheVariants.{Eq, Gt}
use Rattle.sqlite_typed.proofs.TestLemmas.{at_ints, at_is_null, then_term, last_term}
use Rattle.store_tables.specs.Tables.{book_schema}
use Rattle.store_tables.proofs.Queries.{count_text, count_tests, counting, books_count_text}
use Rattle.store_tables.specs.QueryResults.{IfAnswered, count_value, counted}
use Rattle.store_tables.specs.Failures.{FailsFromOutside}
use Rattle.store_tables.specs.Reads.{ReadsTables}
use Rattle.store_tables.specs.StatementEffects.{GivenTables}
use Rattle.store_tables.proofs.ReturningLemmas.{if_err_weaker}
use Rattle.sqlite.specs.declared.error.Error.TheVariants.{SqliteFailure}
use Rattle.sqlite.specs.declared.error.ErrorCode.TheVariants.{OutOfMemory}
use Rattle.store_tables.specs.Members.{MemberRow, member_row, member_cells, HoldMembers}
use Rattle.store_tables.specs.Members.{is_removed_above}
use Rattle.store_tables.proofs.Texts.{count_is, books_count_is}
use Rattle.store_tables.specs.Books.{BookRow, book_row, book_cells, HoldBooks}
use Rattle.store_tables.proofs.Picks.{passes, flat_filter}
use Rattle.sqlite.specs.Command.TheVariants.{Select}
use Rattle.sqlite.specs.Listing.{understood, reads_listing}
use Rattle.sqlite.proofs.Callers.{IsPlain, command_of}
use Rattle.store_tables.proofs.ForgetLemmas.{null_first, gone_card}

abbrev counter : Aggregate
counter = record { op = CountRows; distinct = false; collation = Binary; argument = lit Null }

abbrev counters : Grouping
counters = record { keys = []; collations = []; aggregates = counter ∷ []; having = [] }

values_are : (order : List Env) (values : Row)
    → AllZip (λ a v. value_over order a ≡ Some v) (counter ∷ []) values
    → values ≡ count_value (length order) ∷ []
values_are order [] h = absurd h
values_are order (v ∷ []) h =
    let e : count_value (length (map (Rattle.sqlite.specs.Term.eval (lit Null)) order)) ≡ v =
    ap (λ o. Rattle.std.specs.Option.unwrap_or o Null) h.0 in
    ap (λ x. x ∷ []) (sym e) ∙ ap (λ n. count_value n ∷ [])
    (length-map order (Rattle.sqlite.specs.Term.eval (lit Null)))
values_are order (v ∷ w ∷ more) h = absurd h.1

rows_are : (order : List Env) (rows : List Row) → AllZip (IsSummary counters) (order ∷ []) rows
    → rows ≡ (count_value (length order) ∷ []) ∷ []
rows_are order [] h = absurd h
rows_are order (row ∷ []) h = ap (λ r. r ∷ []) (h.0.2 ∙ values_are order h.0.0 h.0.1)
rows_are order (row ∷ other ∷ more) h = absurd h.1

pub every : {X : Type 0} (xs : List X) → filter (λ (x : X). true) xs ≡ xs
every [] = refl
every (x ∷ xs) = ap (λ l. x ∷ l) (every xs)

head_of : Row → List Row → Row
head_of d [] = d
head_of d (r ∷ rs) = r

module _ {X : Type 0} (tree : ℕ) (tests : List Term) (params : Row) (cells : Row → Row) (stored : X
    → Row) (test : X → Bool) where
  abbrev p : Row → Bool
  p = passes tree tests (col 1 0 ∷ []) (λ _. []) params

  module _ (tested : (r : Row) → p (cells r) ≡ p r) (passing : (x : X) → p (stored x) ≡ test x)
      (xs : List X) where
    many : (rows : List Row) → IsPermutation (map stored xs) (map cells rows)
        → length (filter p rows) ≡ length (filter test xs)
    many rows has =
        sym (length-map (filter p rows) cells)
        ∙ ap length (sym (filter-map p cells rows
        ∙ ap (map cells) (filter_agree (λ r. p (cells r)) p tested rows)))
        ∙ length_permutation _ _ (IsPermutation-filter p _ _ has)
        ∙ ap length (filter-map p stored xs ∙ (λ i. map stored (filter (λ x. passing x i) xs)))
        ∙ length-map (filter test xs) stored

    pub counts : (db : Trees) → IsPermutation (map stored xs) (map cells (db tree))
        → (rows : List Row) → IsSureAnswer (counting tree tests) db params rows
        → rows ≡ (count_value (length (filter test xs)) ∷ []) ∷ []
    counts db has rows h =
        let a : IsAnswer (counting tree tests) db params rows = h Null in
        let order = a.grouped.grouping.0 in
        let same : IsPermutation (map (λ r. params ∷ r ∷ []) (filter p (db tree))) order =
        subst (λ all. IsPermutation all order) (flat_filter p (λ r. params ∷ r ∷ []) (db tree))
        a.grouped.grouping.1 in
        let number : length order ≡ length (filter test xs) = length_permutation _ order same
        ∙ length-map (filter p (db tree)) (λ r. params ∷ r ∷ []) ∙ many (db tree) has in
        let answer = rows_are order a.grouped.rows
        (subst (λ groups. AllZip (IsSummary counters) groups a.grouped.rows)
        a.grouped.grouping.2 a.grouped.summaries) in
        let staged : a.staged ≡ (params ∷ (count_value (length order) ∷ []) ∷ []) ∷ [] =
        a.grouped.having ∙ ap (λ l. filter (λ (env : Env). true) (map (λ r. params ∷ r ∷ []) l))
        answer in
        let kept : a.kept ≡ ([], count_value (length order) ∷ []) ∷ [] = a.distinct
        ∙ ap (map (output (counting tree tests))) staged in
        let ordered = one_permutation ([], count_value (length order) ∷ []) a.ordered
        (subst (λ l. IsPermutation l a.ordered) kept a.same) in
        a.shown ∙ ap (map (λ (o : Output). o.1)) ordered
        ∙ ap (λ n. (count_value n ∷ []) ∷ []) number

    pub counts_row : (sql : List ℕ) (names : List (List ℕ))
        (is : (command_of (understood book_schema sql) ≡ Select (record {
          lets = [];
          body = counting tree tests;
        }) names) × (reads_listing book_schema sql ≡ false)
        × IsPlain (understood book_schema sql))
        (old new : State) (over : overlay old.now.trees [] tree ≡ old.now.trees tree) (r :
        Result Row Error) → old.now.schema ≡ book_schema
        → IsPermutation (map stored xs) (map cells (old.now.trees tree))
        → QueriesRow sql params old new r
        → IfOk r (λ row. row ≡ count_value (length (filter test xs)) ∷ [])
    unfolding head_of
    counts_row sql names is old new over (Ok row) schema has h =
        let got = (first_as sql _ old new book_schema schema _ is.0 is.2 is.1 row h).1 in
        ap (head_of row) (counts (overlay old.now.trees [])
        (subst (λ rows. IsPermutation (map stored xs) (map cells rows)) (sym over) has)
        (row ∷ got.0) got.1)
    counts_row sql names is old new over (Err e) schema has h = tt

pub counts_removed : (old new : State) (book horizon : ℤ) (ms : List MemberRow) (r :
    Result Row Error) → old.now.schema ≡ book_schema → HoldMembers (old.now.trees 4) ms
    → QueriesRow count_text (Int book ∷ Int horizon ∷ []) old new r
    → IfOk r (λ row. row ≡ count_value (length (filter (is_removed_above book horizon) ms)) ∷
    [])
counts_removed old new book horizon ms r schema has =
    counts_row 4 count_tests (Int book ∷ Int horizon ∷ []) member_cells member_row
    (is_removed_above book horizon) (λ _. refl)
    (λ m. then_term (at_ints false Eq m.book book)
    (then_term (at_is_null Text false null_first m.card ∙ gone_card m.card)
    (last_term (at_ints false Gt m.changed horizon))))
    ms count_text _ count_is old new refl r schema has

pub counts_books : (old new : State) (bs : List BookRow) (r : Result Row Error)
    → old.now.schema ≡ book_schema → HoldBooks (old.now.trees 2) bs
    → QueriesRow books_count_text [] old new r → IfOk r (λ row. row ≡ count_value (length bs) ∷ [])
counts_books old new bs r schema has h =
    subst (λ n. IfOk r (λ row. row ≡ count_value n ∷ [])) (ap length (every bs))
    (counts_row 2 [] [] book_cells book_row (λ _. true) (λ _. refl) (λ _. refl) bs books_count_text
    _ books_count_is old new refl r schema has h)

-- every row of a query that counts is a count
pub some_count : (sql : List ℕ) (params : Row) (old new : State) (tree : ℕ) (tests : List Term)
    (names : List (List ℕ)) (is : (command_of (understood book_schema sql) ≡ Select (record {
      lets = [];
      body = counting tree tests;
    }) names) × (reads_listing book_schema sql ≡ false) × IsPlain (understood book_schema sql))
    (over : overlay old.now.trees [] tree ≡ old.now.trees tree) (row : Row)
    → old.now.schema ≡ book_schema → QueriesRow sql params old new (Ok row)
    → (n : ℕ) × (row ≡ count_value n ∷ [])
some_count sql params old new tree tests names is over row schema h = (
  _,
  counts_row {X = Row} tree tests params (λ r. r) (λ r. r)
      (passes tree tests (col 1 0 ∷ []) (λ _. []) params) (λ _. refl) (λ _. refl)
      (old.now.trees tree) sql names is old new over (Ok row) schema (IsPermutation-refl _) h,
)

-- the count in such a row
pub count_read : (row : Row) (n k : ℕ) → row ≡ count_value n ∷ [] → column row 0 ≡ Int (pos k)
    → k ≡ counted n
count_read row n k is there =
    let same : Int (pos (counted n)) ≡ Int (pos k) = ap (λ r. column r 0) (sym is) ∙ there in cc

-- a fact that holds after each answer
answered : (r : Result ℕ Error) (Fact : Type 0) → Fact → IfAnswered r Fact
answered (Ok n) Fact h = h
answered (Err e) Fact h = λ none. h

-- a query that counts, and then the count in its row
pub counts_then : (old new : State) (row : Row) (r : Result ℕ Error)
    → ReadsTables {T = Row} old new (Ok row) ⊤
    → (HasCleanDisk new → old.now.schema ≡ book_schema → (n : ℕ) × (row ≡ count_value n ∷ []))
    → ((n : ℕ) → row ≡ count_value n ∷ [] → IfErr r (λ e. e ≢ SqliteFailure OutOfMemory → ⊥))
    → ReadsTables old new r ⊤
counts_then old new row r query some memory = record {
  returns = tt;
  unchanged = λ clean has. answered r (IsUnchanged old new) (query.unchanged clean has);
  fails_from_outside = λ clean has.
      let it = some clean has in
      if_err_weaker r (λ e none room. absurd (none room)) (memory it.0 it.1);
  reads_only = query.reads_only;
}

-- a query that counts and fails
pub count_fails_as : (old new : State) (e : Error) (r : Result ℕ Error)
    → ReadsTables {T = Row} old new (Err e) ⊤ → r ≡ Err e → ReadsTables old new r ⊤
count_fails_as old new e r query is = record {
  returns = tt;
  unchanged = subst (λ it. GivenTables old new (IfAnswered it (IsUnchanged old new))) (sym is)
      query.unchanged;
  fails_from_outside = subst (FailsFromOutside old new) (sym is) query.fails_from_outside;
  reads_only = query.reads_only;
}
