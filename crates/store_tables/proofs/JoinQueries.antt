-- The SQL texts, and the programs that they compile to.
use Rattle.std.specs.Prelude.{ℕ, pos, negsuc, List, [], ◌∷◌, codes, false, None}
use Rattle.sqlite.specs.Collation.TheVariants.{Binary}
use Rattle.sqlite.specs.declared.types.Value.TheVariants.{Int}
use Rattle.sqlite.specs.Query.{Query, inner, end}
use Rattle.sqlite.specs.Term.{Term, lit, col, op2}
use Rattle.sqlite_sql.specs.declared.ops.BinaryOp.TheVariants.{Compare}
use Rattle.sqlite_sql.specs.declared.ops.CompareOp.TheVariants.{Eq}

-- two tables, with no limit
abbrev pub picks_pairs : ℕ → ℕ → List Term → List Term → Query
picks_pairs first second filter project = record {
  from = inner first (inner second end);
  filter = filter;
  group = None;
  project = project;
  distinct = false;
  collations = [];
  order = [];
  limit = lit (Int (negsuc 0));
  offset = lit (Int (pos 0));
}

abbrev pub named_text : List ℕ
named_text =
    codes
    "SELECT changed, card FROM book JOIN member ON member.book = book.id WHERE book.name = ?1 AND member.uid = ?2"

abbrev pub named_tests : List Term
named_tests = op2 (Compare Eq Binary) (col 2 1) (col 1 0) ∷ op2 (Compare Eq Binary) (col 1 2)
    (col 0 0) ∷ op2 (Compare Eq Binary) (col 2 2) (col 0 1) ∷ []

abbrev pub named_terms : List Term
named_terms = col 2 3 ∷ col 2 4 ∷ []

abbrev pub named_query : Query
named_query = picks_pairs 2 4 named_tests named_terms
