use Rattle.std.proofs.Common.{refl}
use Rattle.sqlite.specs.Held.{state}
use Rattle.store_tables.proofs.Lookups.{reads_rows}
use Rattle.store_tables.proofs.Queries.{all_imports_text, all_imports_terms}
use Rattle.store_tables.proofs.Texts.{all_imports_is, all_imports_selects}
use Rattle.store_tables.proofs.ListLemmas.{lists_rows}
use Rattle.store_tables.proofs.QueryFailures.{all_imports_fails}
use Rattle.store_tables.proofs.imports.all_imports.Goals as goal

pub returns : goal.returns
returns g c =
    let old = state g.S.Store c.args.conn.now in
    let new = state g.S.Store c.query_all.new.self in
    let rest = reads_rows all_imports_text _ old new all_imports_selects all_imports_is
    c.query_all.ensures.mode
    c.query_all.ensures.survives c.query_all.result c.query_all.ensures.ok c.query_all.ensures.err
    (λ clean has. all_imports_fails old new c.query_all.result has
    (c.query_all.ensures.err clean)) in
    record {
      returns = λ clean has. lists_rows all_imports_text 7 all_imports_terms _ all_imports_is (λ _.
          refl) old new
          c.query_all.result has (c.query_all.ensures.ok clean);
      unchanged = rest.unchanged;
      fails_from_outside = rest.fails_from_outside;
      reads_only = rest.reads_only;
    }
