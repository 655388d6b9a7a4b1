use Rattle.std.proofs.Common.{refl}
use Rattle.sqlite.specs.Held.{state}
use Rattle.store_tables.proofs.Lookups.{reads_rows}
use Rattle.store_tables.proofs.Queries.{all_keeps_text, all_keeps_terms}
use Rattle.store_tables.proofs.Texts.{all_keeps_is, all_keeps_selects}
use Rattle.store_tables.proofs.ListLemmas.{lists_rows}
use Rattle.store_tables.proofs.QueryFailures.{all_keeps_fails}
use Rattle.store_tables.proofs.keeps.all_keeps.Goals as goal

pub returns : goal.returns
returns g c =
    let old = state g.S.Store c.args.conn.now in
    let new = state g.S.Store c.query_all.new.self in
    let rest = reads_rows all_keeps_text _ old new all_keeps_selects all_keeps_is
    c.query_all.ensures.mode
    c.query_all.ensures.survives c.query_all.result c.query_all.ensures.ok c.query_all.ensures.err
    (λ clean has. all_keeps_fails old new c.query_all.result has
    (c.query_all.ensures.err clean)) in
    record {
      returns = λ clean has. lists_rows all_keeps_text 9 all_keeps_terms _ all_keeps_is (λ _. refl)
          old new
          c.query_all.result has (c.query_all.ensures.ok clean);
      unchanged = rest.unchanged;
      fails_from_outside = rest.fails_from_outside;
      reads_only = rest.reads_only;
    }
