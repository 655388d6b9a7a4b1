use Rattle.std.proofs.Common.{refl}
use Rattle.sqlite.specs.Held.{state}
use Rattle.store_tables.proofs.Queries.{all_members_text, all_members_terms}
use Rattle.store_tables.proofs.Texts.{all_members_is, all_members_selects}
use Rattle.store_tables.proofs.ListLemmas.{lists_rows}
use Rattle.store_tables.proofs.Lookups.{all_reads}
use Rattle.store_copy.proofs.reading.list_members.Goals as goal

pub returns-clause-lists : goal.returns-clause-lists
returns-clause-lists g c clean has =
    lists_rows all_members_text 4 all_members_terms _ all_members_is (λ _. refl)
    (state g.S.Store c.args.conn.now) (state g.S.Store c.query_all.new.self) c.query_all.result has
    (c.query_all.ensures.ok clean)

pub returns-clause-reads_only : goal.returns-clause-reads_only
returns-clause-reads_only g c = all_reads all_members_text _ (state g.S.Store c.args.conn.now)
    (state g.S.Store c.query_all.new.self) c.query_all.result all_members_selects all_members_is.2
    c.query_all.ensures.ok c.query_all.ensures.err c.query_all.ensures.mode
    c.query_all.ensures.survives
