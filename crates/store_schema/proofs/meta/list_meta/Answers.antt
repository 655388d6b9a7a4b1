use Rattle.sqlite.specs.Held.{state}
use Rattle.store_schema.proofs.MetaLemmas.{changes_nothing, lists_meta, meta_fails, meta_unchanged}
use Rattle.store_schema.proofs.meta.list_meta.Goals as goal

pub returns-clause-lists : goal.returns-clause-lists
returns-clause-lists g c clean store =
    lists_meta (state g.S.Store c.args.conn.now) (state g.S.Store c.query_all.new.self)
    c.query_all.result store (c.query_all.ensures.ok clean)

pub returns-clause-unchanged : goal.returns-clause-unchanged
returns-clause-unchanged g c clean store =
    meta_unchanged (state g.S.Store c.args.conn.now) (state g.S.Store c.query_all.new.self)
    c.query_all.result store (c.query_all.ensures.ok clean)

pub returns-clause-reads_only : goal.returns-clause-reads_only
returns-clause-reads_only g c store =
    changes_nothing (state g.S.Store c.args.conn.now) (state g.S.Store c.query_all.new.self)
    c.query_all.result store c.query_all.ensures.ok c.query_all.ensures.err
    c.query_all.ensures.mode c.query_all.ensures.survives

pub returns-clause-fails_from_outside : goal.returns-clause-fails_from_outside
returns-clause-fails_from_outside g c clean store =
    meta_fails (state g.S.Store c.args.conn.now) (state g.S.Store c.query_all.new.self)
    c.query_all.result store (c.query_all.ensures.err clean)
