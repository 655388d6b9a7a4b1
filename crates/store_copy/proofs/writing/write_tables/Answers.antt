use Rattle.std.proofs.Common.{rules, ◌≡◌, subst}
use Rattle.std.specs.Prelude.{OnOk}
use Rattle.std.proofs.lemmas.Result.{on_ok_weaker}
use Rattle.sqlite.specs.Held.{state}
use Rattle.sqlite.proofs.Callers.{survives_begin}
use Rattle.store_copy.specs.OnConnections.{CommitsWhole}
use Rattle.store_copy.proofs.WriteLemmas.{committed, uncommitted}
use Rattle.store_copy.proofs.writing.write_tables.Goals as goal

pub returns-clause-crash : goal.returns-clause-crash
returns-clause-crash g c =
    let old = c.args.conn.now in
    let end = c.commit.new.self.0 in
    let same : end ≡ c.conn-2-1.given.0 = search rules in
    let begun = state g.S.Store c.transaction-tx.result.conn.now in
    let mid = state g.S.Store c.insert_rows.new.tx.conn.now in
    let front = uncommitted begun (state g.S.Store c.create_tables.new.tx.conn.now) mid
    c.create_tables.ensures.no_commit.survives c.insert_rows.ensures.survives in
    let whole = committed begun mid (state g.S.Store end) c.commit.result front
    c.commit.ensures.survives c.commit.ensures.ok in
    let all = rw c.transaction-tx.ensures.begun at whole in
    subst (λ k. OnOk c.commit.result (CommitsWhole g.S.Store old k)) same
    (on_ok_weaker c.commit.result (survives_begin g.S.Store old (state g.S.Store end)
    (λ trees. trees ≡ (state g.S.Store end).now.trees)) all)
