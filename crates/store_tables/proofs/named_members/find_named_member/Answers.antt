use Rattle.sqlite.specs.Held.{state}
use Rattle.store_tables.proofs.Lookups.{looks_up}
use Rattle.store_tables.proofs.JoinQueries.{named_text}
use Rattle.store_tables.proofs.JoinTexts.{named_is, named_selects}
use Rattle.store_tables.proofs.NamedMemberLemmas.{finds_named, named_fails}
use Rattle.store_tables.proofs.named_members.find_named_member.Goals as goal

pub returns : goal.returns
returns g c =
    let old = state g.S.Store c.args.conn.now in
    let new = state g.S.Store c.query_row.new.self in
    let rest = looks_up named_text _ old new named_selects named_is c.query_row.ensures.mode
    c.query_row.ensures.survives c.query_row.result c.query_row.ensures.row
    (λ clean has. named_fails c.args.name.now c.args.uid.now old new c.query_row.result has
    (rw (
      c.params-to_sql.ensures,
      c.params-to_sql-2.ensures,
    ) at (c.query_row.ensures.row clean))) in
    record {
      returns = λ bs ms clean has books members. finds_named c.args.name.now c.args.uid.now old new
          bs
          ms c.query_row.result has books members
          (rw (
            c.params-to_sql.ensures,
            c.params-to_sql-2.ensures,
          ) at (c.query_row.ensures.row clean));
      unchanged = rest.unchanged;
      fails_from_outside = rest.fails_from_outside;
      reads_only = rest.reads_only;
    }
