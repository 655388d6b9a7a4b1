use Rattle.std.proofs.Common.{rules, inl, ◌≡◌, Err, IfErr, None, map, subst, sym}
use Rattle.sqlite.specs.Held.{state}
use Rattle.store_schema.specs.OpenFaults.{ComesFromOutside}
use Rattle.store_check.specs.FaultSearches.{ChecksListed}
use Rattle.store_check.specs.MemberScans.{TestedMembers}
use Rattle.store_check.specs.RowChecks.{decode_book}
use Rattle.store_check.specs.StoredTests.{PassBookTests}
use Rattle.store_check.proofs.TallyLemmas.{distinct_ids}
use Rattle.store_check.proofs.OpenLemmas.{ours_of_held}
use Rattle.store_check.proofs.TestedLemmas.{legal_names, listed_faulty, own_of_held, tested_faulty}
use Rattle.store_check.proofs.TestedLemmas.{tests_pass}
use Rattle.store_check.proofs.opening.check_all_rows.Goals as goal

pub returns-in-Some-clause-answers : goal.returns-in-Some-clause-answers
returns-in-Some-clause-answers g c clean says up listed =
    let all = c.args.listed.now in
    let found = subst (ChecksListed c.args.limits all.books.items all.imports.items all.keeps.items)
    c.in-Some.is c.in_ok-faulty.ensures.tests in
    listed_faulty c.args.limits (state g.S.Store c.args.conn.now).now all.books.items
    all.imports.items all.keeps.items says listed c.in-Some.faulty found

pub returns-in_ok-list_counts-in-Ok-clause-answers :
    goal.returns-in_ok-list_counts-in-Ok-clause-answers
returns-in_ok-list_counts-in-Ok-clause-answers g c clean says up listed =
    let all = c.args.listed.now in
    let db = (state g.S.Store c.args.conn.now).now in
    let none : c.in_ok-faulty.field-0 ≡ None = search rules in
    let own : PassBookTests c.args.limits all.books.items all.imports.items all.keeps.items =
    subst (ChecksListed c.args.limits all.books.items all.imports.items all.keeps.items) none
    c.in_ok-faulty.ensures.tests in
    let tested = c.in_ok-tallies.ensures.tests clean says.schema
    (distinct_ids (map decode_book all.books.items) own.book_keys) in
    let found = subst (TestedMembers (db.trees 4) c.args.limits all.books.items all.keeps.items)
    c.in-Ok.is tested in
    tests_pass c.args.limits db all.books.items all.imports.items all.keeps.items says listed
    (c.assert_rows_obey.ensures up says.schema) own
    c.in-Ok.tallies c.in_ok-list_counts-in-Ok.field-0.items found (search rules)

pub returns-in-Err-clause-answers : goal.returns-in-Err-clause-answers
returns-in-Err-clause-answers g c clean says up listed =
    let all = c.args.listed.now in
    let db = (state g.S.Store c.args.conn.now).now in
    let none : c.in_ok-faulty.field-0 ≡ None = search rules in
    let own : PassBookTests c.args.limits all.books.items all.imports.items all.keeps.items =
    subst (ChecksListed c.args.limits all.books.items all.imports.items all.keeps.items) none
    c.in_ok-faulty.ensures.tests in
    let tested = c.in_ok-tallies.ensures.tests clean says.schema
    (distinct_ids (map decode_book all.books.items) own.book_keys) in
    let found = subst (TestedMembers (db.trees 4) c.args.limits all.books.items all.keeps.items)
    c.in-Err.is tested in
    tested_faulty c.args.limits db all.books.items all.imports.items all.keeps.items says listed
    c.in-Err.faulty found

pub returns-in_err-faulty-clause-opens : goal.returns-in_err-faulty-clause-opens
returns-in_err-faulty-clause-opens g c clean held listed =
    let all = c.args.listed.now in
    let old = state g.S.Store c.args.conn.now in
    let own = own_of_held c.args.limits old.now all.books.items all.imports.items all.keeps.items
    (ours_of_held c.args.limits old.now held) listed held in
    let said : c.from_residual.result ≡ Err c.in_err-faulty.field-0.0 = search rules in
    subst (λ r. IfErr r (ComesFromOutside old old)) (sym said)
    (inl (c.in_err-faulty.ensures.passed own))

pub returns-in_err-tallies-clause-opens : goal.returns-in_err-tallies-clause-opens
returns-in_err-tallies-clause-opens g c clean held listed =
    let old = state g.S.Store c.args.conn.now in
    let new = state g.S.Store c.check_members.new.conn in
    let rows = held.holds in
    let said : c.from_residual-in_err-tallies.result ≡ Err c.in_err-tallies.field-0.0 =
    search rules in
    subst (λ r. IfErr r (ComesFromOutside old new)) (sym said)
    (c.in_err-tallies.ensures.fails_from_outside held.rows.members clean rows.schema rows.members
    held.well_formed.sound.members)

pub returns-in_err-list_counts-in-Ok-clause-opens :
    goal.returns-in_err-list_counts-in-Ok-clause-opens
returns-in_err-list_counts-in-Ok-clause-opens g c clean held listed =
    let all = c.args.listed.now in
    let old = state g.S.Store c.args.conn.now in
    let own = own_of_held c.args.limits old.now all.books.items all.imports.items all.keeps.items
    (ours_of_held c.args.limits old.now held) listed held in
    let legal = legal_names c.args.limits old.now all.books.items all.imports.items all.keeps.items
    (ours_of_held c.args.limits old.now held) listed held in
    let said : c.from_residual-in_err-list_counts-in-Ok.result
    ≡ Err c.in_err-list_counts-in-Ok.field-0.0 = search rules in
    subst (λ r. IfErr r (ComesFromOutside old (state g.S.Store c.check_members.new.conn)))
    (sym said) (inl (c.in_err-list_counts-in-Ok.ensures.legal (rw (← c.as_slice.ensures.value)
    at legal)))
