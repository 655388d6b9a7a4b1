use Rattle.std.proofs.Common.{rules, ◌≡◌, true, false, map}
use Rattle.std.proofs.lemmas.Result.{IfOk-weaker}
use Rattle.store_check.specs.RowChecks.{decode_book}
use Rattle.store_check.specs.StoredTests.{HaveMemberKeys, PassBookTests}
use Rattle.store_check.proofs.TallyLemmas.{distinct_ids}
use Rattle.store_check.proofs.TestedLemmas.{fails_one, last_decides}
use Rattle.store_check.proofs.tables.are_well_stored.Goals as goal

pub returns-then-not-branch : goal.returns-then-not-branch
returns-then-not-branch c =
    let none : c.in_ok-pass_book_tests.field-0 ≡ false = search rules in
    fails_one c.args.limits c.args.books.now c.args.members.now c.args.imports.now c.args.keeps.now
    (PassBookTests c.args.limits c.args.books.now c.args.imports.now c.args.keeps.now)
    c.in_ok-pass_book_tests.field-0 c.in_ok-pass_book_tests.ensures none (λ t. t.own)

pub returns-then-not-branch-2 : goal.returns-then-not-branch-2
returns-then-not-branch-2 c =
    let none : c.in_ok-have_all_member_keys.field-0 ≡ false = search rules in
    fails_one c.args.limits c.args.books.now c.args.members.now c.args.imports.now c.args.keeps.now
    (HaveMemberKeys c.args.members.now)
    c.in_ok-have_all_member_keys.field-0 c.in_ok-have_all_member_keys.ensures none (λ t. t.keys)

pub returns : goal.returns
returns c =
    let own : c.in_ok-pass_book_tests.field-0 ≡ true = search rules in
    let keys : c.in_ok-have_all_member_keys.field-0 ≡ true = search rules in
    let passed = c.in_ok-pass_book_tests.ensures.0 own in
    IfOk-weaker c.pass_member_tests.result _ _ (λ yes h. last_decides c.args.limits c.args.books.now
    c.args.members.now c.args.imports.now c.args.keeps.now yes passed
    (c.in_ok-have_all_member_keys.ensures.0 keys)
    (h (distinct_ids (map decode_book c.args.books.now) passed.book_keys)))
    c.pass_member_tests.ensures
