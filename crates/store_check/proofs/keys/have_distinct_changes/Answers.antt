use Rattle.std.proofs.Common.{◌≡◌, false}
use Rattle.std.proofs.lemmas.Result.{IfOk-weaker}
use Rattle.store_tables.specs.Members.{MemberRow}
use Rattle.store_rows.specs.TableRows.{load_member}
use Rattle.store_check.specs.BookChecks.{is_written_by}
use Rattle.store_check.proofs.DistinctLemmas.{mapped_keys}
use Rattle.store_check.proofs.keys.have_distinct_changes.Goals as goal

pub returns : goal.returns
returns c = IfOk-weaker c.have_distinct_book_numbers.result _ _
    (mapped_keys (λ (a b : MemberRow). is_written_by a.book a.changed b ≡ false) load_member
    c.args.members.now) c.have_distinct_book_numbers.ensures
