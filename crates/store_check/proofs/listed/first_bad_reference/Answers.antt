use Rattle.std.proofs.Common.{map}
use Rattle.store_check.specs.RowChecks.{decode_book, decode_keep}
use Rattle.store_check.proofs.FaultLemmas.{none_listed}
use Rattle.store_check.proofs.listed.first_bad_reference.Goals as goal

pub returns-in-Some-first_unlisted_keep-clause-bad :
    goal.returns-in-Some-first_unlisted_keep-clause-bad
returns-in-Some-first_unlisted_keep-clause-bad c members =
    let keep = c.in-Some-first_unlisted_keep in (
      keep.ensures.bad.0,
      none_listed (map decode_book c.args.books.now)
          (decode_keep keep.row.now).book keep.ensures.bad.1,
    )
