use Rattle.std.proofs.Common.{rules, ◌≡◌, is_none, map}
use Rattle.store_tables.specs.Keeps.{KeepRow}
use Rattle.store_rows.specs.SoundTables.{HasBookId}
use Rattle.store_check.specs.RowChecks.{decode_book, decode_keep}
use Rattle.store_check.proofs.FaultLemmas.{none_bad, not_all}
use Rattle.store_check.proofs.keys.are_keeps_listed.Goals as goal

pub returns : goal.returns
returns c =
    let is : c.is_none.result ≡ is_none c.first_unlisted_keep.result = search rules in
    none_bad _ c.first_unlisted_keep.result c.is_none.result is (c.first_unlisted_keep.ensures.good)
    (c.first_unlisted_keep.ensures.bad)
    (λ found bad. not_all (λ (k : KeepRow). HasBookId (map decode_book c.args.books.now) k.book)
    decode_keep c.args.keeps.now found.now bad.0 bad.1)
