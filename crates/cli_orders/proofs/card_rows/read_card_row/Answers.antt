use Rattle.std.proofs.Common.{◌∙◌, ◌∷◌, [], arith, sym}
use Rattle.csv.specs.Records.{fields_of}
use Rattle.cli_orders.proofs.RowReaderLemmas.{fewer_rows, found_row, missing_row, no_rows}
use Rattle.cli_orders.proofs.RowReaderLemmas.{other_header}
use Rattle.cli_orders.proofs.card_rows.read_card_row.Goals as goal

pub returns-then-not-branch-clause-none : goal.returns-then-not-branch-clause-none
returns-then-not-branch-clause-none c = λ n.
    no_rows c.args.octets.now c.args.number (c.in_ok-read_next.ensures.end c.args.octets.now []
    c.reader_of-reader.ensures c.if-not-branch.true)

pub returns-then-not-is_card_header-clause-none : goal.returns-then-not-is_card_header-clause-none
returns-then-not-is_card_header-clause-none c = λ n.
    other_header c.read_next.new.reader c.args.octets.now (fields_of c.read_next.new.row)
    c.args.number
    (c.in_ok-read_next.ensures.more c.args.octets.now [] c.reader_of-reader.ensures
    c.if-not-branch.false)
    (λ same. cc (sym c.if-not-is_card_header.true ∙ c.is_card_header.ensures.1 same))

pub returns-then-not-branch-2-clause-none : goal.returns-then-not-branch-2-clause-none
returns-then-not-branch-2-clause-none c = λ n.
    let after = c.in_ok-read_next.ensures.more c.args.octets.now [] c.reader_of-reader.ensures
    c.if-not-branch.false in
    let fewer = c.in_ok-skip_rows.ensures.end c.args.octets.now (fields_of c.read_next.new.row ∷ [])
    after c.if-not-branch-2.true in
    fewer_rows c.args.octets.now (fields_of c.read_next.new.row) c.args.number fewer.others
    (omega (arith, fewer.fewer)) fewer.are_rows

pub returns-clause-found : goal.returns-clause-found
returns-clause-found c =
    let after = c.in_ok-read_next.ensures.more c.args.octets.now [] c.reader_of-reader.ensures
    c.if-not-branch.false in
    found_row c.read_next-2.result c.skip_rows.new.reader c.read_next-2.new.reader c.args.octets.now
    (fields_of c.read_next.new.row) (fields_of c.read_next-2.new.row) c.args.number
    (c.is_card_header.ensures.0 c.if-not-is_card_header.false) c.if-number-eq0.false
    (c.in_ok-skip_rows.ensures.more c.args.octets.now (fields_of c.read_next.new.row ∷ []) after
    c.if-not-branch-2.false)
    c.read_next-2.ensures.more

pub returns-clause-none : goal.returns-clause-none
returns-clause-none c =
    let after = c.in_ok-read_next.ensures.more c.args.octets.now [] c.reader_of-reader.ensures
    c.if-not-branch.false in
    missing_row c.read_next-2.result c.skip_rows.new.reader c.args.octets.now
    (fields_of c.read_next.new.row) c.args.number c.if-number-eq0.false
    (c.in_ok-skip_rows.ensures.more c.args.octets.now (fields_of c.read_next.new.row ∷ []) after
    c.if-not-branch-2.false)
    c.read_next-2.ensures.end
