use Rattle.std.proofs.Common.{List, [], sym, subst, arith}
use Rattle.std.proofs.lemmas.List.{take_all}
use Rattle.sqlite.specs.Order.{Row}
use Rattle.store_queries.specs.internal.RowLists.{ShowCards}
use Rattle.store_queries.proofs.RowListLemmas.{cards_step, no_cards}
use Rattle.store_lookups.specs.StoreFaults.{ShowsFaultlessMember}
use Rattle.store_lookups.proofs.StoreFaultLemmas.{passed_on}
use Rattle.store_queries.proofs.QueryFaultLemmas.{all_at}
use Rattle.store_queries.proofs.row_lists.cards_in.Goals as goal

pub loop-row-init : goal.loop-row-init
loop-row-init c = subst (ShowCards []) (sym c.new-cards.ensures) no_cards

pub loop-row-preserved : goal.loop-row-preserved
loop-row-preserved c =
    cards_step c.args.rows.now c.loop-row.row-index c.loop-row.cards c.insert_live.new.cards
    c.row-item.result c.in_ok-member.member
    c.loop-row-test.true c.row-item.is c.in_ok-insert_live.ensures.ok c.loop-row.invariant
    c.in_ok-member.ensures.member

pub returns-clause-cards : goal.returns-clause-cards
returns-clause-cards c = subst (λ (rs : List Row). ShowCards rs c.loop-row.cards)
    (take_all c.loop-row.row-index c.args.rows.now (omega arith)) c.loop-row.invariant

pub returns-in_err-member-clause-memory : goal.returns-in_err-member-clause-memory
returns-in_err-member-clause-memory c all =
    passed_on c.from_residual.result c.in_err-member.field-0.0 c.from_residual.ensures.1
    (c.in_err-member.ensures.memory (all_at ShowsFaultlessMember c.args.rows.now
    c.loop-row.row-index c.row-item.result all c.loop-row-test.true c.row-item.is))
