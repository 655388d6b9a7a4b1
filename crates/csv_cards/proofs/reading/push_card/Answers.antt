use Rattle.csv_cards.proofs.ReaderLemmas.{one_more_uid}
use Rattle.csv_cards.proofs.reading.push_card.Goals as goal

pub returns-clause-uids : goal.returns-clause-uids
returns-clause-uids c = rw (
  c.in_ok-push.ensures.items,
  c.in_ok-insert.ensures.ok,
  c.in_ok-from_str.ensures.ok,
  c.uid-2.ensures,
) (one_more_uid c.args.uids.now
    c.args.cards.now.items c.args.card c.requires)
