use Rattle.std.proofs.Common.{rules}
use Rattle.card_conversion.proofs.UidLemmas.{one_more_uid}
use Rattle.card_conversion.proofs.delivery.is_new.Goals as goal

pub returns : goal.returns
returns c known has = (
  λ had. let some = (has c.args.uid.now).1 had in search rules,
  rw (c.in_ok-insert.ensures.ok, c.in_ok-from_str.ensures.ok) (one_more_uid c.args.uids.now known
      c.args.uid.now has),
)
