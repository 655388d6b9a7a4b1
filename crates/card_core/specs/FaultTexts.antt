-- The texts of group faults.
use Rattle.std.specs.Prelude.{ℕ, List, codes}
use Rattle.card_core.specs.declared.fault.GroupFault.{GroupFault}
use Rattle.card_core.specs.declared.fault.GroupFault.TheVariants.{NoSuchCard, NotGroup, Memory}

abbrev pub group_fault_text : GroupFault → List ℕ
group_fault_text NoSuchCard = codes "no card has the UID"
group_fault_text NotGroup = codes "the card isn't a group"
group_fault_text Memory = codes "no memory"
