use Rattle.rule_table.proofs.Shipped.{shipped2_sound}
use Rattle.rule_table.proofs.technology.Tech.shipped2.Goals as goal

pub invariant_of-result : goal.invariant_of-result
invariant_of-result c = record { sound = shipped2_sound }
