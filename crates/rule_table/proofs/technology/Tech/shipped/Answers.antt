use Rattle.rule_table.proofs.Shipped.{shipped_sound}
use Rattle.rule_table.proofs.technology.Tech.shipped.Goals as goal

pub invariant_of-result : goal.invariant_of-result
invariant_of-result c = record { sound = shipped_sound }
