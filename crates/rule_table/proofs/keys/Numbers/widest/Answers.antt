use Rattle.std.proofs.Common.{arith, to_z-of_z}
use Rattle.rule_table.specs.Spacing.{widest_in}
use Rattle.rule_table.proofs.keys.Numbers.widest.Goals as goal

pub returns : goal.returns
unfolding widest_in
returns c = grind (arith, to_z-of_z)
