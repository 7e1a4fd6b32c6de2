use Rattle.std.proofs.Common.{arith, to_z-of_z}
use Rattle.rule_table.specs.Spacing.{margin_in}
use Rattle.rule_table.proofs.keys.Numbers.margin.Goals as goal

pub returns : goal.returns
unfolding margin_in
returns c = grind (arith, to_z-of_z)
