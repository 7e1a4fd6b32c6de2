use Rattle.std.proofs.{Common.{arith, to_z-of_z}, lemmas.List.Sums.fold_more}
use Rattle.rule_table.proofs.table.greatest.Goals as goal

pub loop-length-preserved : goal.loop-length-preserved
loop-length-preserved c = grind (arith, to_z-of_z, fold_more)
