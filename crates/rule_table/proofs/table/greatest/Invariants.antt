use Rattle.std.{proofs.Common.{◌≡◌, pos, take, fold}, specs.Int.int_max}
use Rattle.rule_table.proofs.table.greatest.Given as goal

abbrev pub invariant-loop-length : goal.invariant-loop-length
invariant-loop-length l = l.most ≡ fold int_max (pos 0) (take l.length-index l.lengths)
