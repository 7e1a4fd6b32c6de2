use Rattle.std.proofs.Common.{◌≡◌, drop}
use Rattle.flat_check.specs.Ranges.{first_some}
use Rattle.flat_check.proofs.ranges.first_of_all.Given as goal

abbrev pub invariant-loop-first : goal.invariant-loop-first
invariant-loop-first l = first_some l.found ≡ first_some (drop l.first-index l.found)
