use Rattle.std.proofs.Common.{All}
use Rattle.par_phase.specs.Taken.{IsTaken}
use Rattle.par_phase.proofs.split.take_blocks.Given as goal

-- what was taken so far has its answers
abbrev pub invariant-loop : goal.invariant-loop
invariant-loop g l = All (IsTaken g.F.Fn l.f l.items l.blocks) l.taken.items
