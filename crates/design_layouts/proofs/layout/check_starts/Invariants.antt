use Rattle.std.{proofs.Common.take, specs.Prelude.All}
use Rattle.pass_run.specs.Laid.{StartsClean}
use Rattle.design_layouts.proofs.layout.check_starts.Given as goal

abbrev pub invariant-loop-number : goal.invariant-loop-number
invariant-loop-number g l = All (StartsClean l.tech) (take l.number l.masters)
