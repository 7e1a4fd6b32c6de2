use Rattle.std.proofs.Common.{length}
use Rattle.pass_run.proofs.least.+further_passes.Given as goal

abbrev pub decreases-further_passes : goal.decreases-further_passes
decreases-further_passes g l = length l.axes.now
