use Rattle.std.proofs.Common.{◌≡◌, take, drop}
use Rattle.pass_run.specs.{Passes.axes_of, Going.IsGoing}
use Rattle.pass_run.proofs.passes.passes_on.Given as goal

abbrev pub invariant-loop-axis : goal.invariant-loop-axis
invariant-loop-axis g l = record {
  going : IsGoing l.tech l.plan l.masters l.with_most (drop l.axis-index l.axes) l.so_far;
  axes : axes_of l.so_far.steps.items ≡ take l.axis-index l.axes;
  coming : l.coming ≡ drop l.axis-index l.axes;
}
