use Rattle.std.proofs.Common.{◌≡◌, take}
use Rattle.pass_run.specs.Layouts.{system_values}
use Rattle.pass_run.proofs.layouts.system_values.Given as goal

abbrev pub invariant-loop-layout : goal.invariant-loop-layout
invariant-loop-layout l = l.values.items ≡ system_values l.axis (take l.layout-index l.layouts)
