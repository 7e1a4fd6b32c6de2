use Rattle.std.proofs.Common.{◌≡◌, map}
use Rattle.pass_run.specs.declared.ready.Ready.TheVariants.{Kept}
use Rattle.pass_run.proofs.ready.taken_apart.Given as goal

abbrev pub invariant-loop-one : goal.invariant-loop-one
invariant-loop-one l = map Kept l.all_found.items ≡ l.yielded
