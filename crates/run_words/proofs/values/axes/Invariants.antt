use Rattle.std.proofs.Common.{◌≡◌, take}
use Rattle.run_words.specs.Values.{axes_in}
use Rattle.run_words.proofs.values.axes.Given as goal

abbrev pub invariant-loop-b : goal.invariant-loop-b
invariant-loop-b l = l.axes.items ≡ axes_in (take l.b-index l.passes)
