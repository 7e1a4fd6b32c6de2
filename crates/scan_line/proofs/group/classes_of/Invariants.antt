use Rattle.std.proofs.Common.{◌≡◌, take}
use Rattle.scan_line.specs.Groups.{classes_of}
use Rattle.scan_line.proofs.group.classes_of.Given as goal

abbrev pub invariant-loop-k : goal.invariant-loop-k
invariant-loop-k l = l.classes.items ≡ classes_of l.items (take l.k-index l.order)
