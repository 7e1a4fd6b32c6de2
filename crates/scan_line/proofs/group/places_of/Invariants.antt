use Rattle.std.proofs.Common.{take}
use Rattle.scan_line.specs.Levels.{ArePlaces}
use Rattle.scan_line.proofs.group.places_of.Given as goal

abbrev pub invariant-loop-k : goal.invariant-loop-k
invariant-loop-k l = ArePlaces l.axis l.coords l.items (take l.k-index l.order) l.places.items
