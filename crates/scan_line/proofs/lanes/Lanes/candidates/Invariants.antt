use Rattle.std.proofs.Common.{◌≡◌, take}
use Rattle.scan_line.proofs.PairRuns.{pairs_of}
use Rattle.scan_line.proofs.lanes.Lanes.candidates.Given as goal

abbrev pub invariant-loop-i : goal.invariant-loop-i
invariant-loop-i l = l.found.items ≡ pairs_of l.axis l.tech l.coords l.items l.j (take l.i-index l.i-items)
