use Rattle.std.proofs.Common.{take}
use Rattle.scan_line.specs.Scan.{AreFirstOf}
use Rattle.scan_line.proofs.scan.take_first.Given as goal

abbrev pub invariant-loop-pair : goal.invariant-loop-pair
invariant-loop-pair l = AreFirstOf l.items (take l.pair-index l.pairs) l.near.items
