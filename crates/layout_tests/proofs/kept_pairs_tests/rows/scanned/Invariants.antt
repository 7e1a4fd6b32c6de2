use Rattle.scan_line.specs.Scan.{IsScan}
use Rattle.layout_tests.proofs.kept_pairs_tests.rows.scanned.Given as goal

abbrev pub invariant-loop-turn : goal.invariant-loop-turn
invariant-loop-turn l = IsScan l.scan
