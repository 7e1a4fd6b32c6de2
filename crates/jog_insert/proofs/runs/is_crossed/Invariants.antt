use Rattle.std.proofs.Common.{ℕ, ◌<◌, ◌≢◌}
use Rattle.cell_model.specs.Sound.{wire_at}
use Rattle.jog_insert.specs.Jogs.{Crosses}
use Rattle.jog_insert.proofs.runs.is_crossed.Given as goal

abbrev pub invariant-loop-j : goal.invariant-loop-j
invariant-loop-j l = (i : ℕ) → i < l.j → i ≢ l.k → Crosses l.cell l.col l.row (wire_at l.cell.wires i) → ⊥
