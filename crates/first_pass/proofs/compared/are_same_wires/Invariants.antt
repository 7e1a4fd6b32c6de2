use Rattle.std.proofs.Common.{◌≡◌, ℕ, ◌<◌, get_or}
use Rattle.cell_model.specs.declared.cell.Wire.{Wire}
use Rattle.first_pass.proofs.compared.are_same_wires.Given as goal

abbrev pub invariant-loop-k : goal.invariant-loop-k
invariant-loop-k l = (j : ℕ) → j < l.k → (d : Wire) → get_or l.a j d ≡ get_or l.b j d
