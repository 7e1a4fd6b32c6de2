use Rattle.std.proofs.Common.{◌≡◌, ℕ, ◌<◌, length}
use Rattle.cell_model.specs.Nets.{AreNets}
use Rattle.pitch_join.specs.Masters.{master_at}
use Rattle.design_nets.specs.Nets.{nets_no}
use Rattle.design_nets.proofs.masters.nets_of_masters.Given as goal

abbrev pub invariant-loop-master : goal.invariant-loop-master
invariant-loop-master l = record {
  counted : length l.all.items ≡ l.master-index;
  each : (m : ℕ) → m < l.master-index → AreNets (master_at l.masters m).cell (nets_no l.all.items m);
}
