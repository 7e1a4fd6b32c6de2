-- The nets of masters.
use Rattle.std.specs.Prelude.{◌≡◌, ℕ, ◌<◌, List, [], length, slice_index_or}
use Rattle.cell_model.specs.{declared.cell.Nets.Nets, Nets.AreNets}
use Rattle.expand.specs.declared.master.Master.{Master}
use Rattle.pitch_join.specs.Masters.{master_at}

-- the nets of master number m
abbrev pub no_nets : Nets
no_nets = record { node = []; wire = []; count = 0 }

abbrev pub nets_no : List Nets → ℕ → Nets
nets_no nets m = slice_index_or nets m no_nets

-- the nets of each master
pub record AreNetsOfAll (masters : List Master) (nets : List Nets) : Type 0 where
  pub counted : length nets ≡ length masters
  pub each : (m : ℕ) → m < length masters → AreNets (master_at masters m).cell (nets_no nets m)
