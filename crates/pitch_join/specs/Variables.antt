-- What holds of joint variables.
use Rattle.std.specs.Prelude.{◌≡◌, ℕ, ◌<◌, ◌≤◌, ◌^◌, ◌⊎◌, List, length}
use Rattle.lam_geom.specs.declared.boxes.Axis.{Axis}
use Rattle.expand.specs.{declared.master.Master.Master, Variables.variables_of}
use Rattle.pitch_join.specs.{Masters.master_at, Joined.{system_variables, var_of}}

-- a joint variable is a local one of some master
pub record IsOfMaster (axis : Axis) (masters : List Master) (u : ℕ) : Type 0 where
  pub master : ℕ
  pub local : ℕ
  pub among : master < length masters
  pub own : local < variables_of axis (master_at masters master).cell
  pub is : u ≡ var_of axis masters master local

-- There are few; each local variable is among them; each but the origin is a local one; and only the origin is shared.
pub record VariablesAreJoined (masters : List Master) : Type 0 where
  pub few : (axis : Axis) → system_variables axis masters ≤ 2 ^ 17
  pub within : (axis : Axis) (m v : ℕ) → m < length masters → v < variables_of axis (master_at masters m).cell
      → var_of axis masters m v < system_variables axis masters
  pub covered : (axis : Axis) (u : ℕ) → u < system_variables axis masters → (u ≡ 0) ⊎ IsOfMaster axis masters u
  pub apart : (axis : Axis) (m k v w : ℕ) → m < length masters → k < length masters
      → v < variables_of axis (master_at masters m).cell → w < variables_of axis (master_at masters k).cell
      → var_of axis masters m v ≡ var_of axis masters k w → ((v ≡ 0) × (w ≡ 0)) ⊎ ((m ≡ k) × (v ≡ w))
