-- The nets over all instances of a plan: nets of instances, joined where ports of them meet.
use Rattle.std.specs.Prelude.{◌≡◌, ℕ, ◌+◌, Contains, List, slice_index}
use Rattle.lam_geom.specs.declared.boxes.Axis.{Axis, TheVariants.{X, Y}}
use Rattle.cell_model.specs.declared.cell.{CellPort.CellPort, Nets.Nets}
use Rattle.plan_model.specs.{Borders.meeting_ports, Instances.{InstancePlace, IsInstancePlace, master_at_spot}}

-- the next instance: on x the one above it, on y the one on its right
abbrev pub IsNextInstance : Axis → InstancePlace → InstancePlace → Type 0
IsNextInstance X p q = (q.grid ≡ p.grid) × (q.row ≡ p.row + 1) × (q.col ≡ p.col)
IsNextInstance Y p q = (q.grid ≡ p.grid) × (q.row ≡ p.row) × (q.col ≡ p.col + 1)

-- two ports of two instances that meet at their border
pub record MeetAt (axis : Axis) (ports : List (List CellPort)) (grids : List (List (List ℕ))) (p q : InstancePlace)
    (a b : CellPort) : Type 0 where
  pub before : IsInstancePlace grids p
  pub after : IsInstancePlace grids q
  pub next : IsNextInstance axis p q
  pub met : Contains (meeting_ports axis ports (master_at_spot grids p, master_at_spot grids q)) (a, b)

-- the net of a port's wire, from the nets of the masters
abbrev pub net_of_port : (ℕ → Nets) → ℕ → CellPort → ℕ
net_of_port nets m port = slice_index (nets m).wire port.wire

-- Two nets of instances are one: they are the same net of the same instance, or a chain of ports that meet joins them.
pub data IsOneNet (ports : List (List CellPort)) (nets : ℕ → Nets) (grids : List (List (List ℕ))) (p : InstancePlace)
    (n : ℕ) : InstancePlace → ℕ → Type 0 where
  the_same : IsOneNet ports nets grids p n p n
  met_before : (axis : Axis) (q r : InstancePlace) (a b : CellPort)
      → IsOneNet ports nets grids p n q (net_of_port nets (master_at_spot grids q) a)
      → MeetAt axis ports grids q r a b → IsOneNet ports nets grids p n r (net_of_port nets (master_at_spot grids r) b)
  met_after : (axis : Axis) (q r : InstancePlace) (a b : CellPort)
      → IsOneNet ports nets grids p n r (net_of_port nets (master_at_spot grids r) b)
      → MeetAt axis ports grids q r a b → IsOneNet ports nets grids p n q (net_of_port nets (master_at_spot grids q) a)
