-- What values of the joint variables satisfy, in words of the instances of a plan.
use Rattle.std.specs.Prelude.{◌≡◌, ◌↔◌, ℕ, ◌<◌, ℤ, pos, List, length}
use Rattle.lam_geom.specs.declared.boxes.Axis.{Axis, TheVariants.{X, Y}}
use Rattle.rule_table.specs.declared.technology.Tech.{Tech}
use Rattle.cell_model.specs.declared.cell.CellPort.{CellPort}
use Rattle.expand.specs.{declared.master.Master.Master, Laws.MeetsStructure}
use Rattle.plan_model.specs.{declared.plan.Plan.Plan, GridNets.MeetAt, Instances.{InstancePlace, IsInstancePlace}}
use Rattle.plan_model.specs.{Instances.master_at_spot, Plan.grids_of}
use Rattle.pitch_join.specs.{Joined.{far_of, wire_var, local_of}, Masters.{master_at, ports_of_masters}}
use Rattle.pitch_join.specs.Meeting.{MeetsPlan}

-- two instances stand in one column of a grid, or on y in one row
abbrev pub StandInLine : Axis → InstancePlace → InstancePlace → Type 0
StandInLine X p q = (p.grid ≡ q.grid) × (p.col ≡ q.col)
StandInLine Y p q = (p.grid ≡ q.grid) × (p.row ≡ q.row)

-- the far border of an instance, and the cross coordinate of the wire of a port of it: those of its master
abbrev pub far_at : Axis → Plan → List Master → (ℕ → ℤ) → InstancePlace → ℤ
far_at axis plan masters x p = x (far_of axis masters (master_at_spot (grids_of plan) p))

abbrev pub line_at : Axis → Plan → List Master → (ℕ → ℤ) → InstancePlace → CellPort → ℤ
line_at axis plan masters x p port = x (wire_var axis masters (master_at_spot (grids_of plan) p) port.wire)

-- Values with the origin at 0, whose own parts meet the structure of each master: any two instances of one column (on
-- y, of one row) have one far border, and the wires of every two ports of instances that meet have one cross
-- coordinate.
pub record InstancesMeet (axis : Axis) (tech : Tech) (plan : Plan) (masters : List Master) (x : ℕ → ℤ) : Type 0 where
  pub origin : x 0 ≡ pos 0
  pub structures : (m : ℕ) → m < length masters
      → MeetsStructure axis tech (master_at masters m) (local_of axis masters m x)
  pub borders : (p q : InstancePlace) → IsInstancePlace (grids_of plan) p → IsInstancePlace (grids_of plan) q
      → StandInLine axis p q → far_at axis plan masters x p ≡ far_at axis plan masters x q
  pub lines : (p q : InstancePlace) (a b : CellPort) → MeetAt axis (ports_of_masters masters) (grids_of plan) p q a b
      → line_at axis plan masters x p a ≡ line_at axis plan masters x q b

-- Values meet the lists of a plan exactly where the instances meet.
abbrev pub ListsSpeakOfInstances : Tech → Plan → List Master → Type 0
ListsSpeakOfInstances tech plan masters = (axis : Axis) (x : ℕ → ℤ)
    → MeetsPlan axis tech plan masters x ↔ InstancesMeet axis tech plan masters x
