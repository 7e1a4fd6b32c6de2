-- The inequalities of the limits of all masters on an axis, over their joint variables.
use Rattle.std.specs.Prelude.{ℕ, ◌<◌, List, map, flat_map}
use Rattle.lam_geom.specs.declared.boxes.Axis.{Axis}
use Rattle.stick_lex.specs.Numbers.{IsNumber}
use Rattle.cons_graph.specs.declared.edges.Edge.{Edge}
use Rattle.cell_model.specs.declared.cell.Limit.{Limit}
use Rattle.expand.specs.{declared.master.Master.Master, Structure.limits_of}
use Rattle.pitch_join.specs.{Masters.{master_at, master_numbers}, Joined.{base_of, shifted}}

-- those of master m
abbrev pub limits_at : Axis → List Master → ℕ → List Edge
limits_at axis masters m = map (shifted (base_of axis masters m)) (limits_of axis (master_at masters m).cell)

abbrev pub system_limits : Axis → List Master → List Edge
system_limits axis masters = flat_map (limits_at axis masters) (master_numbers masters)

-- the numbers of a limit are small
pub record IsNear (limit : Limit) : Type 0 where
  pub a : limit.a < 65536
  pub b : limit.b < 65536
  pub number : IsNumber limit.n
