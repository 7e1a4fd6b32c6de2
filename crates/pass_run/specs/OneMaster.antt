-- What a pass has of one master, whose first joint variable beside the origin is known.
use Rattle.std.specs.{Prelude.{ℕ, ℤ, List, map}, List.range_with_len}
use Rattle.lam_geom.specs.declared.boxes.Axis.{Axis}
use Rattle.rule_table.specs.declared.technology.Tech.{Tech}
use Rattle.cons_graph.specs.{declared.edges.Edge.Edge, Solutions.value_of}
use Rattle.sym_items.specs.declared.items.Coords.{Coords}
use Rattle.expand.specs.{declared.master.Master.Master, Variables.variables_of}
use Rattle.pair_rules.specs.Kept.{kept_of}
use Rattle.pitch_join.specs.Joined.{joined, shifted, space_edge}

-- the inequalities of its kept pairs in a layout
abbrev pub own_kept_edges : Axis → Tech → ℕ → Master → Coords → List Edge
own_kept_edges axis tech base master layout =
    map (shifted base) (map (space_edge axis master.items.list) (kept_of axis tech layout master.items.list))

-- its part of some values of the joint variables
abbrev pub part_from : ℕ → List ℤ → ℕ → ℤ
part_from base x v = value_of x (joined base v)

abbrev pub own_part : Axis → ℕ → Master → List ℤ → List ℤ
own_part axis base master x = map (part_from base x) (range_with_len 0 (variables_of axis master.cell))
