-- The layouts of masters, one each, and the values of the joint variables.
use Rattle.std.specs.{Prelude.{ℕ, ℤ, pos, List, ◌∷◌, map, drop, flat_map, fold}, List.range_with_len}
use Rattle.lam_geom.specs.declared.boxes.Axis.{Axis}
use Rattle.rule_table.specs.declared.technology.Tech.{Tech}
use Rattle.cons_graph.specs.Solutions.{value_of}
use Rattle.sym_items.specs.{declared.items.Coords.Coords, Layouts.layout_at, Transposed.values_along}
use Rattle.expand.specs.{declared.master.Master.Master, Variables.variables_of}
use Rattle.coarse_grid.specs.Start.{start_of}
use Rattle.pair_rules.specs.Laws.{moved}
use Rattle.pitch_join.specs.{Masters.{master_at, master_numbers}, Joined.local_of}
use Rattle.pass_run.specs.declared.step.Step.{Step}

-- the start layout of each master
abbrev pub start_of_master : Tech → Master → Coords
start_of_master tech master = start_of tech master.cell

abbrev pub starts_of : Tech → List Master → List Coords
starts_of tech masters = map (start_of_master tech) masters

-- the values of the joint variables in some layouts: 0 at the origin, and then in each layout those of its other
-- variables
abbrev pub own_values : Axis → Coords → List ℤ
own_values axis layout = drop 1 (values_along axis layout)

abbrev pub system_values : Axis → List Coords → List ℤ
system_values axis layouts = pos 0 ∷ flat_map (own_values axis) layouts

-- what values of the joint variables give to the variables of master m
abbrev pub local_values : Axis → List Master → ℕ → List ℤ → List ℤ
local_values axis masters m x =
    map (local_of axis masters m (value_of x)) (range_with_len 0 (variables_of axis (master_at masters m).cell))

-- the layouts with these values of the joint variables on an axis: in each its master has its own part of them, and
-- the other axis stays
abbrev pub with_values_at : Axis → List Master → List Coords → List ℤ → ℕ → Coords
with_values_at axis masters before x m = moved axis (layout_at before m) (local_values axis masters m x)

abbrev pub with_values : Axis → List Master → List Coords → List ℤ → List Coords
with_values axis masters before x = map (with_values_at axis masters before x) (master_numbers masters)

-- the layouts after a pass
abbrev pub moved_by : List Master → List Coords → Step → List Coords
moved_by masters before step = with_values step.axis masters before step.x

-- and those after some passes
abbrev pub layouts_after : List Master → List Coords → List Step → List Coords
layouts_after masters starts steps = fold (moved_by masters) starts steps
