use Rattle.std.proofs.Common.{◌≡◌, ◌^◌, ◌<◌, All, length, map, take}
use Rattle.plan_model.specs.Borders.{side_ports}
use Rattle.checked_cells.specs.Tables.{known_of}
use Rattle.grid_plan.specs.Numbered.{ports_of_cells}
use Rattle.grid_plan.proofs.sides.sides_of.Given as goal

abbrev pub invariant-loop-k : goal.invariant-loop-k
invariant-loop-k l = record {
  short : All (λ side. length side < 2 ^ 32) l.sides.items;
  sides : l.sides.items ≡ map (side_ports l.side) (take l.k (ports_of_cells (known_of l.cells)));
}
