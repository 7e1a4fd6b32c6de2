-- The parts of a sound cell lie near.
use Rattle.std.proofs.Common.{◌≡◌, ℕ, ◌<◌, ◌≤◌, max, true, false, List, [], ◌∷◌, ◌++◌, length, map, fold, get_or, cond}
use Rattle.std.{proofs.Common.{sym, subst, arith}, specs.List.{AllByRecursion, flat_map}}
use Rattle.rule_table.specs.{Bounds.IsSize, declared.technology.Tech.Tech}
use Rattle.cell_model.specs.declared.cell.{Axis2.{Axis2, TheVariants.{Across, Up}}, Node.Node, Port.Port, Wire.Wire}
use Rattle.cell_model.specs.declared.cell.Cell.{Cell}
use Rattle.cell_model.specs.{Wiring.{is_same_axis, axis_of}, Sound.{IsNode, IsWire, IsSound, port_at, no_port}}
use Rattle.list_facts.proofs.Elements.{all_weaker, all_at, all_append, all_map, by_number, all_flat}
use Rattle.coarse_grid.specs.{Near.{HasLines, StartsIn, AreLinesNear}, Start.{node_line, port_lines, last_line}}

pub near_lines : (tech : Tech) (cell : Cell) → IsSound tech cell → AreLinesNear cell
near_lines tech cell s = record {
  nodes = all_weaker (IsNode tech) HasLines (λ node h. (h.col, h.row)) cell.nodes s.nodes;
  ports = λ k lt. (s.ports k lt).place;
  wires = all_weaker (IsWire tech cell) (StartsIn cell) (λ wire h. h.low) cell.wires s.wires;
}

-- the width of a wire that a loop reads
pub wire_size : (tech : Tech) (cell : Cell) (read : List Wire) (i : ℕ) (d : Wire) → IsSound tech cell
    → read ≡ cell.wires → i < length read → IsSize (get_or read i d).width
wire_size tech cell read i d s e lt =
    let P : List Wire → Type 0 = λ ws. AllByRecursion (IsWire tech cell) ws in
    (all_at (IsWire tech cell) read d i (subst P (sym e) s.wires) lt).size

-- the greatest of some numbers is no more than a bound of all
pub most_within : (bound a : ℕ) (xs : List ℕ) → a ≤ bound → AllByRecursion (λ x. x ≤ bound) xs → fold max a xs ≤ bound
most_within bound a [] le h = le
most_within bound a (x ∷ xs) le h = most_within bound (max a x) xs (omega (arith, h.0)) h.1

-- and at least each of them
from_most : (a : ℕ) (xs : List ℕ) → a ≤ fold max a xs
from_most a [] = omega arith
from_most a (x ∷ xs) = omega (arith, from_most (max a x) xs)

pub all_most : (a bound : ℕ) (xs : List ℕ) → fold max a xs ≤ bound → AllByRecursion (λ x. x ≤ bound) xs
all_most a bound [] h = tt
all_most a bound (x ∷ xs) h = (omega (arith, from_most (max a x) xs), all_most (max a x) bound xs h)

pub line_near : (axis : Axis2) (node : Node) → HasLines node → node_line axis node ≤ 4095
line_near Across node h = h.0
line_near Up node h = h.1

ports_near : (axis : Axis2) (port : Port) → port.place ≤ 4095
    → AllByRecursion (λ line. line ≤ 4095) (port_lines axis port)
ports_near axis port h =
    let P : List ℕ → Type 0 = λ ns. AllByRecursion (λ line. line ≤ 4095) ns in
    elim (is_same_axis axis (axis_of port.side)) as (λ b. P (cond b [] (port.place ∷ [])))
    [ true ↦ tt | false ↦ (h, tt) ]

pub last_near : (axis : Axis2) (cell : Cell) → AreLinesNear cell → last_line axis cell ≤ 4095
unfolding last_line
last_near axis cell h =
    most_within 4095 0 (map (node_line axis) cell.nodes ++ flat_map (port_lines axis) cell.ports) (omega arith)
    (all_append (λ line. line ≤ 4095) (map (node_line axis) cell.nodes) (flat_map (port_lines axis) cell.ports)
    (all_map (λ line. line ≤ 4095) (node_line axis) cell.nodes
    (all_weaker HasLines (λ (node : Node). node_line axis node ≤ 4095) (line_near axis) cell.nodes h.nodes))
    (all_flat (λ line. line ≤ 4095) (port_lines axis) cell.ports
    (by_number (λ (port : Port). AllByRecursion (λ line. line ≤ 4095) (port_lines axis port)) cell.ports no_port
    (λ k lt. ports_near axis (port_at cell.ports k) (h.ports k lt)))))
