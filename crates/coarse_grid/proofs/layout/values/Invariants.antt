use Rattle.std.{proofs.Common.{◌≡◌, ◌++◌, ◌∷◌, [], take, map, pos}, specs.List.flat_map}
use Rattle.cell_model.specs.declared.cell.Node.{Node}
use Rattle.coarse_grid.specs.Start.{node_line, place, far_border, cross_places}
use Rattle.coarse_grid.proofs.layout.values.Given as goal

abbrev pub invariant-loop-node : goal.invariant-loop-node
invariant-loop-node l = l.values.items ≡ (pos 0 ∷ far_border l.fn.pitch l.fn.axis l.fn.cell ∷ [])
    ++ map (λ (node : Node). place l.fn.pitch (node_line l.fn.axis node)) (take l.node-index l.fn.cell.nodes)

abbrev pub invariant-loop-wire : goal.invariant-loop-wire
invariant-loop-wire l =
    l.values.items
    ≡ (pos 0 ∷ far_border l.fn.pitch l.fn.axis l.fn.cell ∷ map
    (λ (node : Node). place l.fn.pitch (node_line l.fn.axis node)) l.fn.cell.nodes) ++ flat_map (cross_places
    l.fn.pitch l.fn.axis l.fn.cell) (take l.wire-index l.fn.cell.wires)
