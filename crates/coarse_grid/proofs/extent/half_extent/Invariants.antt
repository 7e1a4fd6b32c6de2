use Rattle.std.{proofs.Common.{◌≡◌, pos, ◌≤ℤ◌, [], ◌++◌, map, take, fold}, specs.Int.int_max}
use Rattle.cell_model.specs.declared.cell.{Node.Node, Wire.Wire}
use Rattle.expand.specs.Variables.{half}
use Rattle.coarse_grid.specs.Extent.{reach_of}
use Rattle.coarse_grid.proofs.extent.half_extent.Given as goal

abbrev pub invariant-loop-node : goal.invariant-loop-node
invariant-loop-node l = record {
  value : l.most ≡ fold int_max (pos 0)
      ([] ++ map (λ (node : Node). reach_of l.tech node.kind) (take l.node-index l.cell.nodes));
  low : pos 0 ≤ℤ l.most;
  high : l.most ≤ℤ pos 6144;
}

abbrev pub invariant-loop-wire : goal.invariant-loop-wire
invariant-loop-wire l = record {
  value : l.most ≡ fold int_max (pos 0)
      (map (λ (node : Node). reach_of l.tech node.kind) l.cell.nodes
      ++ map (λ (wire : Wire). half wire.width) (take l.wire-index l.cell.wires));
  low : pos 0 ≤ℤ l.most;
  high : l.most ≤ℤ pos 6144;
}
