use Rattle.std.{proofs.Common.{◌≡◌, ◌≤◌, max, [], ◌++◌, map, fold, take}, specs.List.flat_map}
use Rattle.coarse_grid.specs.Start.{node_line, port_lines}
use Rattle.coarse_grid.proofs.layout.last_line.Given as goal

abbrev pub invariant-loop-node : goal.invariant-loop-node
invariant-loop-node l = record {
  value : l.last ≡ fold max 0 ([] ++ map (node_line l.axis) (take l.node-index l.cell.nodes));
  near : l.last ≤ 4095;
}

abbrev pub invariant-loop-port : goal.invariant-loop-port
invariant-loop-port l = record {
  value : l.last ≡ fold max 0
      (map (node_line l.axis) l.cell.nodes ++ flat_map (port_lines l.axis) (take l.port-index l.cell.ports));
  near : l.last ≤ 4095;
}
