use Rattle.std.proofs.Common.{◌≡◌, ◌++◌, drop}
use Rattle.cons_graph.specs.Lines.{lines_of}
use Rattle.cons_graph.proofs.lines.edge_lines.Given as goal

abbrev pub invariant-loop-k : goal.invariant-loop-k
invariant-loop-k l = l.out.items ++ lines_of l.edges l.names (drop l.k-index l.numbers)
    ≡ lines_of l.edges l.names l.numbers
