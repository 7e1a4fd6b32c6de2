use Rattle.std.{proofs.Common.{◌≡◌, ◌++◌}, specs.List.{flat_map, range_with_len}}
use Rattle.expand.specs.Structure.{overlap_edges}
use Rattle.expand.proofs.inequalities.push_overlaps.Given as goal

abbrev pub invariant-loop-k : goal.invariant-loop-k
invariant-loop-k l = l.edges.items ≡ l.initial.edges.items ++ flat_map (overlap_edges l.axis l.tech l.cell)
    (range_with_len 0 l.k)
