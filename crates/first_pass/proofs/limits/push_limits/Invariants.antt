use Rattle.std.proofs.Common.{◌≡◌, ◌++◌, map, take, flat_map}
use Rattle.expand.specs.Structure.{limit_edges}
use Rattle.pitch_join.specs.Joined.{shifted}
use Rattle.first_pass.proofs.limits.push_limits.Given as goal

abbrev pub invariant-loop-limit : goal.invariant-loop-limit
invariant-loop-limit l = l.edges.items ≡ l.initial.edges.items
    ++ map (shifted l.base) (flat_map (limit_edges l.axis) (take l.limit-index l.limits))
