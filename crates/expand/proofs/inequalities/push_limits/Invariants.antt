use Rattle.std.{proofs.Common.{◌≡◌, ◌++◌, take}, specs.List.flat_map}
use Rattle.expand.specs.Structure.{limit_edges}
use Rattle.expand.proofs.inequalities.push_limits.Given as goal

abbrev pub invariant-loop-limit : goal.invariant-loop-limit
invariant-loop-limit l = l.edges.items ≡ l.initial.edges.items
    ++ flat_map (limit_edges l.axis) (take l.limit-index l.cell.limits)
