use Rattle.std.{proofs.Common.{◌≡◌, ◌++◌, take}, specs.List.flat_map}
use Rattle.pitch_join.specs.Among.{listed_ports}
use Rattle.pitch_join.proofs.fixed.push_ports.Given as goal

abbrev pub invariant-loop-met : goal.invariant-loop-met
invariant-loop-met l = l.edges.items ≡ l.initial.edges.items
    ++ flat_map (listed_ports l.base l.crosses) (take l.met-index l.matches)
