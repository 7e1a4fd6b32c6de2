use Rattle.std.{proofs.Common.{◌≡◌, ◌++◌}, specs.List.{flat_map, range_with_len}}
use Rattle.pitch_join.specs.Joined.{structure_at}
use Rattle.pitch_join.proofs.fixed.push_structures.Given as goal

abbrev pub invariant-loop-m : goal.invariant-loop-m
invariant-loop-m l = l.edges.items ≡ l.initial.edges.items ++ flat_map (structure_at l.axis l.tech l.masters)
    (range_with_len 0 l.m)
