use Rattle.std.proofs.Common.{◌≡◌, ◌++◌, map, take}
use Rattle.pitch_join.specs.Joined.{shifted}
use Rattle.pitch_join.proofs.fixed.push_shifted.Given as goal

abbrev pub invariant-loop-edge : goal.invariant-loop-edge
invariant-loop-edge l = l.edges.items ≡ l.initial.edges.items ++ map (shifted l.base) (take l.edge-index l.local)
