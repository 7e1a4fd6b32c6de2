use Rattle.std.{proofs.Common.{◌≡◌, ◌++◌}, specs.List.{flat_map, range_with_len}}
use Rattle.pitch_join.specs.Names.{cross_name}
use Rattle.pitch_join.proofs.names.push_wires.Given as goal

abbrev pub invariant-loop-k : goal.invariant-loop-k
invariant-loop-k l = l.names ≡ l.initial.names ++ flat_map (cross_name l.axis l.cell) (range_with_len 0 l.k)
