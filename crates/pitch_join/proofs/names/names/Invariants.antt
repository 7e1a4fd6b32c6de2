use Rattle.std.{proofs.Common.{◌≡◌, ◌++◌, take}, specs.List.flat_map}
use Rattle.pitch_join.specs.Names.{names_of_master}
use Rattle.pitch_join.proofs.names.names.Given as goal

abbrev pub invariant-loop-master : goal.invariant-loop-master
invariant-loop-master l = l.names ≡ l.initial.names ++ flat_map (names_of_master l.axis) (take l.master-index l.masters)
