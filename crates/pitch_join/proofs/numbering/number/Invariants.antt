use Rattle.std.{proofs.Common.{◌≡◌, map}, specs.List.range_with_len}
use Rattle.pitch_join.specs.Joined.{base_of}
use Rattle.pitch_join.proofs.numbering.number.Given as goal

abbrev pub invariant-loop-master : goal.invariant-loop-master
invariant-loop-master l = (l.next ≡ base_of l.axis l.masters l.master-index)
    × (l.base.items ≡ map (base_of l.axis l.masters) (range_with_len 0 l.master-index))
