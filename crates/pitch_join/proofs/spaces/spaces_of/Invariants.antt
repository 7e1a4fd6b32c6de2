use Rattle.std.proofs.Common.{◌≡◌, map, take}
use Rattle.pair_rules.specs.declared.pairs.Pair.{Pair}
use Rattle.pitch_join.specs.Joined.{shifted, space_edge}
use Rattle.pitch_join.proofs.spaces.spaces_of.Given as goal

abbrev pub invariant-loop-pair : goal.invariant-loop-pair
invariant-loop-pair l = l.edges.items
    ≡ map (λ (p : Pair). shifted l.base (space_edge l.axis l.items p)) (take l.pair-index l.pairs)
