use Rattle.std.{proofs.Common.{◌≡◌, ◌++◌, take}, specs.List.flat_map}
use Rattle.pitch_join.specs.Among.{listed_pitch}
use Rattle.pitch_join.proofs.fixed.push_pitches.Given as goal

abbrev pub invariant-loop-pair : goal.invariant-loop-pair
invariant-loop-pair l = l.edges.items ≡ l.initial.edges.items
    ++ flat_map (listed_pitch l.base) (take l.pair-index l.pairs)
