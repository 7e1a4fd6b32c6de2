-- The pairs so far are those of the numbers so far.
use Rattle.std.proofs.Common.{◌≡◌, flat_map, take}
use Rattle.pair_set.specs.Sets.{pair_of}
use Rattle.shadow_prune.specs.KeptNumbers.{pairs_of_numbers}
use Rattle.shadow_prune.proofs.keeping.with_spacings.Given as goal

abbrev pub invariant-loop-key : goal.invariant-loop-key
invariant-loop-key l =
    l.pairs.items ≡ flat_map (λ k. pairs_of_numbers l.fn.axis l.tech l.fn.coords l.items (pair_of k))
    (take l.key-index l.keys)
