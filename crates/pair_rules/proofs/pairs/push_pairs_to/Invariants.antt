use Rattle.std.{proofs.Common.{◌≡◌, ◌++◌}, specs.List.{flat_map, range_with_len}}
use Rattle.pair_rules.specs.Candidates.{pairs_at}
use Rattle.pair_rules.proofs.pairs.push_pairs_to.Given as goal

abbrev pub invariant-loop-i : goal.invariant-loop-i
invariant-loop-i l = l.pairs.items ≡ l.initial.pairs.items ++ flat_map (pairs_at l.axis l.tech l.coords l.items l.j)
    (range_with_len 0 l.i)
