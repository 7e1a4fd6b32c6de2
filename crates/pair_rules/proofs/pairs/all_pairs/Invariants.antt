use Rattle.std.{proofs.Common.◌≡◌, specs.List.{flat_map, range_with_len}}
use Rattle.pair_rules.specs.Candidates.{candidates_to}
use Rattle.pair_rules.proofs.pairs.all_pairs.Given as goal

abbrev pub invariant-loop-j : goal.invariant-loop-j
invariant-loop-j l = l.pairs.items ≡ flat_map (candidates_to l.axis l.tech l.coords l.items) (range_with_len 0 l.j)
