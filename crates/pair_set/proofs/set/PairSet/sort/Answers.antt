use Rattle.std.proofs.{Common.{eqb}, lemmas.List.Filters.dedup_is}
use Rattle.pair_set.proofs.Ordered.{in_order, same_members}
use Rattle.pair_set.proofs.set.PairSet.sort.Goals as goal

pub returns-clause-in_order : goal.returns-clause-in_order
returns-clause-in_order c =
    rw (dedup_is eqb c.sort_unstable.new.self.items c.dedup.new.self.items c.dedup.ensures.filtered)
    (in_order c.sort_unstable.new.self.items c.sort_unstable.ensures.sorted)

pub returns-clause-same : goal.returns-clause-same
returns-clause-same c =
    rw (dedup_is eqb c.sort_unstable.new.self.items c.dedup.new.self.items c.dedup.ensures.filtered)
    (same_members c.args.self.now.keys.items c.sort_unstable.new.self.items c.sort_unstable.ensures.permutation)
