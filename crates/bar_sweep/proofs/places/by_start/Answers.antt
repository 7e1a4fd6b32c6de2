use Rattle.std.proofs.{Common.{length, rules}, lemmas.Fn.always_returns_same}
use Rattle.bar_sweep.specs.Sweeps.{start_at}
use Rattle.bar_sweep.proofs.Placed.{places_permuted, starts_in_order}
use Rattle.bar_sweep.proofs.places.by_start.Goals as goal

pub returns-clause-places : goal.returns-clause-places
returns-clause-places c =
    places_permuted (length c.args.bars.now) c.in_ok-places.places.items c.sort_unstable_by_key.new.self.items
    c.in_ok-places.ensures c.sort_unstable_by_key.ensures.permutation

pub returns-clause-in_order : goal.returns-clause-in_order
returns-clause-in_order c =
    starts_in_order c.args.bars.now c.sort_unstable_by_key.new.self.items
    (c.sort_unstable_by_key.ensures.sorted (start_at c.args.bars.now) (always_returns_same _ _ _ (λ a r f' k. search rules)))
