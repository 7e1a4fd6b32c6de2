use Rattle.std.proofs.Common.{length}
use Rattle.bar_sweep.proofs.Placed.{places_permuted}
use Rattle.bar_sweep.proofs.places.by_end.Goals as goal

pub returns : goal.returns
returns c =
    record {
      places = places_permuted (length c.args.bars.now) c.in_ok-places.places.items c.sort_unstable_by_key.new.self.items
          c.in_ok-places.ensures c.sort_unstable_by_key.ensures.permutation;
    }
