use Rattle.std.proofs.Common.{refl, arith}
use Rattle.coarse_grid.proofs.FirstNear.{first_more, first_of_all}
use Rattle.coarse_grid.proofs.nearby.first_clash.Goals as goal

pub loop-class-preserved : goal.loop-class-preserved
loop-class-preserved c = first_more c.args.tech.now c.args.coords.now c.args.items.now _ c.loop-class.class-index
    c.loop-class.first c.in_ok-first.first c.loop-class.invariant refl c.in_ok-first.ensures

pub pair_of-requires-clause-first : goal.pair_of-requires-clause-first
pair_of-requires-clause-first c = first_of_all c.args.tech.now c.args.coords.now c.args.items.now
    c.loop-class.class-index c.loop-class.first (omega arith) c.loop-class.invariant
