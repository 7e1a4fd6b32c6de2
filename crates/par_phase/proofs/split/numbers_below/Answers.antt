use Rattle.std.proofs.{Common.arith, lemmas.Iterator.{items_from_collect, YieldsList-from_range}}
use Rattle.par_phase.proofs.split.numbers_below.Goals as goal

pub returns : goal.returns
returns c = items_from_collect _ c.collect.ensures.ran
    (YieldsList-from_range 0 c.args.count c.args.count (cc) (omega arith))
