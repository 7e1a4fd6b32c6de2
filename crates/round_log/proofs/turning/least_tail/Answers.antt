use Rattle.round_log.proofs.Paths.{least_tail_is}
use Rattle.round_log.proofs.turning.least_tail.Goals as goal

pub returns-clause-value : goal.returns-clause-value
returns-clause-value c = least_tail_is c.args.edges.now c.args.walk.now c.loop-i.best c.loop-i.i
    c.loop-i.invariant.in_range c.loop-i-test.false c.loop-i.invariant.bound c.loop-i.invariant.low
    c.loop-i.invariant.first
