use Rattle.liao_wong.proofs.Course.{places_done}
use Rattle.liao_wong.proofs.solver.places_of.Goals as goal

pub returns : goal.returns
returns c = places_done c.args.order.now c.loop-i.places.items c.loop-i.i c.requires.names c.loop-i.invariant.one_each
    c.loop-i-test.false c.loop-i.invariant.placed
