use Rattle.std.proofs.Common.{arith}
use Rattle.bar_sweep.proofs.Placed.{numbers_more, first_places}
use Rattle.bar_sweep.proofs.places.places_of.Goals as goal

pub loop-place-preserved : goal.loop-place-preserved
loop-place-preserved c =
    numbers_more c.loop-place.place c.loop-place.places.items c.push.new.self.items c.loop-place.invariant
    c.in_ok-push.ensures.items

pub returns : goal.returns
returns c =
    first_places c.args.count c.loop-place.place c.loop-place.places.items c.loop-place.invariant
    (let a = c.loop-place.auto.place-end in let b = c.loop-place-test.false in omega (arith, a, b))
