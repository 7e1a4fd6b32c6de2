use Rattle.std.proofs.Common.{arith}
use Rattle.jog_insert.proofs.Marking.{all_marked}
use Rattle.jog_insert.proofs.naming.first_unmarked.Goals as goal

pub unreachable-requires : goal.unreachable-requires
unreachable-requires c = let all =
    all_marked c.args.taken.now (λ k lt. c.loop-n.invariant k (omega (arith, lt, c.loop-n-test.false))) in
    omega (arith, all, c.requires)
