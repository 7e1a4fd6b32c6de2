use Rattle.std.proofs.Common.{take, arith}
use Rattle.plan_model.specs.Rows.{neighbours}
use Rattle.grid_plan.proofs.Pieces.{neighbours_more, added_after}
use Rattle.grid_plan.proofs.pairs.push_neighbours.Goals as goal

pub loop-k-preserved : goal.loop-k-preserved
loop-k-preserved c =
    let row = c.args.row.now in
    let k = c.loop-k.k in
    let before = c.loop-k.invariant in (
      omega arith,
      added_after c.args.pairs.now.items (neighbours (take k row)) _ _ _ _ before.1
          c.in_ok-push.ensures.items (neighbours_more row k 0 before.0 c.loop-k-test.true),
    )
