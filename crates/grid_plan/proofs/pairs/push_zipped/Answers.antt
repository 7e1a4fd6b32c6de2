use Rattle.std.{proofs.Common.{◌++◌, ◌∙◌, ap, take, arith}, specs.List.zip}
use Rattle.grid_plan.proofs.Pieces.{zip_more, zip_all, added_after}
use Rattle.grid_plan.proofs.pairs.push_zipped.Goals as goal

pub loop-c-preserved : goal.loop-c-preserved
loop-c-preserved c =
    let low = c.args.low.now in
    let high = c.args.high.now in
    let k = c.loop-c.c in
    let test = c.loop-c-test.true in
    added_after c.args.pairs.now.items (zip (take k low) (take k high)) _ _ _ _ c.loop-c.invariant
    c.in_ok-push.ensures.items (zip_more low high k 0 0 (omega arith) (omega arith))

pub returns : goal.returns
returns c =
    let low = c.args.low.now in
    let high = c.args.high.now in
    let test = c.loop-c-test.false in
    c.loop-c.invariant ∙ ap (λ pairs. c.args.pairs.now.items ++ pairs) (zip_all low high c.loop-c.c (omega arith))
