use Rattle.std.proofs.{Common.{◌++◌, ◌∙◌, ◌∷◌, [], ap, map, take, get_or, arith}, lemmas.List.map-append}
use Rattle.std.specs.List.{zip}
use Rattle.plan_model.specs.Borders.{match_of}
use Rattle.grid_plan.proofs.Pieces.{zip_more, zip_all, added_after}
use Rattle.grid_plan.proofs.borders.push_matches.Goals as goal

pub loop-k-preserved : goal.loop-k-preserved
loop-k-preserved c =
    let before = c.args.before.now in
    let after = c.args.after.now in
    let k = c.loop-k.k in
    let f = match_of c.args.pair in
    let test = c.loop-k-test.true in
    let least = c.min-k-end.ensures in
    let old = zip (take k before) (take k after) in
    added_after c.args.found.now.items (map f old) _ _ _ _ c.loop-k.invariant c.in_ok-push.ensures.items
    (ap (map f) (zip_more before after k _ _ (omega arith) (omega arith))
    ∙ map-append f old ((get_or before k _, get_or after k _) ∷ []))

pub returns : goal.returns
returns c =
    let before = c.args.before.now in
    let after = c.args.after.now in
    let test = c.loop-k-test.false in
    let least = c.min-k-end.ensures in
    c.loop-k.invariant ∙ ap (λ pairs. c.args.found.now.items ++ map (match_of c.args.pair) pairs)
    (zip_all before after c.loop-k.k (omega arith))
