use Rattle.std.proofs.Common.{◌≡◌, ◌++◌, ◌∙◌, ◌∷◌, [], ap, get_or}
use Rattle.grid_plan.{specs.Numbered.master_of, proofs.Pieces.map_step}
use Rattle.grid_plan.proofs.masters.Masters.place_row.Goals as goal

pub loop-cell-preserved : goal.loop-cell-preserved
loop-cell-preserved c =
    let f = master_of c.args.self.now.cells.items in
    let row = c.args.row.now in
    let k = c.loop-cell.cell-index in
    let made : c.place.result ≡ f (get_or row k 0) = c.place.ensures in
    map_step f [] row k 0 c.loop-cell.placed.items _ c.loop-cell-test.true c.loop-cell.invariant
    (c.in_ok-push.ensures.items ∙ ap (λ z. c.loop-cell.placed.items ++ z ∷ []) made)
