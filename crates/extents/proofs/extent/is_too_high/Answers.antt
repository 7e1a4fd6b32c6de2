use Rattle.std.proofs.{Common.{arith, ap, map}, lemmas.Int.{ints, clamps}}
use Rattle.lam_geom.specs.declared.boxes.Axis.TheVariants.{Y}
use Rattle.sym_items.specs.Layouts.{size_in}
use Rattle.plan_model.specs.{Rows.rows_of, Instances.{grid_height, whole_height}}
use Rattle.extents.proofs.Sums.{highest_above, past_most}
use Rattle.extents.proofs.extent.is_too_high.Goals as goal

pub returns-then-grid_height-most : goal.returns-then-grid_height-most
returns-then-grid_height-most c =
    let above = highest_above (size_in Y c.args.layouts.now) c.args.grids.now c.loop-grid.grid-index
    c.grid-item.result c.loop-grid-test.true in
    let at = ap (λ g. grid_height (size_in Y c.args.layouts.now) (rows_of g)) c.grid-item.is in
    let h = c.grid_height.ensures in
    let is = c.if-grid_height-most.true in
    past_most c.args.most (whole_height (size_in Y c.args.layouts.now) (map rows_of c.args.grids.now))
    (omega (arith, ints, clamps, above, at, h, is, c.requires.least, c.requires.most))
