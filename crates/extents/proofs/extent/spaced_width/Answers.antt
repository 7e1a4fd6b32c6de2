use Rattle.std.proofs.{Common.{◌≡◌, ℤ, pos, List, take, map, ap, arith, to_z, of_z, w64}, lemmas.Int.{ints, clamps}}
use Rattle.std.{proofs.lemmas.{Int.to_z-of_z, List.take_all}, specs.Prelude.{◌+ℤ◌, ◌≤ℤ◌}}
use Rattle.lam_geom.specs.declared.boxes.Axis.TheVariants.{X}
use Rattle.plan_model.specs.{declared.plan.PlanGrid.PlanGrid, Rows.{rows_of, first_row}, Instances.{total, grid_width}}
use Rattle.sym_items.specs.Layouts.{size_in}
use Rattle.extents.proofs.Sums.{total_next, total_positive, grids_total}
use Rattle.extents.proofs.extent.spaced_width.Goals as goal

pub loop-grid-preserved : goal.loop-grid-preserved
loop-grid-preserved c =
    let same : to_z w64 (of_z w64 c.args.widest) ≡ c.args.widest = to_z-of_z w64 c.args.widest c.ranges.widest in
    let f : PlanGrid → ℤ = λ grid. grid_width (size_in X c.args.layouts.now) (rows_of grid) +ℤ c.args.widest in
    let wide : (grid : PlanGrid) → pos 0 ≤ℤ grid_width (size_in X c.args.layouts.now) (rows_of grid) =
    λ grid. total_positive (size_in X c.args.layouts.now) c.requires.sizes (first_row (rows_of grid)) in
    let low = c.requires.widest in
    let up : (grid : PlanGrid) → pos 0 ≤ℤ f grid = λ grid. let w = wide grid in omega (arith, ints, w, low) in
    let i = c.loop-grid.grid-index in
    let grids = c.args.grids.now in
    let next = total_next f grids i c.grid-item.result c.loop-grid-test.true in
    let before = total_positive f up (take i grids) in
    let more = wide c.grid-item.result in
    let at = ap f c.grid-item.is in
    let row = ap (λ z. grid_width (size_in X c.args.layouts.now) z) (ap rows_of c.grid-item.is) in
    let w = rw c.first_row.ensures at c.row_width.ensures.value in
    let r = c.longer-sum.ensures.value in
    let q = c.longer-sum-in-loop-grid.ensures.value in
    let positive = c.longer-sum-in-loop-grid.ensures.positive in
    let inv = rw same at c.loop-grid.invariant in
    rw same (omega (
      arith,
      ints,
      clamps,
      next,
      before,
      more,
      at,
      row,
      w,
      r,
      q,
      positive,
      inv,
      low,
      c.requires.least,
      c.requires.most,
      c.requires.small,
    ))

pub returns : goal.returns
returns c =
    let same : to_z w64 (of_z w64 c.args.widest) ≡ c.args.widest = to_z-of_z w64 c.args.widest c.ranges.widest in
    let inv = rw same at c.loop-grid.invariant in
    let e = grids_total (size_in X c.args.layouts.now) c.args.widest c.args.grids.now in
    let width : PlanGrid → ℤ = λ grid. grid_width (size_in X c.args.layouts.now) (rows_of grid) +ℤ c.args.widest in
    let all = ap (λ (gs : List PlanGrid). total (map width gs))
    (take_all c.loop-grid.grid-index c.args.grids.now c.loop-grid-test.false) in
    omega (arith, ints, clamps, inv, e, all)
