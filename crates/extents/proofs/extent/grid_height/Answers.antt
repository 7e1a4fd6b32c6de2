use Rattle.std.proofs.{Common.{◌<◌, ◌≤◌, ℤ, pos, List, length, take, map, ap, arith}, lemmas.Int.{ints, clamps}}
use Rattle.std.{proofs.lemmas.List.take_all, specs.Prelude.◌≤ℤ◌}
use Rattle.lam_geom.specs.declared.boxes.Axis.TheVariants.{Y}
use Rattle.plan_model.specs.{declared.plan.PlanRow.PlanRow, Instances.{total, row_height}}
use Rattle.sym_items.specs.Layouts.{size_in}
use Rattle.extents.proofs.Sums.{total_next, total_positive, rows_total}
use Rattle.extents.proofs.extent.grid_height.Goals as goal

pub loop-row-preserved : goal.loop-row-preserved
loop-row-preserved c =
    let f : PlanRow → ℤ = λ row. row_height (size_in Y c.args.layouts.now) row.cells in
    let up : (row : PlanRow) → pos 0 ≤ℤ f row = λ row. c.requires.sizes _ in
    let i = c.loop-row.row-index in
    let rows = c.args.grid.now.rows in
    let lt : i < length rows = rw c.as_slice-row-items.ensures at c.loop-row-test.true in
    let next = total_next f rows i c.row-item.result lt in
    let before = total_positive f up (take i rows) in
    let more = up c.row-item.result in
    let at = ap f (rw c.as_slice-row-items.ensures at c.row-item.is) in
    let w = c.row_height.ensures in
    let r = c.longer-sum.ensures.value in
    let positive = c.longer-sum.ensures.positive in
    let inv = c.loop-row.invariant in
    omega (arith, ints, clamps, next, before, more, at, w, r, positive, inv, c.requires.least, c.requires.most)

pub returns : goal.returns
returns c =
    let inv = c.loop-row.invariant in
    let e = rows_total (row_height (size_in Y c.args.layouts.now)) c.args.grid.now.rows in
    let rows = c.args.grid.now.rows in
    let end : length rows ≤ c.loop-row.row-index = rw c.as_slice-row-items.ensures at c.loop-row-test.false in
    let all =
    ap (λ (rs : List PlanRow).
    total (map (λ (row : PlanRow). row_height (size_in Y c.args.layouts.now) row.cells) rs)) (take_all
    c.loop-row.row-index rows end) in
    omega (arith, ints, clamps, inv, e, all)
