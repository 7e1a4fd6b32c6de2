use Rattle.std.{proofs.Common.{ℕ, ◌<◌, List, length, sym, subst}, specs.Prelude.All}
use Rattle.plan_model.specs.{declared.plan.PlanGrid.PlanGrid, Rows.rows_of}
use Rattle.design_masters.proofs.Counting.{among_images}
use Rattle.design_masters.proofs.masters.boxes_of_all.Goals as goal

pub with_grid-count-requires-clause-among : goal.with_grid-count-requires-clause-among
with_grid-count-requires-clause-among c =
    let P : List (List ℕ) → Type 0 = λ rows. All (All (λ m. m < length c.args.boxes.now)) rows in
    let here = among_images P rows_of c.args.grids.now c.loop-grid.grid-index c.grid-item.result c.loop-grid-test.true
    c.requires.among in
    let Q : PlanGrid → Type 0 = λ grid. P (rows_of grid) in
    subst Q (sym c.grid-item.is) here
