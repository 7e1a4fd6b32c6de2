use Rattle.std.{proofs.Common.{ℕ, ◌<◌, List, length, sym, subst}, specs.Prelude.All}
use Rattle.plan_model.specs.declared.plan.PlanRow.{PlanRow}
use Rattle.design_masters.proofs.Counting.{among_images}
use Rattle.design_masters.proofs.masters.with_grid.Goals as goal

pub with_row-count-requires-clause-among : goal.with_row-count-requires-clause-among
with_row-count-requires-clause-among c =
    let P : List ℕ → Type 0 = λ row. All (λ m. m < length c.args.boxes.now) row in
    let lt : c.loop-row.row-index < length c.args.grid.now.rows =
    rw c.as_slice-row-items.ensures at c.loop-row-test.true in
    let here = among_images P (λ (row : PlanRow). row.cells) c.args.grid.now.rows c.loop-row.row-index
    c.row-item.result lt c.requires.among in
    let Q : PlanRow → Type 0 = λ row. P row.cells in
    subst Q (sym (rw c.as_slice-row-items.ensures at c.row-item.is)) here
