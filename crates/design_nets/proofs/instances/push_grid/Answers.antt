use Rattle.std.proofs.{Common.{List, map, ap, ◌∙◌, ◌++◌, sym, []}, lemmas.List.get_or-map}
use Rattle.list_facts.proofs.Pieces.{piece_added}
use Rattle.plan_model.specs.declared.plan.PlanRow.{PlanRow}
use Rattle.design_nets.specs.Instances.{instances_in_row, instances_in_row_at}
use Rattle.design_nets.proofs.instances.push_grid.Goals as goal

pub loop-row-preserved : goal.loop-row-preserved
loop-row-preserved c =
    let rows : List PlanRow = c.args.rows.now in
    let r = c.loop-row.row in
    let here = get_or-map (λ (row : PlanRow). row.cells) rows r c.index-rows-row.result [] c.loop-row-test.true
    ∙ sym c.as_slice.ensures in
    piece_added (instances_in_row_at c.args.grid (map (λ (row : PlanRow). row.cells) rows)) r
    c.args.instances.now.items c.loop-row.instances.items _ c.loop-row.invariant
    (c.in_ok-push_row.ensures ∙ ap (λ cells. c.loop-row.instances.items ++ instances_in_row c.args.grid r cells)
    (sym here))
