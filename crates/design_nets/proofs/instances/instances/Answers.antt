use Rattle.std.proofs.{Common.{List, map, length, ap, ◌∙◌, ◌≡◌, ◌++◌, sym, [], get_or, arith}, lemmas.List.length-map}
use Rattle.std.{proofs.lemmas.List.get_or-map, specs.{Prelude.flat_map, List.range_with_len}}
use Rattle.list_facts.proofs.Pieces.{piece_added}
use Rattle.plan_model.specs.{declared.plan.{PlanGrid.PlanGrid, PlanRow.PlanRow}, Instances.grid_at, Plan.grids_of}
use Rattle.plan_model.specs.Rows.{rows_of}
use Rattle.design_nets.{specs.Instances.instances_in_grid, proofs.Spots.instances_by_grid}
use Rattle.design_nets.proofs.instances.instances.Goals as goal

pub loop-grid-preserved : goal.loop-grid-preserved
loop-grid-preserved c =
    let grids = c.args.plan.now.grids in
    let g = c.loop-grid.grid in
    let own : PlanGrid = c.index-grids-grid.result in
    let at : List PlanGrid → List PlanRow = λ gs. (get_or gs g own).rows in
    let rows = ap (map (λ (row : PlanRow). row.cells)) (c.as_slice.ensures ∙ ap at c.as_slice-grids.ensures) in
    let here = get_or-map rows_of grids g own [] (omega (arith, ap length c.as_slice-grids.ensures)) ∙ sym rows in
    piece_added (λ k. instances_in_grid k (grid_at (grids_of c.args.plan.now) k)) g [] c.loop-grid.instances.items _
    c.loop-grid.invariant
    (c.in_ok-push_grid.ensures ∙ ap (λ rows. c.loop-grid.instances.items ++ instances_in_grid g rows) (sym here))

pub returns : goal.returns
returns c =
    let grids = grids_of c.args.plan.now in
    let all : c.loop-grid.grid ≡ length grids =
    omega (arith, length-map c.args.plan.now.grids rows_of, ap length c.as_slice-grids.ensures) in
    c.loop-grid.invariant
    ∙ (ap (λ n. flat_map (λ g. instances_in_grid g (grid_at grids g)) (range_with_len 0 n)) all
    ∙ sym (instances_by_grid grids))
