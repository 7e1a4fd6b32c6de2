-- How many shapes masters have.
use Rattle.std.proofs.{Common.{List, length, map, ◌≤◌, ◌^◌, arith}, lemmas.List.length-map}
use Rattle.rule_table.specs.declared.technology.Tech.{Tech}
use Rattle.sym_items.specs.{declared.items.Coords.Coords, Layouts.no_layout}
use Rattle.expand.specs.declared.master.Master.{Master}
use Rattle.plan_model.specs.declared.plan.Plan.{Plan}
use Rattle.pitch_join.specs.Masters.{ArePlanned}
use Rattle.instance_laws.specs.Shapes.{shapes_of}
use Rattle.master_counts.specs.Parts.{boxes_of_instances}
use Rattle.written_masks.proofs.InstanceBoxes.{shapes_counted}
use Rattle.design_layouts.proofs.Layouts.{of_plan}

-- few boxes have few shapes
pub few_shapes : (tech : Tech) (plan : Plan) (masters : List Master) → ArePlanned tech plan masters
    → boxes_of_instances plan masters ≤ 1048576 → length (shapes_of plan masters) ≤ 2 ^ 20
few_shapes tech plan masters planned few =
    let layouts : List Coords = map (λ (m : Master). no_layout) masters in
    let same = shapes_counted tech plan masters layouts (of_plan planned)
    (length-map masters (λ (m : Master). no_layout)) in
    omega (arith, same, few)
