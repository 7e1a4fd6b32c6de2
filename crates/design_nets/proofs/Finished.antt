-- The boxes of finished layouts that can be drawn lie near.
use Rattle.std.proofs.{Common.{ℕ, ◌^◌, ◌<◌, pos, ◌≤ℤ◌, List, length, get_or, refl, arith}, lemmas.Int.ints}
use Rattle.std.{proofs.lemmas.List.Elements.Contains-get_or, specs.Prelude.slice_index}
use Rattle.lam_geom.specs.declared.boxes.Axis.TheVariants.{X, Y}
use Rattle.rule_table.specs.{declared.technology.Tech.Tech, Technology.widest_of}
use Rattle.sym_items.specs.{declared.items.{Coords.Coords, Item.Item}, Layouts.{value_in, size_in}}
use Rattle.pair_rules.specs.Bound.{item_at, no_item}
use Rattle.expand.specs.declared.master.Master.{Master}
use Rattle.plan_model.specs.{declared.plan.Plan.Plan, Instances.{grid_at, master_at_spot, row_height}, Plan.grids_of}
use Rattle.plan_model.specs.Rows.{row_at}
use Rattle.pitch_join.specs.Masters.{master_at}
use Rattle.instance_laws.specs.{Planned.AreOfPlan, Rules.AreFinished}
use Rattle.instance_laws.proofs.{Gaps.grids_laid, InCell.items_between, Meeting.{master_among, master_is}}
use Rattle.mask_out.{specs.Pictures.IsDrawable, proofs.Totals.{past_instance, past_row}}
use Rattle.design_nets.{specs.{Shapes.drawn_in, Transistors.BoxesLieNear}, proofs.NodeItems.drawn_within}

pub finished_near : (tech : Tech) (plan : Plan) (masters : List Master) (layouts : List Coords)
    → AreOfPlan tech plan masters → AreFinished tech plan masters layouts
    → IsDrawable (size_in X layouts) (size_in Y layouts) (widest_of tech) (grids_of plan)
    → BoxesLieNear plan masters layouts
finished_near tech plan masters layouts planned finished drawable p at j d lt =
    let grids : List (List (List ℕ)) = grids_of plan in
    let rows : List (List ℕ) = grid_at grids p.grid in
    let row : List ℕ = row_at rows p.row in
    let m : ℕ = master_at_spot grids p in
    let master : Master = master_at masters m in
    let items : List Item = master.items.list in
    let n : ℕ = get_or (drawn_in master) j d in
    let item : Item = item_at items n in
    let among : n < length items = drawn_within items items (drawn_in master) refl refl j d lt in
    let each = drawable.each p.grid at.grid in
    let across = past_instance (size_in X layouts) row p.col (size_in X layouts (slice_index row p.col))
    (each.across p.row at.row) at.col refl in
    let up = past_row (size_in X layouts) (size_in Y layouts) rows p.row row (row_height (size_in Y layouts) row) each
    at.row refl refl in
    let own =
    (grids_laid Y tech plan masters layouts (record { planned = planned; finished = finished }) p.grid
    at.grid).sizes p.row p.col at.row at.col in
    let wide : size_in X layouts m ≤ℤ pos (2 ^ 40) =
    (let sum = across.sum in let low = across.before_low in let high = across.next_high in
    omega (arith, ints, sum, low, high)) in
    let high : size_in Y layouts m ≤ℤ pos (2 ^ 40) =
    (let sum = up.sum in let low = up.before_low in let high = up.next_high in
    omega (arith, ints, sum, low, high, own)) in
    let is = master_is tech plan masters p planned at in
    let there = master_among tech plan masters p planned at in
    let x = items_between X tech master (value_in X layouts m) item is ((finished.meet X).structures m there)
    (Contains-get_or items n no_item among) in
    let y = items_between Y tech master (value_in Y layouts m) item is ((finished.meet Y).structures m there)
    (Contains-get_or items n no_item among) in
    let left = x.above in
    let right = x.below in
    let bottom = y.above in
    let top = y.below in
    record {
      left = omega (arith, ints, left);
      right = omega (arith, ints, right, wide);
      bottom = omega (arith, ints, bottom);
      top = omega (arith, ints, top, high);
    }
