-- The picture has the boxes of all instances.
use Rattle.std.proofs.{Common.{◌≡◌, ℕ, ◌<◌, List, length, map, sym, ap, ◌∙◌}, lemmas.List.length-map}
use Rattle.list_facts.proofs.Elements.{all_weaker}
use Rattle.lam_geom.specs.declared.boxes.{Axis.TheVariants.{X, Y}, MaskBox.MaskBox}
use Rattle.rule_table.specs.{declared.technology.Tech.Tech, Technology.widest_of}
use Rattle.cell_model.specs.Counts.{boxes_in}
use Rattle.sym_items.specs.{declared.items.{Coords.Coords, Items.Items}, Layouts.{layout_at, size_in}}
use Rattle.expand.specs.{declared.master.Master.Master, Items.AreItems}
use Rattle.plan_model.specs.{declared.plan.Plan.Plan, Instances.{InstancePlace, IsInstancePlace, master_at_spot}}
use Rattle.plan_model.specs.{Instances.spots_of, Plan.grids_of}
use Rattle.pitch_join.specs.Masters.{master_at, no_master}
use Rattle.instance_laws.specs.{Planned.AreOfPlan, Conductors.InstanceItem, Shapes.{shapes_of, mask_of_shape}}
use Rattle.instance_laws.specs.Shapes.{AreShapes}
use Rattle.instance_laws.proofs.PictureShapes.{spots_are, master_there, masks_drawn, picture_shows}
use Rattle.mask_out.specs.{declared.drawing.Call.Call, Masks.masks_in, Pictures.{Drawing, drawings_in, call_at}}
use Rattle.mask_out.{specs.Pictures.masks_at, proofs.{Counted.boxes_counted, FlatCounted.flat_counted}}
use Rattle.written_masks.{specs.Parts.boxes_of_picture, proofs.{Sums.sum_same, InstanceSums.instance_sum}}
use Rattle.master_counts.{specs.Parts.{boxes_at, boxes_of_instances}, proofs.Sums.sum_images}

-- the masks of a master in any layout
items_counted : (tech : Tech) (master : Master) (c : Coords) → AreItems tech master.cell master.items
    → length (masks_in c master.items.list) ≡ boxes_in master.cell
items_counted tech master c is = ap (λ (items : Items). length (masks_in c items.list)) is.are
    ∙ boxes_counted tech master.cell is.nets c

-- of its symbol
pub symbol_counted : (tech : Tech) (plan : Plan) (masters : List Master) (layouts : List Coords)
    → AreOfPlan tech plan masters → length layouts ≡ length masters → (m : ℕ) → m < length masters
    → length (masks_at (drawings_in masters layouts) m) ≡ boxes_at masters m
symbol_counted tech plan masters layouts planned counted m lt =
    ap length (masks_drawn masters layouts m counted lt)
    ∙ items_counted tech (master_at masters m) (layout_at layouts m) (planned.each m no_master lt).items

-- of all instances
pub picture_counted : (tech : Tech) (plan : Plan) (masters : List Master) (layouts : List Coords)
    → AreOfPlan tech plan masters → length layouts ≡ length masters
    → length (boxes_of_picture tech plan masters layouts) ≡ boxes_of_instances plan masters
picture_counted tech plan masters layouts planned counted =
    let grids = grids_of plan in
    let drawings : List Drawing = drawings_in masters layouts in
    let call : InstancePlace → Call = call_at (size_in X layouts) (size_in Y layouts) (widest_of tech) grids in
    let called : InstancePlace → ℕ = λ p. length (masks_at drawings (master_at_spot grids p)) in
    let own : InstancePlace → ℕ = λ p. boxes_at masters (master_at_spot grids p) in
    flat_counted drawings (map call (spots_of grids))
    ∙ (sum_images (λ (one : Call). length (masks_at drawings one.symbol)) call (spots_of grids)
    ∙ (sum_same called own (spots_of grids)
    (all_weaker (IsInstancePlace grids) (λ p. called p ≡ own p)
    (λ p there. symbol_counted tech plan masters layouts planned counted (master_at_spot grids p)
    (master_there tech plan masters planned p there)) (spots_of grids) (spots_are grids))
    ∙ instance_sum (boxes_at masters) grids))

-- of all items that are boxes
pub shapes_counted : (tech : Tech) (plan : Plan) (masters : List Master) (layouts : List Coords)
    → AreOfPlan tech plan masters → length layouts ≡ length masters
    → length (shapes_of plan masters) ≡ boxes_of_instances plan masters
shapes_counted tech plan masters layouts planned counted =
    sym (length-map (shapes_of plan masters) (mask_of_shape tech plan masters layouts))
    ∙ (sym (ap length (picture_shows tech plan masters layouts planned counted))
    ∙ picture_counted tech plan masters layouts planned counted)

-- boxes that show all items
pub shown_counted : (tech : Tech) (plan : Plan) (masters : List Master) (layouts : List Coords)
    → AreOfPlan tech plan masters → length layouts ≡ length masters
    → (boxes : List MaskBox) → AreShapes tech plan masters layouts boxes
    → length boxes ≡ boxes_of_instances plan masters
shown_counted tech plan masters layouts planned counted boxes shown =
    shown.counted ∙ shapes_counted tech plan masters layouts planned counted
