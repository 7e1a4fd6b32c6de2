-- The text of finished layouts has the sticks' nets.
use Rattle.std.proofs.Common.{ℤ, List, map, sym, ap, ◌∙◌}
use Rattle.lam_geom.specs.declared.boxes.{Axis.TheVariants.{X, Y}, MaskBox.MaskBox}
use Rattle.rule_table.specs.{declared.technology.Tech.Tech, Technology.widest_of}
use Rattle.sym_items.specs.{declared.items.Coords.Coords, Layouts.size_in}
use Rattle.expand.specs.declared.master.Master.{Master}
use Rattle.plan_model.specs.{declared.plan.Plan.Plan, Plan.grids_of}
use Rattle.mask_out.specs.{declared.drawing.Call.Call, Pictures.{Drawing, drawings_in, calls_of}}
use Rattle.written_masks.specs.{TextMeanings.{drawn_mask, TextsMeanTheirPicturesToOthers}, Written.unit_of}
use Rattle.written_masks.specs.Written.{text_of_layouts, HasSticksNets}
use Rattle.written_masks.proofs.{Boxes.{picture_drawn, boxes_show}, Pictures.picture_writable, Symbols.FitFinished}
use Rattle.instance_laws.{specs.{Shapes.AreShapes, Sticks.NetsAreTheSticks}, proofs.PictureShapes.picture_shows}

-- where boxes that show the items of all instances have the sticks' nets
pub text_has_nets : (tech : Tech) (plan : Plan) (masters : List Master) (layouts : List Coords)
    → FitFinished tech plan masters layouts → TextsMeanTheirPicturesToOthers
    → ((boxes : List MaskBox) → AreShapes tech plan masters layouts boxes
    → NetsAreTheSticks tech plan masters layouts boxes)
    → HasSticksNets tech plan masters layouts (text_of_layouts tech plan masters layouts)
text_has_nets tech plan masters layouts h meant extracted =
    let unit : ℤ = unit_of tech in
    let drawings : List Drawing = drawings_in masters layouts in
    let calls : List Call = calls_of (size_in X layouts) (size_in Y layouts) (widest_of tech) (grids_of plan) in
    let writable = picture_writable tech plan masters layouts h in
    let meaning = meant unit drawings calls writable in
    let drawn = picture_drawn unit drawings calls writable in
    let shown = picture_shows tech plan masters layouts h.planned h.fit.counted in
    let shapes = boxes_show tech plan masters layouts drawn.boxes (drawn.drawn ∙ ap (map (drawn_mask unit)) shown) in
    record {
      hierarchy = meaning.0;
      means = meaning.1;
      boxes = drawn.boxes;
      drawn = drawn.drawn ∙ sym meaning.2;
      shapes = shapes;
      nets = extracted drawn.boxes shapes;
    }
