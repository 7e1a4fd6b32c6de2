-- The picture of finished layouts can be written into a text.
use Rattle.std.proofs.{Common.{◌≡◌, ◌<◌, List, All, length, get_or, min, sym, ap, ◌∙◌, subst, arith}, lemmas.Int.ints}
use Rattle.std.{proofs.lemmas.{List.{get_or-map, length-map}, Slice.Zip.{get_or-zip, length-zip}}, specs.List.zip}
use Rattle.list_facts.proofs.Elements.{all_map, all_of, all_weaker}
use Rattle.lam_geom.specs.declared.boxes.Axis.TheVariants.{X, Y}
use Rattle.rule_table.specs.{declared.technology.Tech.Tech, Technology.widest_of}
use Rattle.sym_items.specs.{declared.items.Coords.Coords, Layouts.{layout_at, no_layout, size_in}}
use Rattle.expand.specs.declared.master.Master.{Master}
use Rattle.plan_model.specs.{declared.plan.Plan.Plan, Instances.{InstancePlace, IsInstancePlace, master_at_spot}}
use Rattle.plan_model.specs.{Instances.spots_of, Plan.grids_of}
use Rattle.pitch_join.specs.Masters.{master_at, no_master, ports_of_masters, master_ports}
use Rattle.mask_out.specs.{declared.drawing.Call.Call, Pictures.{drawing_in, drawings_in, call_at, calls_of}}
use Rattle.written_masks.specs.{TextMeanings.{IsWritableDrawing, IsWritableCall, IsWritablePicture}, Written.unit_of}
use Rattle.written_masks.proofs.{DrawnExtents.{StaysInside, call_inside}, Symbols.{FitFinished, width_of_whole}}
use Rattle.written_masks.proofs.Symbols.{height_of_whole, is_unit, size_low, all_inside, symbol_writable}
use Rattle.instance_laws.proofs.PictureShapes.{spots_are, master_there}

pub drawings_counted : (masters : List Master) (layouts : List Coords) → length layouts ≡ length masters
    → length (drawings_in masters layouts) ≡ length masters
drawings_counted masters layouts counted =
    let paired : length (zip masters layouts) ≡ min (length masters) (length layouts) = length-zip masters layouts in
    let drawn : length (drawings_in masters layouts) ≡ length (zip masters layouts) =
    length-map (zip masters layouts) drawing_in in
    omega (arith, paired, drawn, counted)

symbols_writable : (tech : Tech) (plan : Plan) (masters : List Master) (layouts : List Coords)
    → FitFinished tech plan masters layouts → All IsWritableDrawing (drawings_in masters layouts)
symbols_writable tech plan masters layouts h = λ m d lt.
    let counted = h.fit.counted in
    let drawn = drawings_counted masters layouts counted in
    let pair : Master × Coords = (no_master, no_layout) in
    let few : m < length masters = omega (arith, drawn, lt) in
    let paired = length-zip masters layouts in
    let among : m < length (zip masters layouts) = omega (arith, paired, counted, few) in
    let here : get_or (zip masters layouts) m pair ≡ (master_at masters m, layout_at layouts m) =
    get_or-zip masters layouts m pair few (omega (arith, counted, few)) in
    let is : get_or (drawings_in masters layouts) m d ≡ drawing_in (master_at masters m, layout_at layouts m) =
    get_or-map drawing_in (zip masters layouts) m pair d among ∙ ap drawing_in here in
    subst IsWritableDrawing (sym is) (symbol_writable tech plan masters layouts h m few)

call_writable : (tech : Tech) (plan : Plan) (masters : List Master) (layouts : List Coords)
    → FitFinished tech plan masters layouts → (p : InstancePlace) → IsInstancePlace (grids_of plan) p
    → IsWritableCall (unit_of tech) (length (drawings_in masters layouts))
    (call_at (size_in X layouts) (size_in Y layouts) (widest_of tech) (grids_of plan) p)
call_writable tech plan masters layouts h p there =
    let m = master_at_spot (grids_of plan) p in
    let drawn = drawings_counted masters layouts h.fit.counted in
    let among : m < length masters = master_there tech plan masters h.planned p there in
    let inside = all_inside tech plan masters layouts h p there in
    let right = inside.right in
    let top = inside.top in
    let wide = size_low tech plan masters layouts h X m in
    let tall = size_low tech plan masters layouts h Y m in
    let call : Call = call_at (size_in X layouts) (size_in Y layouts) (widest_of tech) (grids_of plan) p in
    let stays : StaysInside (width_of_whole tech plan layouts) (height_of_whole plan layouts) call =
    record {
      left = inside.left;
      right = omega (arith, ints, right, wide);
      bottom = inside.bottom;
      top = omega (arith, ints, top, tall);
    } in
    call_inside (unit_of tech) (width_of_whole tech plan layouts) (height_of_whole plan layouts)
    (length (drawings_in masters layouts)) call (is_unit tech) h.fit.width h.fit.height
    (omega (arith, drawn, among)) stays

pub picture_writable : (tech : Tech) (plan : Plan) (masters : List Master) (layouts : List Coords)
    → FitFinished tech plan masters layouts
    → IsWritablePicture (unit_of tech) (drawings_in masters layouts)
    (calls_of (size_in X layouts) (size_in Y layouts) (widest_of tech) (grids_of plan))
picture_writable tech plan masters layouts h =
    let grids = grids_of plan in
    let call : InstancePlace → Call = call_at (size_in X layouts) (size_in Y layouts) (widest_of tech) grids in
    let Writable : Call → Type 0 = IsWritableCall (unit_of tech) (length (drawings_in masters layouts)) in
    let drawn = drawings_counted masters layouts h.fit.counted in
    let ported : length (ports_of_masters masters) ≡ length masters = length-map masters master_ports in
    let few = h.planned.planned.few_masters in
    record {
      is_unit = is_unit tech;
      few = omega (arith, drawn, ported, few);
      drawn = symbols_writable tech plan masters layouts h;
      called =
          all_of Writable (calls_of (size_in X layouts) (size_in Y layouts) (widest_of tech) grids)
          (all_map Writable call (spots_of grids)
          (all_weaker (IsInstancePlace grids) (λ p. Writable (call p)) (call_writable tech plan masters layouts h)
          (spots_of grids) (spots_are grids)));
    }
