-- The boxes of a picture are those of the items of all instances, one by one.
use Rattle.std.proofs.Common.{◌≡◌, ℕ, ◌<◌, true, List, [], length, map, filter, refl, sym, ap, ◌∙◌, subst, arith}
use Rattle.std.proofs.lemmas.{List.{length-map, get_or-map, Folds.flat_map-map}, Simd.map-map, Slice.Zip.get_or-zip}
use Rattle.std.proofs.lemmas.Slice.Zip.{length-zip}
use Rattle.std.specs.{List.{AllByRecursion, range_with_len, zip}, Option.unwrap_or}
use Rattle.list_facts.proofs.Elements.{all_map, all_flat, all_numbers, all_weaker}
use Rattle.lam_geom.specs.declared.boxes.MaskLayer.{MaskLayer, TheVariants.{ND, NP, NC, NM, NI, NB}}
use Rattle.lam_geom.specs.declared.boxes.Axis.TheVariants.{X, Y}
use Rattle.rule_table.specs.declared.{technology.Tech.Tech, classes.Class.{Class, TheVariants.{M, P, Dm, C, I, B}}}
use Rattle.rule_table.specs.Technology.{widest_of}
use Rattle.sym_items.specs.{declared.items.{Coords.Coords, Item.Item}, Layouts.{layout_at, no_layout, size_in}}
use Rattle.sym_items.specs.Sides.{sides_in}
use Rattle.pair_rules.specs.Bound.{item_at, no_item}
use Rattle.expand.specs.declared.master.Master.{Master}
use Rattle.plan_model.specs.{declared.plan.Plan.Plan, Instances.{InstancePlace, IsInstancePlace, spot, grid_at}}
use Rattle.plan_model.specs.{Instances.{master_at_spot, spots_in_row, spots_in_grid, spots_of}, Plan.grids_of}
use Rattle.plan_model.specs.Rows.{row_at}
use Rattle.pitch_join.{specs.Masters.{master_at, no_master, ports_of_masters, master_ports}, proofs.Lists.flat_same}
use Rattle.instance_laws.specs.{Planned.AreOfPlan, Rules.items_at, Conductors.InstanceItem, Meetings.at}
use Rattle.instance_laws.specs.Shapes.{items_on, shapes_at, mask_of_shape, PictureShowsShapes}
use Rattle.instance_laws.proofs.PictureLists.{all_every, same_images, image_of_pieces, picked_images, picked_pass}
use Rattle.instance_laws.proofs.PictureLists.{by_numbers}
use Rattle.mask_out.specs.{declared.drawing.Call.Call, Masks.{Mask, layer_drawn, is_drawn, masks_on, mask_layers}}
use Rattle.mask_out.specs.{Masks.masks_in, Pictures.{Drawing, drawing_in, drawings_in, call_at, shifted, masks_at}}
use Rattle.mask_out.specs.Pictures.{masks_called, no_drawing}

-- ---- the spots of the grids are instances

pub spots_are : (grids : List (List (List ℕ))) → AllByRecursion (IsInstancePlace grids) (spots_of grids)
spots_are grids =
    let Holds : InstancePlace → Type 0 = IsInstancePlace grids in
    all_flat Holds (spots_in_grid grids) (range_with_len 0 (length grids))
    (all_numbers (λ g. AllByRecursion Holds (spots_in_grid grids g)) 0 (length grids) (λ g _ in_grids.
    all_flat Holds (spots_in_row g (grid_at grids g)) (range_with_len 0 (length (grid_at grids g)))
    (all_numbers (λ r. AllByRecursion Holds (spots_in_row g (grid_at grids g) r)) 0 (length (grid_at grids g))
    (λ r _ in_rows.
    all_map Holds (spot g r) (range_with_len 0 (length (row_at (grid_at grids g) r)))
    (all_numbers (λ c. Holds (spot g r c)) 0 (length (row_at (grid_at grids g) r)) (λ c _ in_row.
    record { grid = omega (arith, in_grids); row = omega (arith, in_rows); col = omega (arith, in_row) }))))))

pub master_there : (tech : Tech) (plan : Plan) (masters : List Master) → AreOfPlan tech plan masters
    → (p : InstancePlace) → IsInstancePlace (grids_of plan) p → master_at_spot (grids_of plan) p < length masters
master_there tech plan masters planned p there =
    let counted : length (ports_of_masters masters) ≡ length masters = length-map masters master_ports in
    subst (λ n. master_at_spot (grids_of plan) p < n) counted
    (planned.planned.of_masters p.grid [] there.grid p.row [] there.row p.col 0 there.col)

-- ---- the masks of one layer of a layout

-- the items on a layer by their numbers
numbered : (items : List Item) (layer : MaskLayer)
    → filter (λ (i : Item). is_drawn layer i.class) items ≡ map (item_at items) (items_on items layer)
numbered items layer =
    ap (filter (λ (i : Item). is_drawn layer i.class)) (sym (by_numbers items no_item))
    ∙ picked_images (λ (i : Item). is_drawn layer i.class) (item_at items) (range_with_len 0 (length items))

on_its_layer : (layer : MaskLayer) (class : Class) → is_drawn layer class ≡ true
    → unwrap_or (layer_drawn class) ND ≡ layer
on_its_layer ND Dm e = refl
on_its_layer NP P e = refl
on_its_layer NC C e = refl
on_its_layer NM M e = refl
on_its_layer NI I e = refl
on_its_layer NB B e = refl
on_its_layer layer class e = grind arith

-- ---- the masks of a layout

-- the masks of one layer, shifted, are those of its items
layer_shown : (tech : Tech) (plan : Plan) (masters : List Master) (layouts : List Coords) (p : InstancePlace)
    (c : Coords) → layout_at layouts (master_at_spot (grids_of plan) p) ≡ c → (layer : MaskLayer)
    → map (shifted (call_at (size_in X layouts) (size_in Y layouts) (widest_of tech) (grids_of plan) p))
    (masks_on c (items_at plan masters p) layer)
    ≡ map (mask_of_shape tech plan masters layouts) (map (at p) (items_on (items_at plan masters p) layer))
layer_shown tech plan masters layouts p c laid layer =
    let items : List Item = items_at plan masters p in
    let call : Call = call_at (size_in X layouts) (size_in Y layouts) (widest_of tech) (grids_of plan) p in
    let drawn : Coords → Item → Mask = λ (d : Coords). λ (i : Item). record { layer = layer; sides = sides_in d i } in
    let kept : List ℕ = items_on items layer in
    let shape : InstanceItem → Mask = mask_of_shape tech plan masters layouts in
    let own : MaskLayer → ℕ → Mask = λ (l : MaskLayer). λ (n : ℕ).
    (record (shifted call
    (drawn (layout_at layouts (master_at_spot (grids_of plan) p)) (item_at items n))) { layer = l }) in
    ap (λ (is : List Item). map (shifted call) (map (drawn c) is)) (numbered items layer)
    ∙ (map-map (shifted call) (drawn c) (map (item_at items) kept)
    ∙ (map-map (λ (i : Item). shifted call (drawn c i)) (item_at items) kept
    ∙ (ap (λ (d : Coords). map (λ n. shifted call (drawn d (item_at items n))) kept) (sym laid)
    ∙ (same_images (own layer) (λ n. shape (at p n)) kept
    (picked_pass (λ n. is_drawn layer (item_at items n).class) (λ n. own layer n ≡ shape (at p n))
    (λ n pass. ap (λ l. own l n) (sym (on_its_layer layer (item_at items n).class pass)))
    (range_with_len 0 (length items)))
    ∙ sym (map-map shape (at p) kept)))))

-- of all layers
masks_shown : (tech : Tech) (plan : Plan) (masters : List Master) (layouts : List Coords) (p : InstancePlace)
    (c : Coords) → layout_at layouts (master_at_spot (grids_of plan) p) ≡ c
    → map (shifted (call_at (size_in X layouts) (size_in Y layouts) (widest_of tech) (grids_of plan) p))
    (masks_in c (items_at plan masters p))
    ≡ map (mask_of_shape tech plan masters layouts) (shapes_at plan masters p)
unfolding masks_in
masks_shown tech plan masters layouts p c laid =
    let items : List Item = items_at plan masters p in
    let call : Call = call_at (size_in X layouts) (size_in Y layouts) (widest_of tech) (grids_of plan) p in
    let shape : InstanceItem → Mask = mask_of_shape tech plan masters layouts in
    let before : MaskLayer → List Mask = λ layer. map (shifted call) (masks_on c items layer) in
    let after : MaskLayer → List Mask = λ layer. map shape (map (at p) (items_on items layer)) in
    image_of_pieces (shifted call) (masks_on c items) mask_layers
    ∙ (flat_same before after mask_layers
    (all_every (λ layer. before layer ≡ after layer) (layer_shown tech plan masters layouts p c laid) mask_layers)
    ∙ sym (ap (map shape) (image_of_pieces (at p) (items_on items) mask_layers)
    ∙ image_of_pieces shape (λ layer. map (at p) (items_on items layer)) mask_layers))

-- ---- the picture

-- the masks of the symbol of a master
pub masks_drawn : (masters : List Master) (layouts : List Coords) (m : ℕ) → length layouts ≡ length masters
    → m < length masters
    → masks_at (drawings_in masters layouts) m ≡ masks_in (layout_at layouts m) (master_at masters m).items.list
masks_drawn masters layouts m counted lt =
    let pair : Master × Coords = (no_master, no_layout) in
    let few : m < length (zip masters layouts) = omega (arith, length-zip masters layouts, counted, lt) in
    ap (λ (d : Drawing). d.masks) (get_or-map drawing_in (zip masters layouts) m pair no_drawing few)
    ∙ ap (λ (one : Master × Coords). (drawing_in one).masks)
    (get_or-zip masters layouts m pair lt (omega (arith, counted, lt)))

spot_shown : (tech : Tech) (plan : Plan) (masters : List Master) (layouts : List Coords) → AreOfPlan tech plan masters
    → length layouts ≡ length masters → (p : InstancePlace) → IsInstancePlace (grids_of plan) p
    → masks_called (drawings_in masters layouts)
    (call_at (size_in X layouts) (size_in Y layouts) (widest_of tech) (grids_of plan) p)
    ≡ map (mask_of_shape tech plan masters layouts) (shapes_at plan masters p)
spot_shown tech plan masters layouts planned counted p there =
    let m = master_at_spot (grids_of plan) p in
    let call : Call = call_at (size_in X layouts) (size_in Y layouts) (widest_of tech) (grids_of plan) p in
    ap (map (shifted call)) (masks_drawn masters layouts m counted (master_there tech plan masters planned p there))
    ∙ masks_shown tech plan masters layouts p (layout_at layouts m) refl

pub picture_shows : (tech : Tech) (plan : Plan) (masters : List Master) (layouts : List Coords)
    → AreOfPlan tech plan masters → length layouts ≡ length masters → PictureShowsShapes tech plan masters layouts
picture_shows tech plan masters layouts planned counted =
    let grids = grids_of plan in
    let call : InstancePlace → Call = call_at (size_in X layouts) (size_in Y layouts) (widest_of tech) grids in
    let called : InstancePlace → List Mask = λ p. masks_called (drawings_in masters layouts) (call p) in
    let shape : InstanceItem → Mask = mask_of_shape tech plan masters layouts in
    let shown : InstancePlace → List Mask = λ p. map shape (shapes_at plan masters p) in
    flat_map-map (masks_called (drawings_in masters layouts)) call (spots_of grids)
    ∙ (flat_same called shown (spots_of grids)
    (all_weaker (IsInstancePlace grids) (λ p. called p ≡ shown p)
    (spot_shown tech plan masters layouts planned counted) (spots_of grids) (spots_are grids))
    ∙ sym (image_of_pieces shape (shapes_at plan masters) (spots_of grids)))
