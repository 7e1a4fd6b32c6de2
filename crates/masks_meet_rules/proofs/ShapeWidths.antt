-- Items of diffusion of the mask, poly and metal are as wide as their layer's width in all instances.
use Rattle.std.proofs.Common.{◌≡◌, ℕ, ℤ, pos, ◌+ℤ◌, ◌-ℤ◌, ◌*ℤ◌, ◌≤ℤ◌, Bool, true, false, List, [], ◌∷◌, length, map}
use Rattle.std.proofs.{Common.{cond, Option, Some, None, refl, sym, ap, ◌∙◌, subst, arith}, lemmas.Int.{ints, clamps}}
use Rattle.std.specs.{Prelude.neg_ℤ, Int.int_max, List.{flat_map, range_with_len, AllByRecursion}}
use Rattle.lam_geom.specs.declared.boxes.Axis.TheVariants.{X, Y}
use Rattle.rule_table.specs.declared.{technology.Tech.Tech, classes.Class.{Class, TheVariants.{M, P, Dc, Dm}}}
use Rattle.rule_table.specs.declared.classes.Layer.{Layer, TheVariants.{Diffusion, Poly, Metal}}
use Rattle.rule_table.{specs.Technology.{numbers_of, pad_of, width_of}, proofs.Widths.{width_within, pad_even}}
use Rattle.sym_items.specs.declared.items.{Coords.Coords, Item.Item, Items.Items}
use Rattle.sym_items.specs.{Extents.IsLongUnder, Sides.{Sides, sides_in}, Values.value_of}
use Rattle.cell_model.specs.declared.cell.{Axis2.{Axis2, TheVariants.{Across, Up}}, NodeKind.NodeKind}
use Rattle.cell_model.specs.declared.cell.{NodeKind.TheVariants.{Joint, Contact, Buried, Fet}, NodeNets.NodeNets}
use Rattle.cell_model.specs.declared.cell.{Nets.Nets, Wire.Wire, Cell.Cell}
use Rattle.cell_model.specs.{Sound.{IsKind, IsSound}, Wiring.buried_pad}
use Rattle.list_facts.proofs.Elements.{all_append, all_flat, all_numbers, all_at}
use Rattle.pair_rules.specs.Bound.{no_item}
use Rattle.expand.specs.{declared.master.Master.Master, Masters.IsMaster, Variables.half, NodeItems.item_running}
use Rattle.expand.specs.{NodeItems.{on_layer, box_round, square_round, channel_items, kind_items}, WireItems.low_end_of}
use Rattle.expand.specs.{WireItems.{high_end_of, contact_at, run_item, wire_items}, Items.items_of_node}
use Rattle.expand.specs.Items.{items_of_wire, item_list}
use Rattle.expand.proofs.{Among.{sound_numbers, buried_size}, Cells.{node_sound, wire_sound}, Standing.stands}
use Rattle.plan_model.specs.declared.plan.Plan.{Plan}
use Rattle.instance_laws.specs.{Rules.shifted_sides, Conductors.item_of, Meetings.master_of}
use Rattle.instance_laws.proofs.{Gaps.IsDone, Meeting.master_is, MeetingGaps.{layout_of, finished_at, x_of, y_of}}
use Rattle.masks_meet_rules.specs.Items.{width_of_class, IsWide, ConductorsAreWide}

-- ---- least extents and widths

-- an extent is no less than the width of a class, where it has one
abbrev pub IsWideFor : Tech → Class → ℤ → Type 0
IsWideFor tech class extent = (width : ℤ) → width_of_class tech class ≡ Some width → width ≤ℤ extent

-- the least extents of an item are
pub record HasWidths (tech : Tech) (i : Item) : Type 0 where
  pub x : IsWideFor tech i.class i.least_x
  pub y : IsWideFor tech i.class i.least_y

wide_as : (own width extent : ℤ) → ◌≡◌ {A = Option ℤ} (Some own) (Some width) → own ≤ℤ extent → width ≤ℤ extent
wide_as own width extent e h =
    let same : own ≡ width = cc in
    omega (arith, ints, same, h)

metal_wide : (tech : Tech) (extent : ℤ) → width_of tech Metal ≤ℤ extent → IsWideFor tech M extent
metal_wide tech extent h width e = wide_as (width_of tech Metal) width extent e h

poly_wide : (tech : Tech) (extent : ℤ) → width_of tech Poly ≤ℤ extent → IsWideFor tech P extent
poly_wide tech extent h width e = wide_as (width_of tech Poly) width extent e h

mask_wide : (tech : Tech) (extent : ℤ) → width_of tech Diffusion ≤ℤ extent → IsWideFor tech Dm extent
mask_wide tech extent h width e = wide_as (width_of tech Diffusion) width extent e h

-- items of the other classes
bare : (tech : Tech) (i : Item) → width_of_class tech i.class ≡ None → HasWidths tech i
bare tech i none = record {
  x = λ width e. absurd (let f : ◌≡◌ {A = Option ℤ} None (Some width) = sym none ∙ e in cc);
  y = λ width e. absurd (let f : ◌≡◌ {A = Option ℤ} None (Some width) = sym none ∙ e in cc);
}

layer_wide : (tech : Tech) (layer : Layer) (i : Item) → width_of tech layer ≤ℤ i.least_x
    → width_of tech layer ≤ℤ i.least_y → AllByRecursion (HasWidths tech) (on_layer layer i)
layer_wide tech Metal i x y = (record { x = metal_wide tech i.least_x x; y = metal_wide tech i.least_y y }, tt)
layer_wide tech Poly i x y = (record { x = poly_wide tech i.least_x x; y = poly_wide tech i.least_y y }, tt)
layer_wide tech Diffusion i x y = (
  record { x = mask_wide tech i.least_x x; y = mask_wide tech i.least_y y },
  (bare tech (record i { class = Dc }) refl, tt),
)

-- ---- boxes of nodes

-- twice a half, and a length past both ends of it
whole : (w h : ℤ) → (pos 2 *ℤ h) ≡ w → (h -ℤ neg_ℤ h) ≡ w
whole w h even = omega (arith, ints, even)

whole_past : (w h e : ℤ) → (pos 2 *ℤ h) ≡ w → ((h +ℤ e) -ℤ neg_ℤ (h +ℤ e)) ≡ (w +ℤ (pos 2 *ℤ e))
whole_past w h e even = omega (arith, ints, even)

above : (least w z : ℤ) → z ≡ w → least ≤ℤ w → least ≤ℤ z
above least w z e h = omega (arith, ints, e, h)

square_wide : (tech : Tech) (layer : Layer) (k : ℕ) (class : Class) (net : ℕ) (w h : ℤ) → (pos 2 *ℤ h) ≡ w
    → width_of tech layer ≤ℤ w → AllByRecursion (HasWidths tech) (on_layer layer (square_round k class net h))
square_wide tech layer k class net w h even wide =
    let least : width_of tech layer ≤ℤ (h -ℤ neg_ℤ h) =
    above (width_of tech layer) w (h -ℤ neg_ℤ h) (whole w h even) wide in
    layer_wide tech layer (square_round k class net h) least least

running_wide : (tech : Tech) (gate : Axis2) (is : List Item) → AllByRecursion (HasWidths tech) is
    → AllByRecursion (HasWidths tech) (map (item_running gate) is)
running_wide tech gate [] h = tt
running_wide tech Across (i ∷ is) h = (h.0, running_wide tech Across is h.1)
running_wide tech Up (i ∷ is) h = (record { x = h.0.y; y = h.0.x }, running_wide tech Up is h.1)

implant_wide : (tech : Tech) (depletion : Bool) (i : Item) → width_of_class tech i.class ≡ None
    → AllByRecursion (HasWidths tech) (cond depletion (i ∷ []) [])
implant_wide tech true i none = (bare tech i none, tt)
implant_wide tech false i none = tt

channel_wide : (tech : Tech) (k : ℕ) (nets : NodeNets) (depletion : Bool) (w l : ℤ)
    → IsKind tech (Fet depletion Across w l)
    → AllByRecursion (HasWidths tech) (channel_items tech k nets depletion (half w) (half l))
channel_wide tech k nets depletion w l kind =
    let n = sound_numbers tech in
    let poly : ℤ = (numbers_of tech).extension_poly in
    let diffusion : ℤ = (numbers_of tech).extension_diffusion in
    let fet_poly = n.fet_poly in
    let fet_diffusion = n.fet_diffusion in
    let wide : width_of tech Diffusion ≤ℤ w = kind.2 in
    let long : width_of tech Poly ≤ℤ l = kind.3 in
    let even_w : (pos 2 *ℤ half w) ≡ w = kind.0.even in
    let even_l : (pos 2 *ℤ half l) ≡ l = kind.1.even in
    let poly_x : width_of tech Poly ≤ℤ (w +ℤ (pos 2 *ℤ poly)) = omega (arith, ints, fet_poly, wide) in
    let mask_y : width_of tech Diffusion ≤ℤ (l +ℤ (pos 2 *ℤ diffusion)) = omega (arith, ints, fet_diffusion, long) in
    let of_poly : HasWidths tech (box_round k P nets.main (half w +ℤ poly) (half l)) =
    record {
      x = poly_wide tech _ (above _ _ _ (whole_past w (half w) poly even_w) poly_x);
      y = poly_wide tech _ (above _ _ _ (whole l (half l) even_l) long);
    } in
    let of_mask : HasWidths tech (box_round k Dm nets.low (half w) (half l +ℤ diffusion)) =
    record {
      x = mask_wide tech _ (above _ _ _ (whole w (half w) even_w) wide);
      y = mask_wide tech _ (above _ _ _ (whole_past l (half l) diffusion even_l) mask_y);
    } in
    (of_poly, (of_mask, (bare tech _ refl, (bare tech _ refl, (bare tech _ refl, implant_wide tech depletion _ refl)))))

-- the pad of a buried contact
pad_wide : (tech : Tech) → (width_of tech Diffusion ≤ℤ buried_pad tech) × (width_of tech Poly ≤ℤ buried_pad tech)
pad_wide tech = (
  no_less (width_of tech Diffusion) (width_of tech Poly),
  no_less_second (width_of tech Diffusion)
      (width_of tech Poly),
)
  where
    no_less : (a b : ℤ) → a ≤ℤ int_max a b
    no_less a b = omega (arith, ints, clamps)

    no_less_second : (a b : ℤ) → b ≤ℤ int_max a b
    no_less_second a b = omega (arith, ints, clamps)

kind_wide : (tech : Tech) (k : ℕ) (kind : NodeKind) (nets : NodeNets) → IsKind tech kind
    → AllByRecursion (HasWidths tech) (kind_items tech k kind nets)
kind_wide tech k (Joint layer width) nets h = square_wide tech layer k M nets.main width (half width) h.0.even h.1
kind_wide tech k (Contact lower) nets h =
    let even = pad_even (numbers_of tech) (sound_numbers tech) in
    let own = width_within (numbers_of tech) (sound_numbers tech) in (
      (square_wide tech Metal k M nets.main (pad_of tech) (half (pad_of tech)) even (own Metal)).0,
      (bare tech _ refl, square_wide tech lower k M nets.main (pad_of tech) (half (pad_of tech)) even (own lower)),
    )
kind_wide tech k Buried nets h =
    let even = (buried_size tech).even in
    let pad : ℤ = half (buried_pad tech) in
    let least : (own : ℤ) → own ≤ℤ buried_pad tech → own ≤ℤ (pad -ℤ neg_ℤ pad) =
    λ own le. above own (buried_pad tech) (pad -ℤ neg_ℤ pad) (whole (buried_pad tech) pad even) le in
    let diffusion = least (width_of tech Diffusion) (pad_wide tech).0 in
    let poly = least (width_of tech Poly) (pad_wide tech).1 in (
      record { x = poly_wide tech _ poly; y = poly_wide tech _ poly },
      (
        record { x = mask_wide tech _ diffusion; y = mask_wide tech _ diffusion },
        (bare tech _ refl, (bare tech _ refl, tt)),
      ),
    )
kind_wide tech k (Fet depletion gate w l) nets h =
    running_wide tech gate (channel_items tech k nets depletion (half w) (half l))
    (channel_wide tech k nets depletion w l h)

-- ---- boxes of wires

least_running : (along : Axis2) (i : Item) (width : ℤ) → width ≤ℤ i.least_x → width ≤ℤ i.least_y
    → (width ≤ℤ (item_running along i).least_x) × (width ≤ℤ (item_running along i).least_y)
least_running Across i width x y = (x, y)
least_running Up i width x y = (y, x)

wire_wide : (tech : Tech) (cell : Cell) (owner net cross : ℕ) (wire : Wire) → width_of tech wire.layer ≤ℤ wire.width
    → AllByRecursion (HasWidths tech) (wire_items tech cell owner net cross wire)
wire_wide tech cell owner net cross wire wide =
    let run : Item = run_item owner net cross wire.width (low_end_of tech cell wire wire.low)
    (high_end_of tech cell wire wire.high) (contact_at cell wire.low) (contact_at cell wire.high) in
    let least = least_running wire.along run (width_of tech wire.layer) wide wide in
    layer_wide tech wire.layer (item_running wire.along run) least.0 least.1

-- ---- all items

list_wide : (tech : Tech) (cell : Cell) (nets : Nets) → IsSound tech cell
    → AllByRecursion (HasWidths tech) (item_list tech cell nets)
unfolding item_list
list_wide tech cell nets s =
    let n : ℕ = length cell.nodes in
    all_append (HasWidths tech) (flat_map (items_of_node tech cell nets) (range_with_len 0 n))
    (flat_map (items_of_wire tech cell nets) (range_with_len 0 (length cell.wires)))
    (all_flat (HasWidths tech) (items_of_node tech cell nets) (range_with_len 0 n)
    (all_numbers (λ k. AllByRecursion (HasWidths tech) (items_of_node tech cell nets k)) 0 n
    (λ k le lt. kind_wide tech k _ _ (node_sound tech cell k s (omega arith)).kind)))
    (all_flat (HasWidths tech) (items_of_wire tech cell nets) (range_with_len 0 (length cell.wires))
    (all_numbers (λ k. AllByRecursion (HasWidths tech) (items_of_wire tech cell nets k)) 0 (length cell.wires)
    (λ k le lt. wire_wide tech cell _ _ _ _ (wire_sound tech cell k s (omega arith)).wide)))

items_wide : (tech : Tech) (master : Master) → IsMaster tech master → AllByRecursion (HasWidths tech) master.items.list
items_wide tech master m = subst (λ (items : Items). AllByRecursion (HasWidths tech) items.list) (sym m.items.are)
    (list_wide tech master.cell m.items.nets m.sound)

-- ---- in all instances

-- two ends no nearer than the least extent
apart : (o low high least width : ℤ) → (low +ℤ least) ≤ℤ high → width ≤ℤ least → width ≤ℤ ((o +ℤ high) -ℤ (o +ℤ low))
apart o low high least width long wide = omega (arith, ints, long, wide)

item_wide : (x y : ℤ) (layout : Coords) (i : Item) (width : ℤ) → IsLongUnder X (value_of layout.x) i
    → IsLongUnder Y (value_of layout.y) i → width ≤ℤ i.least_x → width ≤ℤ i.least_y
    → IsWide width (shifted_sides x y (sides_in layout i))
item_wide x y layout i width long_x long_y wide_x wide_y =
    let s : Sides = sides_in layout i in
    record {
      across = apart x s.left s.right i.least_x width long_x wide_x;
      up = apart y s.bottom s.top i.least_y width long_y wide_y;
    }

pub conductors_are_wide : (tech : Tech) (plan : Plan) (masters : List Master) (layouts : List Coords)
    → IsDone tech plan masters layouts → ConductorsAreWide tech plan masters layouts
conductors_are_wide tech plan masters layouts done class a width h e =
    let master : Master = master_of plan masters a.spot in
    let layout : Coords = layout_of plan layouts a.spot in
    let m = master_is tech plan masters a.spot done.planned h.drawn.spot in
    let finished = finished_at tech plan masters layouts a.spot done h.drawn.spot in
    let wide : HasWidths tech (item_of plan masters a) =
    all_at (HasWidths tech) master.items.list no_item a.item (items_wide tech master m) h.drawn.among in
    let own : width_of_class tech (item_of plan masters a).class ≡ Some width = ap (width_of_class tech) h.of_class
    ∙ e in
    let long_x : IsLongUnder X (value_of layout.x) (item_of plan masters a) =
    (stands X tech master (value_of layout.x) m (finished.structure X)).long a.item no_item h.drawn.among in
    let long_y : IsLongUnder Y (value_of layout.y) (item_of plan masters a) =
    (stands Y tech master (value_of layout.y) m (finished.structure Y)).long a.item no_item h.drawn.among in
    item_wide (x_of tech plan layouts a.spot) (y_of plan layouts a.spot) layout (item_of plan masters a) width long_x
    long_y (wide.x width own) (wide.y width own)
