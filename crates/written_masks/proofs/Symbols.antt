-- The symbols of masters in finished layouts can be written into a text.
use Rattle.std.proofs.Common.{◌≡◌, ℕ, ◌<◌, ℤ, pos, ◌≤ℤ◌, ◌<ℤ◌, List, length, filter, refl, ap, ◌∙◌, subst, arith, inl}
use Rattle.std.proofs.{Common.inr, lemmas.{Bool.cases_lt, Int.ints, List.{get_or_past, Elements.All-filter}}}
use Rattle.std.{proofs.lemmas.List.Elements.{Contains-get_or, recursion_from_All}, specs.List.AllByRecursion}
use Rattle.list_facts.proofs.Elements.{all_map, all_flat, all_of, by_number}
use Rattle.lam_geom.specs.declared.boxes.{Axis.{Axis, TheVariants.{X, Y}}, MaskLayer.MaskLayer}
use Rattle.rule_table.specs.{declared.technology.Tech.Tech, Technology.{numbers_of, widest_of}}
use Rattle.rule_table.proofs.Margins.{widest_positive}
use Rattle.sym_items.specs.{declared.items.{Coords.Coords, Item.Item}, Layouts.{layout_at, no_layout, value_in}}
use Rattle.sym_items.specs.{Layouts.size_in, Sides.sides_in, Transposed.values_along, Values.value_of}
use Rattle.pair_rules.specs.Bound.{item_at, no_item}
use Rattle.expand.specs.{declared.master.Master.Master, Masters.IsMaster, Laws.MeetsStructure}
use Rattle.expand.proofs.{Among.sound_numbers, Standing.stands}
use Rattle.plan_model.specs.{declared.plan.Plan.Plan, Instances.{InstancePlace, IsInstancePlace, whole_width}}
use Rattle.plan_model.specs.{Instances.whole_height, Plan.grids_of}
use Rattle.pitch_join.specs.Masters.{master_at, no_master, ports_of_masters}
use Rattle.instance_laws.specs.{Planned.AreOfPlan, Rules.AreFinished}
use Rattle.instance_laws.proofs.{Aligned.all_aligned, InCell.{low_in, high_in, LiesBetween, items_between, cell_long}}
use Rattle.mask_out.specs.{Masks.{Mask, is_drawn, masks_on, mask_layers, masks_in}, Pictures.drawing_in}
use Rattle.written_masks.specs.{TextMeanings.{IsUnit, IsWritableMask, IsWritableDrawing}, Written.unit_of}
use Rattle.written_masks.{specs.Written.FitIntoText, proofs.DrawnExtents.{unit_of_size, LiesInside, mask_inside}}
use Rattle.written_masks.proofs.{LayersApart.masks_by_layer, PictureLines.all_every, Extents.{HasExtents, long_along}}
use Rattle.written_masks.proofs.{Extents.items_long, Wholes.{StandsInside, stands_inside}}

-- finished layouts that fit into a text
pub record FitFinished (tech : Tech) (plan : Plan) (masters : List Master) (layouts : List Coords) : Type 0 where
  pub planned : AreOfPlan tech plan masters
  pub finished : AreFinished tech plan masters layouts
  pub fit : FitIntoText tech plan masters layouts

abbrev pub width_of_whole : Tech → Plan → List Coords → ℤ
width_of_whole tech plan layouts = whole_width (size_in X layouts) (widest_of tech) (grids_of plan)

abbrev pub height_of_whole : Plan → List Coords → ℤ
height_of_whole plan layouts = whole_height (size_in Y layouts) (grids_of plan)

pub is_unit : (tech : Tech) → IsUnit (unit_of tech)
is_unit tech = unit_of_size (unit_of tech) (sound_numbers tech).unit

-- ---- sizes

no_size : (axis : Axis) → value_of (values_along axis no_layout) 1 ≡ pos 0
no_size X = refl
no_size Y = refl

-- no size is below 0
pub size_low : (tech : Tech) (plan : Plan) (masters : List Master) (layouts : List Coords)
    → FitFinished tech plan masters layouts → (axis : Axis) (m : ℕ) → pos 0 ≤ℤ size_in axis layouts m
size_low tech plan masters layouts h axis m = elim (cases_lt m (length masters)) [
  | inl lt ↦
      let long : widest_of tech ≤ℤ size_in axis layouts m =
      cell_long axis tech (master_at masters m) (value_in axis layouts m)
      ((h.finished.meet axis).structures m lt) in
      let positive : pos 1 ≤ℤ widest_of tech = widest_positive (numbers_of tech) (sound_numbers tech) in
      omega (arith, ints, long, positive)
  | inr past ↦
      let counted = h.fit.counted in
      let none : layout_at layouts m ≡ no_layout = get_or_past layouts m no_layout (omega (arith, counted, past)) in
      let zero_there : size_in axis layouts m ≡ pos 0 = ap (λ c. value_of (values_along axis c) 1) none
      ∙ no_size axis in
      omega (arith, ints, zero_there)
]

pub all_inside : (tech : Tech) (plan : Plan) (masters : List Master) (layouts : List Coords)
    → FitFinished tech plan masters layouts → (p : InstancePlace) → IsInstancePlace (grids_of plan) p
    → StandsInside (size_in X layouts) (size_in Y layouts) (widest_of tech) (grids_of plan) p
all_inside tech plan masters layouts h p there =
    let positive : pos 1 ≤ℤ widest_of tech = widest_positive (numbers_of tech) (sound_numbers tech) in
    stands_inside (size_in X layouts) (size_in Y layouts) (widest_of tech) (grids_of plan)
    (size_low tech plan masters layouts h X) (size_low tech plan masters layouts h Y)
    (omega (arith, ints, positive)) h.planned.planned.rectangular
    (all_aligned (ports_of_masters masters) plan layouts h.planned.planned (λ axis. (h.finished.meet axis).borders)) p
    there

-- a master is no larger than the whole
pub record IsNoLarger (tech : Tech) (plan : Plan) (layouts : List Coords) (m : ℕ) : Type 0 where
  pub width : size_in X layouts m ≤ℤ width_of_whole tech plan layouts
  pub height : size_in Y layouts m ≤ℤ height_of_whole plan layouts

no_larger : (tech : Tech) (plan : Plan) (masters : List Master) (layouts : List Coords)
    → FitFinished tech plan masters layouts → (m : ℕ) → m < length masters → IsNoLarger tech plan layouts m
no_larger tech plan masters layouts h m lt =
    let found = h.fit.stand m lt in
    let stands = all_inside tech plan masters layouts h found.0 found.1 in
    let left = stands.left in
    let right = stands.right in
    let bottom = stands.bottom in
    let top = stands.top in
    subst (IsNoLarger tech plan layouts) found.2
    (record { width = omega (arith, ints, left, right); height = omega (arith, ints, bottom, top) })

-- ---- masks

-- an item on an axis: between 0 and the far border, with something between its ends
record HasInside (axis : Axis) (x : ℕ → ℤ) (i : Item) : Type 0 where
  low : pos 0 ≤ℤ low_in axis x i
  long : low_in axis x i <ℤ high_in axis x i
  high : high_in axis x i ≤ℤ x 1

item_inside : (axis : Axis) (tech : Tech) (master : Master) (x : ℕ → ℤ) → IsMaster tech master
    → MeetsStructure axis tech master x → (k : ℕ) → k < length master.items.list
    → HasExtents (item_at master.items.list k) → HasInside axis x (item_at master.items.list k)
item_inside axis tech master x m met k lt extents =
    let i : Item = item_at master.items.list k in
    let between : LiesBetween axis tech x i =
    items_between axis tech master x i m met (Contains-get_or master.items.list k no_item lt) in
    let long = (stands axis tech master x m met).long k no_item lt in
    let least = long_along axis i extents in
    record { low = between.above; long = omega (arith, ints, long, least); high = between.below }

-- a mask of an item of a master
item_lies : (tech : Tech) (plan : Plan) (masters : List Master) (layouts : List Coords)
    → FitFinished tech plan masters layouts → (m : ℕ) → m < length masters → (layer : MaskLayer)
    → (k : ℕ) → k < length (master_at masters m).items.list
    → LiesInside (width_of_whole tech plan layouts) (height_of_whole plan layouts)
    (record {
      layer = layer;
      sides = sides_in (layout_at layouts m)
          (item_at (master_at masters m).items.list k);
    })
item_lies tech plan masters layouts h m lt layer k among =
    let master : Master = master_at masters m in
    let is : IsMaster tech master = h.planned.each m no_master lt in
    let extents : HasExtents (item_at master.items.list k) =
    all_of HasExtents master.items.list (items_long tech master is) k no_item among in
    let x = item_inside X tech master (value_in X layouts m) is ((h.finished.meet X).structures m lt) k among extents in
    let y = item_inside Y tech master (value_in Y layouts m) is ((h.finished.meet Y).structures m lt) k among extents in
    let within = no_larger tech plan masters layouts h m lt in
    let wide = within.width in
    let tall = within.height in
    let right = x.high in
    let top = y.high in
    record {
      left = x.low;
      wide = x.long;
      right = omega (arith, ints, right, wide);
      bottom = y.low;
      high = y.long;
      top = omega (arith, ints, top, tall);
    }

masks_writable : (tech : Tech) (plan : Plan) (masters : List Master) (layouts : List Coords)
    → FitFinished tech plan masters layouts → (m : ℕ) → m < length masters
    → AllByRecursion IsWritableMask (masks_in (layout_at layouts m) (master_at masters m).items.list)
unfolding masks_in
masks_writable tech plan masters layouts h m lt =
    let c : Coords = layout_at layouts m in
    let items : List Item = (master_at masters m).items.list in
    let drawn : MaskLayer → Item → Mask = λ (layer : MaskLayer). λ (i : Item).
    record { layer = layer; sides = sides_in c i } in
    let Writable : MaskLayer → Item → Type 0 = λ layer. λ i. IsWritableMask (drawn layer i) in
    all_flat IsWritableMask (masks_on c items) mask_layers
    (all_every (λ layer. AllByRecursion IsWritableMask (masks_on c items layer)) (λ layer.
    let each : AllByRecursion (Writable layer) items =
    by_number (Writable layer) items no_item (λ k among.
    mask_inside (unit_of tech) (width_of_whole tech plan layouts) (height_of_whole plan layouts)
    (drawn layer (item_at items k)) (is_unit tech) h.fit.width h.fit.height
    (item_lies tech plan masters layouts h m lt layer k among)) in
    let kept : List Item = filter (λ (i : Item). is_drawn layer i.class) items in
    all_map IsWritableMask (drawn layer) kept
    (recursion_from_All (Writable layer) kept
    (All-filter (λ (i : Item). is_drawn layer i.class) (Writable layer) items
    (all_of (Writable layer) items each)))) mask_layers)

-- ---- symbols

pub symbol_writable : (tech : Tech) (plan : Plan) (masters : List Master) (layouts : List Coords)
    → FitFinished tech plan masters layouts → (m : ℕ) → m < length masters
    → IsWritableDrawing (drawing_in (master_at masters m, layout_at layouts m))
symbol_writable tech plan masters layouts h m lt =
    let c : Coords = layout_at layouts m in
    let items : List Item = (master_at masters m).items.list in
    record {
      named = h.fit.named m no_master lt;
      masks = all_of IsWritableMask (masks_in c items) (masks_writable tech plan masters layouts h m lt);
      by_layer = masks_by_layer c items;
    }
