-- The boxes of all instances, one by one, by the items that they show.
use Rattle.std.specs.{Prelude.{◌≡◌, ℕ, Some, List, length, map, filter, flat_map, slice_get}, List.range_with_len}
use Rattle.std.specs.Option.{unwrap_or}
use Rattle.lam_geom.specs.declared.boxes.{Axis.TheVariants.{X, Y}, MaskBox.MaskBox, MaskLayer.MaskLayer}
use Rattle.lam_geom.specs.declared.boxes.MaskLayer.TheVariants.{ND}
use Rattle.rule_table.specs.{declared.technology.Tech.Tech, Technology.widest_of}
use Rattle.sym_items.specs.{declared.items.{Coords.Coords, Item.Item}, Layouts.size_in, Sides.{Sides, sides_of}}
use Rattle.pair_rules.specs.Bound.{item_at}
use Rattle.expand.specs.declared.master.Master.{Master}
use Rattle.plan_model.specs.{declared.plan.Plan.Plan, Instances.{InstancePlace, spots_of}, Plan.grids_of}
use Rattle.mask_out.specs.{Masks.{Mask, layer_drawn, is_drawn, mask_layers}, Pictures.{drawings_in, calls_of, flat_of}}
use Rattle.crossing_model.specs.Boxes.{box_at, grains}
use Rattle.instance_laws.specs.{Rules.items_at, Conductors.{InstanceItem, item_of, sides_of_drawn}, Meetings.at}

-- ---- the items that are boxes of masks

-- those on a layer, by number
abbrev pub items_on : List Item → MaskLayer → List ℕ
items_on items layer = filter (λ n. is_drawn layer (item_at items n).class) (range_with_len 0 (length items))

-- layer by layer
abbrev pub drawn_items : List Item → List ℕ
drawn_items items = flat_map (items_on items) mask_layers

abbrev pub shapes_at : Plan → List Master → InstancePlace → List InstanceItem
shapes_at plan masters spot = map (at spot) (drawn_items (items_at plan masters spot))

-- instance by instance: the box with this number shows the item in this position
abbrev pub shapes_of : Plan → List Master → List InstanceItem
shapes_of plan masters = flat_map (shapes_at plan masters) (spots_of (grids_of plan))

-- box number k shows this item
abbrev pub Shows : Plan → List Master → ℕ → InstanceItem → Type 0
Shows plan masters k a = slice_get (shapes_of plan masters) k ≡ Some a

-- ---- their masks

abbrev pub layer_of : Plan → List Master → InstanceItem → MaskLayer
layer_of plan masters a = unwrap_or (layer_drawn (item_of plan masters a).class) ND

abbrev pub mask_of_shape : Tech → Plan → List Master → List Coords → InstanceItem → Mask
mask_of_shape tech plan masters layouts a =
    record { layer = layer_of plan masters a; sides = sides_of_drawn tech plan masters layouts a }

-- the boxes of the picture are those
abbrev pub PictureShowsShapes : Tech → Plan → List Master → List Coords → Type 0
PictureShowsShapes tech plan masters layouts =
    flat_of (drawings_in masters layouts)
    (calls_of (size_in X layouts) (size_in Y layouts) (widest_of tech) (grids_of plan))
    ≡ map (mask_of_shape tech plan masters layouts) (shapes_of plan masters)

-- ---- boxes in grains

abbrev pub sides_in_grains : Tech → Sides → Sides
sides_in_grains tech s =
    record {
      left = grains tech s.left;
      right = grains tech s.right;
      bottom = grains tech s.bottom;
      top = grains tech s.top;
    }

-- a box shows an item
pub record IsShape (tech : Tech) (plan : Plan) (masters : List Master) (layouts : List Coords) (a : InstanceItem)
    (box : MaskBox) : Type 0 where
  pub layer : box.layer ≡ layer_of plan masters a
  pub sides : sides_of box.area ≡ sides_in_grains tech (sides_of_drawn tech plan masters layouts a)

-- boxes that show all these items in their order
pub record AreShapes (tech : Tech) (plan : Plan) (masters : List Master) (layouts : List Coords)
    (boxes : List MaskBox) : Type 0 where
  pub counted : length boxes ≡ length (shapes_of plan masters)
  pub each : (k : ℕ) (a : InstanceItem) → Shows plan masters k a → IsShape tech plan masters layouts a (box_at boxes k)
