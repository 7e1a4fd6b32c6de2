-- The mask boxes of a cell's items in a layout: layer by layer, and on each layer in the order of the items.
use Rattle.std.specs.Prelude.{Bool, true, false, Option, Some, None, List, [], ◌∷◌, map, filter, flat_map}
use Rattle.std.specs.Option.{option_map_or}
use Rattle.lam_geom.specs.declared.boxes.{MaskLayer.{MaskLayer, TheVariants.{ND, NP, NC, NM, NI, NB}}, MaskBox.MaskBox}
use Rattle.rule_table.specs.declared.classes.Class.{Class, TheVariants.{M, P, Dc, Dm, C, I, G, B}}
use Rattle.sym_items.specs.{declared.items.{Item.Item, Coords.Coords}, Sides.{Sides, sides_of, sides_in}}

-- a mask box by its layer and its four sides
pub record Mask : Type 0 where
  pub layer : MaskLayer
  pub sides : Sides

abbrev pub mask_of : MaskBox → Mask
mask_of box = record { layer = box.layer; sides = sides_of box.area }

-- the layer on which items of a class are boxes: conducting pieces of diffusion and channels are boxes of none
abbrev pub layer_drawn : Class → Option MaskLayer
layer_drawn Dm = Some ND
layer_drawn P = Some NP
layer_drawn C = Some NC
layer_drawn M = Some NM
layer_drawn I = Some NI
layer_drawn B = Some NB
layer_drawn Dc = None
layer_drawn G = None

abbrev pub is_same_layer : MaskLayer → MaskLayer → Bool
is_same_layer ND ND = true
is_same_layer NP NP = true
is_same_layer NC NC = true
is_same_layer NM NM = true
is_same_layer NI NI = true
is_same_layer NB NB = true
is_same_layer a b = false

-- whether items of a class are boxes of a layer
abbrev pub is_drawn : MaskLayer → Class → Bool
is_drawn layer class = option_map_or (is_same_layer layer) (layer_drawn class) false

abbrev pub masks_on : Coords → List Item → MaskLayer → List Mask
masks_on c items layer = map (λ (i : Item). record { layer = layer; sides = sides_in c i })
    (filter (λ (i : Item). is_drawn layer i.class) items)

-- the layers in the order in which a symbol has them
abbrev pub mask_layers : List MaskLayer
mask_layers = ND ∷ NP ∷ NC ∷ NM ∷ NI ∷ NB ∷ []

unfoldable pub masks_in : Coords → List Item → List Mask
masks_in c items = flat_map (masks_on c items) mask_layers
