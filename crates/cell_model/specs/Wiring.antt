-- Which nodes take which wires, on which pads.
use Rattle.std.specs.{Prelude.{◌||◌, not, Bool, true, false, ℤ}, Int.int_max}
use Rattle.lam_geom.specs.declared.boxes.Side.{Side, TheVariants.{Left, Right, Bottom, Top}}
use Rattle.rule_table.specs.declared.{technology.Tech.Tech, classes.Layer.{Layer, TheVariants.{Diffusion, Poly, Metal}}}
use Rattle.rule_table.specs.Technology.{pad_of, width_of}
use Rattle.cell_model.specs.declared.cell.{Axis2.{Axis2, TheVariants.{Across, Up}}, NodeKind.NodeKind}
use Rattle.cell_model.specs.declared.cell.NodeKind.TheVariants.{Joint, Contact, Buried, Fet}

abbrev pub is_same_axis : Axis2 → Axis2 → Bool
is_same_axis Across Across = true
is_same_axis Across Up = false
is_same_axis Up Across = false
is_same_axis Up Up = true

-- the axis on which a wire reaches a side
abbrev pub axis_of : Side → Axis2
axis_of Left = Across
axis_of Right = Across
axis_of Bottom = Up
axis_of Top = Up

abbrev pub is_low_side : Side → Bool
is_low_side Left = true
is_low_side Right = false
is_low_side Bottom = true
is_low_side Top = false

abbrev pub is_same_layer : Layer → Layer → Bool
is_same_layer Diffusion Diffusion = true
is_same_layer Poly Poly = true
is_same_layer Metal Metal = true
is_same_layer a b = false

-- a joint takes its own layer, a contact metal and its lower layer, a buried contact and a transistor poly and
-- diffusion
abbrev pub node_takes : NodeKind → Layer → Bool
node_takes (Joint own width) layer = is_same_layer own layer
node_takes (Contact lower) layer = is_same_layer Metal layer || is_same_layer lower layer
node_takes Buried layer = not (is_same_layer Metal layer)
node_takes (Fet depletion gate w l) layer = not (is_same_layer Metal layer)

-- at a transistor a poly wire runs along the gate, and a diffusion wire across it
abbrev pub node_takes_along : NodeKind → Layer → Axis2 → Bool
node_takes_along (Joint own width) layer along = true
node_takes_along (Contact lower) layer along = true
node_takes_along Buried layer along = true
node_takes_along (Fet depletion gate w l) Poly along = is_same_axis gate along
node_takes_along (Fet depletion gate w l) Diffusion along = not (is_same_axis gate along)
node_takes_along (Fet depletion gate w l) Metal along = true

-- the pad of a buried contact is as wide as the wider of diffusion and poly
abbrev pub buried_pad : Tech → ℤ
buried_pad tech = int_max (width_of tech Diffusion) (width_of tech Poly)

-- The pad on which a wire of this layer ends: a joint's width, the square of a contact or of a buried contact, a
-- transistor's channel. A port has none.
abbrev pub node_pad : Tech → Layer → NodeKind → ℤ
node_pad tech layer (Joint own width) = width
node_pad tech layer (Contact lower) = pad_of tech
node_pad tech layer Buried = buried_pad tech
node_pad tech Poly (Fet depletion gate w l) = l
node_pad tech Diffusion (Fet depletion gate w l) = w
node_pad tech Metal (Fet depletion gate w l) = w
