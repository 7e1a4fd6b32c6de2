-- The items of a node: boxes round its centre.
use Rattle.std.specs.Prelude.{ℕ, ℤ, ◌+ℤ◌, ◌-ℤ◌, neg_ℤ, Bool, List, [], ◌∷◌, map, if◌then◌else◌}
use Rattle.rule_table.specs.declared.{technology.Tech.Tech, classes.Class.{Class, TheVariants.{M, P, Dc, Dm, C, I, G}}}
use Rattle.rule_table.specs.declared.classes.{Class.TheVariants.B, Layer.{Layer, TheVariants.{Diffusion, Poly, Metal}}}
use Rattle.rule_table.specs.Technology.{numbers_of, pad_of}
use Rattle.sym_items.specs.{declared.items.Item.Item, Standing.nowhere, Transposed.transposed_item}
use Rattle.cell_model.specs.declared.cell.{Axis2.{Axis2, TheVariants.{Across, Up}}, NodeKind.NodeKind}
use Rattle.cell_model.specs.declared.cell.{NodeKind.TheVariants.{Joint, Contact, Buried, Fet}, NodeNets.NodeNets}
use Rattle.cell_model.specs.Wiring.{buried_pad}
use Rattle.expand.specs.Variables.{half, centre, past}

-- an item that is described as if it ran across, for one that runs along this axis
abbrev pub item_running : Axis2 → Item → Item
item_running Across i = i
item_running Up i = transposed_item i

-- the boxes that a layer has where an item lies: of diffusion a box of the mask, and the conducting piece that it is
abbrev pub on_layer : Layer → Item → List Item
on_layer Metal i = record i { class = M } ∷ []
on_layer Poly i = record i { class = P } ∷ []
on_layer Diffusion i = record i { class = Dm } ∷ record i { class = Dc } ∷ []

-- the box of node k whose sides lie so far past its centre; its least extents are its size
abbrev pub box_at : ℕ → Class → ℕ → ℤ → ℤ → ℤ → ℤ → Item
box_at k class net left right bottom top = record {
  class = class;
  net = net;
  owner = k;
  xl = past (centre k) left;
  xh = past (centre k) right;
  yl = past (centre k) bottom;
  yh = past (centre k) top;
  least_x = right -ℤ left;
  least_y = top -ℤ bottom;
  at_low = nowhere;
  at_high = nowhere;
}

-- the box of these half sizes round the centre, and the square
abbrev pub box_round : ℕ → Class → ℕ → ℤ → ℤ → Item
box_round k class net half_x half_y = box_at k class net (neg_ℤ half_x) half_x (neg_ℤ half_y) half_y

abbrev pub square_round : ℕ → Class → ℕ → ℤ → Item
square_round k class net half_size = box_round k class net half_size half_size

-- Of a transistor whose gate runs across: the gate's poly, the diffusion of the mask, its conducting pieces below and
-- above the channel, the channel, and the implant of a depletion one. The channel has the half sizes x and y.
abbrev pub channel_items : Tech → ℕ → NodeNets → Bool → ℤ → ℤ → List Item
channel_items tech k nets depletion x y =
    let poly = (numbers_of tech).extension_poly in
    let diffusion = (numbers_of tech).extension_diffusion in
    let implant = (numbers_of tech).extension_implant in
    box_round k P nets.main (x +ℤ poly) y
    ∷ box_round k Dm nets.low x (y +ℤ diffusion)
    ∷ box_at k Dc nets.low (neg_ℤ x) x (neg_ℤ (y +ℤ diffusion)) (neg_ℤ y)
    ∷ box_at k Dc nets.high (neg_ℤ x) x y (y +ℤ diffusion)
    ∷ box_round k G nets.main x y
    ∷ (if depletion then box_round k I nets.main (x +ℤ implant) (y +ℤ implant) ∷ [] else [])

-- Of a buried contact: poly and diffusion on its pad, and the window that goes on past it. All stand at it.
abbrev pub standing_at : ℕ → Item → Item
standing_at k i = record i { at_low = k; at_high = k }

abbrev pub buried_items : Tech → ℕ → ℕ → List Item
buried_items tech k net =
    let pad = half (buried_pad tech) in
    standing_at k (square_round k P net pad)
    ∷ standing_at k (square_round k Dm net pad)
    ∷ standing_at k (square_round k Dc net pad)
    ∷ standing_at k (square_round k B net (pad +ℤ (numbers_of tech).extension_buried))
    ∷ []

-- The items of node k, by its kind. The items of a transistor whose gate runs up are those of one whose gate runs
-- across, transposed.
abbrev pub kind_items : Tech → ℕ → NodeKind → NodeNets → List Item
kind_items tech k (Joint layer width) nets = on_layer layer (square_round k M nets.main (half width))
kind_items tech k (Contact lower) nets =
    square_round k M nets.main (half (pad_of tech))
    ∷ square_round k C nets.main (half (numbers_of tech).cut_size)
    ∷ on_layer lower (square_round k M nets.main (half (pad_of tech)))
kind_items tech k Buried nets = buried_items tech k nets.main
kind_items tech k (Fet depletion gate w l) nets =
    map (item_running gate) (channel_items tech k nets depletion (half w) (half l))
