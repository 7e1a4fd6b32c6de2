-- The pieces of the sticks, box by box, each with the net of its instance that it belongs to.
use Rattle.std.specs.{Prelude.{◌≡◌, ℕ, ◌<◌, ◌&&◌, nat_lt, Bool, All, List, length, map}, Option.unwrap_or}
use Rattle.lam_geom.specs.declared.boxes.MaskLayer.{MaskLayer, TheVariants.ND}
use Rattle.rule_table.specs.declared.classes.Class.{Class}
use Rattle.cell_model.specs.{declared.cell.{Cell.Cell, Nets.Nets}, Sound.node_at}
use Rattle.sym_items.specs.declared.items.Item.{Item}
use Rattle.pair_rules.specs.Bound.{item_at}
use Rattle.expand.specs.{declared.master.Master.Master, Items.nets_at}
use Rattle.pitch_join.specs.Masters.{master_at}
use Rattle.mask_out.specs.Masks.{layer_drawn}
use Rattle.box_pieces.specs.declared.placing.Part.{Part, TheVariants.{Whole, Low, High}}
use Rattle.box_pieces.specs.Places.{Place, place, parts_on}
use Rattle.instance_laws.specs.Sticks.{is_transistor}
use Rattle.design_nets.specs.declared.{instances.Instance.Instance, owners.OwnNet.OwnNet, pieces.Placed.Placed}
use Rattle.design_nets.specs.{declared.shapes.Shape.Shape, Firsts.{together, AreFirsts}, Instances.master_no}
use Rattle.design_nets.specs.{Nets.{nets_no, AreNetsOfAll}, Shapes.shape_no}

-- the layer of a box that shows an item of this class
abbrev pub layer_shown : Class → MaskLayer
layer_shown class = unwrap_or (layer_drawn class) ND

-- part number k of a cell is a node, and that a transistor
abbrev pub is_fet : Cell → ℕ → Bool
is_fet cell k = nat_lt k (length cell.nodes) && is_transistor (node_at cell.nodes k).kind

-- the net of a part of the box of an item
abbrev pub part_net : Nets → Item → Part → ℕ
part_net nets item Whole = item.net
part_net nets item Low = (nets_at nets.node item.owner).low
part_net nets item High = (nets_at nets.node item.owner).high

abbrev pub placed : Nets → Item → ℕ → ℕ → Part → Placed
placed nets item instance box_no part =
    record { box_no = box_no; part = part; own = record { instance = instance; net = part_net nets item part } }

-- the pieces of the box with this number, which shows item n of this instance
abbrev pub parts_of_item : Master → Item → List Part
parts_of_item master item = parts_on (layer_shown item.class) (is_fet master.cell item.owner)

abbrev pub pieces_of_item : Master → Nets → ℕ → Shape → List Placed
pieces_of_item master nets box_no shape =
    (let item = item_at master.items.list shape.item in map (placed nets item shape.instance box_no)
    (parts_of_item master item))

abbrev pub pieces_in : List Master → List Nets → List Instance → List Shape → ℕ → List Placed
pieces_in masters nets instances shapes k =
    (let m = master_no instances (shape_no shapes k).instance in pieces_of_item (master_at masters m) (nets_no nets m)
    k (shape_no shapes k))

-- the pieces of all boxes, and of each box the number of its first
pub record AreInstancePieces (masters : List Master) (nets : List Nets) (instances : List Instance)
    (shapes : List Shape) (pieces : List Placed) (starts : List ℕ) : Type 0 where
  pub all : pieces ≡ together (pieces_in masters nets instances shapes) (length shapes)
  pub begins : AreFirsts (pieces_in masters nets instances shapes) (length shapes) 0 starts

-- where a piece stands, and its net
abbrev pub stand_of : Placed → Place
stand_of piece = place piece.box_no piece.part

abbrev pub own_of : Placed → OwnNet
own_of piece = piece.own

-- ---- what pieces are made from

-- a shape is an item of an instance
pub record IsShapeOf (masters : List Master) (instances : List Instance) (shape : Shape) : Type 0 where
  pub instance : shape.instance < length instances
  pub master : master_no instances shape.instance < length masters
  pub item : shape.item < length (master_at masters (master_no instances shape.instance)).items.list

-- shapes of instances of masters with nets
pub record AreDrawn (masters : List Master) (nets : List Nets) (instances : List Instance)
    (shapes : List Shape) : Type 0 where
  pub nets_are : AreNetsOfAll masters nets
  pub each : All (IsShapeOf masters instances) shapes
