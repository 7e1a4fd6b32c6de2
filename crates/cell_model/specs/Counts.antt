-- How many items and mask boxes the nodes and wires of a cell have.
use Rattle.std.specs.Prelude.{ℕ, ◌+◌, Bool, true, false, length, sum_by}
use Rattle.rule_table.specs.declared.classes.Layer.{Layer, TheVariants.{Diffusion, Poly, Metal}}
use Rattle.cell_model.specs.declared.cell.{NodeKind.{NodeKind, TheVariants.{Joint, Contact, Buried, Fet}}, Node.Node}
use Rattle.cell_model.specs.declared.cell.{Wire.Wire, Cell.Cell}

-- a piece of diffusion is a mask box and a conducting piece
abbrev pub layer_items : Layer → ℕ
layer_items Diffusion = 2
layer_items Poly = 1
layer_items Metal = 1

-- the implant of a depletion transistor
abbrev pub implants : Bool → ℕ
implants true = 1
implants false = 0

-- A joint has its layer's items. A contact has metal, a cut and its lower layer's. A buried contact has poly, a
-- diffusion mask, the conducting piece that it is, and its window. A transistor has poly, a diffusion mask, the
-- conducting pieces on both sides, and its channel.
abbrev pub kind_items : NodeKind → ℕ
kind_items (Joint layer width) = layer_items layer
kind_items (Contact lower) = 2 + layer_items lower
kind_items Buried = 4
kind_items (Fet depletion gate w l) = 5 + implants depletion

-- conducting pieces and channels are no mask boxes
abbrev pub kind_boxes : NodeKind → ℕ
kind_boxes (Joint layer width) = 1
kind_boxes (Contact lower) = 3
kind_boxes Buried = 3
kind_boxes (Fet depletion gate w l) = 2 + implants depletion

abbrev pub node_items : Node → ℕ
node_items node = kind_items node.kind

abbrev pub node_boxes : Node → ℕ
node_boxes node = kind_boxes node.kind

abbrev pub wire_items : Wire → ℕ
wire_items wire = layer_items wire.layer

-- how many items a cell has, and how many mask boxes
unfoldable pub items_in : Cell → ℕ
items_in cell = sum_by node_items cell.nodes + sum_by wire_items cell.wires

unfoldable pub boxes_in : Cell → ℕ
boxes_in cell = sum_by node_boxes cell.nodes + length cell.wires
