-- The items of a cell, in order: those of its nodes, and then those of its wires.
use Rattle.std.specs.Prelude.{◌≡◌, ℕ, ◌+◌, List, ◌++◌, length, flat_map, slice_index, slice_index_or}
use Rattle.std.specs.List.{range_with_len}
use Rattle.lam_geom.specs.declared.boxes.Axis.TheVariants.{X, Y}
use Rattle.rule_table.specs.declared.technology.Tech.{Tech}
use Rattle.sym_items.specs.declared.items.{Item.Item, Items.Items}
use Rattle.cell_model.specs.declared.cell.{NodeNets.NodeNets, Nets.Nets, Cell.Cell}
use Rattle.cell_model.specs.{Sound.{node_at, wire_at}, Nets.AreNets}
use Rattle.expand.specs.{Variables.{cross_of, variables_of}, NodeItems.kind_items, WireItems.wire_items}

-- the nets of node k, where there are so many
abbrev pub no_nets : NodeNets
no_nets = record { main = 0; low = 0; high = 0 }

abbrev pub nets_at : List NodeNets → ℕ → NodeNets
nets_at nets k = slice_index_or nets k no_nets

-- the items of node k and of wire k. The owner of an item is its node's number, or the number of nodes and its wire's
-- number
abbrev pub items_of_node : Tech → Cell → Nets → ℕ → List Item
items_of_node tech cell nets k = kind_items tech k (node_at cell.nodes k).kind (nets_at nets.node k)

abbrev pub items_of_wire : Tech → Cell → Nets → ℕ → List Item
items_of_wire tech cell nets k =
    wire_items tech cell (length cell.nodes + k) (slice_index nets.wire k) (cross_of cell k) (wire_at cell.wires k)

-- the list of items
unfoldable pub item_list : Tech → Cell → Nets → List Item
item_list tech cell nets =
    flat_map (items_of_node tech cell nets) (range_with_len 0 (length cell.nodes))
    ++ flat_map (items_of_wire tech cell nets) (range_with_len 0 (length cell.wires))

-- the items of a cell
abbrev pub items_of : Tech → Cell → Nets → Items
items_of tech cell nets =
    record { list = item_list tech cell nets; x_vars = variables_of X cell; y_vars = variables_of Y cell }

-- the items are the cell's, under its nets
pub record AreItems (tech : Tech) (cell : Cell) (items : Items) : Type 0 where
  pub nets : Nets
  pub of_cell : AreNets cell nets
  pub are : items ≡ items_of tech cell nets
