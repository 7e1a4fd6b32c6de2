-- The nets of the items of a master are among those that are counted, and there are no more than twice as many as
-- boxes.
use Rattle.std.proofs.Common.{◌≡◌, ℕ, ◌+◌, ◌<◌, ℤ, Bool, true, false, List, [], ◌∷◌, length, map, sym, subst, arith}
use Rattle.std.specs.{Prelude.slice_index, List.{flat_map, range_with_len, AllByRecursion}}
use Rattle.rule_table.specs.declared.{technology.Tech.Tech, classes.Layer.{Layer, TheVariants.{Diffusion, Poly, Metal}}}
use Rattle.sym_items.specs.declared.items.{Item.Item, Items.Items}
use Rattle.cell_model.specs.declared.cell.{Axis2.{Axis2, TheVariants.{Across, Up}}, Cell.Cell, Nets.Nets}
use Rattle.cell_model.specs.declared.cell.NodeKind.{NodeKind, TheVariants.{Joint, Contact, Buried, Fet}}
use Rattle.cell_model.specs.{declared.cell.{NodeNets.NodeNets, Wire.Wire}, Nets.{kind_parts, first_part, nets_of_kind}}
use Rattle.cell_model.specs.{Nets.AreNets, Sound.{node_at, wire_at}}
use Rattle.cell_nets.proofs.Determined.{nets_same}
use Rattle.expand.specs.{declared.master.Master.Master, Masters.IsMaster, Items.{nets_at, items_of_node, items_of_wire}}
use Rattle.expand.specs.{Items.item_list, NodeItems.{item_running, on_layer, channel_items, kind_items}, Variables.half}
use Rattle.expand.specs.{Variables.cross_of, WireItems.{low_end_of, high_end_of, contact_at, run_item, wire_items}}
use Rattle.list_facts.proofs.Elements.{all_append, all_flat, all_numbers}
use Rattle.instance_laws.proofs.ChainParts.{parts_within, node_nets_are}
use Rattle.design_nets.proofs.Counted.{part_below, wire_below, wire_count}

abbrev pub HasNetBelow : ℕ → Item → Type 0
HasNetBelow count item = item.net < count

-- the nets of a node
pub record AreBelow (count : ℕ) (nets : NodeNets) : Type 0 where
  pub main : nets.main < count
  pub low : nets.low < count
  pub high : nets.high < count

-- ---- nets of nodes

kind_below : (count : ℕ) (numbers : List ℕ) (first : ℕ) (kind : NodeKind)
    → ((k : ℕ) → k < kind_parts kind → slice_index numbers (first + k) < count)
    → AreBelow count (nets_of_kind kind numbers first)
kind_below count numbers first (Joint layer width) h =
    (let e : first + 0 ≡ first = omega arith in let n = subst (λ (k : ℕ). slice_index numbers k < count) e
    (h 0 (omega arith)) in record { main = n; low = n; high = n })
kind_below count numbers first (Contact lower) h =
    (let e : first + 0 ≡ first = omega arith in let n = subst (λ (k : ℕ). slice_index numbers k < count) e
    (h 0 (omega arith)) in record { main = n; low = n; high = n })
kind_below count numbers first Buried h =
    (let e : first + 0 ≡ first = omega arith in let n = subst (λ (k : ℕ). slice_index numbers k < count) e
    (h 0 (omega arith)) in record { main = n; low = n; high = n })
kind_below count numbers first (Fet depletion gate w l) h =
    (let e : first + 0 ≡ first = omega arith in
    let n = subst (λ (k : ℕ). slice_index numbers k < count) e (h 0 (omega arith)) in
    record { main = n; low = h 1 (omega arith); high = h 2 (omega arith) })

pub node_below : (cell : Cell) (nets : Nets) (own : AreNets cell nets) (k : ℕ) → k < length cell.nodes
    → AreBelow nets.count (nets_at nets.node k)
node_below cell nets own k lt =
    let within = parts_within cell.nodes k lt in
    subst (AreBelow nets.count) (sym (node_nets_are cell nets k own lt))
    (kind_below nets.count own.numbers (first_part cell.nodes k) (node_at cell.nodes k).kind
    (λ p few. part_below cell nets own (first_part cell.nodes k + p) (omega (arith, within, few))))

-- ---- items

layer_below : (count : ℕ) (layer : Layer) (i : Item) → HasNetBelow count i
    → AllByRecursion (HasNetBelow count) (on_layer layer i)
layer_below count Metal i h = (h, tt)
layer_below count Poly i h = (h, tt)
layer_below count Diffusion i h = (h, (h, tt))

running_below : (count : ℕ) (gate : Axis2) (is : List Item) → AllByRecursion (HasNetBelow count) is
    → AllByRecursion (HasNetBelow count) (map (item_running gate) is)
running_below count gate [] h = tt
running_below count Across (i ∷ is) h = (h.0, running_below count Across is h.1)
running_below count Up (i ∷ is) h = (h.0, running_below count Up is h.1)

turned_below : (count : ℕ) (along : Axis2) (i : Item) → HasNetBelow count i → HasNetBelow count (item_running along i)
turned_below count Across i h = h
turned_below count Up i h = h

channel_below : (count : ℕ) (tech : Tech) (k : ℕ) (nets : NodeNets) (depletion : Bool) (x y : ℤ) → AreBelow count nets
    → AllByRecursion (HasNetBelow count) (channel_items tech k nets depletion x y)
channel_below count tech k nets true x y h = (h.main, (h.low, (h.low, (h.high, (h.main, (h.main, tt))))))
channel_below count tech k nets false x y h = (h.main, (h.low, (h.low, (h.high, (h.main, tt)))))

kind_items_below : (count : ℕ) (tech : Tech) (k : ℕ) (kind : NodeKind) (nets : NodeNets) → AreBelow count nets
    → AllByRecursion (HasNetBelow count) (kind_items tech k kind nets)
kind_items_below count tech k (Joint layer width) nets h = layer_below count layer _ h.main
kind_items_below count tech k (Contact lower) nets h = (h.main, (h.main, layer_below count lower _ h.main))
kind_items_below count tech k Buried nets h = (h.main, (h.main, (h.main, (h.main, tt))))
kind_items_below count tech k (Fet depletion gate w l) nets h =
    running_below count gate (channel_items tech k nets depletion (half w) (half l))
    (channel_below count tech k nets depletion (half w) (half l) h)

wire_items_below : (count : ℕ) (tech : Tech) (cell : Cell) (owner net cross : ℕ) (wire : Wire) → net < count
    → AllByRecursion (HasNetBelow count) (wire_items tech cell owner net cross wire)
wire_items_below count tech cell owner net cross wire h =
    let run : Item = run_item owner net cross wire.width (low_end_of tech cell wire wire.low)
    (high_end_of tech cell wire wire.high) (contact_at cell wire.low) (contact_at cell wire.high) in
    layer_below count wire.layer (item_running wire.along run) (turned_below count wire.along run h)

list_below : (tech : Tech) (cell : Cell) (nets : Nets) → AreNets cell nets
    → AllByRecursion (HasNetBelow nets.count) (item_list tech cell nets)
unfolding item_list
list_below tech cell nets own =
    let P : Item → Type 0 = HasNetBelow nets.count in
    let n : ℕ = length cell.nodes in
    all_append P (flat_map (items_of_node tech cell nets) (range_with_len 0 n))
    (flat_map (items_of_wire tech cell nets) (range_with_len 0 (length cell.wires)))
    (all_flat P (items_of_node tech cell nets) (range_with_len 0 n)
    (all_numbers (λ k. AllByRecursion P (items_of_node tech cell nets k)) 0 n
    (λ k le lt. kind_items_below nets.count tech k (node_at cell.nodes k).kind (nets_at nets.node k)
    (node_below cell nets own k (omega (arith, lt))))))
    (all_flat P (items_of_wire tech cell nets) (range_with_len 0 (length cell.wires))
    (all_numbers (λ k. AllByRecursion P (items_of_wire tech cell nets k)) 0 (length cell.wires) (λ k le lt.
    wire_items_below nets.count tech cell (length cell.nodes + k) (slice_index nets.wire k) (cross_of cell k)
    (wire_at cell.wires k)
    (wire_below cell nets own k 0 (let counted = wire_count cell nets own in omega (arith, lt, counted))))))

-- each item of a master, under the nets of its cell
pub items_below : (tech : Tech) (master : Master) (nets : Nets) → IsMaster tech master → AreNets master.cell nets
    → AllByRecursion (HasNetBelow nets.count) master.items.list
items_below tech master nets is own =
    let same : is.items.nets ≡ nets = nets_same master.cell is.items.nets nets is.items.of_cell own in
    let P : Items → Type 0 = λ (items : Items). AllByRecursion (HasNetBelow nets.count) items.list in
    subst P (sym is.items.are)
    (subst (λ (n : Nets). AllByRecursion (HasNetBelow nets.count) (item_list tech master.cell n)) (sym same)
    (list_below tech master.cell nets own))
