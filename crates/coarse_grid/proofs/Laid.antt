-- How an item lies in the start layout: on each axis it spans the lines that its owner takes up.
use Rattle.std.proofs.Common.{◌≡◌, ℕ, ◌+◌, ◌-◌, ◌<◌, ◌≤◌, max, Bool, true, false, cond, ℤ, List, [], ◌∷◌, ◌++◌, length}
use Rattle.std.proofs.{Common.{map, fold, refl, sym, ap, ◌∙◌, subst, arith}, lemmas.Bool.Decides.nat_tests}
use Rattle.std.specs.{Prelude.nat_lt, List.{AllByRecursion, flat_map}}
use Rattle.rule_table.specs.declared.{technology.Tech.Tech, classes.Layer.{Layer, TheVariants.{Diffusion, Poly, Metal}}}
use Rattle.rule_table.specs.Technology.{widest_of}
use Rattle.sym_items.specs.declared.items.{Item.Item, End.End}
use Rattle.cell_model.specs.declared.cell.{Axis2.{Axis2, TheVariants.{Across, Up}}, Node.Node, Port.Port, Cell.Cell}
use Rattle.cell_model.specs.{Wiring.{is_same_axis, axis_of}, Sound.{no_port, node_at, no_node, wire_at, port_at}}
use Rattle.list_facts.proofs.Elements.{all_at, all_parts, all_unmap, all_pieces}
use Rattle.expand.specs.{Variables.centre, NodeItems.on_layer}
use Rattle.coarse_grid.specs.{Near.AreLinesNear, Start.{node_line, port_lines, last_line, start_values}, Ranges.Lines}
use Rattle.coarse_grid.specs.Ranges.{only, wire_lines, lines_of}
use Rattle.coarse_grid.proofs.{Lines.{last_near, all_most}, Lookups.centre_value, Reaches.{IsCoarse, coarse_pitch}}
use Rattle.coarse_grid.proofs.{Grid.{IsWide, IsSpan, IsRoundOn, round_span}, NodesLaid.IsRound}

-- two ends span the lines of an owner on an axis
abbrev pub IsSpanOn : Cell → ℤ → ℤ → ℕ → Axis2 → End → End → Type 0
IsSpanOn cell pitch extent owner axis low high =
    IsSpan pitch extent (start_values pitch axis cell) (last_line axis cell) (lines_of axis cell owner) low high

pub record IsLaid (cell : Cell) (pitch extent : ℤ) (item : Item) : Type 0 where
  pub x : IsSpanOn cell pitch extent item.owner Across item.xl item.xh
  pub y : IsSpanOn cell pitch extent item.owner Up item.yl item.yh

-- the boxes of a layer lie where the item does
pub laid_layers : (cell : Cell) (pitch extent : ℤ) (layer : Layer) (item : Item) → IsLaid cell pitch extent item
    → AllByRecursion (IsLaid cell pitch extent) (on_layer layer item)
laid_layers cell pitch extent Metal item h = (record { x = h.x; y = h.y }, tt)
laid_layers cell pitch extent Poly item h = (record { x = h.x; y = h.y }, tt)
laid_layers cell pitch extent Diffusion item h = (record { x = h.x; y = h.y }, (record { x = h.x; y = h.y }, tt))

-- no line lies past the last
lines_within : (axis : Axis2) (cell : Cell)
    → AllByRecursion (λ line. line ≤ last_line axis cell) (map (node_line axis) cell.nodes)
    × AllByRecursion (λ line. line ≤ last_line axis cell) (flat_map (port_lines axis) cell.ports)
unfolding last_line
lines_within axis cell =
    let nodes = map (node_line axis) cell.nodes in
    let ports = flat_map (port_lines axis) cell.ports in
    all_parts (λ line. line ≤ fold max 0 (nodes ++ ports)) nodes ports
    (all_most 0 (fold max 0 (nodes ++ ports)) (nodes ++ ports) (omega arith))

pub node_within : (axis : Axis2) (cell : Cell) (k : ℕ) → k < length cell.nodes
    → node_line axis (node_at cell.nodes k) ≤ last_line axis cell
node_within axis cell k lt =
    all_at (λ (node : Node). node_line axis node ≤ last_line axis cell) cell.nodes no_node k
    (all_unmap (λ line. line ≤ last_line axis cell) (node_line axis) cell.nodes (lines_within axis cell).0) lt

place_within : (axis : Axis2) (port : Port) (last : ℕ) → is_same_axis axis (axis_of port.side) ≡ false
    → AllByRecursion (λ line. line ≤ last) (port_lines axis port) → port.place ≤ last
place_within axis port last e h =
    let there : port_lines axis port ≡ port.place ∷ [] = rw e refl in
    let P : List ℕ → Type 0 = λ ns. AllByRecursion (λ line. line ≤ last) ns in
    (subst P there h).0

pub port_within : (axis : Axis2) (cell : Cell) (k : ℕ) → k < length cell.ports
    → is_same_axis axis (axis_of (port_at cell.ports k).side) ≡ false
    → (port_at cell.ports k).place ≤ last_line axis cell
port_within axis cell k lt e =
    place_within axis (port_at cell.ports k) (last_line axis cell) e
    (all_at (λ (port : Port). AllByRecursion (λ line. line ≤ last_line axis cell) (port_lines axis port)) cell.ports
    no_port k
    (all_pieces (λ line. line ≤ last_line axis cell) (port_lines axis) cell.ports (lines_within axis cell).1) lt)

-- the lines of an owner that is a node, and of one that is a wire
lines_of_node : (axis : Axis2) (cell : Cell) (k : ℕ) → k < length cell.nodes
    → lines_of axis cell k ≡ only (node_line axis (node_at cell.nodes k))
lines_of_node axis cell k lt =
    let test : nat_lt k (length cell.nodes) ≡ true = grind (arith, nat_tests) in
    rw test refl

pub lines_of_wire : (axis : Axis2) (cell : Cell) (k : ℕ)
    → lines_of axis cell (length cell.nodes + k) ≡ wire_lines axis cell (wire_at cell.wires k)
lines_of_wire axis cell k =
    let test : nat_lt (length cell.nodes + k) (length cell.nodes) ≡ false = grind (arith, nat_tests) in
    let number : (length cell.nodes + k) - length cell.nodes ≡ k = omega arith in
    let B : Bool → Lines = λ b. cond b (only (node_line axis (node_at cell.nodes (length cell.nodes + k))))
    (wire_lines axis cell (wire_at cell.wires ((length cell.nodes + k) - length cell.nodes))) in
    ap B test ∙ ap (λ n. wire_lines axis cell (wire_at cell.wires n)) number

pub wide : (tech : Tech) (cell : Cell) (pitch extent : ℤ) → IsCoarse tech cell pitch extent
    → IsWide pitch extent (widest_of tech)
wide tech cell pitch extent c = record {
  is_pitch = coarse_pitch tech cell pitch extent c;
  extent_low = c.extent_low;
  extent_high = c.extent_high;
  spacing_low = c.widest_low;
  is = c.pitch_is;
}

node_span : (tech : Tech) (cell : Cell) (pitch extent : ℤ) (axis : Axis2) (owner k : ℕ) (low high : End)
    → IsCoarse tech cell pitch extent → AreLinesNear cell → k < length cell.nodes → owner ≡ k
    → IsRoundOn (centre k) extent low high → IsSpanOn cell pitch extent owner axis low high
node_span tech cell pitch extent axis owner k low high c near lt e round =
    let value = centre_value pitch axis cell k lt in
    let P : Lines → Type 0 = λ ls. IsSpan pitch extent (start_values pitch axis cell) (last_line axis cell) ls low
    high in
    subst P (sym (ap (lines_of axis cell) e ∙ lines_of_node axis cell k lt))
    (round_span pitch extent (widest_of tech) (start_values pitch axis cell) (last_line axis cell) (centre k)
    (node_line axis (node_at cell.nodes k)) low high (wide tech cell pitch extent c) value.0 value.1
    (node_within axis cell k lt) (last_near axis cell near) round)

-- an item round the centre of a node lies so
pub round_laid : (tech : Tech) (cell : Cell) (pitch extent : ℤ) (k : ℕ) (item : Item)
    → IsCoarse tech cell pitch extent → AreLinesNear cell → k < length cell.nodes → IsRound k extent item
    → IsLaid cell pitch extent item
round_laid tech cell pitch extent k item c near lt round = record {
  x = node_span tech cell pitch extent Across item.owner k item.xl item.xh c near lt round.owner round.x;
  y = node_span tech cell pitch extent Up item.owner k item.yl item.yh c near lt round.owner round.y;
}
