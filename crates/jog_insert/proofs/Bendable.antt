-- Whether a wire can be bent.
use Rattle.std.proofs.Common.{◌≡◌, ℕ, ◌<◌, ◌≤◌, ◌≢◌, ℤ, List, length, get_or, refl, sym, ap, subst, ◌∙◌, arith}
use Rattle.std.{proofs.lemmas.{Int.{ints, to_z-of_z}, List.get_or_default}, specs.Prelude.{pos, ◌≤ℤ◌, false, not}}
use Rattle.list_facts.proofs.Elements.{all_at}
use Rattle.rule_table.specs.{declared.technology.Tech.Tech, Bounds.IsSize}
use Rattle.cell_model.specs.declared.cell.{Node.Node, Axis2.{Axis2, TheVariants.{Across, Up}}, Cell.Cell, Wire.Wire}
use Rattle.cell_model.specs.{declared.cell.WireEnd.WireEnd, contracts.cell.Axis2.the_type as axis, Sound.node_at}
use Rattle.cell_model.specs.Sound.{wire_at, no_node, no_wire, IsEnd, IsNode, IsWire, IsSound}
use denote.Enum.Bare.{sameb}
use mir.Val.{to_z, of_z}
use mir.Syntax.{w64}
use Rattle.rule_table.specs.declared.classes.Layer.TheVariants as layers
use Rattle.cell_model.specs.declared.cell.WireEnd.TheVariants as ends
use Rattle.jog_insert.specs.{Jogs.{Crosses, IsBendable}, Building.IsRun}

-- one node
pub same_node : (i j : ℕ) (end : WireEnd) → end ≡ ends.Node i → end ≡ ends.Node j → i ≡ j
same_node i j end e f = cc

-- a bendable wire's low end
pub low_is : (cell : Cell) (k row low : ℕ) (b : IsBendable cell k row) → (wire_at cell.wires k).low ≡ ends.Node low
    → b.low ≡ low
low_is cell k row low b e = same_node b.low low _ b.from e

-- another wire reaches over the bend
pub is_crossed_out : (cell : Cell) (k row low : ℕ) → (wire_at cell.wires k).low ≡ ends.Node low
    → (j : ℕ) × (j < length cell.wires) × (j ≢ k)
    × Crosses cell (node_at cell.nodes low).col row (wire_at cell.wires j) → IsBendable cell k row → ⊥
is_crossed_out cell k row low e w b =
    b.alone w.0 w.1 w.2
    (subst (λ (i : ℕ). Crosses cell (node_at cell.nodes i).col row (wire_at cell.wires w.0))
    (sym (low_is cell k row low b e)) w.3)

-- ---- what the code reads

pub wire_here : (cell : Cell) (wires : List Wire) (k : ℕ) (d : Wire) → wires ≡ cell.wires → k < length cell.wires
    → wire_at cell.wires k ≡ get_or wires k d
wire_here cell wires k d e lt = get_or_default cell.wires k no_wire d lt ∙ ap (λ (l : List Wire). get_or l k d) (sym e)

pub node_here : (cell : Cell) (nodes : List Node) (i : ℕ) (node : Node) → nodes ≡ cell.nodes → i < length cell.nodes
    → node ≡ get_or nodes i node → node_at cell.nodes i ≡ node
node_here cell nodes i node e lt is = get_or_default cell.nodes i no_node node lt
    ∙ ap (λ (l : List Node). get_or l i node) (sym e) ∙ sym is

pub wire_of_sound : (tech : Tech) (cell : Cell) (k : ℕ) → IsSound tech cell → k < length cell.wires
    → IsWire tech cell (wire_at cell.wires k)
wire_of_sound tech cell k sound lt = all_at (IsWire tech cell) cell.wires no_wire k sound.wires lt

-- an end of it is a node of the cell
pub low_within : (tech : Tech) (cell : Cell) (k low : ℕ) → IsSound tech cell → k < length cell.wires
    → (wire_at cell.wires k).low ≡ ends.Node low → low < length cell.nodes
low_within tech cell k low sound lt e = subst (IsEnd cell) e (wire_of_sound tech cell k sound lt).low

pub high_within : (tech : Tech) (cell : Cell) (k high : ℕ) → IsSound tech cell → k < length cell.wires
    → (wire_at cell.wires k).high ≡ ends.Node high → high < length cell.nodes
high_within tech cell k high sound lt e = subst (IsEnd cell) e (wire_of_sound tech cell k sound lt).high

-- the wire can be bent
pub is_run : (tech : Tech) (cell : Cell) (k row col low high width : ℕ) → IsSound tech cell → k < length cell.wires
    → (wire_at cell.wires k).along ≡ Up
    → (wire_at cell.wires k).low ≡ ends.Node low → (wire_at cell.wires k).high ≡ ends.Node high
    → (node_at cell.nodes low).col ≡ col → (node_at cell.nodes low).row ≤ row → row < (node_at cell.nodes high).row
    → ((j : ℕ) → j < length cell.wires → j ≢ k → Crosses cell col row (wire_at cell.wires j) → ⊥)
    → (wire_at cell.wires k).width ≡ pos width
    → IsRun cell k row (record { col = col; low = low; high = high; width = width })
is_run tech cell k row col low high width sound lt up from to is_col below above alone is_width =
    let is_low : low < length cell.nodes = low_within tech cell k low sound lt from in
    let is_high : high < length cell.nodes = high_within tech cell k high sound lt to in
    let near_low : (node_at cell.nodes low).col ≤ 4095 =
    (all_at (IsNode tech) cell.nodes no_node low sound.nodes is_low).col in
    let near_high : (node_at cell.nodes high).row ≤ 4095 =
    (all_at (IsNode tech) cell.nodes no_node high sound.nodes is_high).row in
    let most : pos width ≤ℤ pos 4096 =
    subst (λ (z : ℤ). z ≤ℤ pos 4096) is_width (wire_of_sound tech cell k sound lt).size.high in
    record {
      bendable = record {
        among = lt;
        up = up;
        low = low;
        high = high;
        from = from;
        to = to;
        below = below;
        above = above;
        alone = λ j less other crossing.
            alone j less other (subst (λ (c : ℕ). Crosses cell c row (wire_at cell.wires j)) is_col crossing);
      };
      low = refl;
      high = refl;
      col = is_col;
      width = is_width;
      is_low = is_low;
      is_high = is_high;
      near_col = omega arith;
      near_row = omega arith;
      small = omega (arith, ints);
    }

-- what the code reads where nothing stands
abbrev pub unread : Wire
unread = record { layer = layers.Diffusion; width = pos 0; low = ends.Node 0; high = ends.Node 0; along = Across }

-- a size goes through 64 bits
size_fits : (z : ℤ) → IsSize z → to_z w64 (of_z w64 z) ≡ z
size_fits z is = to_z-of_z w64 z (omega (arith, ints, is.low, is.high))

pub size_read : (z : ℤ) → IsSize z → IsSize (to_z w64 (of_z w64 z))
size_read z is = subst IsSize (sym (size_fits z is)) is

pub size_is : (z : ℤ) (n : ℕ) → IsSize z → to_z w64 (of_z w64 z) ≡ pos n → z ≡ pos n
size_is z n is e = sym (size_fits z is) ∙ e

-- the test of an axis
pub is_up : (along : Axis2) → false ≡ not (sameb axis along Up) → along ≡ Up
is_up Across e = absurd (cc)
is_up Up e = refl
