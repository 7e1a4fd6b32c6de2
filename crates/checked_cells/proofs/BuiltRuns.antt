-- A wire that was accepted runs straight between two terminals that take it, and ends at no port that had a wire.
use Rattle.std.proofs.Common.{◌≡◌, ℕ, ◌<◌, ℤ, Bool, true, false, List, length, map, Option, Some, None, Result, Ok}
use Rattle.std.proofs.{Common.{refl, sym, ap, subst, ◌∙◌, inl, inr, arith}, Math.ListN.get_or-map}
use Rattle.std.proofs.lemmas.{List.length-map, Bool.not-true}
use Rattle.std.specs.Prelude.{IsTrue, ◌≤ℤ◌, int_le, not, ◌&&◌, ◌||◌, ◌==◌, nat_lt, if◌then◌else◌}
use Rattle.rule_table.specs.{Bounds.IsSize, Technology.width_of, declared.{technology.Tech.Tech, classes.Layer.Layer}}
use Rattle.stick_text.specs.declared.fault.StickKind.{StickKind, TheVariants.{WrongLayer, WrongSide, PortWires}}
use Rattle.stick_text.specs.{declared.fault.StickKind.TheVariants.{NarrowWire, WideWire}, Reading.{◌>>=◌, demand}}
use Rattle.lam_geom.specs.declared.boxes.Side.{Side}
use Rattle.cell_model.specs.declared.cell.{Axis2.{Axis2, TheVariants.{Across, Up}}, NodeKind.NodeKind, Node.Node}
use Rattle.cell_model.specs.{declared.cell.{Wire.Wire, Port.Port, Cell.Cell}, Wiring.{is_same_axis, axis_of}}
use Rattle.cell_model.specs.Wiring.{is_low_side, is_same_layer, node_takes, node_takes_along, buried_pad, node_pad}
use Rattle.cell_model.specs.Sound.{node_at, port_at, IsEnd, Takes, IsOnLowSide, IsOnHighSide, line_at, IsInOrder}
use Rattle.cell_model.specs.Sound.{IsWithinPad, FillsKind, FillsPad, IsWire, EndsAt}
use Rattle.cell_model.specs.declared.cell.NodeKind.TheVariants as kinds
use Rattle.cell_model.specs.declared.cell.WireEnd.TheVariants as ends
use Rattle.checked_cells.specs.declared.names.{NodePlace.NodePlace, Pin.Pin, Terminal.Terminal, Found.Found}
use Rattle.checked_cells.specs.{declared.names.{Found.TheVariants.At, Run.Run}, CheckedCell.{CheckedCell, Plug}}
use Rattle.checked_cells.specs.{CheckedCell.{cell_of, no_plug, plug_at}, Checks.sized, Wires.{terminal, line_of}}
use Rattle.checked_cells.specs.Wires.{run_along, run_from_port, run_to_port, run_between, straight, run_of, takes_layer}
use Rattle.checked_cells.specs.Wires.{takes_along, is_buried, are_sides_free, is_free, fills_pad, is_within_pad, end_of}
use Rattle.checked_cells.{specs.Wires.{at_both, wire_along, wire_where, wire_between}, proofs.Accepted.bound}
use Rattle.checked_cells.proofs.Accepted.{two_bound, demanded, two_demanded, both, terminal_ok, straight_ok, ok_same}
use Rattle.checked_cells.proofs.{Accepted.{eq_from_test, less_from_test, more_from_test, le_from_test}, BuiltNames.IsAt}
use Rattle.checked_cells.proofs.{BuiltWires.{order_to_port, order_from_port, port_of_plug}, BuiltSizes.size_of_sized}
use Rattle.checked_cells.specs.declared.names.Terminal.TheVariants as terminals

-- ---- terminals

-- the node_place tells what and where the node of its number is
pub record IsNodeOf (cell : Cell) (node_place : NodePlace) : Type 0 where
  pub within : node_place.number < length cell.nodes
  pub kind : (node_at cell.nodes node_place.number).kind ≡ node_place.kind
  pub col : (node_at cell.nodes node_place.number).col ≡ node_place.col
  pub row : (node_at cell.nodes node_place.number).row ≡ node_place.row

pub record IsPortOf (cell : Cell) (pin : Pin) : Type 0 where
  pub within : pin.number < length cell.ports
  pub side : (port_at cell.ports pin.number).side ≡ pin.side
  pub layer : (port_at cell.ports pin.number).layer ≡ pin.layer
  pub place : (port_at cell.ports pin.number).place ≡ pin.place

-- the terminal is the one of its number
abbrev pub IsTerminalOf : Cell → Terminal → Type 0
IsTerminalOf cell (terminals.Node node_place) = IsNodeOf cell node_place
IsTerminalOf cell (terminals.Port pin) = IsPortOf cell pin

-- a terminal of that name
pub terminal_of : (known : CheckedCell) (name : List ℕ) (t : Terminal) → IsAt known.nodes known.plugs name t
    → IsTerminalOf (cell_of known) t
terminal_of known name (terminals.Node node_place) is =
    record {
      within = is.within;
      kind = ap (λ (node : Node). node.kind) is.node;
      col = ap (λ (node : Node). node.col) is.node;
      row = ap (λ (node : Node). node.row) is.node;
    }
terminal_of known name (terminals.Port pin) is =
    record {
      within = omega (arith, is.within, length-map known.plugs (λ (plug : Plug). plug.port));
      side = ap (λ (port : Port). port.side) (port_of_plug known.plugs pin.number) ∙ is.side;
      layer = ap (λ (port : Port). port.layer) (port_of_plug known.plugs pin.number) ∙ is.layer;
      place = ap (λ (port : Port). port.place) (port_of_plug known.plugs pin.number) ∙ is.place;
    }

-- ---- runs

-- a port is reached along this axis
abbrev pub IsReached : Axis2 → Terminal → Type 0
IsReached along (terminals.Node node_place) = Unit {0}
IsReached along (terminals.Port pin) = axis_of pin.side ≡ along

-- the run goes straight from its low terminal to its high one
pub record IsRun (cell : Cell) (run : Run) : Type 0 where
  pub low : IsTerminalOf cell run.low
  pub high : IsTerminalOf cell run.high
  pub reaches_low : IsReached run.along run.low
  pub reaches_high : IsReached run.along run.high
  pub low_side : IsOnLowSide cell (end_of run.low)
  pub high_side : IsOnHighSide cell (end_of run.high)
  pub straight : line_at cell run.along (end_of run.low) ≡ line_at cell run.along (end_of run.high)
  pub ordered : IsInOrder cell run.along (end_of run.low) (end_of run.high)

-- the line of a node_place is that of its node, and so for a port
node_line : (cell : Cell) (along : Axis2) (node_place : NodePlace) → IsNodeOf cell node_place
    → line_at cell along (ends.Node node_place.number) ≡ line_of along node_place
node_line cell Across node_place is = is.row
node_line cell Up node_place is = is.col

-- and of a port
port_line : (cell : Cell) (along : Axis2) (pin : Pin) → IsPortOf cell pin
    → line_at cell along (ends.Port pin.number) ≡ pin.place
port_line cell Across pin is = is.place
port_line cell Up pin is = is.place

-- a port on a low side
on_low : (cell : Cell) (pin : Pin) → IsPortOf cell pin → IsTrue (is_low_side pin.side)
    → IsOnLowSide cell (ends.Port pin.number)
on_low cell pin is low = subst (λ (side : Side). IsTrue (is_low_side side)) (sym is.side) low

-- a port on a high side
on_high : (cell : Cell) (pin : Pin) → IsPortOf cell pin → IsTrue (not (is_low_side pin.side))
    → IsOnHighSide cell (ends.Port pin.number)
on_high cell pin is high = subst (λ (side : Side). IsTrue (not (is_low_side side))) (sym is.side) high

-- one answer
some_same : {A : Type 0} (x y : A) → ◌≡◌ {A = Option A} (Some x) (Some y) → x ≡ y
some_same x y e = cc

-- between two nodes on one line
between : (cell : Cell) (along : Axis2) (low high : NodePlace) (forward : Bool) → IsNodeOf cell low
    → IsNodeOf cell high → line_of along low ≡ line_of along high
    → IsInOrder cell along (ends.Node low.number) (ends.Node high.number)
    → IsRun cell (record { along = along; low = terminals.Node low; high = terminals.Node high; forward = forward })
between cell along low high forward is_low is_high line ordered =
    record {
      low = is_low;
      high = is_high;
      reaches_low = tt;
      reaches_high = tt;
      low_side = tt;
      high_side = tt;
      straight = node_line cell along low is_low ∙ line ∙ sym (node_line cell along high is_high);
      ordered =
          ordered;
    }

-- two nodes in a row
across : (cell : Cell) (a b : NodePlace) (is_low : Bool) → IsNodeOf cell a → IsNodeOf cell b → a.row ≡ b.row
    → (is_low ≡ true → a.col < b.col) → (is_low ≡ false → b.col < a.col)
    → IsRun cell (run_along Across is_low (terminals.Node a) (terminals.Node b))
across cell a b true ia ib line less more =
    between cell Across a b true ia ib line (omega (arith, less refl, ia.col, ib.col))
across cell a b false ia ib line less more =
    between cell Across b a false ib ia (sym line) (omega (arith, more refl, ia.col, ib.col))

-- two nodes in a column
up : (cell : Cell) (a b : NodePlace) (is_low : Bool) → IsNodeOf cell a → IsNodeOf cell b → a.col ≡ b.col
    → (is_low ≡ true → a.row < b.row) → (is_low ≡ false → b.row < a.row)
    → IsRun cell (run_along Up is_low (terminals.Node a) (terminals.Node b))
up cell a b true ia ib line less more = between cell Up a b true ia ib line (omega (arith, less refl, ia.row, ib.row))
up cell a b false ia ib line less more =
    between cell Up b a false ib ia (sym line) (omega (arith, more refl, ia.row, ib.row))

-- between two nodes, by the two tests
nodes_run : (cell : Cell) (a b : NodePlace) (row col : Bool) (run : Run) → IsNodeOf cell a → IsNodeOf cell b
    → (a.row == b.row) && not (a.col == b.col) ≡ row → (a.col == b.col) && not (a.row == b.row) ≡ col
    → (if row then Some (run_along Across (nat_lt a.col b.col) (terminals.Node a) (terminals.Node b))
    else (if col then Some (run_along Up (nat_lt a.row b.row) (terminals.Node a) (terminals.Node b))
    else None)) ≡ Some run
    → IsRun cell run
nodes_run cell a b true col run ia ib on_row on_col e =
    let parts : IsTrue (a.row == b.row) × IsTrue (not (a.col == b.col)) =
    both (a.row == b.row) (not (a.col == b.col)) on_row in
    let same : run_along Across (nat_lt a.col b.col) (terminals.Node a) (terminals.Node b) ≡ run =
    some_same (run_along Across (nat_lt a.col b.col) (terminals.Node a) (terminals.Node b)) run e in
    subst (IsRun cell) same
    (across cell a b (nat_lt a.col b.col) ia ib (eq_from_test a.row b.row parts.0) (less_from_test a.col b.col)
    (more_from_test a.col b.col parts.1))
nodes_run cell a b false true run ia ib on_row on_col e =
    let parts : IsTrue (a.col == b.col) × IsTrue (not (a.row == b.row)) =
    both (a.col == b.col) (not (a.row == b.row)) on_col in
    let same : run_along Up (nat_lt a.row b.row) (terminals.Node a) (terminals.Node b) ≡ run =
    some_same (run_along Up (nat_lt a.row b.row) (terminals.Node a) (terminals.Node b)) run e in
    subst (IsRun cell) same
    (up cell a b (nat_lt a.row b.row) ia ib (eq_from_test a.col b.col parts.0) (less_from_test a.row b.row)
    (more_from_test a.row b.row parts.1))
nodes_run cell a b false false run ia ib on_row on_col e = absurd (cc)

-- between a port on a side and a node, by whether the port is the low end
port_to_node : (cell : Cell) (p : Pin) (b : NodePlace) (low : Bool) → IsPortOf cell p → IsNodeOf cell b
    → line_of (axis_of p.side) b ≡ p.place → is_low_side p.side ≡ low
    → IsRun cell (run_along (axis_of p.side) low (terminals.Port p) (terminals.Node b))
port_to_node cell p b true ip ib line side =
    record {
      low = ip;
      high = ib;
      reaches_low = refl;
      reaches_high = tt;
      low_side = on_low cell p ip side;
      high_side = tt;
      straight = port_line cell (axis_of p.side) p ip ∙ sym line
          ∙ sym (node_line cell (axis_of p.side) b ib);
      ordered =
          order_from_port cell (axis_of p.side) p.number (ends.Node b.number);
    }
port_to_node cell p b false ip ib line side =
    record {
      low = ib;
      high = ip;
      reaches_low = tt;
      reaches_high = refl;
      low_side = tt;
      high_side = on_high cell p ip (ap not side);
      straight = node_line cell (axis_of p.side) b ib ∙ line
          ∙ sym (port_line cell (axis_of p.side) p ip);
      ordered =
          order_to_port cell (axis_of p.side) b.number p.number;
    }

-- whichever of its ends is the first
either_way : (cell : Cell) (run : Run) (forward : Bool) → IsRun cell run → IsRun cell (record run { forward = forward })
either_way cell run forward is =
    record {
      low = is.low;
      high = is.high;
      reaches_low = is.reaches_low;
      reaches_high = is.reaches_high;
      low_side = is.low_side;
      high_side = is.high_side;
      straight = is.straight;
      ordered = is.ordered;
    }

-- between a node and a port on a side
node_to_port : (cell : Cell) (p : Pin) (b : NodePlace) (low : Bool) → IsPortOf cell p → IsNodeOf cell b
    → line_of (axis_of p.side) b ≡ p.place → is_low_side p.side ≡ low
    → IsRun cell (run_along (axis_of p.side) (not low) (terminals.Node b) (terminals.Port p))
node_to_port cell p b true ip ib line side =
    either_way cell (run_along (axis_of p.side) true (terminals.Port p) (terminals.Node b)) false
    (port_to_node cell p b true ip ib line side)
node_to_port cell p b false ip ib line side =
    either_way cell (run_along (axis_of p.side) false (terminals.Port p) (terminals.Node b)) true
    (port_to_node cell p b false ip ib line side)

-- from a port on a low side to one that lies opposite
facing : (cell : Cell) (p q : Pin) (forward : Bool) → IsPortOf cell p → IsPortOf cell q
    → axis_of q.side ≡ axis_of p.side → p.place ≡ q.place → is_low_side p.side ≡ true → is_low_side q.side ≡ false
    → IsRun cell (record { along = axis_of p.side; low = terminals.Port p; high = terminals.Port q; forward = forward })
facing cell p q forward ip iq axis place side other =
    record {
      low = ip;
      high = iq;
      reaches_low = refl;
      reaches_high = axis;
      low_side = on_low cell p ip side;
      high_side = on_high cell q iq (ap not other);
      straight = port_line cell (axis_of p.side) p ip ∙ place ∙ sym (port_line cell (axis_of p.side) q iq);
      ordered = order_from_port cell (axis_of p.side) p.number (ends.Port q.number);
    }

-- between two ports that lie opposite each other
port_to_port : (cell : Cell) (p q : Pin) (low : Bool) → IsPortOf cell p → IsPortOf cell q
    → axis_of q.side ≡ axis_of p.side → p.place ≡ q.place → is_low_side p.side ≡ low → is_low_side q.side ≡ not low
    → IsRun cell (run_along (axis_of p.side) low (terminals.Port p) (terminals.Port q))
port_to_port cell p q true ip iq axis place side other = facing cell p q true ip iq axis place side other
port_to_port cell p q false ip iq axis place side other =
    subst (λ along.
    IsRun cell
    (record { along = along; low = terminals.Port q; high = terminals.Port p; forward = false })) axis (facing
    cell q p false iq ip (sym axis) (sym place) other side)

-- one axis
same_axis : (a b : Axis2) → IsTrue (is_same_axis a b) → b ≡ a
same_axis Across Across h = refl
same_axis Across Up h = absurd (cc)
same_axis Up Across h = absurd (cc)
same_axis Up Up h = refl

-- exactly one of two
opposite : (a b : Bool) → IsTrue (not a && b || a && not b) → b ≡ not a
opposite true true h = absurd (cc)
opposite true false h = refl
opposite false true h = refl
opposite false false h = absurd (cc)

-- what an answer by a test gives
if_some : {A : Type 0} (b : Bool) (x y : A) → (if b then Some x else None) ≡ Some y → IsTrue b × (x ≡ y)
if_some true x y e = (refl, some_same x y e)
if_some false x y e = absurd (cc)

-- a run from a port to a node is one
from_port : (cell : Cell) (p : Pin) (b : NodePlace) (run : Run) → IsPortOf cell p → IsNodeOf cell b
    → run_from_port p b ≡ Some run → IsRun cell run
from_port cell p b run ip ib e =
    let h : IsTrue (line_of (axis_of p.side) b == p.place)
    × (run_along (axis_of p.side) (is_low_side p.side) (terminals.Port p) (terminals.Node b) ≡ run) =
    if_some (line_of (axis_of p.side) b == p.place)
    (run_along (axis_of p.side) (is_low_side p.side) (terminals.Port p) (terminals.Node b)) run e in
    subst (IsRun cell) h.1
    (port_to_node cell p b (is_low_side p.side) ip ib (eq_from_test (line_of (axis_of p.side) b) p.place h.0)
    refl)

-- and one from a node to a port
to_port : (cell : Cell) (b : NodePlace) (p : Pin) (run : Run) → IsPortOf cell p → IsNodeOf cell b
    → run_to_port b p ≡ Some run → IsRun cell run
to_port cell b p run ip ib e =
    let h : IsTrue (line_of (axis_of p.side) b == p.place)
    × (run_along (axis_of p.side) (not (is_low_side p.side)) (terminals.Node b) (terminals.Port p) ≡ run) =
    if_some (line_of (axis_of p.side) b == p.place)
    (run_along (axis_of p.side) (not (is_low_side p.side)) (terminals.Node b) (terminals.Port p)) run e in
    subst (IsRun cell) h.1
    (node_to_port cell p b (is_low_side p.side) ip ib (eq_from_test (line_of (axis_of p.side) b) p.place h.0)
    refl)

-- a run between two terminals is one
pub is_run : (cell : Cell) (a b : Terminal) (run : Run) → IsTerminalOf cell a → IsTerminalOf cell b
    → run_between a b ≡ Some run → IsRun cell run
is_run cell (terminals.Node a) (terminals.Node b) run ia ib e =
    nodes_run cell a b ((a.row == b.row) && not (a.col == b.col)) ((a.col == b.col) && not (a.row == b.row)) run ia ib
    refl refl e
is_run cell (terminals.Node a) (terminals.Port q) run ia iq e = to_port cell a q run iq ia e
is_run cell (terminals.Port p) (terminals.Node b) run ip ib e = from_port cell p b run ip ib e
is_run cell (terminals.Port p) (terminals.Port q) run ip iq e =
    let sides : Bool = not (is_low_side p.side) && is_low_side q.side || is_low_side p.side
    && not (is_low_side q.side) in
    let h : IsTrue (is_same_axis (axis_of p.side) (axis_of q.side) && sides && (p.place == q.place))
    × (run_along (axis_of p.side) (is_low_side p.side) (terminals.Port p) (terminals.Port q) ≡ run) =
    if_some (is_same_axis (axis_of p.side) (axis_of q.side) && sides && (p.place == q.place))
    (run_along (axis_of p.side) (is_low_side p.side) (terminals.Port p) (terminals.Port q)) run e in
    let outer : IsTrue (is_same_axis (axis_of p.side) (axis_of q.side) && sides) × IsTrue (p.place == q.place) =
    both (is_same_axis (axis_of p.side) (axis_of q.side) && sides) (p.place == q.place) h.0 in
    let inner : IsTrue (is_same_axis (axis_of p.side) (axis_of q.side)) × IsTrue sides =
    both (is_same_axis (axis_of p.side) (axis_of q.side)) sides outer.0 in
    subst (IsRun cell) h.1
    (port_to_port cell p q (is_low_side p.side) ip iq (same_axis (axis_of p.side) (axis_of q.side) inner.0)
    (eq_from_test p.place q.place outer.1) refl
    (opposite (is_low_side p.side) (is_low_side q.side) inner.1))

-- it runs along some axis from the first terminal or to it
abbrev IsAlong : Terminal → Terminal → Run → Type 0
IsAlong s t run = (along : Axis2) × (is_low : Bool) × (run_along along is_low s t ≡ run)

along_either : (row col left below : Bool) (s t : Terminal) (run : Run)
    → (if row then Some (run_along Across left s t) else (if col then Some (run_along Up below s t) else None))
    ≡ Some run → IsAlong s t run
along_either true col left below s t run e = (Across, left, some_same (run_along Across left s t) run e)
along_either false col left below s t run e = (Up, below, (if_some col (run_along Up below s t) run e).1)

is_along : (s t : Terminal) (run : Run) → run_between s t ≡ Some run → IsAlong s t run
is_along (terminals.Node a) (terminals.Node b) run e =
    along_either ((a.row == b.row) && not (a.col == b.col)) ((a.col == b.col) && not (a.row == b.row))
    (nat_lt a.col b.col) (nat_lt a.row b.row) (terminals.Node a) (terminals.Node b) run e
is_along (terminals.Node a) (terminals.Port q) run e = (
  axis_of q.side,
  not (is_low_side q.side),
  (if_some (line_of (axis_of q.side) a == q.place)
      (run_along (axis_of q.side) (not (is_low_side q.side)) (terminals.Node a) (terminals.Port q)) run e).1,
)
is_along (terminals.Port p) (terminals.Node b) run e = (
  axis_of p.side,
  is_low_side p.side,
  (if_some (line_of (axis_of p.side) b == p.place)
      (run_along (axis_of p.side) (is_low_side p.side) (terminals.Port p) (terminals.Node b)) run e).1,
)
is_along (terminals.Port p) (terminals.Port q) run e =
    let sides : Bool = not (is_low_side p.side) && is_low_side q.side || is_low_side p.side
    && not (is_low_side q.side) in (
      axis_of p.side,
      is_low_side p.side,
      (if_some (is_same_axis (axis_of p.side) (axis_of q.side) && sides && (p.place == q.place))
          (run_along (axis_of p.side) (is_low_side p.side) (terminals.Port p) (terminals.Port q)) run e).1,
    )

-- the ends of a run are those of two paths, of which the first is the low one where the run goes forward
pub record IsRunBetween (known : CheckedCell) (a b : List ℕ) (run : Run) : Type 0 where
  pub low : IsAt known.nodes known.plugs (if run.forward then a else b) run.low
  pub high : IsAt known.nodes known.plugs (if run.forward then b else a) run.high

along_paths : (known : CheckedCell) (a b : List ℕ) (along : Axis2) (is_low : Bool) (s t : Terminal)
    → IsAt known.nodes known.plugs a s → IsAt known.nodes known.plugs b t
    → IsRunBetween known a b (run_along along is_low s t)
along_paths known a b along true s t at_a at_b = record { low = at_a; high = at_b }
along_paths known a b along false s t at_a at_b = record { low = at_b; high = at_a }

-- ---- wires

-- a terminal takes the wire that was accepted
takes : (cell : Cell) (layer : Layer) (along : Axis2) (t : Terminal) → IsTerminalOf cell t → IsReached along t
    → IsTrue (takes_layer layer t) → IsTrue (takes_along layer along t)
    → Takes cell layer along (end_of t)
takes cell layer along (terminals.Node node_place) is reached layers sides = (
  subst (λ (kind : NodeKind). IsTrue (node_takes kind layer)) (sym is.kind) layers,
  subst
      (λ (kind : NodeKind). IsTrue (node_takes_along kind layer along)) (sym is.kind) sides,
)
takes cell layer along (terminals.Port pin) is reached layers sides =
    (subst (λ (own : Layer). IsTrue (is_same_layer own layer)) (sym is.layer) layers, ap axis_of is.side ∙ reached)

-- a terminal is an end
end_within : (cell : Cell) (t : Terminal) → IsTerminalOf cell t → IsEnd cell (end_of t)
end_within cell (terminals.Node node_place) is = is.within
end_within cell (terminals.Port pin) is = is.within

-- a wire of an accepted width is within a terminal's pad
within_pad : (tech : Tech) (cell : Cell) (wire : Wire) (t : Terminal) → IsTerminalOf cell t
    → IsTrue (is_within_pad tech wire.layer wire.width t) → IsWithinPad tech cell wire (end_of t)
within_pad tech cell wire (terminals.Node node_place) is test =
    subst (λ (kind : NodeKind). wire.width ≤ℤ node_pad tech wire.layer kind) (sym is.kind)
    (le_from_test wire.width (node_pad tech wire.layer node_place.kind) test)
within_pad tech cell wire (terminals.Port pin) is test = tt

-- a wire that fills a buried contact's pad
fills_kind : (tech : Tech) (width : ℤ) (kind : NodeKind)
    → IsTrue (not (is_buried kind) || int_le (buried_pad tech) width) → FillsKind tech width kind
fills_kind tech width (kinds.Joint layer own) test = tt
fills_kind tech width (kinds.Contact lower) test = tt
fills_kind tech width kinds.Buried test = le_from_test (buried_pad tech) width test
fills_kind tech width (kinds.Fet depletion gate w l) test = tt

fills : (tech : Tech) (cell : Cell) (wire : Wire) (t : Terminal) → IsTerminalOf cell t
    → IsTrue (fills_pad tech wire.width t) → FillsPad tech cell wire (end_of t)
fills tech cell wire (terminals.Node node_place) is test =
    subst (FillsKind tech wire.width) (sym is.kind) (fills_kind tech wire.width node_place.kind test)
fills tech cell wire (terminals.Port pin) is test = tt

-- the wire along a run, if its width and pads meet the checks
abbrev sized_wire : Tech → Layer → Option ℕ → Run → Result Wire StickKind
sized_wire tech layer width run = do
  size ← sized tech layer width
  filled ← demand (at_both (fills_pad tech size) run) NarrowWire
  pads ← demand (at_both (is_within_pad tech layer size) run) WideWire
  Ok (wire_along layer run size)

-- what the checks say of a wire along a run
pub record IsChecked (tech : Tech) (wired : List Bool) (are_free : Bool) (layer : Layer) (run : Run)
    (wire : Wire) : Type 0 where
  pub layers : IsTrue (takes_layer layer run.low) × IsTrue (takes_layer layer run.high)
  pub sides : IsTrue (takes_along layer run.along run.low) × IsTrue (takes_along layer run.along run.high)
  pub left : IsTrue are_free
  pub free : IsTrue (is_free wired run.low) × IsTrue (is_free wired run.high)
  pub size : IsSize wire.width × (width_of tech layer ≤ℤ wire.width)
  pub filled : IsTrue (fills_pad tech wire.width run.low) × IsTrue (fills_pad tech wire.width run.high)
  pub pads : IsTrue (is_within_pad tech layer wire.width run.low)
      × IsTrue (is_within_pad tech layer wire.width run.high)
  pub same : wire_along layer run wire.width ≡ wire

-- a wire that was accepted meets the checks
pub checks_met : (tech : Tech) (wired : List Bool) (are_free : Bool) (layer : Layer) (width : Option ℕ) (run : Run)
    (wire : Wire) → wire_where are_free tech wired layer width run ≡ Ok wire
    → IsChecked tech wired are_free layer run wire
checks_met tech wired are_free layer width run wire e =
    let along : Bool = at_both (takes_along layer run.along) run in
    let met : IsTrue (at_both (takes_layer layer) run) × IsTrue (along && are_free)
    × ((demand (at_both (is_free wired) run) PortWires >>= λ u. sized_wire tech layer width run) ≡ Ok wire) =
    two_demanded (at_both (takes_layer layer) run) (along && are_free) WrongLayer WrongSide
    (demand (at_both (is_free wired) run) PortWires >>= λ u. sized_wire tech layer width run) wire e in
    let sides : IsTrue along × IsTrue are_free = both along are_free met.1 in
    let free : IsTrue (at_both (is_free wired) run) × (sized_wire tech layer width run ≡ Ok wire) =
    demanded (at_both (is_free wired) run) PortWires (sized_wire tech layer width run) wire met.2 in
    let padded : ℤ → Result Wire StickKind = λ z. demand (at_both (is_within_pad tech layer z) run) WideWire >>= λ u.
    Ok (wire_along layer run z) in
    let size : (z : ℤ) × (sized tech layer width ≡ Ok z)
    × ((demand (at_both (fills_pad tech z) run) NarrowWire >>= λ u. padded z) ≡ Ok wire) =
    bound (sized tech layer width) (λ z. demand (at_both (fills_pad tech z) run) NarrowWire >>= λ u. padded z) wire
    free.1 in
    let pads : IsTrue (at_both (fills_pad tech size.0) run) × IsTrue (at_both (is_within_pad tech layer size.0) run)
    × (◌≡◌ {A = Result Wire StickKind} (Ok (wire_along layer run size.0)) (Ok wire)) =
    two_demanded (at_both (fills_pad tech size.0) run) (at_both (is_within_pad tech layer size.0) run) NarrowWire
    WideWire (Ok (wire_along layer run size.0)) wire size.2 in
    subst (IsChecked tech wired are_free layer run) (ok_same (wire_along layer run size.0) wire pads.2) (record {
      layers = both (takes_layer layer run.low) (takes_layer layer run.high) met.0;
      sides = both (takes_along layer run.along run.low) (takes_along layer run.along run.high) sides.0;
      left = sides.1;
      free = both (is_free wired run.low) (is_free wired run.high) free.0;
      size = size_of_sized tech layer width size.0 size.1;
      filled = both (fills_pad tech size.0 run.low) (fills_pad tech size.0 run.high) pads.0;
      pads = both (is_within_pad tech layer size.0 run.low) (is_within_pad tech layer size.0 run.high) pads.1;
      same = refl;
    })

-- a wire that meets the checks is one
wire_of_checked : (tech : Tech) (cell : Cell) (wired : List Bool) (are_free : Bool) (layer : Layer) (run : Run)
    (wire : Wire) → IsRun cell run → IsChecked tech wired are_free layer run wire
    → IsWire tech cell wire
wire_of_checked tech cell wired are_free layer run wire is met =
    let along : Wire = wire_along layer run wire.width in
    subst (IsWire tech cell) met.same (record {
      low = end_within cell run.low is.low;
      high = end_within cell run.high is.high;
      takes_low = takes cell layer run.along run.low is.low is.reaches_low met.layers.0 met.sides.0;
      takes_high = takes cell layer run.along run.high is.high is.reaches_high met.layers.1 met.sides.1;
      low_side = is.low_side;
      high_side = is.high_side;
      straight = is.straight;
      ordered = is.ordered;
      size = met.size.0;
      wide = met.size.1;
      low_pad = within_pad tech cell along run.low is.low met.pads.0;
      high_pad = within_pad tech cell along run.high is.high met.pads.1;
      low_filled = fills tech cell along run.low is.low met.filled.0;
      high_filled = fills tech cell along run.high is.high met.filled.1;
    })

-- the run between two things
pub run_ends : (from to : Found) (run : Run) → run_of from to ≡ Ok run
    → (s : Terminal) × (t : Terminal) × (from ≡ At s) × (to ≡ At t) × (run_between s t ≡ Some run)
run_ends from to run e =
    let ends_at : (s : Terminal) × (t : Terminal) × (terminal from ≡ Ok s) × (terminal to ≡ Ok t)
    × (straight (run_between s t) ≡ Ok run) =
    two_bound (terminal from) (terminal to) (λ s t. straight (run_between s t)) run e in (
      ends_at.0,
      ends_at.1,
      terminal_ok from ends_at.0 ends_at.2,
      terminal_ok to ends_at.1 ends_at.3,
      straight_ok
          (run_between ends_at.0 ends_at.1) run ends_at.4,
    )

-- the run of a wire that was accepted
pub accepted_run : (tech : Tech) (wired : List Bool) (wires : List Wire) (layer : Layer) (from to : Found)
    (width : Option ℕ) (wire : Wire) → wire_between tech wired wires layer from to width ≡ Ok wire
    → (run : Run) × (run_of from to ≡ Ok run) × IsChecked tech wired (are_sides_free wires layer run) layer run wire
unfolding wire_between
accepted_run tech wired wires layer from to width wire e =
    let along : (run : Run) × (run_of from to ≡ Ok run)
    × (wire_where (are_sides_free wires layer run) tech wired layer width run ≡ Ok wire) =
    bound (run_of from to) (λ run. wire_where (are_sides_free wires layer run) tech wired layer width run) wire e in
    (along.0, along.1, checks_met tech wired (are_sides_free wires layer along.0) layer width along.0 wire along.2)

-- the run between the ends of two paths
pub run_of_paths : (known : CheckedCell) (a b : List ℕ) (from to : Found) (run : Run)
    → ((t : Terminal) → from ≡ At t → IsAt known.nodes known.plugs a t)
    → ((t : Terminal) → to ≡ At t → IsAt known.nodes known.plugs b t) → run_of from to ≡ Ok run
    → IsRun (cell_of known) run
run_of_paths known a b from to run at_from at_to e =
    let (s, t, from_at, to_at, between) = run_ends from to run e in
    is_run (cell_of known) s t run (terminal_of known a s (at_from s from_at)) (terminal_of known b t (at_to t to_at))
    between

-- and of which ends it has which path
pub run_between_paths : (known : CheckedCell) (a b : List ℕ) (from to : Found) (run : Run)
    → ((t : Terminal) → from ≡ At t → IsAt known.nodes known.plugs a t)
    → ((t : Terminal) → to ≡ At t → IsAt known.nodes known.plugs b t) → run_of from to ≡ Ok run
    → IsRunBetween known a b run
run_between_paths known a b from to run at_from at_to e =
    let (s, t, from_at, to_at, between) = run_ends from to run e in
    let (along, is_low, same) = is_along s t run between in
    subst (IsRunBetween known a b) same (along_paths known a b along is_low s t (at_from s from_at) (at_to t to_at))

-- a wire that was accepted between the ends of two paths
pub is_wire : (tech : Tech) (known : CheckedCell) (wired : List Bool) (wires : List Wire) (layer : Layer)
    (a b : List ℕ) (from to : Found) (width : Option ℕ) (wire : Wire)
    → ((t : Terminal) → from ≡ At t → IsAt known.nodes known.plugs a t)
    → ((t : Terminal) → to ≡ At t → IsAt known.nodes known.plugs b t)
    → wire_between tech wired wires layer from to width ≡ Ok wire
    → IsWire tech (cell_of known) wire
is_wire tech known wired wires layer a b from to width wire at_from at_to e =
    let (run, runs, met) = accepted_run tech wired wires layer from to width wire e in
    wire_of_checked tech (cell_of known) wired (are_sides_free wires layer run) layer run wire
    (run_of_paths known a b from to run at_from at_to runs) met

-- ---- free ports

-- no wire ends yet at the ports at which this one does
abbrev pub EndsFree : List Plug → Wire → Type 0
EndsFree plugs wire = (k : ℕ) → EndsAt (ends.Port k) wire → (plug_at plugs k).wired ≡ false

-- a terminal that is free
free_end : (plugs : List Plug) (t : Terminal) (k : ℕ) → IsTrue (is_free (map (λ plug. plug.wired) plugs) t)
    → end_of t ≡ ends.Port k → (plug_at plugs k).wired ≡ false
free_end plugs (terminals.Node node_place) k free e = absurd (cc)
free_end plugs (terminals.Port pin) k free e =
    let same : pin.number ≡ k = cc in
    subst (λ (n : ℕ). (plug_at plugs n).wired ≡ false) same
    (not-true (plug_at plugs pin.number).wired
    (subst (λ (wired : Bool). IsTrue (not wired))
    (get_or-map (λ (plug : Plug). plug.wired) plugs pin.number no_plug) free))

-- the ends of a wire that was accepted are free
pub ends_free : (tech : Tech) (plugs : List Plug) (wires : List Wire) (layer : Layer) (from to : Found)
    (width : Option ℕ) (wire : Wire)
    → wire_between tech (map (λ plug. plug.wired) plugs) wires layer from to width ≡ Ok wire → EndsFree plugs wire
ends_free tech plugs wires layer from to width wire e k at_end =
    let (run, runs, met) = accepted_run tech (map (λ plug. plug.wired) plugs) wires layer from to width wire e in
    by_end run met (subst (EndsAt (ends.Port k)) (sym met.same) at_end)
  where
    by_end : (run : Run) → IsChecked tech (map (λ plug. plug.wired) plugs) (are_sides_free wires layer run) layer run
        wire → EndsAt (ends.Port k) (wire_along layer run wire.width) → (plug_at plugs k).wired ≡ false
    by_end run met (inl low) = free_end plugs run.low k met.free.0 low
    by_end run met (inr high) = free_end plugs run.high k met.free.1 high
