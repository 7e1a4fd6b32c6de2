-- Where wires run, and which terminals take them.
use Rattle.std.specs.{List.list_all, Prelude.{ℕ, ◌==◌, ◌&&◌, ◌||◌, not, Bool, true, false, nat_lt, ℤ, int_le, List}}
use Rattle.std.specs.Prelude.{slice_index_or, Option, Some, None, Result, Ok, Err, if◌then◌else◌}
use Rattle.rule_table.specs.declared.{technology.Tech.Tech, classes.Layer.Layer}
use Rattle.stick_text.specs.declared.fault.StickKind.{StickKind, TheVariants.{UnknownName, WrongTerminal, NotStraight}}
use Rattle.stick_text.specs.declared.fault.StickKind.TheVariants.{WrongLayer, WrongSide, PortWires, NarrowWire}
use Rattle.stick_text.specs.{declared.fault.StickKind.TheVariants.{WideWire, BadLimit}, Reading.{◌>>=◌, demand}}
use Rattle.cell_model.specs.declared.cell.{Axis2.{Axis2, TheVariants.{Across, Up}}, NodeKind.NodeKind, WireEnd.WireEnd}
use Rattle.cell_model.specs.{declared.cell.Wire.Wire, Wiring.{axis_of, is_low_side, is_same_axis, is_same_layer}}
use Rattle.cell_model.specs.Wiring.{node_takes, node_takes_along, buried_pad, node_pad}
use Rattle.cell_model.specs.declared.cell.NodeKind.TheVariants as kinds
use Rattle.cell_model.specs.declared.cell.WireEnd.TheVariants as ends
use Rattle.checked_cells.specs.declared.names.{Pin.Pin, NodePlace.NodePlace, Terminal.{Terminal, TheVariants.Node}}
use Rattle.checked_cells.specs.declared.names.{Terminal.TheVariants.Port, Found.{Found, TheVariants.{At, AtCopy}}}
use Rattle.checked_cells.specs.{declared.names.{Found.TheVariants.Through, Run.Run}, Checks.sized}

abbrev pub known_name : Option Found → Result Found StickKind
known_name None = Err UnknownName
known_name (Some found) = Ok found

abbrev pub terminal : Found → Result Terminal StickKind
terminal (At end) = Ok end
terminal AtCopy = Err WrongTerminal
terminal Through = Err WrongTerminal

-- ---- straight runs

-- the row of a node for a wire that runs across, its column for one that runs up
abbrev pub line_of : Axis2 → NodePlace → ℕ
line_of Across node_place = node_place.row
line_of Up node_place = node_place.col

-- the run along an axis between two terminals of which the first is the low one, or the high one
abbrev pub run_along : Axis2 → Bool → Terminal → Terminal → Run
run_along along is_low a b =
    if is_low then record { along = along; low = a; high = b; forward = true }
    else record { along = along; low = b; high = a; forward = false }

-- A left or right port lies in the row of a node, a bottom or top port in its column.
abbrev pub run_from_port : Pin → NodePlace → Option Run
run_from_port p b = if line_of (axis_of p.side) b == p.place
    then Some (run_along (axis_of p.side) (is_low_side p.side) (Port p) (Node b)) else None

abbrev pub run_to_port : NodePlace → Pin → Option Run
run_to_port a q = if line_of (axis_of q.side) a == q.place
    then Some (run_along (axis_of q.side) (not (is_low_side q.side)) (Node a) (Port q)) else None

-- Two nodes share exactly one of column and row. Two ports lie opposite each other.
abbrev pub run_between : Terminal → Terminal → Option Run
run_between (Node a) (Node b) =
    if (a.row == b.row) && not (a.col == b.col) then Some (run_along Across (nat_lt a.col b.col) (Node a) (Node b))
    else (if (a.col == b.col) && not (a.row == b.row) then Some (run_along Up (nat_lt a.row b.row) (Node a) (Node b))
    else None)
run_between (Node a) (Port q) = run_to_port a q
run_between (Port p) (Node b) = run_from_port p b
run_between (Port p) (Port q) =
    if is_same_axis (axis_of p.side) (axis_of q.side)
    && (not (is_low_side p.side) && is_low_side q.side || is_low_side p.side && not (is_low_side q.side))
    && (p.place == q.place)
    then Some (run_along (axis_of p.side) (is_low_side p.side) (Port p) (Port q)) else None

abbrev pub straight : Option Run → Result Run StickKind
straight None = Err NotStraight
straight (Some run) = Ok run

-- the run between the things that two paths have come to
abbrev pub run_of : Found → Found → Result Run StickKind
run_of a b = do
  from ← terminal a
  to ← terminal b
  straight (run_between from to)

-- ---- which terminals take which wires

abbrev pub takes_layer : Layer → Terminal → Bool
takes_layer layer (Node node_place) = node_takes node_place.kind layer
takes_layer layer (Port pin) = is_same_layer pin.layer layer

abbrev pub takes_along : Layer → Axis2 → Terminal → Bool
takes_along layer along (Node node_place) = node_takes_along node_place.kind layer along
takes_along layer along (Port pin) = true

abbrev pub is_buried : NodeKind → Bool
is_buried (kinds.Joint layer width) = false
is_buried (kinds.Contact lower) = false
is_buried kinds.Buried = true
is_buried (kinds.Fet depletion gate w l) = false

abbrev pub is_node : ℕ → WireEnd → Bool
is_node k (ends.Node j) = j == k
is_node k (ends.Port j) = false

-- a wire leaves node k along an axis: on its high side, where it is the wire's low end, or on its low side
abbrev pub leaves : ℕ → Axis2 → Bool → Wire → Bool
leaves k along is_low wire = is_same_axis wire.along along && is_node k (if is_low then wire.low else wire.high)

-- no wire of another layer leaves the buried contact where a wire would that has it as its low end, or as its high end
abbrev pub is_side_free : List Wire → Layer → Axis2 → Bool → Terminal → Bool
is_side_free wires layer along is_low (Node node_place) =
    not (is_buried node_place.kind)
    || list_all (λ wire. not (leaves node_place.number along is_low wire) || is_same_layer wire.layer layer) wires
is_side_free wires layer along is_low (Port pin) = true

abbrev pub are_sides_free : List Wire → Layer → Run → Bool
are_sides_free wires layer run = is_side_free wires layer run.along true run.low
    && is_side_free wires layer run.along false run.high

-- no wire ends at the port yet; wired tells of each port whether one does
abbrev pub is_free : List Bool → Terminal → Bool
is_free wired (Node node_place) = true
is_free wired (Port pin) = not (slice_index_or wired pin.number false)

abbrev pub is_within_pad : Tech → Layer → ℤ → Terminal → Bool
is_within_pad tech layer width (Node node_place) = int_le width (node_pad tech layer node_place.kind)
is_within_pad tech layer width (Port pin) = true

-- a wire at a buried contact is no narrower than its pad
abbrev pub fills_pad : Tech → ℤ → Terminal → Bool
fills_pad tech width (Node node_place) = not (is_buried node_place.kind) || int_le (buried_pad tech) width
fills_pad tech width (Port pin) = true

abbrev pub end_of : Terminal → WireEnd
end_of (Node node_place) = ends.Node node_place.number
end_of (Port pin) = ends.Port pin.number

abbrev pub at_both : (Terminal → Bool) → Run → Bool
at_both test run = test run.low && test run.high

-- the wire of a layer and a width along a run
abbrev pub wire_along : Layer → Run → ℤ → Wire
wire_along layer run size =
    record { layer = layer; width = size; low = end_of run.low; high = end_of run.high; along = run.along }

-- and whether the ends of the run take it, where the sides on which it leaves them are free or not
abbrev pub wire_where : Bool → Tech → List Bool → Layer → Option ℕ → Run → Result Wire StickKind
wire_where are_free tech wired layer width run = do
  layers ← demand (at_both (takes_layer layer) run) WrongLayer
  sides ← demand (at_both (takes_along layer run.along) run && are_free) WrongSide
  free ← demand (at_both (is_free wired) run) PortWires
  size ← sized tech layer width
  filled ← demand (at_both (fills_pad tech size) run) NarrowWire
  pads ← demand (at_both (is_within_pad tech layer size) run) WideWire
  Ok (wire_along layer run size)

-- the wire of a layer between the things that two paths have come to, beside the wires that the cell has
unfoldable pub wire_between : Tech → List Bool → List Wire → Layer → Found → Found → Option ℕ → Result Wire StickKind
wire_between tech wired wires layer a b width = do
  run ← run_of a b
  wire_where (are_sides_free wires layer run) tech wired layer width run

-- ---- limits

-- a limit's end is a node
abbrev pub limited : Found → Result NodePlace StickKind
limited (At (Node node_place)) = Ok node_place
limited (At (Port pin)) = Err BadLimit
limited AtCopy = Err BadLimit
limited Through = Err BadLimit
