-- Each line of a design against the lines before it: what is known after it, or the kind of its fault. The kinds of a
-- line are tested in the order in which they stand here.
use Rattle.std.specs.Prelude.{ℕ, ◌+◌, ◌==◌, ◌&&◌, not, Bool, nat_lt, ℤ, pos, List, [], ◌∷◌, ◌++◌, length, map, Option}
use Rattle.std.specs.{Prelude.{Some, None, is_none, position, bytes_eq, Result, Ok, Err, if◌then◌else◌}, List.list_all}
use Rattle.rule_table.specs.{declared.technology.Tech.Tech, Technology.has_buried_of}
use Rattle.stick_text.specs.declared.fault.StickKind.{StickKind, TheVariants.{RepeatedName, UnknownName, UseCycle}}
use Rattle.stick_text.specs.declared.fault.StickKind.TheVariants.{UseDepth, UsedPorts, FarPlace, BadSize, PortWires}
use Rattle.stick_text.specs.declared.fault.{StickKind.TheVariants.{BadLimit, NoBuried}, StickFault.StickFault}
use Rattle.stick_text.specs.declared.design.{Layer.Layer as DrawnLayer, Form.{Form, TheVariants.{Joint, Contact}}}
use Rattle.stick_text.specs.declared.design.{Form.TheVariants.{Buried, Fet, Port, Inst, Wire, Limit}, Line.Line}
use Rattle.stick_text.specs.{declared.design.CellText.CellText, Reading.{◌>>=◌, demand}, Order.at_line}
use Rattle.lam_geom.specs.declared.boxes.Side.{Side}
use Rattle.cell_model.specs.declared.cell.Axis2.{Axis2, TheVariants.{Across, Up}}
use Rattle.cell_model.specs.declared.cell.NodeKind.TheVariants as kinds
use Rattle.checked_cells.specs.CheckedCell.{CheckedCell, begun, known_at, with_node, with_port, with_wire, with_limit}
use Rattle.checked_cells.specs.{CheckedCell.{with_copy, greatest_col, greatest_row}, Paths.found_at, Checks.layer_of}
use Rattle.checked_cells.specs.{Checks.{is_fresh, is_place, sized, is_channel}, Wires.{known_name, wire_between}}
use Rattle.checked_cells.specs.Wires.{limited}

abbrev pub axis_where : Bool → Axis2
axis_where vertical = if vertical then Up else Across

-- the number of the cell with this name
abbrev pub number_of : List CheckedCell → List ℕ → Option ℕ
number_of cells name = position (λ cell. bytes_eq name cell.name) cells

abbrev pub known_number : Option ℕ → Result ℕ StickKind
known_number None = Err UnknownName
known_number (Some k) = Ok k

abbrev pub is_empty : {A : Type 0} → List A → Bool
is_empty xs = length xs == 0

-- of each port, whether a wire ends at it
abbrev pub wired_of : CheckedCell → List Bool
wired_of known = map (λ plug. plug.wired) known.plugs

-- ---- the lines of a cell

unfoldable pub after_joint : Tech → CheckedCell → List ℕ → DrawnLayer → ℕ → ℕ → Option ℕ → Result CheckedCell StickKind
after_joint tech known name layer col row width = do
  fresh ← demand (is_fresh known.names name) RepeatedName
  near ← demand (is_place col && is_place row) FarPlace
  size ← sized tech (layer_of layer) width
  Ok (with_node known name (kinds.Joint (layer_of layer) size) col row)

unfoldable pub after_contact : CheckedCell → List ℕ → DrawnLayer → ℕ → ℕ → Result CheckedCell StickKind
after_contact known name lower col row = do
  fresh ← demand (is_fresh known.names name) RepeatedName
  near ← demand (is_place col && is_place row) FarPlace
  Ok (with_node known name (kinds.Contact (layer_of lower)) col row)

unfoldable pub after_buried : Tech → CheckedCell → List ℕ → ℕ → ℕ → Result CheckedCell StickKind
after_buried tech known name col row = do
  fresh ← demand (is_fresh known.names name) RepeatedName
  near ← demand (is_place col && is_place row) FarPlace
  there ← demand (has_buried_of tech) NoBuried
  Ok (with_node known name kinds.Buried col row)

unfoldable pub after_fet : Tech → CheckedCell → List ℕ → Bool → Bool → ℕ → ℕ → ℕ → ℕ → Result CheckedCell StickKind
after_fet tech known name depletion vertical col row w l = do
  fresh ← demand (is_fresh known.names name) RepeatedName
  near ← demand (is_place col && is_place row) FarPlace
  channel ← demand (is_channel tech w l) BadSize
  Ok (with_node known name (kinds.Fet depletion (axis_where vertical) (pos w) (pos l)) col row)

unfoldable pub after_port : CheckedCell → List ℕ → Side → DrawnLayer → ℕ → Result CheckedCell StickKind
after_port known name side layer place = do
  fresh ← demand (is_fresh known.names name) RepeatedName
  near ← demand (is_place place) FarPlace
  Ok (with_port known name side (layer_of layer) place)

-- the use of cell number k, which is known
unfoldable pub with_use : CheckedCell → List ℕ → ℕ → CheckedCell → ℕ → ℕ → Result CheckedCell StickKind
with_use known name k used col row = do
  closed ← demand (is_empty used.plugs) UsedPorts
  shallow ← demand (nat_lt used.depth 16) UseDepth
  near ← demand (is_place (col + greatest_col used.nodes) && is_place (row + greatest_row used.nodes)) FarPlace
  Ok (with_copy known name k used col row)

unfoldable pub after_use : List CheckedCell → CheckedCell → List ℕ → List ℕ → ℕ → ℕ → Result CheckedCell StickKind
after_use cells known name cell col row = do
  fresh ← demand (is_fresh known.names name) RepeatedName
  other ← demand (not (bytes_eq cell known.name)) UseCycle
  k ← known_number (number_of cells cell)
  with_use known name k (known_at cells k) col row

unfoldable pub after_wire : Tech → List CheckedCell → CheckedCell → DrawnLayer → List ℕ → List ℕ → Option ℕ
    → Result CheckedCell StickKind
after_wire tech cells known layer a b width = do
  from ← known_name (found_at cells known a)
  to ← known_name (found_at cells known b)
  wire ← wire_between tech (wired_of known) known.wires (layer_of layer) from to width
  Ok (with_wire known wire)

unfoldable pub after_limit : List CheckedCell → CheckedCell → Bool → List ℕ → List ℕ → Bool → ℤ
    → Result CheckedCell StickKind
after_limit cells known vertical a b at_most n = do
  from ← known_name (found_at cells known a)
  to ← known_name (found_at cells known b)
  first ← limited from
  second ← limited to
  apart ← demand (not (first.number == second.number)) BadLimit
  Ok (with_limit known
      (record { axis = axis_where vertical; a = first.number; b = second.number; at_most = at_most; n = n }))

abbrev pub after_form : Tech → List CheckedCell → CheckedCell → Form → Result CheckedCell StickKind
after_form tech cells known (Joint name layer col row width) = after_joint tech known name layer col row width
after_form tech cells known (Contact name lower col row) = after_contact known name lower col row
after_form tech cells known (Buried name col row) = after_buried tech known name col row
after_form tech cells known (Fet name depletion vertical col row w l) =
    after_fet tech known name depletion vertical col row w l
after_form tech cells known (Port name side layer place) = after_port known name side layer place
after_form tech cells known (Inst name cell col row) = after_use cells known name cell col row
after_form tech cells known (Wire layer a b width) = after_wire tech cells known layer a b width
after_form tech cells known (Limit vertical a b at_most n) = after_limit cells known vertical a b at_most n

-- after some lines of a cell
abbrev pub after_lines : Tech → List CheckedCell → CheckedCell → List Line → Result CheckedCell StickFault
after_lines tech cells known [] = Ok known
after_lines tech cells known (line ∷ lines) = do
  next ← at_line line.number (after_form tech cells known line.form)
  after_lines tech cells next lines

-- ---- cells

-- a wire ends at each port
abbrev pub is_wired : CheckedCell → Bool
is_wired known = list_all (λ wired. wired) (wired_of known)

abbrev pub is_new_cell : List CheckedCell → List ℕ → Bool
is_new_cell cells name = is_none (number_of cells name)

unfoldable pub after_cell : Tech → List CheckedCell → CellText → Result CheckedCell StickFault
after_cell tech cells text = do
  fresh ← at_line text.line (demand (is_new_cell cells text.name) RepeatedName)
  known ← after_lines tech cells (begun text.name) text.lines
  wired ← at_line text.end_line (demand (is_wired known) PortWires)
  Ok known

-- the cells of a design, after some of them, or the first fault of a name or a size
abbrev pub cells_after : Tech → List CheckedCell → List CellText → Result (List CheckedCell) StickFault
cells_after tech cells [] = Ok cells
cells_after tech cells (text ∷ texts) = do
  known ← after_cell tech cells text
  cells_after tech (cells ++ known ∷ []) texts

unfoldable pub known_cells : Tech → List CellText → Result (List CheckedCell) StickFault
known_cells tech texts = cells_after tech [] texts
