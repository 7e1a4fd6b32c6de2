-- Why a line or a cell is refused, in the words of the rules: what is broken where a line is refused with a kind.
use Rattle.std.specs.Prelude.{◌≡◌, ◌≢◌, ℕ, ◌+◌, ◌<◌, ◌≤◌, ◌%◌, ℤ, pos, ◌<ℤ◌, Bool, not, IsTrue, bytes_eq, ◌⊎◌, true}
use Rattle.std.specs.Prelude.{false, List, [], ◌∷◌, ◌++◌, length, Option, Some, None, Ok}
use Rattle.rule_table.specs.declared.{technology.Tech.Tech, classes.Layer.{Layer, TheVariants.{Diffusion, Poly}}}
use Rattle.rule_table.specs.Technology.{width_of, has_buried_of}
use Rattle.lam_geom.specs.declared.boxes.Side.{Side, TheVariants.{Left, Right, Bottom, Top}}
use Rattle.stick_text.specs.declared.fault.StickKind.{StickKind, TheVariants.{WrongTerminal, NotStraight, WrongLayer}}
use Rattle.stick_text.specs.declared.fault.StickKind.TheVariants.{WrongSide, PortWires, BadSize, NarrowWire, WideWire}
use Rattle.stick_text.specs.declared.fault.StickKind.TheVariants.{RepeatedName, UnknownName, UseCycle, UseDepth}
use Rattle.stick_text.specs.declared.fault.StickKind.TheVariants.{UsedPorts, FarPlace, BadLimit, NoBuried}
use Rattle.stick_text.specs.declared.{fault.StickFault.StickFault, design.{Form.Form, Line.Line, CellText.CellText}}
use Rattle.stick_text.specs.declared.design.Form.TheVariants as forms
use Rattle.cell_model.specs.{declared.cell.{Axis2.Axis2, NodeKind.TheVariants.Buried, Wire.Wire}, Sound.wire_at}
use Rattle.cell_model.specs.Wiring.{axis_of}
use Rattle.checked_cells.specs.declared.names.{Terminal.{Terminal, TheVariants.{Node, Port}}, Found.Found}
use Rattle.checked_cells.specs.{declared.names.{Found.TheVariants.At, Run.Run}, CheckedCell.{CheckedCell, begun}}
use Rattle.checked_cells.specs.{CheckedCell.{known_at, greatest_col, greatest_row}, Paths.found_at, Checks.is_fresh}
use Rattle.checked_cells.specs.{Checks.{layer_of, sized}, Lines.{number_of, wired_of, is_wired, is_new_cell}}
use Rattle.checked_cells.specs.{Lines.after_lines, Wires.{line_of, run_between, takes_layer, takes_along, leaves}}
use Rattle.checked_cells.specs.Wires.{is_free, fills_pad, is_within_pad}

-- ---- names, places and sizes

abbrev pub IsTaken : CheckedCell → List ℕ → StickKind → Type 0
IsTaken known name kind = (kind ≡ RepeatedName) × IsTrue (not (is_fresh known.names name))

abbrev pub IsFar : ℕ → ℕ → StickKind → Type 0
IsFar col row kind = (kind ≡ FarPlace) × ((4095 < col) ⊎ (4095 < row))

-- a size is odd or too large
abbrev pub IsOddOrLarge : ℕ → Type 0
IsOddOrLarge n = (n % 2 ≢ 0) ⊎ (4096 < n)

-- a width that is given is odd, too large, 0, or less than the layer's
abbrev pub IsWrongWidth : Tech → Layer → Option ℕ → StickKind → Type 0
IsWrongWidth tech layer width kind = (w : ℕ) × (width ≡ Some w)
    × (((kind ≡ BadSize) × (IsOddOrLarge w ⊎ (w ≡ 0))) ⊎ ((kind ≡ NarrowWire) × (pos w <ℤ width_of tech layer)))

-- a size of a transistor is odd or too large, or less than the width of diffusion or of poly
abbrev pub IsWrongChannel : Tech → ℕ → ℕ → StickKind → Type 0
IsWrongChannel tech w l kind = (kind ≡ BadSize)
    × ((IsOddOrLarge w ⊎ IsOddOrLarge l) ⊎ ((pos w <ℤ width_of tech Diffusion) ⊎ (pos l <ℤ width_of tech Poly)))

-- ---- wires

abbrev pub IsOpposite : Side → Side → Type 0
IsOpposite Left Right = Unit {0}
IsOpposite Right Left = Unit {0}
IsOpposite Bottom Top = Unit {0}
IsOpposite Top Bottom = Unit {0}
IsOpposite a b = ⊥

-- Two nodes lie in one place, or in different columns and different rows. A node does not lie in the row of a left or
-- right port, or in the column of a bottom or top one. Two ports do not lie on opposite sides, or not in one row or
-- column.
abbrev pub IsNotStraight : Terminal → Terminal → Type 0
IsNotStraight (Node a) (Node b) = ((a.col ≡ b.col) × (a.row ≡ b.row)) ⊎ ((a.col ≢ b.col) × (a.row ≢ b.row))
IsNotStraight (Node a) (Port q) = line_of (axis_of q.side) a ≢ q.place
IsNotStraight (Port p) (Node b) = line_of (axis_of p.side) b ≢ p.place
IsNotStraight (Port p) (Port q) = IsOpposite p.side q.side → p.place ≢ q.place

-- an end of the run does not pass the test
abbrev pub IsRefusedAtEnd : (Terminal → Bool) → Run → Type 0
IsRefusedAtEnd test run = IsTrue (not (test run.low)) ⊎ IsTrue (not (test run.high))

-- the end is a buried contact, and one of the wires, of another layer, leaves it on the same side
abbrev pub IsTakenSide : List Wire → Layer → Axis2 → Bool → Terminal → Type 0
IsTakenSide wires layer along is_low (Node node_place) =
    (node_place.kind ≡ Buried)
    × ((k : ℕ) × (k < length wires) × IsTrue (leaves node_place.number along is_low (wire_at wires k))
    × ((wire_at wires k).layer ≢ layer))
IsTakenSide wires layer along is_low (Port pin) = ⊥

-- what is wrong with a wire along a run, beside the wires that the cell has
abbrev pub IsWrongRun : Tech → List Bool → List Wire → Layer → Option ℕ → Run → StickKind → Type 0
IsWrongRun tech wired wires layer width run kind =
    ((kind ≡ WrongLayer) × IsRefusedAtEnd (takes_layer layer) run)
    ⊎ ((kind ≡ WrongSide)
    × (IsRefusedAtEnd (takes_along layer run.along) run
    ⊎ (IsTakenSide wires layer run.along true run.low ⊎ IsTakenSide wires layer run.along false run.high)))
    ⊎ ((kind ≡ PortWires) × IsRefusedAtEnd (is_free wired) run)
    ⊎ IsWrongWidth tech layer width kind
    ⊎ ((size : ℤ) × (sized tech layer width ≡ Ok size)
    × (((kind ≡ NarrowWire) × IsRefusedAtEnd (fills_pad tech size) run)
    ⊎ ((kind ≡ WideWire) × IsRefusedAtEnd (is_within_pad tech layer size) run)))

-- what is wrong with a wire between two terminals
abbrev pub IsWrongWire : Tech → List Bool → List Wire → Layer → Terminal → Terminal → Option ℕ → StickKind → Type 0
IsWrongWire tech wired wires layer a b width kind =
    ((kind ≡ NotStraight) × IsNotStraight a b)
    ⊎ ((run : Run) × (run_between a b ≡ Some run) × IsWrongRun tech wired wires layer width run kind)

-- a use, and what lies past a node or a port, is no terminal
abbrev pub IsRefusedWire : Tech → List Bool → List Wire → Layer → Found → Found → Option ℕ → StickKind → Type 0
IsRefusedWire tech wired wires layer (At a) (At b) width kind = IsWrongWire tech wired wires layer a b width kind
IsRefusedWire tech wired wires layer a b width kind = kind ≡ WrongTerminal

-- ---- limits

-- an end is no node, or both ends are one node
abbrev pub IsWrongLimit : Found → Found → StickKind → Type 0
IsWrongLimit (At (Node a)) (At (Node b)) kind = (kind ≡ BadLimit) × (a.number ≡ b.number)
IsWrongLimit a b kind = kind ≡ BadLimit

-- ---- uses

-- what is wrong with the use of this cell, shifted by columns and rows
abbrev pub IsWrongCopy : CheckedCell → ℕ → ℕ → StickKind → Type 0
IsWrongCopy used col row kind =
    ((kind ≡ UsedPorts) × (used.plugs ≢ []))
    ⊎ ((kind ≡ UseDepth) × (16 ≤ used.depth))
    ⊎ IsFar (col + greatest_col used.nodes) (row + greatest_row used.nodes) kind

-- and of the cell with this name
abbrev pub IsWrongUse : List CheckedCell → CheckedCell → List ℕ → List ℕ → ℕ → ℕ → StickKind → Type 0
IsWrongUse cells known name cell col row kind =
    IsTaken known name kind
    ⊎ ((kind ≡ UseCycle) × IsTrue (bytes_eq cell known.name))
    ⊎ ((kind ≡ UnknownName) × (number_of cells cell ≡ None))
    ⊎ ((k : ℕ) × (number_of cells cell ≡ Some k) × IsWrongCopy (known_at cells k) col row kind)

-- ---- lines

-- a path comes to nothing, or what the two come to is wrong
abbrev pub IsWrongBetween : Option Found → Option Found → (Found → Found → StickKind → Type 0) → StickKind → Type 0
IsWrongBetween (Some a) (Some b) IsWrong kind = IsWrong a b kind
IsWrongBetween a b IsWrong kind = kind ≡ UnknownName

abbrev pub IsWrongLine : Tech → List CheckedCell → CheckedCell → Form → StickKind → Type 0
IsWrongLine tech cells known (forms.Joint name layer col row width) kind =
    IsTaken known name kind ⊎ IsFar col row kind ⊎ IsWrongWidth tech (layer_of layer) width kind
IsWrongLine tech cells known (forms.Contact name lower col row) kind = IsTaken known name kind ⊎ IsFar col row kind
IsWrongLine tech cells known (forms.Buried name col row) kind = IsTaken known name kind ⊎ IsFar col row kind
    ⊎ ((kind ≡ NoBuried) × IsTrue (not (has_buried_of tech)))
IsWrongLine tech cells known (forms.Fet name depletion vertical col row w l) kind =
    IsTaken known name kind ⊎ IsFar col row kind ⊎ IsWrongChannel tech w l kind
IsWrongLine tech cells known (forms.Port name side layer place) kind =
    IsTaken known name kind ⊎ ((kind ≡ FarPlace) × (4095 < place))
IsWrongLine tech cells known (forms.Inst name cell col row) kind = IsWrongUse cells known name cell col row kind
IsWrongLine tech cells known (forms.Wire layer a b width) kind =
    IsWrongBetween (found_at cells known a) (found_at cells known b)
    (λ from to. IsRefusedWire tech (wired_of known) known.wires (layer_of layer) from to width) kind
IsWrongLine tech cells known (forms.Limit vertical a b at_most n) kind =
    IsWrongBetween (found_at cells known a) (found_at cells known b) IsWrongLimit kind

-- ---- cells

-- the fault is of the line of this number, and wrong there
abbrev pub IsAt : ℕ → (StickKind → Type 0) → StickFault → Type 0
IsAt number IsWrong fault = (fault.line ≡ number) × IsWrong fault.kind

-- one of the lines is wrong after those before it
abbrev pub IsWrongAmong : Tech → List CheckedCell → CheckedCell → List Line → StickFault → Type 0
IsWrongAmong tech cells known lines fault =
    (before : List Line) × (line : Line) × (later : List Line) × (next : CheckedCell)
    × (lines ≡ before ++ line ∷ later) × (after_lines tech cells known before ≡ Ok next)
    × IsAt line.number (IsWrongLine tech cells next line.form) fault

abbrev pub IsTakenCell : List CheckedCell → List ℕ → StickKind → Type 0
IsTakenCell cells name kind = (kind ≡ RepeatedName) × IsTrue (not (is_new_cell cells name))

abbrev pub IsUnwired : CheckedCell → StickKind → Type 0
IsUnwired known kind = (kind ≡ PortWires) × IsTrue (not (is_wired known))

-- the cell's name is taken, one of its lines is wrong, or at its end a port has no wire
abbrev pub IsWrongCell : Tech → List CheckedCell → CellText → StickFault → Type 0
IsWrongCell tech cells text fault =
    IsAt text.line (IsTakenCell cells text.name) fault
    ⊎ IsWrongAmong tech cells (begun text.name) text.lines fault
    ⊎ ((known : CheckedCell) × (after_lines tech cells (begun text.name) text.lines ≡ Ok known)
    × IsAt text.end_line (IsUnwired known) fault)
