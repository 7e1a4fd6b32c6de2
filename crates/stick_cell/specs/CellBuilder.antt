-- What the code keeps of a cell while its lines are read.
use Rattle.std.specs.Prelude.{◌≡◌, ℕ, ◌≤◌, nat_lt, ℤ, Bool, true, ◌&&◌, List, length, map, slice_index_or, slice_set}
use Rattle.std.specs.{Prelude.{Option, None, Some, Result, Ok, Err}, List.AllByRecursion}
use Rattle.stick_text.specs.declared.fault.StickKind.{StickKind, TheVariants.{RepeatedName, UnknownName, UseDepth}}
use Rattle.stick_text.specs.declared.fault.{StickKind.TheVariants.{UsedPorts, FarPlace}, LineFault.LineFault}
use Rattle.stick_text.specs.Reading.{◌>>=◌, demand}
use Rattle.stick_text.specs.declared.fault.LineFault.TheVariants as line_faults
use Rattle.cell_model.specs.declared.cell.{CellPort.CellPort, WireEnd.WireEnd}
use Rattle.cell_model.specs.declared.cell.WireEnd.TheVariants as ends
use Rattle.checked_cells.specs.{declared.names.Found.Found, Checks.{is_fresh, is_place}, CheckedCell.CheckedCell}
use Rattle.checked_cells.specs.{CheckedCell.{Plug, no_plug}, Paths.Names, Lines.wired_of, Counts.capped}
use Rattle.checked_cells.specs.{Kept.kept_found, Steps.AreStepsOf, Tables.Tells, Sides.{side_entries, AreSidesOf}}
use Rattle.stick_cell.specs.declared.builder.CellBuilder.{CellBuilder}

-- a port before the last line of its cell: the number of its wire is capped
abbrev pub port_so_far : Plug → CellPort
port_so_far plug =
    record {
      side = plug.port.side;
      layer = plug.port.layer;
      place = plug.port.place;
      width = plug.width;
      wire = capped plug.port.wire;
    }

-- the port's wire is one of so many, or none
abbrev pub IsWiredBelow : ℕ → Plug → Type 0
IsWiredBelow count plug = plug.port.wire ≤ count

-- what is kept is that of the lines so far
pub record IsCellBuilder (cells : List CheckedCell) (known : CheckedCell) (builder : CellBuilder) : Type 0 where
  pub tells : Tells known builder.table
  pub ports : builder.table.ports.items ≡ map port_so_far known.plugs
  pub wired : builder.wired.items ≡ wired_of known
  pub steps : AreStepsOf cells known builder.table.steps.items
  pub below : AllByRecursion (IsWiredBelow (length known.wires)) known.plugs

-- a line is refused with its kind, and with want of memory only where it has no fault
abbrev pub RefusesLine : LineFault → Result CheckedCell StickKind → Type 0
RefusesLine (line_faults.Kind kind) read = read ≡ Err kind
RefusesLine line_faults.OutOfMemory read = (next : CheckedCell) × (read ≡ Ok next)

-- a line that is read gives what the definition says is known after it
abbrev pub Grows : {X : Type 0} → List CheckedCell → Result X LineFault → CellBuilder → Result CheckedCell StickKind
    → Type 0
Grows cells (Ok x) builder read = (next : CheckedCell) × (read ≡ Ok next) × IsCellBuilder cells next builder
Grows cells (Err fault) builder read = RefusesLine fault read

-- and the sides that are kept tell of the cell's own wires
abbrev pub GrowsWith : {X : Type 0} → List CheckedCell → Result X LineFault → CellBuilder
    → Result CheckedCell StickKind → Type 0
GrowsWith cells (Ok x) builder read = (next : CheckedCell) × (read ≡ Ok next) × IsCellBuilder cells next builder
    × AreSidesOf cells next (side_entries builder.table.sides)
GrowsWith cells (Err fault) builder read = RefusesLine fault read

-- a new name, and a column and a row that are not too far out
unfoldable pub placed : Names → List ℕ → ℕ → ℕ → Result (Unit {0}) StickKind
placed table name col row = do
  fresh ← demand (is_fresh table name) RepeatedName
  demand (is_place col && is_place row) FarPlace

-- of a used cell: it has no ports, it is not too deep, and its nodes do not come to lie too far out
unfoldable pub usable : Bool → ℕ → ℕ → ℕ → Result (Unit {0}) StickKind
usable is_closed depth col row = do
  closed ← demand is_closed UsedPorts
  shallow ← demand (nat_lt depth 16) UseDepth
  demand (is_place col && is_place row) FarPlace

-- the ports after a wire of this number and width has ended at one of them, or at a node
abbrev pub plugged_ports : ℕ → ℤ → List CellPort → WireEnd → List CellPort
plugged_ports number width ports (ends.Node k) = ports
plugged_ports number width ports (ends.Port k) =
    slice_set ports k (record (slice_index_or ports k (port_so_far no_plug)) { width = width; wire = number })

abbrev pub plugged_marks : List Bool → WireEnd → List Bool
plugged_marks wired (ends.Node k) = wired
plugged_marks wired (ends.Port k) = slice_set wired k true

-- what is kept of what a path comes to
abbrev pub found_or_unknown : Option Found → Result Found StickKind
found_or_unknown None = Err UnknownName
found_or_unknown (Some found) = Ok (kept_found found)

-- a port without the number of its wire
abbrev pub without_wire : CellPort → CellPort
without_wire port = record port { wire = 0 }
