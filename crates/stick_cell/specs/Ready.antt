-- Cells that use no other, and what is ready of a cell before the cells before it are read.
use Rattle.std.specs.Prelude.{◌≡◌, ℕ, ◌<◌, List, length, All, IsTrue, Option, Some, None, Result, slice_index_or}
use Rattle.rule_table.specs.declared.technology.Tech.{Tech}
use Rattle.stick_text.specs.declared.{fault.ParseFault.ParseFault, design.{CellText.CellText, Line.Line, Form.Form}}
use Rattle.stick_text.specs.declared.design.Form.TheVariants.{Inst}
use Rattle.checked_cells.specs.{declared.table.Table.Table, CheckedCell.CheckedCell, Built.AreBuilt}
use Rattle.checked_cells.specs.Lines.{is_new_cell, after_cell}
use Rattle.stick_cell.specs.Resolving.{TellsTable}

-- the line uses a cell
abbrev pub IsUse : Form → Type 0
IsUse (Inst name cell col row) = Unit {0}
IsUse form = ⊥

-- none of the lines does
abbrev pub HasNoUse : List Line → Type 0
HasNoUse lines = All (λ line. IsUse line.form → ⊥) lines

-- whatever the cells before it are, this is the table of the cell, or its fault, if its name is new
abbrev pub IsReady : Tech → CellText → Option (Result Table ParseFault) → Type 0
IsReady tech text None = Unit {0}
IsReady tech text (Some result) =
    (cells : List CheckedCell) → AreBuilt tech cells → IsTrue (is_new_cell cells text.name)
    → TellsTable cells result (after_cell tech cells text)

-- and so of cell number k
abbrev pub IsReadyAt : Tech → List CellText → ℕ → Option (Result Table ParseFault) → Type 0
IsReadyAt tech texts k ready = (text : CellText) → text ≡ slice_index_or texts k text → IsReady tech text ready

-- and of each cell; where the list ends early, nothing is ready
abbrev pub AreReady : Tech → List CellText → List (Option (Result Table ParseFault)) → Type 0
AreReady tech texts ready = (k : ℕ) → k < length texts → IsReadyAt tech texts k (slice_index_or ready k None)
