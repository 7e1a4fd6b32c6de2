-- What the code keeps of the cells of a design: a table for each, which tells of the cell what later lines and cells
-- ask for. Numbers of nodes are exact in a cell that may be inlined.
use Rattle.std.specs.Prelude.{◌≡◌, ℕ, ◌<◌, List, [], ◌∷◌, length, map, take, slice_index_or, Result, Ok, Err}
use Rattle.stick_text.specs.{declared.fault.StickFault.StickFault, Writable.IsWritable}
use Rattle.checked_cells.specs.declared.{table.Table.Table, cells.Cells.Cells, steps.Step.Step}
use Rattle.checked_cells.specs.{CheckedCell.{CheckedCell, known_at, greatest_col, greatest_row}, Lines.known_cells}
use Rattle.checked_cells.specs.{Counts.{weight_of, boxes_of, capped}, Kept.capped_names, Ports.ports_of}
use Rattle.checked_cells.specs.{NameEntries.entries_of, Steps.AreStepsOf}

-- the table tells of the cell what its lines and its ports do not
pub record Tells (known : CheckedCell) (table : Table) : Type 0 where
  pub name : table.name.now ≡ known.name
  pub names : entries_of table.names ≡ capped_names known.names
  pub nodes : table.nodes ≡ capped (length known.nodes)
  pub wires : table.wires ≡ capped (length known.wires)
  pub weight : table.weight ≡ capped (weight_of known)
  pub boxes : table.boxes ≡ capped (boxes_of known)
  pub most_col : table.most_col ≡ greatest_col known.nodes
  pub most_row : table.most_row ≡ greatest_row known.nodes
  pub depth : table.depth ≡ known.depth

pub record IsTableOf (known : CheckedCell) (table : Table) : Type 0 where
  pub tells : Tells known table
  pub ports : table.ports.items ≡ ports_of known

abbrev pub AreTables : List CheckedCell → List Table → Type 0
AreTables [] [] = Unit {0}
AreTables [] (table ∷ tables) = ⊥
AreTables (known ∷ cells) [] = ⊥
AreTables (known ∷ cells) (table ∷ tables) = IsTableOf known table × AreTables cells tables

-- the steps of table number k, where there is one
abbrev pub steps_at : List Table → ℕ → List Step
steps_at tables k = slice_index_or (map (λ table. table.steps.items) tables) k []

-- the steps that are kept of each cell make it, given the cells before it
abbrev pub HaveSteps : List CheckedCell → List Table → Type 0
HaveSteps cells tables = (k : ℕ) → k < length cells → AreStepsOf (take k cells) (known_at cells k) (steps_at tables k)

abbrev pub cells_or_none : Result (List CheckedCell) StickFault → List CheckedCell
cells_or_none (Ok cells) = cells
cells_or_none (Err fault) = []

-- what is known of the cells of a design
abbrev pub known_of : Cells → List CheckedCell
known_of cells = cells_or_none (known_cells cells.tech cells.design.now.cells)

-- the cells are those of their design, which has a text and no fault
pub record IsResolved (cells : Cells) : Type 0 where
  pub writable : IsWritable cells.design.now
  pub read : known_cells cells.tech cells.design.now.cells ≡ Ok (known_of cells)
  pub tables : AreTables (known_of cells) cells.tables.items
  pub steps : HaveSteps (known_of cells) cells.tables.items
