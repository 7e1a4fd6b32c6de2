-- What the code keeps while it bends a cell: these are no part of what a jog is.
use Rattle.std.specs.Prelude.{◌≡◌, ℕ, ◌+◌, ◌<◌, ◌≤◌, ◌⊎◌, pos, Bool, true, false, All, Contains, List, ◌∷◌, ◌++◌}
use Rattle.std.specs.Prelude.{length, sum_by, slice_index_or, if◌then◌else◌}
use Rattle.stick_text.specs.declared.design.{Line.Line, Layer.Layer, Form.Form, CellText.CellText, Design.Design}
use Rattle.cell_model.specs.{declared.cell.Cell.Cell, Sound.{node_at, wire_at}}
use Rattle.jog_insert.specs.{declared.{bending.Place.Place, joints.Joints.Joints, runs.Run.Run}, Bends.Bend}
use Rattle.jog_insert.specs.Jogs.{lower_name, upper_name, IsTaken, bent_forms, wires_in, IsWireOf, IsBendable, IsBent}
use Rattle.jog_insert.specs.Jogs.{IsCopy, IsNearForm}
use Rattle.design_edits.specs.Cells.{AreWithoutUse, cell_text_at}

abbrev pub bend_of : Place → Bend
bend_of place = record { col = place.col; row = place.row; left = place.left }

-- the name is that of a joint of jog number n
abbrev pub IsNameOf : ℕ → List ℕ → Type 0
IsNameOf n name = (name ≡ lower_name n) ⊎ (name ≡ upper_name n)

-- the wire that is bent
pub record IsRun (cell : Cell) (k row : ℕ) (run : Run) : Type 0 where
  pub bendable : IsBendable cell k row
  pub low : bendable.low ≡ run.low
  pub high : bendable.high ≡ run.high
  pub col : (node_at cell.nodes run.low).col ≡ run.col
  pub width : (wire_at cell.wires k).width ≡ pos run.width
  pub is_low : run.low < length cell.nodes
  pub is_high : run.high < length cell.nodes
  pub near_col : run.col ≤ 4095
  pub near_row : row < 4095
  pub small : run.width ≤ 4096

-- a joint of jog number n would have a name that stands in the cell
abbrev pub IsTakenBy : List Line → ℕ → Type 0
IsTakenBy lines n = IsTaken lines (lower_name n) ⊎ IsTaken lines (upper_name n)

-- exactly these numbers are marked
pub record AreMarked (lines : List Line) (taken : List Bool) : Type 0 where
  pub marked : (n : ℕ) → n < length taken → IsTakenBy lines n → slice_index_or taken n false ≡ true
  pub only : (n : ℕ) → n < length taken → slice_index_or taken n false ≡ true → IsTakenBy lines n

-- how many marks there are
abbrev pub marks_in : List Bool → ℕ
marks_in marks = sum_by (λ is_marked. if is_marked then 1 else 0) marks

-- the numbers of jogs with a joint of this name are marked, and nothing else changes; there is at most one mark more
pub record Marks (name : List ℕ) (old new : List Bool) : Type 0 where
  pub size : length new ≡ length old
  pub kept : (n : ℕ) → n < length old → slice_index_or old n false ≡ true → slice_index_or new n false ≡ true
  pub marked : (n : ℕ) → n < length old → IsNameOf n name → slice_index_or new n false ≡ true
  pub only : (n : ℕ) → n < length old → slice_index_or new n false ≡ true
      → (slice_index_or old n false ≡ true) ⊎ IsNameOf n name
  pub count : marks_in new ≤ marks_in old + 1

-- the forms of the two joints and the three wires
abbrev pub forms_by : Joints → List Form
forms_by joints = bent_forms (bend_of joints.place) joints.number joints.layer joints.low.now joints.high.now
    joints.width

-- the line of wire number k stands at this place, and is of this layer
pub record IsWireAt (lines : List Line) (k at : ℕ) (layer : Layer) : Type 0 where
  pub prefix : List Line
  pub wire : Line
  pub back : List Line
  pub split : lines ≡ prefix ++ wire ∷ back
  pub place : length prefix ≡ at
  pub count : wires_in prefix ≡ k
  pub of_wire : IsWireOf layer wire.form

-- the cell is one of the masters, has no uses and is used by no cell
pub record StandsAlone (design : Design) (masters : List ℕ) (cell : ℕ) : Type 0 where
  pub master : Contains masters cell
  pub whole : All (λ line. IsCopy line.form → ⊥) (cell_text_at design cell).lines
  pub unused : AreWithoutUse (cell_text_at design cell).name design.cells

-- the lines are those of a jog in a cell, and lie near
pub record IsBentCell (text : CellText) (cell : Cell) (k row : ℕ) (left : Bool) (lines : List Line) : Type 0 where
  pub bent : IsBent text cell k row left lines
  pub near : All (λ line. IsNearForm line.form) lines
