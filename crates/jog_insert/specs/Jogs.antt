-- Jogs: a wire of a cell that runs up is bent to the left or to the right, by two joints and a wire between them in a
-- row of their own.
use Rattle.std.specs.Prelude.{◌≡◌, ◌≢◌, ℕ, ◌+◌, ◌<◌, ◌≤◌, pos, Bool, true, false, All, Contains, List, [], ◌∷◌, ◌++◌}
use Rattle.std.specs.Prelude.{length, map, count_by, slice_set, Some, codes, decimal}
use Rattle.stick_text.specs.declared.design.{Layer.Layer, Form.{Form, TheVariants.{Joint, Contact, Buried, Fet, Port}}}
use Rattle.stick_text.specs.declared.design.{Form.TheVariants.{Inst, Wire, Limit}, Line.Line, CellText.CellText}
use Rattle.stick_text.specs.declared.design.Design.{Design}
use Rattle.stick_print.specs.ReadBack.{laid_out}
use Rattle.cell_model.specs.declared.cell.{Axis2.TheVariants.Up, Cell.Cell, Wire.Wire as CellWire, WireEnd.WireEnd}
use Rattle.cell_model.specs.Sound.{node_at, wire_at, line_at}
use Rattle.cell_model.specs.declared.cell.WireEnd.TheVariants as ends
use Rattle.design_edits.specs.Cells.{unnumbered, AreWithoutUse, cell_text_at}
use Rattle.jog_insert.specs.Bends.{Bend, part_col, moved_form}

-- ---- names

-- the name of one of the two joints of jog number n, `a` the lower one and `b` the upper one
abbrev pub joint_name : ℕ → List ℕ → List ℕ
joint_name n letter = codes "jog" ++ (decimal n ++ letter)

abbrev pub lower_name : ℕ → List ℕ
lower_name n = joint_name n (codes "a")

abbrev pub upper_name : ℕ → List ℕ
upper_name n = joint_name n (codes "b")

-- the names that the forms of a cell bring
abbrev pub name_in : Form → List (List ℕ)
name_in (Joint name layer col row width) = name ∷ []
name_in (Contact name lower col row) = name ∷ []
name_in (Buried name col row) = name ∷ []
name_in (Fet name depletion vertical col row w l) = name ∷ []
name_in (Port name side layer place) = name ∷ []
name_in (Inst name cell col row) = name ∷ []
name_in (Wire layer a b width) = []
name_in (Limit vertical a b at_most n) = []

-- a line of the cell brings this name
abbrev pub IsTaken : List Line → List ℕ → Type 0
IsTaken lines name = (line : Line) × Contains lines line × Contains (name_in line.form) name

-- neither joint of jog number n has a name that stands in the cell
abbrev pub IsFree : List Line → ℕ → Type 0
IsFree lines n = (IsTaken lines (lower_name n) → ⊥) × (IsTaken lines (upper_name n) → ⊥)

-- the least such number
pub record IsJogNumber (lines : List Line) (n : ℕ) : Type 0 where
  pub free : IsFree lines n
  pub least : (m : ℕ) → IsFree lines m → n ≤ m

-- ---- the bent cell

-- The five lines in place of the wire's: the two joints in the row after the bend's, each below or above the part
-- that it belongs to, and three wires, all as wide as the bent one.
abbrev pub bent_forms : Bend → ℕ → Layer → List ℕ → List ℕ → ℕ → List Form
bent_forms bend n layer low high width =
    Joint (lower_name n) layer (part_col bend false) (bend.row + 1) (Some width)
    ∷ Joint (upper_name n) layer (part_col bend true) (bend.row + 1) (Some width)
    ∷ Wire layer low (lower_name n) (Some width)
    ∷ Wire layer (lower_name n) (upper_name n) (Some width)
    ∷ Wire layer (upper_name n) high (Some width)
    ∷ []

abbrev pub moved_line : Bend → Line → Line
moved_line bend line = unnumbered (moved_form bend line.form)

abbrev pub is_wire : Form → Bool
is_wire (Wire layer a b width) = true
is_wire form = false

-- the form is that of a wire of this layer
abbrev pub IsWireOf : Layer → Form → Type 0
IsWireOf own (Wire layer a b width) = layer ≡ own
IsWireOf own form = ⊥

abbrev pub wires_in : List Line → ℕ
wires_in lines = count_by (λ line. is_wire line.form) lines

-- ---- where a jog applies

abbrev pub IsCopy : Form → Type 0
IsCopy (Inst name cell col row) = Unit {0}
IsCopy form = ⊥

-- the end is a node, or a port, from which a wire comes from beyond every row; it is at most in this row, or at least
abbrev pub IsFromBelow : Cell → ℕ → WireEnd → Type 0
IsFromBelow cell row (ends.Node i) = (node_at cell.nodes i).row ≤ row
IsFromBelow cell row (ends.Port i) = Unit {0}

abbrev pub IsFromAbove : Cell → ℕ → WireEnd → Type 0
IsFromAbove cell row (ends.Node i) = row ≤ (node_at cell.nodes i).row
IsFromAbove cell row (ends.Port i) = Unit {0}

-- the wire runs up in a column, and reaches both this row and the next one
pub record Crosses (cell : Cell) (col row : ℕ) (wire : CellWire) : Type 0 where
  pub up : wire.along ≡ Up
  pub column : line_at cell Up wire.low ≡ col
  pub below : IsFromBelow cell row wire.low
  pub above : IsFromAbove cell (row + 1) wire.high

-- columns, rows and places
abbrev pub IsNearForm : Form → Type 0
IsNearForm (Joint name layer col row width) = (col ≤ 4095) × (row ≤ 4095)
IsNearForm (Contact name lower col row) = (col ≤ 4095) × (row ≤ 4095)
IsNearForm (Buried name col row) = (col ≤ 4095) × (row ≤ 4095)
IsNearForm (Fet name depletion vertical col row w l) = (col ≤ 4095) × (row ≤ 4095)
IsNearForm (Port name side layer place) = place ≤ 4095
IsNearForm (Inst name cell col row) = (col ≤ 4095) × (row ≤ 4095)
IsNearForm (Wire layer a b width) = Unit {0}
IsNearForm (Limit vertical a b at_most n) = Unit {0}

-- Wire number k of a cell runs up between two nodes, from a row that is no higher than the bend's to one that is
-- higher, and in its column no other wire reaches both the bend's row and the next one.
pub record IsBendable (cell : Cell) (k row : ℕ) : Type 0 where
  pub among : k < length cell.wires
  pub up : (wire_at cell.wires k).along ≡ Up
  pub low : ℕ
  pub high : ℕ
  pub from : (wire_at cell.wires k).low ≡ ends.Node low
  pub to : (wire_at cell.wires k).high ≡ ends.Node high
  pub below : (node_at cell.nodes low).row ≤ row
  pub above : row < (node_at cell.nodes high).row
  pub alone : (j : ℕ) → j < length cell.wires → j ≢ k
      → Crosses cell (node_at cell.nodes low).col row (wire_at cell.wires j) → ⊥

-- the bend of a wire whose low end is this node
abbrev pub bend_at : Cell → ℕ → ℕ → Bool → Bend
bend_at cell low row left = record { col = (node_at cell.nodes low).col; row = row; left = left }

-- The lines of the new cell, after a jog in wire number k of the cell of this text: the five lines stand where the
-- wire's line stood, and the others go where the bend has them go.
pub record IsBent (text : CellText) (cell : Cell) (k row : ℕ) (left : Bool) (lines : List Line) : Type 0 where
  pub bendable : IsBendable cell k row
  pub number : ℕ
  pub is_number : IsJogNumber text.lines number
  pub width : ℕ
  pub is_width : (wire_at cell.wires k).width ≡ pos width
  pub prefix : List Line
  pub wire : Line
  pub back : List Line
  pub split : text.lines ≡ prefix ++ wire ∷ back
  pub count : wires_in prefix ≡ k
  pub layer : Layer
  pub of_wire : IsWireOf layer wire.form
  pub bent : lines ≡ map (moved_line (bend_at cell bendable.low row left)) prefix
      ++ (map unnumbered
      (bent_forms (bend_at cell bendable.low row left) number layer (node_at cell.nodes bendable.low).name
      (node_at cell.nodes bendable.high).name width)
      ++ map (moved_line (bend_at cell bendable.low row left)) back)

-- A jog in a design: the cell is one of the masters, has no uses and is used by no cell, its wire can be bent, and
-- nothing of the new cell lies too far out. The new design has the new cell in the place of the old one, and its
-- lines have the numbers that they have in its canonical text.
pub record IsJogged (design : Design) (content : Cell) (masters : List ℕ) (cell k row : ℕ) (left : Bool)
    (new : Design) : Type 0 where
  pub master : Contains masters cell
  pub whole : All (λ line. IsCopy line.form → ⊥) (cell_text_at design cell).lines
  pub unused : AreWithoutUse (cell_text_at design cell).name design.cells
  pub lines : List Line
  pub bent : IsBent (cell_text_at design cell) content k row left lines
  pub near : All (λ line. IsNearForm line.form) lines
  pub made : new
      ≡ laid_out
      (record design { cells = slice_set design.cells cell (record (cell_text_at design cell) { lines = lines }) })
