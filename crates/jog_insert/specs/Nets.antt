-- A jog leaves the nets of a cell as they were: its parts are of one net where they were, and the new joints and
-- wires are of the net of the bent wire's terminals.
use Rattle.std.specs.Prelude.{◌≡◌, ◌↔◌, ◌⊎◌, ℕ, zero, suc, ◌+◌, ◌<◌, ◌≤◌, true, false, nat_lt, nat_le, if◌then◌else◌}
use Rattle.std.specs.Prelude.{List, [], ◌∷◌, ◌++◌, length, Contains}
use Rattle.stick_text.specs.declared.design.Form.{Form, TheVariants.{Joint, Contact, Buried, Fet, Port, Inst, Wire}}
use Rattle.stick_text.specs.declared.design.{Form.TheVariants.Limit, Line.Line}
use Rattle.graph_search.specs.Netting.{Reaches, Attached}
use Rattle.cell_model.specs.declared.cell.{Cell.Cell, Node.Node, Wire.Wire as CellWire}
use Rattle.cell_model.specs.{Sound.wire_at, Nets.{parts_of, node_parts, first_part, end_parts, attachments_of}}

-- a chain of attachments joins two parts of a cell
abbrev pub AreOneNet : Cell → ℕ → ℕ → Type 0
AreOneNet cell p q = Reaches (Attached (attachments_of cell)) p q

-- the terminals of a wire: the parts at its two ends
abbrev pub wire_ends : List Node → CellWire → List ℕ
wire_ends nodes wire = end_parts nodes wire.layer true wire.low ++ end_parts nodes wire.layer false wire.high

abbrev pub terminals_of : Cell → ℕ → List ℕ
terminals_of cell k = wire_ends cell.nodes (wire_at cell.wires k)

-- how many nodes stand from a line on before the line of wire number k, given how many stand after it
abbrev pub nodes_from : Form → ℕ → (ℕ → ℕ) → ℕ
nodes_from (Joint name layer col row width) k after = suc (after k)
nodes_from (Contact name lower col row) k after = suc (after k)
nodes_from (Buried name col row) k after = suc (after k)
nodes_from (Fet name depletion vertical col row w l) k after = suc (after k)
nodes_from (Port name side layer place) k after = after k
nodes_from (Inst name cell col row) k after = after k
nodes_from (Wire layer a b width) zero after = 0
nodes_from (Wire layer a b width) (suc k) after = after k
nodes_from (Limit vertical a b at_most n) k after = after k

-- how many nodes stand before the line of wire number k
abbrev pub nodes_before : ℕ → List Line → ℕ
nodes_before k [] = 0
nodes_before k (line ∷ lines) = nodes_from line.form k (λ j. nodes_before j lines)

-- The number that a part has after a jog of wire number k: the two joints come after so many nodes, and the wire
-- becomes three, of which the first keeps its place.
abbrev pub moved_part : Cell → ℕ → ℕ → ℕ → ℕ
moved_part old at k p =
    if nat_lt p (first_part old.nodes at) then p
    else (if nat_le p (node_parts old.nodes + k) then p + 2 else p + 4)

-- the two joints, and the three wires
abbrev pub IsOfJog : Cell → ℕ → ℕ → ℕ → Type 0
IsOfJog old at k p = ((first_part old.nodes at ≤ p) × (p < first_part old.nodes at + 2))
    ⊎ ((node_parts old.nodes + 2 + k ≤ p) × (p < node_parts old.nodes + 5 + k))

-- The cell after a jog of wire number k, whose joints come after so many nodes, has the nets of the one before: parts
-- are of one net where they were, and each of the five new parts is of the net of the wire's terminals, which are
-- two.
pub record KeepsNets (old new : Cell) (at k : ℕ) : Type 0 where
  pub same : (p q : ℕ) → p < parts_of old → q < parts_of old
      → AreOneNet old p q ↔ AreOneNet new (moved_part old at k p) (moved_part old at k q)
  pub two : length (terminals_of old k) ≡ 2
  pub bent : (p terminal : ℕ) → IsOfJog old at k p → Contains (terminals_of old k) terminal
      → AreOneNet new p (moved_part old at k terminal)
