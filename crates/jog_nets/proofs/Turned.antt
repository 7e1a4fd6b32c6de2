-- A bend turns no wire round: what lies lower or more to the left still does, as far as a wire can tell.
use Rattle.std.proofs.{Common.{◌≡◌, ℕ, ◌<◌, Bool, true, false, length, refl, sym, ap, ◌∙◌, arith}, lemmas.Bool.not-true}
use Rattle.std.{proofs.lemmas.Bool.{both_ways, Decides.nat_tests}, specs.Prelude.nat_lt}
use Rattle.rule_table.specs.declared.technology.Tech.{Tech}
use Rattle.cell_model.specs.declared.cell.{Axis2.{Axis2, TheVariants.{Across, Up}}, Node.Node, WireEnd.WireEnd}
use Rattle.cell_model.specs.{declared.cell.{Wire.Wire, Port.Port, Cell.Cell}, Wiring.is_low_side, Sound.node_at}
use Rattle.cell_model.specs.Sound.{port_at, line_at, IsInOrder, IsOnLowSide, IsOnHighSide, IsWire}
use Rattle.cell_model.specs.declared.cell.WireEnd.TheVariants as ends
use Rattle.checked_cells.{specs.CheckedCell.{CheckedCell, cell_of, plug_at}, proofs.BuiltWires.port_of_plug}
use Rattle.jog_nets.specs.Parts.{node_after}
use Rattle.jog_insert.specs.Bends.{Bend, moved_row, moved_col, node_col}

-- ---- columns and rows

rows_kept : (bend : Bend) (a b : ℕ) → a < b → moved_row bend a < moved_row bend b
rows_kept bend a b lt = grind (arith, nat_tests)

cols_kept : (bend : Bend) (upper : Bool) (a b : ℕ) → a < b → moved_col bend upper a < moved_col bend upper b
cols_kept bend true a b lt = grind (arith, nat_tests)
cols_kept bend false a b lt = grind (arith, nat_tests)

-- a node where the bend has it go
abbrev pub moved_node : Bend → Node → Node
moved_node bend node =
    record {
      name = node.name;
      kind = node.kind;
      col = node_col bend node.col node.row;
      row = moved_row bend node.row;
    }

-- ---- a wire runs from its low end to its high one

pub record IsRunOf (cell : Cell) (along : Axis2) (low high : WireEnd) : Type 0 where
  pub straight : line_at cell along low ≡ line_at cell along high
  pub ordered : IsInOrder cell along low high
  pub low_side : IsOnLowSide cell low
  pub high_side : IsOnHighSide cell high

pub run_of_wire : (tech : Tech) (cell : Cell) (wire : Wire) → IsWire tech cell wire
    → IsRunOf cell wire.along wire.low wire.high
run_of_wire tech cell wire is =
    record { straight = is.straight; ordered = is.ordered; low_side = is.low_side; high_side = is.high_side }

-- of two nodes in different rows the higher one is not the low end
pub upward : (cell : Cell) (along : Axis2) (x y : ℕ) → (node_at cell.nodes x).row < (node_at cell.nodes y).row
    → IsRunOf cell along (ends.Node y) (ends.Node x) → ⊥
upward cell Across x y lt run = omega (arith, lt, run.straight)
upward cell Up x y lt run = omega (arith, lt, run.ordered)

-- two nodes that a bend moves are not turned round
nodes_kept : (bend : Bend) (old new : Cell) (along its_along : Axis2) (i j its_i its_j : ℕ)
    → node_at new.nodes its_i ≡ moved_node bend (node_at old.nodes i)
    → node_at new.nodes its_j ≡ moved_node bend (node_at old.nodes j) → IsRunOf old along (ends.Node i) (ends.Node j)
    → IsRunOf new its_along (ends.Node its_j) (ends.Node its_i) → ⊥
nodes_kept bend old new along its_along i j its_i its_j at_i at_j run its_run =
    by along its_along (node_at old.nodes i) (node_at old.nodes j) refl refl run its_run
  where
    row_i : (node_at new.nodes its_i).row ≡ moved_row bend (node_at old.nodes i).row
    row_i = ap (λ (node : Node). node.row) at_i

    row_j : (node_at new.nodes its_j).row ≡ moved_row bend (node_at old.nodes j).row
    row_j = ap (λ (node : Node). node.row) at_j

    col_i : (node_at new.nodes its_i).col ≡ node_col bend (node_at old.nodes i).col (node_at old.nodes i).row
    col_i = ap (λ (node : Node). node.col) at_i

    col_j : (node_at new.nodes its_j).col ≡ node_col bend (node_at old.nodes j).col (node_at old.nodes j).row
    col_j = ap (λ (node : Node). node.col) at_j

    by : (along its_along : Axis2) (a b : Node) → node_at old.nodes i ≡ a → node_at old.nodes j ≡ b
        → IsRunOf old along (ends.Node i) (ends.Node j)
        → IsRunOf new its_along (ends.Node its_j) (ends.Node its_i) → ⊥
    by Up Up a b ea eb run its_run =
        let up : (node_at old.nodes i).row < (node_at old.nodes j).row = run.ordered in
        let down : (node_at new.nodes its_j).row < (node_at new.nodes its_i).row = its_run.ordered in
        omega (arith, up, down, row_i, row_j, rows_kept bend (node_at old.nodes i).row (node_at old.nodes j).row up)
    by Up Across a b ea eb run its_run =
        let up : (node_at old.nodes i).row < (node_at old.nodes j).row = run.ordered in
        let level : (node_at new.nodes its_j).row ≡ (node_at new.nodes its_i).row = its_run.straight in
        omega (arith, up, level, row_i, row_j, rows_kept bend (node_at old.nodes i).row (node_at old.nodes j).row up)
    by Across Up a b ea eb run its_run =
        let level : (node_at old.nodes i).row ≡ (node_at old.nodes j).row = run.straight in
        let down : (node_at new.nodes its_j).row < (node_at new.nodes its_i).row = its_run.ordered in
        let same : moved_row bend (node_at old.nodes i).row ≡ moved_row bend (node_at old.nodes j).row =
        ap (moved_row bend) level in
        omega (arith, down, row_i, row_j, same)
    by Across Across a b ea eb run its_run =
        let level : (node_at old.nodes i).row ≡ (node_at old.nodes j).row = run.straight in
        let right : (node_at old.nodes i).col < (node_at old.nodes j).col = run.ordered in
        let turned : (node_at new.nodes its_j).col < (node_at new.nodes its_i).col = its_run.ordered in
        let same : node_col bend (node_at old.nodes j).col (node_at old.nodes i).row
        ≡ node_col bend (node_at old.nodes j).col (node_at old.nodes j).row =
        ap (node_col bend (node_at old.nodes j).col) level in
        let kept : node_col bend (node_at old.nodes i).col (node_at old.nodes i).row < node_col bend
        (node_at old.nodes j).col (node_at old.nodes i).row =
        cols_kept bend (nat_lt bend.row (node_at old.nodes i).row) (node_at old.nodes i).col (node_at old.nodes j).col
        right in
        omega (arith, turned, col_i, col_j, same, kept)

-- ---- the ends of a wire before and after

-- a node is the same one, a port lies on the same side
abbrev pub IsMovedEnd : ℕ → CheckedCell → CheckedCell → WireEnd → WireEnd → Type 0
IsMovedEnd at old new (ends.Node i) (ends.Node j) = (i < length old.nodes) × (j ≡ node_after at i)
IsMovedEnd at old new (ends.Port i) (ends.Port j) = (plug_at old.plugs i).port.side ≡ (plug_at new.plugs j).port.side
IsMovedEnd at old new (ends.Node i) (ends.Port j) = ⊥
IsMovedEnd at old new (ends.Port i) (ends.Node j) = ⊥

-- the nodes of the old cell are moved
abbrev pub AreNodesMoved : Bend → ℕ → CheckedCell → CheckedCell → Type 0
AreNodesMoved bend at old new = (i : ℕ) → i < length old.nodes
    → node_at new.nodes (node_after at i) ≡ moved_node bend (node_at old.nodes i)

-- a port is not both on a low side and on a high one
sides_kept : (old new : CheckedCell) (q its : ℕ) → (plug_at old.plugs q).port.side ≡ (plug_at new.plugs its).port.side
    → IsOnHighSide (cell_of old) (ends.Port q) → IsOnLowSide (cell_of new) (ends.Port its) → ⊥
sides_kept old new q its same high low =
    let here : (port_at (cell_of old).ports q).side ≡ (plug_at old.plugs q).port.side =
    ap (λ (port : Port). port.side) (port_of_plug old.plugs q) in
    let there : (port_at (cell_of new).ports its).side ≡ (plug_at new.plugs its).port.side =
    ap (λ (port : Port). port.side) (port_of_plug new.plugs its) in
    let equal : is_low_side (port_at (cell_of old).ports q).side
    ≡ is_low_side (port_at (cell_of new).ports its).side = ap is_low_side (here ∙ same ∙ sym there) in
    both_ways (is_low_side (port_at (cell_of new).ports its).side)
    (sym equal ∙ not-true (is_low_side (port_at (cell_of old).ports q).side) high) low

-- no wire is turned round
pub not_turned : (bend : Bend) (at : ℕ) (old new : CheckedCell) → AreNodesMoved bend at old new
    → (along its_along : Axis2) (low its_high high its_low : WireEnd) → IsMovedEnd at old new low its_high
    → IsMovedEnd at old new high its_low → IsRunOf (cell_of old) along low high
    → IsRunOf (cell_of new) its_along its_low its_high → ⊥
not_turned bend at old new moved along its_along (ends.Node i) (ends.Node its_i) (ends.Node j) (ends.Node its_j) ei ej
    run its_run =
    let at_i : node_at new.nodes its_i ≡ moved_node bend (node_at old.nodes i) = ap (node_at new.nodes) ei.1
    ∙ moved i ei.0 in
    let at_j : node_at new.nodes its_j ≡ moved_node bend (node_at old.nodes j) = ap (node_at new.nodes) ej.1
    ∙ moved j ej.0 in
    nodes_kept bend (cell_of old) (cell_of new) along its_along i j its_i its_j at_i at_j run its_run
not_turned bend at old new moved along its_along (ends.Node i) (ends.Node its_i) (ends.Port q) (ends.Port its_q) ei eq
    run its_run = sides_kept old new q its_q eq run.high_side its_run.low_side
not_turned bend at old new moved along its_along (ends.Port p) (ends.Port its_p) (ends.Node j) (ends.Node its_j) ep ej
    run its_run = sides_kept new old its_p p (sym ep) its_run.high_side run.low_side
not_turned bend at old new moved along its_along (ends.Port p) (ends.Port its_p) (ends.Port q) (ends.Port its_q) ep eq
    run its_run = sides_kept old new q its_q eq run.high_side its_run.low_side
not_turned bend at old new moved along its_along (ends.Node i) (ends.Port its_i) high its_low e g run its_run = absurd e
not_turned bend at old new moved along its_along (ends.Port i) (ends.Node its_i) high its_low e g run its_run = absurd e
not_turned bend at old new moved along its_along (ends.Node i) (ends.Node its_i) (ends.Node j) (ends.Port its_j) e g
    run its_run = absurd g
not_turned bend at old new moved along its_along (ends.Node i) (ends.Node its_i) (ends.Port j) (ends.Node its_j) e g
    run its_run = absurd g
not_turned bend at old new moved along its_along (ends.Port i) (ends.Port its_i) (ends.Node j) (ends.Port its_j) e g
    run its_run = absurd g
not_turned bend at old new moved along its_along (ends.Port i) (ends.Port its_i) (ends.Port j) (ends.Node its_j) e g
    run its_run = absurd g
