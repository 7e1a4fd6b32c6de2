-- Whether the limit that an edit adds has a fault, and that no other line of the new design has one.
use Rattle.std.specs.Prelude.{◌≡◌, ℕ, List, Some, take, Ok, Err}
use Rattle.rule_table.specs.declared.technology.Tech.{Tech}
use Rattle.stick_text.specs.declared.{fault.{StickKind.StickKind, StickFault.StickFault}, design.Design.Design}
use Rattle.checked_cells.specs.{CheckedCell.{CheckedCell, known_at}, Lines.after_limit, Grids.resolved_cells}
use Rattle.edit_lines.specs.{declared.script.EditLine.{EditLine, TheVariants.{Add, Take}}, Scripts.cell_in}
use Rattle.limit_edits.specs.Edits.{number_named}

-- the limit that is added to cell number k of these, after all its lines, has a fault of this kind
abbrev pub HasLimitFault : List CheckedCell → ℕ → EditLine → StickKind → Type 0
HasLimitFault cells k (Add cell vertical a b at_most n) kind =
    after_limit (take k cells) (known_at cells k) vertical a b at_most n ≡ Err kind
HasLimitFault cells k (Take cell j) kind = ⊥

-- the first fault of the design's names and sizes is of this kind
abbrev pub HasFaultOf : Tech → Design → StickKind → Type 0
HasFaultOf tech design kind = (fault : StickFault) × (resolved_cells tech design ≡ Err fault) × (fault.kind ≡ kind)

-- In a design without fault, only the limit that is added can have one: then it is that of the new design, and else
-- this has none.
pub record IsAtFaultAlone (tech : Tech) (design : Design) (edit : EditLine) (new : Design) : Type 0 where
  pub at_fault : (cells : List CheckedCell) (k : ℕ) (kind : StickKind) → resolved_cells tech design ≡ Ok cells
      → number_named design.cells (cell_in edit) ≡ Some k → HasLimitFault cells k edit kind → HasFaultOf tech new kind
  pub without : (cells : List CheckedCell) (k : ℕ) → resolved_cells tech design ≡ Ok cells
      → number_named design.cells (cell_in edit) ≡ Some k → ((kind : StickKind) → HasLimitFault cells k edit kind → ⊥)
      → (others : List CheckedCell) × (resolved_cells tech new ≡ Ok others)
