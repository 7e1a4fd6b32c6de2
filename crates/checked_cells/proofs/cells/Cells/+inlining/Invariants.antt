use Rattle.std.proofs.Common.{◌+◌, ◌*◌, drop}
use Rattle.checked_cells.{specs.Inlining.IsKept, proofs.StepsInlined.HasRead}
use Rattle.checked_cells.proofs.cells.Cells.+inlining.Given as goal

-- a cell uses cells before it
abbrev pub decreases-inline : goal.decreases-inline
decreases-inline l = 3 * l.cell + 1

abbrev pub decreases-add_step : goal.decreases-add_step
decreases-add_step l = 3 * l.cell

abbrev pub decreases-take_or_inline : goal.decreases-take_or_inline
decreases-take_or_inline l = 3 * l.number + 2

-- the parts are those of the steps so far, and what is kept is an inlined cell
abbrev pub invariant-inline-loop-step : goal.invariant-inline-loop-step
invariant-inline-loop-step l = record {
  read : HasRead l.self l.cell (drop l.step-index l.step-items) l.parts;
  kept : IsKept l.self l.last;
}
