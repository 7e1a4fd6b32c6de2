use Rattle.std.proofs.{Common.{◌∙◌, ℕ, List, length, ap, sym, subst, arith}, lemmas.List.length-map}
use Rattle.stick_text.specs.declared.design.GridText.{GridText}
use Rattle.checked_cells.specs.Tables.{known_of}
use Rattle.grid_plan.{specs.{Numbered.numbers_in_grid, Small.AreFewRows}, proofs.KnownNames.numbers_at}
use Rattle.grid_plan.proofs.judging.check_grids.Goals as goal

pub bounds-numbers-grid : goal.bounds-numbers-grid
bounds-numbers-grid c =
    let cells = known_of c.args.cells.now in
    let many = ap length c.requires.numbers ∙ length-map c.args.grids.now (numbers_in_grid cells) in
    let test = c.loop-grid-test.true in
    omega arith

pub fault_in-requires-clause-numbers : goal.fault_in-requires-clause-numbers
fault_in-requires-clause-numbers c =
    let cells = known_of c.args.cells.now in
    let test = c.loop-grid-test.true in
    ◌∙◌ {A = List (List ℕ)} c.as_slice.ensures (◌∙◌ {A = List (List ℕ)} c.index-numbers-grid.is
    (numbers_at cells c.args.grids.now c.args.numbers.now c.loop-grid.grid _ c.index-grids-grid.result
    c.requires.numbers (omega arith) ∙ ap (numbers_in_grid cells) (sym c.index-grids-grid.is)))

pub fault_in-requires-clause-few : goal.fault_in-requires-clause-few
fault_in-requires-clause-few c =
    let test = c.loop-grid-test.true in
    let P : GridText → Type 0 = λ grid. AreFewRows grid.rows in
    subst P (sym c.index-grids-grid.is) (c.requires.few.rows c.loop-grid.grid _ (omega arith))
