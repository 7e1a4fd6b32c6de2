use Rattle.std.{proofs.Common.{ℕ, ◌≤◌, ◌^◌, List, Some, None, subst}, specs.Prelude.{◌==◌, position}}
use Rattle.design_sizes.specs.Sizes.{names_in}
use Rattle.stick_text.specs.declared.design.Design.{Design}
use Rattle.checked_cells.specs.{CheckedCell.{CheckedCell, cell_of, known_at}, Lines.number_of, Tables.known_of}
use Rattle.jog_insert.specs.Jogs.{IsJogged}
use Rattle.design_layouts.proofs.Scripted.{few_names}
use Rattle.jog_command.proofs.Jogging.{of_call, no_cell, no_master, no_jog, not_kept, kept_with}
use Rattle.jog_command.proofs.Jogging.{none_kept, accepts, if_wanted}
use Rattle.jog_command.proofs.jog.tried_in.Goals as goal

pub returns-in_default-clause-rejected : goal.returns-in_default-clause-rejected
returns-in_default-clause-rejected g c =
    let cells : List CheckedCell = known_of c.args.cells.now in
    let sizes = c.args.sizes.now in
    let none = of_call (number_of cells) c.bytes.result.now c.args.line.now.cell c.find.result None c.bytes.ensures
    c.find.ensures.value c.in_default.is in
    no_cell c.args.tech.now c.args.axes.now c.args.design.now sizes.numbers.items sizes.widths.items c.args.line.now
    cells c.requires.cells none

pub returns-in_default-master_of-clause-rejected : goal.returns-in_default-master_of-clause-rejected
returns-in_default-master_of-clause-rejected g c =
    let cells : List CheckedCell = known_of c.args.cells.now in
    let sizes = c.args.sizes.now in
    let named = of_call (number_of cells) c.bytes.result.now c.args.line.now.cell c.find.result (Some c.in-Some.cell)
    c.bytes.ensures c.find.ensures.value c.in-Some.is in
    let none = of_call (position (λ n. n == c.in-Some.cell)) c.deref.result.now sizes.numbers.items c.master_of.result
    None c.deref.ensures.value c.master_of.ensures c.in_default-master_of.is in
    no_master c.args.tech.now c.args.axes.now c.args.design.now sizes.numbers.items sizes.widths.items c.args.line.now
    cells c.in-Some.cell c.requires.cells named none

pub judged-requires-clause-few_names : goal.judged-requires-clause-few_names
judged-requires-clause-few_names g c κs within =
    few_names c.args.design.now c.in-Some-2.new (2 ^ 19) (rw c.in-Some-2.is at c.in_ok-new.ensures.grids)
    c.requires.few_names

pub returns-in-Some-2-clause-accepted : goal.returns-in-Some-2-clause-accepted
returns-in-Some-2-clause-accepted g c =
    let cells : List CheckedCell = known_of c.args.cells.now in
    let sizes = c.args.sizes.now in
    let line = c.args.line.now in
    let named = of_call (number_of cells) c.bytes.result.now line.cell c.find.result (Some c.in-Some.cell)
    c.bytes.ensures c.find.ensures.value c.in-Some.is in
    let master = of_call (position (λ n. n == c.in-Some.cell)) c.deref.result.now sizes.numbers.items
    c.master_of.result (Some c.in-Some-master_of.master) c.deref.ensures.value c.master_of.ensures
    c.in-Some-master_of.is in
    let J : List ℕ → Type 0 = λ ns. IsJogged c.args.design.now (cell_of (known_at cells c.in-Some.cell)) ns
    c.in-Some.cell line.k line.r line.left c.in-Some-2.new in
    let jogged = subst J c.deref-2.ensures.value (rw c.in-Some-2.is at c.in_ok-new.ensures.jogged) in
    accepts c.args.tech.now c.args.axes.now c.args.design.now sizes.numbers.items sizes.widths.items line cells
    c.in-Some.cell c.in-Some-master_of.master c.in-Some-2.new c.judged.result
    c.requires.cells named master jogged (rw c.deref-in-Some-2.ensures.value at c.judged.ensures.kept)

pub returns-in-Some-2-clause-few_names : goal.returns-in-Some-2-clause-few_names
returns-in-Some-2-clause-few_names g c =
    let few = few_names c.args.design.now c.in-Some-2.new (2 ^ 19) (rw c.in-Some-2.is at c.in_ok-new.ensures.grids)
    c.requires.few_names in
    kept_with (λ d. names_in d ≤ 2 ^ 19) c.args.tech.now c.args.axes.now c.deref-in-Some-2.result.now
    c.in-Some-master_of.master c.in-Some-2.new c.judged.result few c.judged.ensures.kept

pub returns-in-Some-2-clause-rejected : goal.returns-in-Some-2-clause-rejected
returns-in-Some-2-clause-rejected g c =
    let cells : List CheckedCell = known_of c.args.cells.now in
    let sizes = c.args.sizes.now in
    let line = c.args.line.now in
    let named = of_call (number_of cells) c.bytes.result.now line.cell c.find.result (Some c.in-Some.cell)
    c.bytes.ensures c.find.ensures.value c.in-Some.is in
    let master = of_call (position (λ n. n == c.in-Some.cell)) c.deref.result.now sizes.numbers.items
    c.master_of.result (Some c.in-Some-master_of.master) c.deref.ensures.value c.master_of.ensures
    c.in-Some-master_of.is in
    let J : List ℕ → Type 0 = λ ns. IsJogged c.args.design.now (cell_of (known_at cells c.in-Some.cell)) ns
    c.in-Some.cell line.k line.r line.left c.in-Some-2.new in
    let jogged = subst J c.deref-2.ensures.value (rw c.in-Some-2.is at c.in_ok-new.ensures.jogged) in
    none_kept c.judged.result
    (not_kept c.args.tech.now c.args.axes.now c.args.design.now sizes.numbers.items sizes.widths.items line cells
    c.in-Some.cell c.in-Some-master_of.master c.in-Some-2.new
    c.requires.cells named master jogged) (rw c.deref-in-Some-2.ensures.value at c.judged.ensures.dropped)

pub returns-in-None-clause-rejected : goal.returns-in-None-clause-rejected
returns-in-None-clause-rejected g c =
    let cells : List CheckedCell = known_of c.args.cells.now in
    let sizes = c.args.sizes.now in
    let line = c.args.line.now in
    let named = of_call (number_of cells) c.bytes.result.now line.cell c.find.result (Some c.in-Some.cell)
    c.bytes.ensures c.find.ensures.value c.in-Some.is in
    let J : List ℕ → Type 0 = λ ns. (new : Design)
    → IsJogged c.args.design.now (cell_of (known_at cells c.in-Some.cell)) ns c.in-Some.cell line.k line.r
    line.left new → ⊥ in
    no_jog c.args.tech.now c.args.axes.now c.args.design.now sizes.numbers.items sizes.widths.items line cells
    c.in-Some.cell c.requires.cells named
    (subst J c.deref-2.ensures.value (rw c.in-None.is at c.in_ok-new.ensures.jogged))

-- memory is wanted where the cell is a master
pub returns-in_err-new-clause-wanted : goal.returns-in_err-new-clause-wanted
returns-in_err-new-clause-wanted g c =
    let cells : List CheckedCell = known_of c.args.cells.now in
    let sizes = c.args.sizes.now in
    let named = of_call (number_of cells) c.bytes.result.now c.args.line.now.cell c.find.result (Some c.in-Some.cell)
    c.bytes.ensures c.find.ensures.value c.in-Some.is in
    let master = of_call (position (λ n. n == c.in-Some.cell)) c.deref.result.now sizes.numbers.items
    c.master_of.result (Some c.in-Some-master_of.master) c.deref.ensures.value c.master_of.ensures
    c.in-Some-master_of.is in
    if_wanted c.from_residual.result
    (record { cell = c.in-Some.cell; named = named; m = c.in-Some-master_of.master; master = master })

pub returns-in-Some-2-clause-wanted : goal.returns-in-Some-2-clause-wanted
returns-in-Some-2-clause-wanted g c =
    let cells : List CheckedCell = known_of c.args.cells.now in
    let sizes = c.args.sizes.now in
    let named = of_call (number_of cells) c.bytes.result.now c.args.line.now.cell c.find.result (Some c.in-Some.cell)
    c.bytes.ensures c.find.ensures.value c.in-Some.is in
    let master = of_call (position (λ n. n == c.in-Some.cell)) c.deref.result.now sizes.numbers.items
    c.master_of.result (Some c.in-Some-master_of.master) c.deref.ensures.value c.master_of.ensures
    c.in-Some-master_of.is in
    if_wanted c.judged.result
    (record { cell = c.in-Some.cell; named = named; m = c.in-Some-master_of.master; master = master })
