use Rattle.std.proofs.Common.{◌≡◌, ◌<◌, Ok, None, List, [], ◌∷◌, ◌++◌, length, get_or, refl, sym, ap, subst, ◌∙◌, arith}
use Rattle.std.{proofs.lemmas.List.length_push, specs.Prelude.All}
use Rattle.checked_cells.specs.{declared.table.Table.Table, CheckedCell.{CheckedCell, begun, cell_of}}
use Rattle.checked_cells.specs.{Lines.known_cells, Tables.{AreTables, HaveSteps, cells_or_none}, Sides.HaveSides}
use Rattle.checked_cells.proofs.Built.{are_built-none, are_built-append, built-after_cell, sound-known_at}
use Rattle.checked_cells.proofs.TableReads.{length-known_cells, element_at}
use Rattle.stick_cell.proofs.{SidesLoop.have_sides-push, CellLoop.{gives-residual, lent_tables, cells-refused}}
use Rattle.stick_cell.proofs.ReadyCells.{ready_taken, ready_left}
use Rattle.stick_cell.proofs.CellLoop.{cells-next, cells-end, cell-at, tables-push, have_steps-push}
use Rattle.cell_model.specs.Sound.{IsSound}
use Rattle.list_facts.proofs.Elements.{all_of, by_number}
use Rattle.stick_cell.proofs.resolving.resolve_cells.Goals as goal

pub loop-text-init : goal.loop-text-init
unfolding known_cells
loop-text-init c =
    let P : List Table → Type 0 = λ tables. AreTables [] tables in (
      [],
      subst P (sym c.new-tables.ensures.items) tt,
      are_built-none c.args.tech.now,
      refl,
      ap length
          c.new-tables.ensures.items,
      (λ k lt. absurd (omega arith)),
      (λ k lt. absurd (omega arith)),
      c.requires.ready,
    )

pub loop-text-preserved : goal.loop-text-preserved
loop-text-preserved c =
    let tech = c.args.tech.now in
    let texts = c.args.design.now.cells in
    let i = c.loop-text.text-index in
    let text = c.text-item.result in
    let table = c.in_ok-table.table in
    let so_far = c.loop-text.invariant in
    let lt : i < length texts = omega (arith, c.loop-text-test.true, ap length c.as_slice-text-items.ensures) in
    let at : text ≡ get_or texts i text = c.text-item.is ∙ ap (λ xs. get_or xs i text) c.as_slice-text-items.ensures in
    let tables : AreTables so_far.0 c.as_slice.result.now = let P : List Table
    → Type 0 = λ tables. AreTables so_far.0 tables in subst P (sym c.as_slice.ensures.value) so_far.1 in
    let have : HaveSides so_far.0 c.as_slice.result.now =
    subst (HaveSides so_far.0) (sym c.as_slice.ensures.value) so_far.6 in
    let cell = c.in_ok-table.ensures so_far.0 so_far.2 tables have in
    let is = built-after_cell tech so_far.0 text cell.0 so_far.2 (cell-at texts i text c.requires.writable.cells lt at)
    cell.1 in
    let cells : List CheckedCell = so_far.0 ++ cell.0 ∷ [] in
    let pushed = c.in_ok-push.ensures.items in
    let P : List Table → Type 0 = λ tables. AreTables cells tables in (
      cells,
      subst P (sym pushed) (tables-push so_far.0 c.loop-text.tables.items cell.0 table so_far.1 cell.2),
      are_built-append tech so_far.0 cell.0 so_far.2 is.0 is.1,
      sym (cells-next tech so_far.0 texts i text cell.0 lt at cell.1) ∙ so_far.3,
      ap length pushed ∙ omega (arith, length_push c.loop-text.tables.items table, so_far.4),
      subst (HaveSteps cells) (sym pushed)
          (have_steps-push so_far.0 c.loop-text.tables.items cell.0 table so_far.1 so_far.5 cell.3),
      subst (HaveSides cells) (sym pushed)
          (have_sides-push tech so_far.0 c.loop-text.tables.items cell.0 table so_far.2 is.0 so_far.1 so_far.6
          cell.4),
      ready_left tech texts c.loop-text.ready _ c.len.result so_far.7 c.take_ready-made.ensures.rest,
    )

pub resolve_cell-requires-clause-ready : goal.resolve_cell-requires-clause-ready
resolve_cell-requires-clause-ready c =
    let so_far = c.loop-text.invariant in
    let here = element_at c.args.design.now.cells c.as_slice-text-items.result.now c.loop-text.text-index
    c.text-item.result c.as_slice-text-items.ensures c.loop-text-test.true c.text-item.is in
    let place : c.len.result ≡ c.loop-text.text-index =
    omega (arith, c.len.ensures, c.as_slice.ensures.len, ap length c.as_slice.ensures.value, so_far.4) in
    ready_taken c.args.tech.now c.args.design.now.cells c.loop-text.ready c.loop-text.text-index c.text-item.result
    c.take_ready-made.result so_far.7 here.0 here.1
    (c.take_ready-made.ensures.value ∙ ap (λ k. get_or c.loop-text.ready k None) place)

pub returns-in_err-table-clause-cells : goal.returns-in_err-table-clause-cells
returns-in_err-table-clause-cells c =
    let so_far = c.loop-text.invariant in
    let here = element_at c.args.design.now.cells c.as_slice-text-items.result.now c.loop-text.text-index
    c.text-item.result c.as_slice-text-items.ensures c.loop-text-test.true c.text-item.is in
    let lent = lent_tables so_far.0 c.loop-text.tables.items c.as_slice.result.now c.as_slice.ensures.value so_far.1
    so_far.6 in
    gives-residual c.from_residual.result c.in_err-table.field-0.0 _ c.from_residual.ensures.1
    (cells-refused c.args.tech.now so_far.0 c.args.design.now.cells c.loop-text.text-index c.text-item.result
    c.in_err-table.field-0.0 _ here.0 here.1 (c.in_err-table.ensures so_far.0 so_far.2 lent.0 lent.1) so_far.3)

pub returns-clause-number : goal.returns-clause-number
returns-clause-number c =
    let so_far = c.loop-text.invariant in
    let texts = c.args.design.now.cells in
    let read : known_cells c.args.tech.now texts ≡ Ok so_far.0 =
    sym so_far.3 ∙ cells-end c.args.tech.now so_far.0 texts c.loop-text.text-index
    (omega (arith, c.loop-text-test.false, ap length c.as_slice-text-items.ensures)) in
    ap (λ read. length (cells_or_none read)) read ∙ length-known_cells c.args.tech.now texts so_far.0 read

pub returns-clause-sound : goal.returns-clause-sound
returns-clause-sound c =
    let so_far = c.loop-text.invariant in
    let texts = c.args.design.now.cells in
    let tech = c.args.tech.now in
    let read : known_cells tech texts ≡ Ok so_far.0 =
    sym so_far.3 ∙ cells-end tech so_far.0 texts c.loop-text.text-index
    (omega (arith, c.loop-text-test.false, ap length c.as_slice-text-items.ensures)) in
    let P : CheckedCell → Type 0 = λ known. IsSound tech (cell_of known) in
    subst (λ read. All P (cells_or_none read)) (sym read)
    (all_of P so_far.0 (by_number P so_far.0 (begun []) (λ k lt. sound-known_at tech so_far.0 k so_far.2 lt)))
