use Rattle.std.proofs.Common.{◌≡◌, ℕ, List, true, false, Ok, sym, ap, subst, ◌∙◌, rules}
use Rattle.stick_text.specs.{declared.fault.StickKind.TheVariants.PortWires, Reading.{◌>>=◌, demand}, Order.at_line}
use Rattle.checked_cells.specs.{CheckedCell.{CheckedCell, begun}, Sides.{side_entries, AreSidesOf}}
use Rattle.checked_cells.specs.declared.sides.SideMap.{SideMap}
use Rattle.stick_cell.{specs.CellBuilder.IsCellBuilder, proofs.{SidesKept.sides_none, LineLoop.{cell-by, fails-at}}}
use Rattle.stick_cell.proofs.{LineLoop.{fails-lines, tells-residual}, reading.read_cell.Goals.After-new-builder}
use Rattle.stick_cell.proofs.reading.read_cell.Goals as goal

-- what is kept before the first line
begins : (c : After-new-builder) (cells : List CheckedCell)
    → IsCellBuilder cells (begun c.args.text.now.name) c.new-builder.result
    × AreSidesOf cells (begun c.args.text.now.name) (side_entries c.new-builder.result.table.sides)
begins c cells =
    let name = c.args.text.now.name in
    let P : List ℕ → Type 0 = λ text. IsCellBuilder cells (begun text) c.new-builder.result in (
      subst P c.bytes.ensures (c.new-builder.ensures.builder cells),
      sides_none cells name
          (side_entries c.new-builder.result.table.sides) c.new-builder.ensures.sides,
    )

pub returns-in_err-read_lines : goal.returns-in_err-read_lines
returns-in_err-read_lines c = λ cells are tables have fresh.
    let text = c.args.text.now in
    let fault = c.in_err-read_lines.field-0.0 in
    let (is, sides) = begins ((goal.at.returns-in_err-read_lines c).After-new-builder) cells in
    tells-residual cells c.from_residual.result fault _ c.from_residual.ensures.1
    (fails-lines c.args.tech.now cells text fault fresh (c.in_err-read_lines.ensures cells are tables have is sides))

pub returns-then-not-is_wired : goal.returns-then-not-is_wired
returns-then-not-is_wired c = λ cells are tables have fresh.
    let text = c.args.text.now in
    let (is, sides) = begins ((goal.at.returns-then-not-is_wired c).After-new-builder) cells in
    let after = c.in_ok-read_lines.ensures cells are tables have is sides in
    let unwired : c.is_wired.result ≡ false = search rules in
    fails-at c.refused.result (record { line = text.end_line; kind = PortWires }) _
    c.refused.ensures
    (cell-by c.args.tech.now cells text true (Ok after.0) fresh after.1
    ∙ ap (λ b. at_line text.end_line (demand b PortWires) >>= (λ _. Ok after.0))
    (sym (c.is_wired.ensures cells after.0 after.2) ∙ unwired))

pub returns : goal.returns
returns c = λ cells are tables have fresh.
    let text = c.args.text.now in
    let (is, sides) = begins ((goal.at.returns c).After-new-builder) cells in
    let after = c.in_ok-read_lines.ensures cells are tables have is sides in
    let P : SideMap → Type 0 = λ map. AreSidesOf cells after.0 (side_entries map) in
    let wired : c.is_wired.result ≡ true = search rules in (
      after.0,
      cell-by c.args.tech.now cells text true (Ok after.0) fresh after.1
          ∙ ap (λ b. at_line text.end_line (demand b PortWires) >>= (λ _. Ok after.0))
          (sym (c.is_wired.ensures cells after.0 after.2) ∙ wired),
      c.finish.ensures.table cells after.0 after.2,
      c.finish.ensures.steps cells after.0 after.2,
      subst P (sym c.finish.ensures.sides) after.3,
    )
