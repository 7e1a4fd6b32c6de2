use Rattle.std.proofs.Common.{sym, subst}
use Rattle.checked_cells.specs.{declared.table.Table.Table, Steps.AreStepsOf, Tables.IsTableOf}
use Rattle.stick_cell.proofs.Finishing.{tells_still, ports-forgotten, ports-told}
use Rattle.stick_cell.proofs.builder.CellBuilder.finish.Goals.{then-table-gt-MOST_ITEMS, else-table-gt-MOST_ITEMS}
use Rattle.stick_cell.proofs.builder.CellBuilder.finish.Goals as goal

pub returns-clause-table : goal.returns-clause-table
returns-clause-table c = λ cells known is.
    let builder = c.args.self in
    let P : Table → Type 0 = λ table. IsTableOf known table in
    elim c.if-table-gt-MOST_ITEMS.branch [
      | then-table-gt-MOST_ITEMS w ↦
          subst P (sym w.table-is) (record {
            tells = tells_still known builder.table builder.table.sides w.forget_wires.new.ports is.tells;
            ports = ports-forgotten cells known builder w.forget_wires.new.ports.items is
                w.if-table-gt-MOST_ITEMS.true w.forget_wires.ensures;
          })
      | else-table-gt-MOST_ITEMS w ↦
          subst P (sym w.table-is)
          (record { tells = is.tells; ports = ports-told cells known builder is w.if-table-gt-MOST_ITEMS.false })
    ]

pub returns-clause-steps : goal.returns-clause-steps
returns-clause-steps c = λ cells known is.
    let P : Table → Type 0 = λ table. AreStepsOf cells known table.steps.items in
    elim c.if-table-gt-MOST_ITEMS.branch [
      | then-table-gt-MOST_ITEMS w ↦ subst P (sym w.table-is) is.steps
      | else-table-gt-MOST_ITEMS w ↦ subst P (sym w.table-is) is.steps
    ]
