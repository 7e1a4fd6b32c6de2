use Rattle.std.proofs.Common.{◌∙◌, arith}
use Rattle.checked_cells.proofs.TableReads.{vec_len-tables, table_read}
use Rattle.checked_cells.proofs.cells.Cells.ports.Goals as goal

pub index-table-requires : goal.index-table-requires
index-table-requires c = omega (arith, vec_len-tables c.args.self.now c.requires.resolved, c.requires.within)

pub returns : goal.returns
returns c = c.as_slice.ensures.value
    ∙ (table_read c.args.self.now c.args.cell c.index-table.result.now c.requires.resolved c.requires.within
    c.index-table.ensures).ports
