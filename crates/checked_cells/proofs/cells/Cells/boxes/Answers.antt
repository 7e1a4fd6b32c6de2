use Rattle.std.proofs.Common.{arith}
use Rattle.checked_cells.proofs.TableReads.{vec_len-tables, table_read}
use Rattle.checked_cells.proofs.cells.Cells.boxes.Goals as goal

pub index-requires : goal.index-requires
index-requires c = omega (arith, vec_len-tables c.args.self.now c.requires.resolved, c.requires.within)

pub returns : goal.returns
returns c =
    (table_read c.args.self.now c.args.cell c.index.result.now c.requires.resolved c.requires.within
    c.index.ensures).tells.boxes
