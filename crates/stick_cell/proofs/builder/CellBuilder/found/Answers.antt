use Rattle.std.proofs.Common.{◌∙◌}
use Rattle.checked_cells.specs.{Paths.found_at, NameEntries.entries_of}
use Rattle.stick_cell.proofs.{KeptPaths.found_at-kept, WireSteps.found-known}
use Rattle.stick_cell.proofs.builder.CellBuilder.found.Goals as goal

pub returns : goal.returns
returns c = λ cells known are built.
    let a = c.args in
    found-known (found_at cells known a.path.now) c.found_at.result c.ok_or.result c.ok_or.ensures.value
    (c.found_at.ensures ∙ found_at-kept cells a.tables.now known (entries_of a.self.now.table.names) a.path.now are
    built.tells.names)
