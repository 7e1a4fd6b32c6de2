use Rattle.checked_cells.specs.Lines.{after_cell}
use Rattle.stick_cell.proofs.{Judged.refused_where, Refused.cell}
use Rattle.stick_cell.proofs.refusals.a_refused_cell_breaks_a_rule.Goals as goal

pub returns-clause-refused : goal.returns-clause-refused
returns-clause-refused c tech cells text fault is = (cell tech cells text).refused fault is

pub returns-clause-broken : goal.returns-clause-broken
returns-clause-broken c tech cells text fault wrong =
    refused_where (after_cell tech cells text) fault (cell tech cells text) wrong
