use Rattle.checked_cells.specs.Lines.{after_form}
use Rattle.stick_cell.proofs.{Judged.refused_where, Refused.line}
use Rattle.stick_cell.proofs.refusals.a_refused_line_breaks_a_rule.Goals as goal

pub returns-clause-refused : goal.returns-clause-refused
returns-clause-refused c tech cells known form kind is = (line tech cells known form).refused kind is

pub returns-clause-broken : goal.returns-clause-broken
returns-clause-broken c tech cells known form kind wrong =
    refused_where (after_form tech cells known form) kind (line tech cells known form) wrong
