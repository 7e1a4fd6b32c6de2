use Rattle.checked_cells.specs.Wires.{wire_between}
use Rattle.stick_cell.proofs.{Judged.refused_where, Refused.wire}
use Rattle.stick_cell.proofs.wires.a_refused_wire_breaks_a_rule.Goals as goal

pub returns-clause-refused : goal.returns-clause-refused
returns-clause-refused c tech wired wires layer a b width kind is =
    (wire tech wired wires layer a b width).refused kind is

pub returns-clause-broken : goal.returns-clause-broken
returns-clause-broken c tech wired wires layer a b width kind wrong =
    refused_where (wire_between tech wired wires layer a b width) kind (wire tech wired wires layer a b width) wrong
