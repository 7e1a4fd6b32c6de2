use Rattle.stick_cell.proofs.PortsSeen.{light_seen, each_seen}
use Rattle.stick_cell.proofs.ports.ports_are_seen.Goals as goal

pub returns-clause-light : goal.returns-clause-light
returns-clause-light c = light_seen

pub returns-clause-each : goal.returns-clause-each
returns-clause-each c = each_seen
