use Rattle.compact_run.proofs.JogLaws.{widen_no_cell}
use Rattle.compact_run.proofs.laws.jogs_widen_no_cell.Goals as goal

pub returns : goal.returns
returns c = widen_no_cell
