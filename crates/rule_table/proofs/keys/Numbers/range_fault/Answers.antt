use Rattle.std.proofs.Common.{sym}
use Rattle.rule_table.proofs.Ranges.{in_range}
use Rattle.rule_table.proofs.keys.Numbers.range_fault.Goals as goal

pub returns-in-None-clause-within : goal.returns-in-None-clause-within
returns-in-None-clause-within c = in_range _ (sym c.in-None.ensures)
