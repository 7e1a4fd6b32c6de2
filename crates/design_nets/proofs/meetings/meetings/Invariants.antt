use Rattle.std.proofs.Common.{take}
use Rattle.design_nets.specs.Meetings.{AreMeetings}
use Rattle.design_nets.proofs.meetings.meetings.Given as goal

abbrev pub invariant-loop-met : goal.invariant-loop-met
invariant-loop-met l = AreMeetings l.nets (take l.met-index l.matches) l.table.items
