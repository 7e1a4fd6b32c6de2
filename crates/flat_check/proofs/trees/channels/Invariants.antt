use Rattle.std.proofs.Common.{◌≡◌, map, take}
use Rattle.flat_check.proofs.ChannelEntries.{entry_of_crossing}
use Rattle.flat_check.proofs.trees.channels.Given as goal

abbrev pub invariant-loop-crossing : goal.invariant-loop-crossing
invariant-loop-crossing l = l.entries.items ≡ map entry_of_crossing (take l.crossing-index l.crossings)
