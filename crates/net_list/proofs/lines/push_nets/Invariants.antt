use Rattle.std.proofs.Common.{◌≡◌, ◌++◌, drop}
use Rattle.net_list.specs.Counts.{counts_lines}
use Rattle.net_list.proofs.lines.push_nets.Given as goal

abbrev pub invariant-loop-net : goal.invariant-loop-net
invariant-loop-net l = l.out.items ++ counts_lines l.net (drop l.net l.counts) ≡ l.initial.out.items
    ++ counts_lines 0 l.counts
