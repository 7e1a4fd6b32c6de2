use Rattle.std.{proofs.Common.{◌≡◌, ◌++◌, map}, specs.List.range_with_len}
use Rattle.design_nets.specs.Instances.{instance_in_row}
use Rattle.design_nets.proofs.instances.push_row.Given as goal

abbrev pub invariant-loop-col : goal.invariant-loop-col
invariant-loop-col l = l.instances.items ≡ l.initial.instances.items
    ++ map (instance_in_row l.grid l.row l.cells) (range_with_len 0 l.col)
