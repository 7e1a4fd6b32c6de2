use Rattle.std.{proofs.Common.{◌≡◌, ◌++◌, flat_map}, specs.List.range_with_len}
use Rattle.pass_run.specs.Report.{master_text}
use Rattle.pass_run.proofs.text.pass_text.Given as goal

abbrev pub invariant-loop-m : goal.invariant-loop-m
invariant-loop-m l = l.text.items ≡ l.initial.text.items
    ++ flat_map (master_text l.masters l.listed.graph.edges l.step) (range_with_len 0 l.m)
