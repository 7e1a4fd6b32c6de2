use Rattle.std.{proofs.Common.{◌≡◌, ◌≤◌, All, length}, specs.List.sum}
use Rattle.cons_graph.specs.Solutions.{value_of}
use Rattle.slack_pack.specs.Slacks.{none_yet, AreSlacks}
use Rattle.slack_pack.proofs.moving.most.Given as goal

abbrev pub invariant-rounds : goal.invariant-rounds
invariant-rounds l = record {
  counted : length l.slacks.items ≡ l.g.vars;
  capped : All (λ s. s ≤ none_yet) l.slacks.items;
  are : AreSlacks l.g l.far (value_of l.x) l.slacks.items;
}

abbrev pub decreases-rounds : goal.decreases-rounds
decreases-rounds l = sum l.slacks.items
