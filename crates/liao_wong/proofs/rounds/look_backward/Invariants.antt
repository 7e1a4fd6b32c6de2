use Rattle.std.{proofs.Common.{◌≡◌, ◌-◌, ◌≤◌, length}, specs.List.range_with_len}
use Rattle.cons_graph.specs.EdgeNumbers.{edge_at}
use Rattle.round_log.specs.{Looks.backward_numbers, Rounds.backward_part}
use Rattle.liao_wong.{specs.{Going.{IsReady, backward_of}, Worklist.IsWorklist}, proofs.Worklists.AheadWait}
use Rattle.liao_wong.proofs.rounds.look_backward.Given as goal

abbrev pub invariant-loop-k : goal.invariant-loop-k
invariant-loop-k l = record {
  ready : IsReady l.g.vars l.g.edges l.order.variables.now l.order.places.items l.raises;
  left : backward_part (edge_at l.g.edges)
      (backward_of l.g.edges l.order.variables.now (range_with_len l.at (length l.g.edges - l.at))) l.raises.raises
      ≡ backward_part (edge_at l.g.edges) (backward_numbers l.g.edges l.order.variables.now) l.initial.raises.raises;
  worklist : IsWorklist l.g.edges l.order.variables.now l.work.ready l.work.waiting l.raises.raises;
  ahead : AheadWait l.g.edges l.order.variables.now l.work.ready l.work.waiting l.at;
  in_list : l.at ≤ length l.g.edges;
}

abbrev pub decreases-loop-k : goal.decreases-loop-k
decreases-loop-k l = length l.g.edges - l.at
