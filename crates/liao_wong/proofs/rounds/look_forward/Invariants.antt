use Rattle.std.{proofs.Common.{◌≡◌, ◌-◌, ◌≤◌, drop, fold, length}, specs.List.flat_map}
use Rattle.round_log.specs.{Looks.look, Rounds.{forward_part, schedule_of}}
use Rattle.cons_graph.specs.EdgeNumbers.{edge_at}
use Rattle.liao_wong.specs.{Going.{IsReady, group_of}, Marked.AreUnmarked, Worklist.IsWorklist}
use Rattle.liao_wong.proofs.rounds.look_forward.Given as goal

abbrev pub invariant-loop-place : goal.invariant-loop-place
invariant-loop-place l = record {
  ready : IsReady l.g.vars l.g.edges l.order.variables.now l.order.places.items l.raises;
  left : fold (look (edge_at l.g.edges)) l.raises.raises
      (flat_map (group_of l.g.edges l.order.variables.now) (drop l.at l.order.variables.now))
      ≡ forward_part (schedule_of l.g.edges l.order.variables.now) l.initial.raises.raises;
  worklist : IsWorklist l.g.edges l.order.variables.now l.work.ready l.work.waiting l.raises.raises;
  after : AreUnmarked l.work.ready 0 l.at;
  in_order : l.at ≤ length l.order.variables.now;
}

abbrev pub decreases-loop-place : goal.decreases-loop-place
decreases-loop-place l = length l.order.variables.now - l.at
