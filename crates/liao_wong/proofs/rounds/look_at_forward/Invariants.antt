use Rattle.std.proofs.Common.{◌≡◌, ℕ, ◌<◌, true, false, drop, fold, get_or}
use Rattle.round_log.specs.Looks.{look, is_forward}
use Rattle.cons_graph.specs.EdgeNumbers.{edge_at}
use Rattle.liao_wong.specs.{Going.{IsReady, forward_of}, Marked.is_marked, Worklist.IsWorklist}
use Rattle.liao_wong.proofs.Looked.{HasLookedUpTo}
use Rattle.liao_wong.proofs.rounds.look_at_forward.Given as goal

abbrev pub invariant-loop-i : goal.invariant-loop-i
invariant-loop-i l = record {
  ready : IsReady l.initial.raises.vars l.edges l.order.variables.now l.order.places.items l.raises;
  left : fold (look (edge_at l.edges)) l.raises.raises
      (forward_of l.edges l.order.variables.now (drop l.i l.numbers))
      ≡ fold (look (edge_at l.edges)) l.initial.raises.raises (forward_of l.edges l.order.variables.now l.numbers);
  worklist : IsWorklist l.edges l.order.variables.now l.work.ready l.work.waiting l.raises.raises;
  wait : (j : ℕ) → j < l.i → is_forward l.order.variables.now (edge_at l.edges (get_or l.numbers j 0)) ≡ false
      → is_marked l.work.waiting (get_or l.numbers j 0) ≡ true;
  looked : HasLookedUpTo l.edges l.order.variables.now l.numbers l.i l.tail l.initial.work.ready l.work.ready
      l.raises.raises;
}
