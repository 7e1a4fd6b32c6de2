use Rattle.std.proofs.Common.{◌≡◌, ℕ, ◌<◌, true, false, get_or}
use Rattle.cons_graph.specs.EdgeNumbers.{edge_at}
use Rattle.round_log.specs.Looks.{is_forward}
use Rattle.liao_wong.specs.{Marked.is_marked, Worklist.WaitToo}
use Rattle.liao_wong.proofs.worklist.mark_backward.Given as goal

abbrev pub invariant-loop-i : goal.invariant-loop-i
invariant-loop-i l = record {
  grows : WaitToo l.edges l.order.variables.now l.initial.waiting l.waiting;
  all : (i : ℕ) → i < l.i → is_forward l.order.variables.now (edge_at l.edges (get_or l.numbers i 0)) ≡ false
      → is_marked l.waiting (get_or l.numbers i 0) ≡ true;
}
