use Rattle.std.proofs.Common.{◌≡◌, ℕ, suc, ◌+◌, ◌*◌, ◌≤◌, length}
use Rattle.cons_graph.specs.EdgeNumbers.{edge_at}
use Rattle.edit_session.specs.Raised.{IsRaised, room_left}
use Rattle.edit_session.proofs.raising.look_from.Given as goal

abbrev pub invariant-loop-older : goal.invariant-loop-older
invariant-loop-older l = record {
  within : l.older ≤ length l.edges;
  leaves : (k : ℕ) → l.older ≡ suc k → (edge_at l.edges k).from ≡ l.v;
  raised : IsRaised (length l.initial.x.items) l.tail l.edges l.x.items l.waiting.marks l.v l.older;
  less : 2 * room_left l.x.items + l.waiting.count ≤ 2 * room_left l.initial.x.items + l.initial.waiting.count;
}

abbrev pub decreases-loop-older : goal.decreases-loop-older
decreases-loop-older l = l.older
