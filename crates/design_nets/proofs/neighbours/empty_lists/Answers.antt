use Rattle.std.proofs.Common.{ℕ, List, [], sym, subst, ◌+◌}
use Rattle.smallvec.specs.SmallVec.{SmallVec}
use Rattle.graph_search.specs.Search.{AreNeighbours}
use Rattle.cell_nets.proofs.Attachments.{empty_more}
use Rattle.design_nets.proofs.neighbours.empty_lists.Goals as goal

pub loop-preserved : goal.loop-preserved
loop-preserved c =
    let P : List (SmallVec ℕ) → Type 0 = λ lists. AreNeighbours (c.loop.counter + 1) [] lists in
    subst P (sym {A = List (SmallVec ℕ)} c.in_ok-push.ensures.items)
    (empty_more c.loop.counter c.loop.lists.items c.new.result c.new.ensures.items c.loop.invariant)
