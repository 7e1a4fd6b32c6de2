use Rattle.std.proofs.{Common.{ℕ, List, take, sym, subst}, lemmas.List.take_more}
use Rattle.graph_search.specs.Search.{AreNeighbours}
use Rattle.cell_nets.proofs.Attachments.{neighbours_push}
use Rattle.design_nets.proofs.neighbours.neighbours.Goals as goal

pub loop-a-preserved : goal.loop-a-preserved
loop-a-preserved c =
    let links : List (ℕ × ℕ) = c.args.links.now in
    let i = c.loop-a.a-index in
    let none : ℕ × ℕ = (0, 0) in
    subst (λ (ls : List (ℕ × ℕ)). AreNeighbours c.args.count ls c.add-in-loop-a.new.lists.items)
    (sym (take_more links i none c.loop-a-test.true))
    (neighbours_push c.args.count (take i links) _ _ c.loop-a.lists.items c.add.new.lists.items
    c.add-in-loop-a.new.lists.items c.in_ok-add.ensures c.in_ok-add-2.ensures c.loop-a.invariant)
