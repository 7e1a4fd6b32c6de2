use Rattle.std.{proofs.Common.{◌≡◌, ◌++◌, take}, specs.List.flat_map}
use Rattle.sym_items.specs.{declared.items.Item.Item, Transposed.item_along}
use Rattle.expand.specs.Structure.{extent_edges}
use Rattle.expand.proofs.inequalities.push_extents.Given as goal

abbrev pub invariant-loop-item : goal.invariant-loop-item
invariant-loop-item l = l.edges.items ≡ l.initial.edges.items
    ++ flat_map (λ (i : Item). extent_edges (item_along l.axis i)) (take l.item-index l.items)
