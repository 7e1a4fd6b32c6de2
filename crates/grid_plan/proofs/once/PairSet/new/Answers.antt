use Rattle.std.proofs.Common.{rules}
use Rattle.grid_plan.proofs.FirstPlaces.{none_told}
use Rattle.grid_plan.proofs.once.PairSet.new.Goals as goal

pub invariant_of-result : goal.invariant_of-result
invariant_of-result c = record {
  room = search rules;
  told = none_told c.in_ok-vec.field-0.items c.new.result.items (c.in_ok-vec.ensures.items_if_clones_equal (λ y e. e))
      c.new.ensures.items;
}
