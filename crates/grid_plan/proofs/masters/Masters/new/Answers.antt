use Rattle.std.{proofs.Common.{List, ℕ, sym, subst, rules, nat_eq}, specs.List.IsDistinct}
use Rattle.grid_plan.proofs.Placing.{none_placed}
use Rattle.grid_plan.proofs.masters.Masters.new.Goals as goal

pub invariant_of-result : goal.invariant_of-result
unfolding IsDistinct
invariant_of-result c = record {
  room = search rules;
  apart = (let P : List ℕ → Type 0 = IsDistinct nat_eq in subst P (sym c.new.ensures.items) tt);
  below = search rules;
  told = none_placed c.in_ok-vec.field-0.items c.new.result.items
      (c.in_ok-vec.ensures.items_if_clones_equal (λ y e. search rules)) c.new.ensures.items;
}
