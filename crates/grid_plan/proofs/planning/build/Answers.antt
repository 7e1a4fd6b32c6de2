use Rattle.std.{proofs.Common.{◌∙◌, List, ℕ, length, ap}, specs.List.flat_map}
use Rattle.plan_model.specs.Rows.{above, beside}
use Rattle.grid_plan.proofs.PairsWithin.{above_within, beside_within, lent_within}
use Rattle.grid_plan.proofs.planning.build.Goals as goal

pub ports-requires-clause-pairs : goal.ports-requires-clause-pairs
ports-requires-clause-pairs c =
    lent_within c.args.masters.items c.as_slice-4.result.now (flat_map above c.args.grids.items)
    c.as_slice-5.result.now c.as_slice-4.ensures.value
    (◌∙◌ {A = List (ℕ × ℕ)} c.as_slice-5.ensures.value
    (c.in_ok-over.ensures ∙ ap (flat_map above) c.as_slice-3.ensures.value)) (above_within
    (length c.args.masters.items) c.args.grids.items c.requires.grids)

pub ports-requires-2-clause-pairs : goal.ports-requires-2-clause-pairs
ports-requires-2-clause-pairs c =
    lent_within c.args.masters.items c.as_slice-7.result.now (flat_map beside c.args.grids.items)
    c.as_slice-8.result.now c.as_slice-7.ensures.value
    (◌∙◌ {A = List (ℕ × ℕ)} c.as_slice-8.ensures.value
    (c.in_ok-next.ensures ∙ ap (flat_map beside) c.as_slice-6.ensures.value)) (beside_within
    (length c.args.masters.items) c.args.grids.items c.requires.grids)
