use Rattle.std.proofs.Common.{◌∙◌, List, ℕ, All, sym, subst}
use Rattle.grid_plan.{specs.Small.IsSmall, proofs.PairsWithin.beside_within}
use Rattle.grid_plan.proofs.planning.pitch_y.Goals as goal

pub each_same-requires : goal.each_same-requires
each_same-requires c =
    let P : List (ℕ × ℕ) → Type 0 = All IsSmall in
    subst P (sym (◌∙◌ {A = List (ℕ × ℕ)} c.as_slice.ensures.value c.in_ok-pairs.ensures))
    (beside_within 256 c.args.grids.now c.requires)
