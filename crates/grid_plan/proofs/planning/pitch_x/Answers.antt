use Rattle.std.proofs.Common.{◌≡◌, ◌∙◌, List, ℕ, All, ap, sym, subst, map, filter, IfOk}
use Rattle.std.{proofs.lemmas.List.Folds.flat_map-map, specs.List.flat_map}
use Rattle.plan_model.specs.{Plan.{same_of, is_of_two}, Rows.{beside, columns_of, firsts, is_pair_either_way}}
use Rattle.grid_plan.{specs.Small.IsSmall, proofs.PairsWithin.columns_within}
use Rattle.grid_plan.proofs.planning.pitch_x.Goals as goal

pub each_same-requires : goal.each_same-requires
each_same-requires c =
    let P : List (ℕ × ℕ) → Type 0 = All IsSmall in
    let grids = c.args.grids.now in
    let turned : c.as_slice.result.now ≡ map columns_of grids =
    ◌∙◌ {A = List (List (List ℕ))} c.as_slice.ensures.value c.in_ok-columns.ensures in
    let pairs : c.as_slice-2.result.now ≡ flat_map beside (map columns_of grids) =
    ◌∙◌ {A = List (ℕ × ℕ)} c.as_slice-2.ensures.value (c.in_ok-pairs.ensures ∙ ap (flat_map beside) turned) in
    subst P (sym pairs) (columns_within 256 grids c.requires)

pub returns : goal.returns
returns c =
    let grids = c.args.grids.now in
    let turned : c.as_slice.result.now ≡ map columns_of grids =
    ◌∙◌ {A = List (List (List ℕ))} c.as_slice.ensures.value c.in_ok-columns.ensures in
    let pairs : c.as_slice-2.result.now ≡ flat_map beside (map columns_of grids) =
    ◌∙◌ {A = List (ℕ × ℕ)} c.as_slice-2.ensures.value (c.in_ok-pairs.ensures ∙ ap (flat_map beside) turned) in
    let R : List (ℕ × ℕ) → Type 0 =
    λ ps. IfOk c.each_same.result
    (λ same. same.items ≡ map same_of (firsts is_pair_either_way (filter is_of_two ps))) in
    subst R (pairs ∙ flat_map-map beside columns_of grids) c.each_same.ensures
