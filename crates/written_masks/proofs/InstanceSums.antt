-- Sums over all instances, by the masters that stand in the rows.
use Rattle.std.{proofs.Common.{◌≡◌, ℕ, List, [], length, sym, ◌∙◌}, specs.List.{range_with_len, sum_by}}
use Rattle.plan_model.specs.Instances.{InstancePlace, spot, grid_at, master_at_spot, spots_in_row, spots_in_grid}
use Rattle.plan_model.specs.{Instances.spots_of, Rows.row_at}
use Rattle.master_counts.proofs.Sums.{sum_every, sum_images}
use Rattle.written_masks.proofs.Sums.{sum_joined, sum_numbers, sum_ones}

-- what an instance of a master adds
abbrev at_spot : (ℕ → ℕ) → List (List (List ℕ)) → InstancePlace → ℕ
at_spot f grids p = f (master_at_spot grids p)

row_sum : (f : ℕ → ℕ) (grids : List (List (List ℕ))) (g r : ℕ)
    → sum_by (at_spot f grids) (spots_in_row g (grid_at grids g) r) ≡ sum_by f (row_at (grid_at grids g) r)
row_sum f grids g r =
    let row : List ℕ = row_at (grid_at grids g) r in
    sum_images (at_spot f grids) (spot g r) (range_with_len 0 (length row)) ∙ sum_numbers f 0 row

grid_sum : (f : ℕ → ℕ) (grids : List (List (List ℕ))) (g : ℕ)
    → sum_by (at_spot f grids) (spots_in_grid grids g) ≡ sum_by (sum_by f) (grid_at grids g)
grid_sum f grids g =
    let rows : List (List ℕ) = grid_at grids g in
    let numbers : List ℕ = range_with_len 0 (length rows) in
    sum_joined (at_spot f grids) (spots_in_row g rows) numbers
    ∙ (sum_every (λ r. sum_by (at_spot f grids) (spots_in_row g rows r)) (λ r. sum_by f (row_at rows r)) numbers
    (row_sum f grids g) ∙ sum_numbers (sum_by f) [] rows)

-- of all instances
pub instance_sum : (f : ℕ → ℕ) (grids : List (List (List ℕ)))
    → sum_by (at_spot f grids) (spots_of grids) ≡ sum_by (sum_by (sum_by f)) grids
instance_sum f grids =
    let numbers : List ℕ = range_with_len 0 (length grids) in
    sum_joined (at_spot f grids) (spots_in_grid grids) numbers
    ∙ (sum_every (λ g. sum_by (at_spot f grids) (spots_in_grid grids g)) (λ g. sum_by (sum_by f) (grid_at grids g))
    numbers (grid_sum f grids) ∙ sum_numbers (sum_by (sum_by f)) [] grids)

-- how many they are
pub spots_counted : (grids : List (List (List ℕ))) → length (spots_of grids) ≡ sum_by (sum_by length) grids
spots_counted grids =
    let one : ℕ → ℕ = λ m. 1 in
    let row : (r : List ℕ) → sum_by one r ≡ length r = λ r. sum_ones r in
    let rows : (g : List (List ℕ)) → sum_by (sum_by one) g ≡ sum_by length g =
    λ g. sum_every (sum_by one) length g row in
    sym (sum_ones (spots_of grids))
    ∙ (instance_sum one grids ∙ sum_every (sum_by (sum_by one)) (sum_by length) grids rows)
