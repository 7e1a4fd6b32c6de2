-- The calls of a plan's instances are of its masters, and their shifts are in reach.
use Rattle.std.proofs.{Common.{◌≡◌, ℕ, ◌<◌, ℤ, All, List, [], length, sym, subst, arith}, lemmas.Int.ints}
use Rattle.std.specs.List.{AllByRecursion, range_with_len}
use Rattle.list_facts.proofs.Elements.{all_map, all_flat, all_numbers, all_of}
use Rattle.plan_model.specs.Instances.{InstancePlace, spot, grid_at, spots_in_row, spots_in_grid, spots_of}
use Rattle.plan_model.specs.{Plan.AreOfMasters, Rows.row_at}
use Rattle.mask_out.specs.{declared.drawing.Call.Call, Pictures.{call_at, calls_of, IsDrawable, IsCallOf}}

-- the call of one instance
call_in_reach : (count : ℕ) (width height : ℕ → ℤ) (widest : ℤ) (grids : List (List (List ℕ)))
    → All (AreOfMasters count) grids → IsDrawable width height widest grids
    → (g r c : ℕ) → g < length grids → r < length (grid_at grids g) → c < length (row_at (grid_at grids g) r)
    → IsCallOf count (call_at width height widest grids (spot g r c))
call_in_reach count width height widest grids of reach g r c in_grids in_rows in_row =
    let grid = reach.across g in_grids in
    let across = (reach.each g in_grids).across r in_rows c (omega arith) in
    let up = (reach.each g in_grids).up r (omega arith) in
    record {
      symbol = of g [] in_grids r [] in_rows c 0 in_row;
      x = (omega (arith, ints, grid.0, across.0), omega (arith, ints, grid.1, across.1));
      y = (omega (arith, ints, up.0), omega (arith, ints, up.1));
    }

pub calls_in_reach : (count : ℕ) (width height : ℕ → ℤ) (widest : ℤ) (grids : List (List (List ℕ)))
    → All (AreOfMasters count) grids → IsDrawable width height widest grids
    → All (IsCallOf count) (calls_of width height widest grids)
calls_in_reach count width height widest grids of reach =
    let call = call_at width height widest grids in
    let P : InstancePlace → Type 0 = λ s. IsCallOf count (call s) in
    let each : AllByRecursion P (spots_of grids) =
    all_flat P (spots_in_grid grids) (range_with_len 0 (length grids))
    (all_numbers (λ g. AllByRecursion P (spots_in_grid grids g)) 0 (length grids) (λ g _ in_grids.
    all_flat P (spots_in_row g (grid_at grids g)) (range_with_len 0 (length (grid_at grids g)))
    (all_numbers (λ r. AllByRecursion P (spots_in_row g (grid_at grids g) r)) 0 (length (grid_at grids g))
    (λ r _ in_rows.
    all_map P (spot g r) (range_with_len 0 (length (row_at (grid_at grids g) r)))
    (all_numbers (λ c. P (spot g r c)) 0 (length (row_at (grid_at grids g) r)) (λ c _ in_row.
    call_in_reach count width height widest grids of reach g r c (omega (arith, in_grids)) (omega (arith, in_rows))
    (omega (arith, in_row)))))))) in
    all_of (IsCallOf count) (calls_of width height widest grids) (all_map (IsCallOf count) call (spots_of grids) each)

-- the same of as many symbols, and of the same calls
pub carried_over : (count n : ℕ) (calls other : List Call) → count ≡ n → other ≡ calls → All (IsCallOf count) calls
    → All (IsCallOf n) other
carried_over count n calls other counted same h =
    subst (λ k. All (IsCallOf k) other) counted (subst (All (IsCallOf count)) (sym same) h)
