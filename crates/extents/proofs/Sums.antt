-- Sums of lengths, up to a most that is counted.
use Rattle.std.proofs.Common.{◌≡◌, ℕ, ◌+◌, ◌<◌, ℤ, pos, List, [], ◌∷◌, ◌++◌, map, take, length, get_or, refl, sym, ap}
use Rattle.std.proofs.{Common.{◌∙◌, arith, int_lt, true, false, ◌⊎◌, inl, inr}, lemmas.Int.{ints, clamps}}
use Rattle.std.proofs.lemmas.{Int.fold-int_max_bounds, List.{map_more, take_all, length-map, get_or-map}}
use Rattle.std.{proofs.lemmas.List.Elements.All-get_or, specs.{Prelude.{◌≤ℤ◌, ◌<ℤ◌, ◌+ℤ◌, ◌-ℤ◌, int_le}, Int.int_min}}
use Rattle.plan_model.specs.{declared.plan.{PlanRow.PlanRow, PlanGrid.PlanGrid}, Rows.rows_of, Instances.total}
use Rattle.plan_model.specs.Instances.{grid_width, grid_height, left_of_grid, whole_height}

-- the sum grows at the end
pub total_more : (xs : List ℤ) (x : ℤ) → total (xs ++ x ∷ []) ≡ total xs +ℤ x
total_more [] x = omega (arith, ints)
total_more (y ∷ xs) x = let e = total_more xs x in omega (arith, ints, e)

-- no sum of lengths is below 0
pub total_positive : {A : Type 0} (size : A → ℤ) → ((a : A) → pos 0 ≤ℤ size a) → (xs : List A)
    → pos 0 ≤ℤ total (map size xs)
total_positive size up [] = omega (arith, ints)
total_positive size up (a ∷ more) = let h = up a in let t = total_positive size up more in omega (arith, ints, h, t)

-- the lengths of the first elements, and of one more
pub total_next : {A : Type 0} (size : A → ℤ) (xs : List A) (i : ℕ) (d : A) → i < length xs
    → total (map size (take (i + 1) xs)) ≡ total (map size (take i xs)) +ℤ size (get_or xs i d)
total_next size xs i d lt = ap total (map_more size xs i d lt)
    ∙ total_more (map size (take i xs)) (size (get_or xs i d))

-- what is added of the rows of a grid
pub rows_total : (size : List ℕ → ℤ) (rows : List PlanRow)
    → total (map size (map (λ (row : PlanRow). row.cells) rows))
    ≡ total (map (λ (row : PlanRow). size row.cells) rows)
rows_total size [] = refl
rows_total size (row ∷ rows) = ap (λ z. size row.cells +ℤ z) (rows_total size rows)

-- and of the grids of a plan
grids_total_of : (width : ℕ → ℤ) (widest : ℤ) (grids : List PlanGrid)
    → total (map (λ (rows : List (List ℕ)). grid_width width rows +ℤ widest) (map rows_of grids))
    ≡ total (map (λ (grid : PlanGrid). grid_width width (rows_of grid) +ℤ widest) grids)
grids_total_of width widest [] = refl
grids_total_of width widest (grid ∷ grids) =
    ap (λ z. (grid_width width (rows_of grid) +ℤ widest) +ℤ z) (grids_total_of width widest grids)

pub grids_total : (width : ℕ → ℤ) (widest : ℤ) (grids : List PlanGrid)
    → left_of_grid width widest (map rows_of grids) (length grids)
    ≡ total (map (λ (grid : PlanGrid). grid_width width (rows_of grid) +ℤ widest) grids)
grids_total width widest grids =
    let whole : take (length grids) (map rows_of grids) ≡ map rows_of grids =
    take_all (length grids) (map rows_of grids) (let n = length-map grids rows_of in omega (arith, n)) in
    ap (λ (gs : List (List (List ℕ))). total (map (λ (rows : List (List ℕ)). grid_width width rows +ℤ widest) gs))
    whole ∙ grids_total_of width widest grids

-- ---- the highest of some grids

-- the highest is at least each
pub highest_above : (height : ℕ → ℤ) (grids : List PlanGrid) (i : ℕ) (d : PlanGrid) → i < length grids
    → grid_height height (rows_of (get_or grids i d)) ≤ℤ whole_height height (map rows_of grids)
highest_above height grids i d lt =
    let all = map rows_of grids in
    let heights = map (grid_height height) all in
    let bounds = fold-int_max_bounds (pos 0) heights (whole_height height all) refl in
    let count : length all ≡ length grids = length-map grids rows_of in
    let counted : length heights ≡ length all = length-map all (grid_height height) in
    let each = All-get_or (λ (x : ℤ). x ≤ℤ whole_height height all) heights i (pos 0)
    (omega (arith, count, counted, lt)) bounds.1 in
    let at = get_or-map (grid_height height) all i (rows_of d) (pos 0) (omega (arith, count, lt)) in
    let grid : get_or all i (rows_of d) ≡ rows_of (get_or grids i d) = get_or-map rows_of grids i d (rows_of d) lt in
    rw grid at (rw at at each)

-- ---- tests

pub past_most : (most length : ℤ) → most <ℤ length → true ≡ int_lt most length
past_most most length lt = grind (arith, ints, lt)

-- what is counted reaches the first length past the most, and the space, exactly where the length without the space
-- is past the most
pub capped_past : (left width capped past most widest : ℤ) → capped ≡ int_min left past
    → past ≡ (most +ℤ widest) +ℤ pos 1 → width ≡ left -ℤ widest → int_le past capped ≡ int_lt most width
capped_past left width capped past most widest c p w = elim (lt_cases most width) [
  | inl (t, lt) ↦ le_true past capped (omega (arith, ints, clamps, c, p, w, lt)) ∙ sym t
  | inr (f, le) ↦ le_false past capped (omega (arith, ints, clamps, c, p, w, le)) ∙ sym f
]
  where
    lt_cases : (x y : ℤ) → ((int_lt x y ≡ true) × (x <ℤ y)) ⊎ ((int_lt x y ≡ false) × (y ≤ℤ x))
    lt_cases x y = grind (arith, ints)

    le_true : (x y : ℤ) → x ≤ℤ y → int_le x y ≡ true
    le_true x y le = grind (arith, ints, le)

    le_false : (x y : ℤ) → y <ℤ x → int_le x y ≡ false
    le_false x y lt = grind (arith, ints, lt)
