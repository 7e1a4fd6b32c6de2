-- Sums of the first widths or heights, with one more.
use Rattle.std.proofs.Common.{◌≡◌, ℕ, zero, suc, ◌+◌, ◌^◌, ◌<◌, ℤ, pos, ◌+ℤ◌, ◌≤ℤ◌, get_or, List, [], ◌∷◌, ◌++◌, length}
use Rattle.std.proofs.{Common.{map, take, sym, ap, subst, ◌∙◌, arith}, lemmas.{Int.ints, List.{take_more, take_all}}}
use Rattle.std.{proofs.lemmas.List.map-append, specs.Prelude.slice_index}
use Rattle.plan_model.specs.Instances.{total, row_height, grid_width, grid_at, left_in_row, bottom_in_grid}
use Rattle.plan_model.specs.{Instances.left_of_grid, Rows.{first_row, row_at}}
use Rattle.mask_out.specs.Pictures.{IsInReach, IsRowInReach, IsGridInReach, IsDrawable}

total_push : (xs : List ℤ) (y : ℤ) → total (xs ++ y ∷ []) ≡ total xs +ℤ y
total_push [] y = omega (arith, ints)
total_push (x ∷ xs) y = omega (arith, ints, total_push xs y)

pub total_more : {X : Type 0} (f : X → ℤ) (xs : List X) (i : ℕ) (d : X) → i < length xs
    → total (map f (take (i + 1) xs)) ≡ total (map f (take i xs)) +ℤ f (get_or xs i d)
total_more f xs i d lt =
    ap (λ ys. total (map f ys)) (take_more xs i d lt)
    ∙ (ap total (map-append f (take i xs) (get_or xs i d ∷ [])) ∙ total_push (map f (take i xs)) (f (get_or xs i d)))

-- a step leads from one sum to the next, and both can be reckoned with
pub record LeadsOn (before step next : ℤ) : Type 0 where
  pub sum : next ≡ before +ℤ step
  pub before_low : pos 0 ≤ℤ before
  pub before_high : before ≤ℤ pos (2 ^ 40)
  pub next_low : pos 0 ≤ℤ next
  pub next_high : next ≤ℤ pos (2 ^ 40)

leads_on : (before step other next : ℤ) → IsInReach before → IsInReach next → next ≡ before +ℤ other → step ≡ other
    → LeadsOn before step next
leads_on before step other next low high sum is = record {
  sum = sum ∙ ap (λ z. before +ℤ z) (sym is);
  before_low = low.0;
  before_high = low.1;
  next_low = high.0;
  next_high = high.1;
}

-- one instance more, one row more
pub past_instance : (width : ℕ → ℤ) (row : List ℕ) (c : ℕ) (step : ℤ) → IsRowInReach width row → c < length row
    → step ≡ width (slice_index row c)
    → LeadsOn (left_in_row width row c) step (left_in_row width row (c + 1))
past_instance width row c step reach lt is =
    leads_on _ step (width (slice_index row c)) _ (reach c (omega arith)) (reach (c + 1) (omega arith))
    (total_more width row c 0 lt) is

pub past_row : (width height : ℕ → ℤ) (rows : List (List ℕ)) (r : ℕ) (row : List ℕ) (step : ℤ)
    → IsGridInReach width height rows → r < length rows → row_at rows r ≡ row
    → step ≡ row_height height row → LeadsOn (bottom_in_grid height rows r) step (bottom_in_grid height rows (r + 1))
past_row width height rows r row step reach lt here is =
    leads_on _ step (row_height height (row_at rows r)) _ (reach.up r (omega arith)) (reach.up (r + 1) (omega arith))
    (total_more (row_height height) rows r [] lt) (is ∙ ap (row_height height) (sym here))

-- the first row of a grid, if there is one
pub first_in_reach : (width height : ℕ → ℤ) (rows : List (List ℕ)) → IsGridInReach width height rows
    → IsRowInReach width (first_row rows)
first_in_reach width height [] grid zero le = (omega arith, omega arith)
first_in_reach width height [] grid (suc c) le = absurd (omega (arith, le))
first_in_reach width height (row ∷ rows) grid c le = grid.across 0 (omega arith) c le

grid_in_reach : (width height : ℕ → ℤ) (rows : List (List ℕ)) → IsGridInReach width height rows
    → IsInReach (grid_width width rows)
grid_in_reach width height rows reach =
    let first = first_row rows in
    subst (λ row. IsInReach (total (map width row))) (take_all (length first) first (omega arith))
    (first_in_reach width height rows reach (length first) (omega arith))

-- a grid and a space lead from the left border of the grid to that of the next
pub record LeadsPast (before wide space next : ℤ) : Type 0 where
  pub sum : next ≡ before +ℤ (wide +ℤ space)
  pub before_low : pos 0 ≤ℤ before
  pub before_high : before ≤ℤ pos (2 ^ 40)
  pub wide_low : pos 0 ≤ℤ wide
  pub wide_high : wide ≤ℤ pos (2 ^ 40)

pub past_grid : (width height : ℕ → ℤ) (widest : ℤ) (grids : List (List (List ℕ))) (g : ℕ) (rows : List (List ℕ))
    (wide space : ℤ)
    → IsDrawable width height widest grids → g < length grids → grid_at grids g ≡ rows → wide ≡ grid_width width rows
    → space ≡ widest
    → LeadsPast (left_of_grid width widest grids g) wide space (left_of_grid width widest grids (g + 1))
past_grid width height widest grids g rows wide space reach lt here is apart =
    let same : wide ≡ grid_width width (grid_at grids g) = is ∙ ap (grid_width width) (sym here) in
    let own = grid_in_reach width height (grid_at grids g) (reach.each g lt) in
    let before = reach.across g lt in
    let more = total_more (λ one. grid_width width one +ℤ widest) grids g [] lt in
    record {
      sum = more ∙ ap (λ z. left_of_grid width widest grids g +ℤ z)
          (ap (λ z. z +ℤ widest) (sym same) ∙ ap (λ z. wide +ℤ z) (sym apart));
      before_low = before.0;
      before_high = before.1;
      wide_low = subst (λ z. pos 0 ≤ℤ z) (sym same) own.0;
      wide_high = subst (λ z. z ≤ℤ pos (2 ^ 40)) (sym same) own.1;
    }
