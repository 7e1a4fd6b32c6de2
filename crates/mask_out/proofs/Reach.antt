-- Where the whole width and the whole height can be reckoned with, all places can.
use Rattle.std.proofs.Common.{◌≡◌, ℕ, zero, suc, ◌+◌, ◌^◌, ◌<◌, ℤ, pos, ◌+ℤ◌, ◌≤ℤ◌, List, [], ◌∷◌, All, length, map}
use Rattle.std.proofs.{Common.{take, refl, ap, arith}, lemmas.{Int.{ints, fold-int_max_bounds}, List.take_all}}
use Rattle.std.{proofs.lemmas.List.{get_or-map, length-map}, specs.Prelude.slice_index}
use Rattle.plan_model.specs.Instances.{total, row_height, grid_width, grid_height, grid_at, left_in_row, left_of_grid}
use Rattle.plan_model.specs.{Instances.{whole_width, whole_height, IsAligned}, Rows.{first_row, row_at, IsRectangular}}
use Rattle.mask_out.{specs.Pictures.{IsGridInReach, IsDrawable}, proofs.Totals.total_more}

-- ---- sums of the first of some lengths that are not below 0

abbrev IsLength : {X : Type 0} → (X → ℤ) → Type 0
IsLength {X} f = (x : X) → pos 0 ≤ℤ f x

part_low : {X : Type 0} (f : X → ℤ) (xs : List X) (i : ℕ) → IsLength f → pos 0 ≤ℤ total (map f (take i xs))
part_low f xs zero h = omega arith
part_low f [] (suc i) h = omega arith
part_low f (x ∷ xs) (suc i) h = omega (arith, ints, h x, part_low f xs i h)

part_high : {X : Type 0} (f : X → ℤ) (xs : List X) (i : ℕ) → IsLength f → total (map f (take i xs)) ≤ℤ total (map f xs)
part_high f [] zero h = omega arith
part_high f (x ∷ xs) zero h = let low = part_low f xs (length xs) h in let all =
    ap (λ ys. total (map f ys)) (take_all (length xs) xs (omega arith)) in omega (arith, ints, low, all, h x)
part_high f [] (suc i) h = omega arith
part_high f (x ∷ xs) (suc i) h = omega (arith, ints, part_high f xs i h)

whole_low : {X : Type 0} (f : X → ℤ) (xs : List X) → IsLength f → pos 0 ≤ℤ total (map f xs)
whole_low f [] h = omega arith
whole_low f (x ∷ xs) h = omega (arith, ints, h x, whole_low f xs h)

-- two rows of one length whose instances are equally wide, one by one
same_widths : (width : ℕ → ℤ) (xs ys : List ℕ) (c : ℕ) → length xs ≡ length ys
    → ((k : ℕ) → k < length xs → width (slice_index xs k) ≡ width (slice_index ys k))
    → left_in_row width xs c ≡ left_in_row width ys c
same_widths width xs ys zero e h = refl
same_widths width [] [] (suc c) e h = refl
same_widths width [] (y ∷ ys) (suc c) e h = absurd (omega (arith, e))
same_widths width (x ∷ xs) [] (suc c) e h = absurd (omega (arith, e))
same_widths width (x ∷ xs) (y ∷ ys) (suc c) e h =
    omega (
      arith,
      ints,
      h zero (omega arith),
      same_widths width xs ys c (omega (arith, e))
          (λ k lt. h (suc k) (omega (arith, lt))),
    )

-- ---- grids

-- a grid is at most as wide and as high as the whole
grid_within : (width height : ℕ → ℤ) (rows : List (List ℕ)) → IsLength width → IsLength height → IsRectangular rows
    → IsAligned width height rows
    → grid_width width rows ≤ℤ pos (2 ^ 40) → grid_height height rows ≤ℤ pos (2 ^ 40) → IsGridInReach width height rows
grid_within width height rows wide high rectangular aligned narrow low = record {
  across = λ r lt c le. (
      let row = row_at rows r in
      let equal : length row ≡ length (first_row rows) = rectangular.equal r [] lt in
      let same : left_in_row width row c ≡ left_in_row width (first_row rows) c =
      same_widths width row (first_row rows) c equal (λ k less. aligned.columns r k lt less) in (
        omega (arith, ints, part_low width row c wide),
        omega (arith, ints, same, part_high width (first_row rows) c wide, narrow),
      ));
  up = λ r le. (
      let each : IsLength (row_height height) = λ row. high (slice_index row 0) in (
        omega (arith, ints, part_low (row_height height) rows r each),
        omega (arith, ints, part_high (row_height height) rows r each, low),
      ));
}

pub wholes_bound : (width height : ℕ → ℤ) (widest : ℤ) (grids : List (List (List ℕ))) → ((m : ℕ) → pos 0 ≤ℤ width m)
    → ((m : ℕ) → pos 0 ≤ℤ height m) → pos 0 ≤ℤ widest
    → All IsRectangular grids → All (IsAligned width height) grids → whole_width width widest grids ≤ℤ pos (2 ^ 40)
    → whole_height height grids ≤ℤ pos (2 ^ 40)
    → IsDrawable width height widest grids
wholes_bound width height widest grids wide high apart rectangular aligned narrow low =
    let step = λ (rows : List (List ℕ)). grid_width width rows +ℤ widest in
    let each : IsLength step =
    λ rows. (let own : pos 0 ≤ℤ grid_width width rows = whole_low width (first_row rows) wide in
    omega (arith, ints, own, apart)) in
    let all : left_of_grid width widest grids (length grids) ≡ total (map step grids) =
    ap (λ gs. total (map step gs)) (take_all (length grids) grids (omega arith)) in
    let heights = fold-int_max_bounds (pos 0) (map (grid_height height) grids) (whole_height height grids) refl in
    record {
      each = λ g lt. (
          let rows = grid_at grids g in
          let tall = heights.1 g (pos 0) (omega (arith, length-map grids (grid_height height), lt)) in
          let one = get_or-map (grid_height height) grids g [] (pos 0) lt in
          let before = part_low step grids g each in
          let more = total_more step grids g [] lt in
          let next = part_high step grids (g + 1) each in
          grid_within width height rows wide high (rectangular g [] lt) (aligned g [] lt)
          (omega (arith, ints, before, more, next, all, narrow)) (omega (arith, ints, tall, one, low)));
      across = λ g lt. (
          let own : pos 0 ≤ℤ grid_width width (grid_at grids g) = whole_low width (first_row (grid_at grids g)) wide in
          let before = part_low step grids g each in
          let more = total_more step grids g [] lt in
          let next = part_high step grids (g + 1) each in
          (omega (arith, ints, before), omega (arith, ints, own, more, next, all, narrow)));
    }
