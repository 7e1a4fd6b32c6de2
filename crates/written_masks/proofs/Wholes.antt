-- Each instance lies between 0 and the borders of the whole.
use Rattle.std.proofs.Common.{◌≡◌, ℕ, zero, suc, ◌<◌, ℤ, pos, ◌+ℤ◌, ◌≤ℤ◌, List, [], ◌∷◌, All, length, map, take, get_or}
use Rattle.std.proofs.{Common.{refl, ap, arith}, lemmas.{Int.{ints, fold-int_max_bounds}, List.{take_all, get_or-map}}}
use Rattle.std.{proofs.lemmas.List.length-map, specs.Prelude.slice_index}
use Rattle.plan_model.specs.Instances.{InstancePlace, IsInstancePlace, master_at_spot, total, row_height, grid_width}
use Rattle.plan_model.specs.Instances.{grid_height, grid_at, left_in_row, left_of_grid, left_of, bottom_of, whole_width}
use Rattle.plan_model.specs.{Instances.{whole_height, IsAligned}, Rows.{first_row, row_at, IsRectangular}}

-- ---- sums of lengths that are not below 0

abbrev IsLength : {T : Type 0} → (T → ℤ) → Type 0
IsLength {T} f = (x : T) → pos 0 ≤ℤ f x

sum_low : {T : Type 0} (f : T → ℤ) (xs : List T) → IsLength f → pos 0 ≤ℤ total (map f xs)
sum_low f [] h = omega arith
sum_low f (x ∷ xs) h = omega (arith, ints, h x, sum_low f xs h)

part_low : {T : Type 0} (f : T → ℤ) (xs : List T) (i : ℕ) → IsLength f → pos 0 ≤ℤ total (map f (take i xs))
part_low f xs zero h = omega arith
part_low f [] (suc i) h = omega arith
part_low f (x ∷ xs) (suc i) h = omega (arith, ints, h x, part_low f xs i h)

-- the first of some lengths with the next one are no more than all
part_next : {T : Type 0} (f : T → ℤ) (xs : List T) (i : ℕ) (d : T) → IsLength f → i < length xs
    → (total (map f (take i xs)) +ℤ f (get_or xs i d)) ≤ℤ total (map f xs)
part_next f [] i d h lt = absurd (omega arith)
part_next f (x ∷ xs) zero d h lt = let rest = sum_low f xs h in omega (arith, ints, rest)
part_next f (x ∷ xs) (suc i) d h lt = let rest = part_next f xs i d h (omega arith) in omega (arith, ints, rest)

same_sums : (f : ℕ → ℤ) (xs ys : List ℕ) → length xs ≡ length ys
    → ((k : ℕ) → k < length xs → f (slice_index xs k) ≡ f (slice_index ys k)) → total (map f xs) ≡ total (map f ys)
same_sums f [] [] e h = refl
same_sums f [] (y ∷ ys) e h = absurd (omega (arith, e))
same_sums f (x ∷ xs) [] e h = absurd (omega (arith, e))
same_sums f (x ∷ xs) (y ∷ ys) e h =
    let here : f x ≡ f y = h zero (omega arith) in
    let rest = same_sums f xs ys (omega (arith, e)) (λ k lt. h (suc k) (omega (arith, lt))) in
    omega (arith, ints, here, rest)

-- ---- instances

-- an instance lies between 0 and so much on both axes
pub record StandsInside (width height : ℕ → ℤ) (widest : ℤ) (grids : List (List (List ℕ))) (p : InstancePlace) : Type
    0 where
  pub left : pos 0 ≤ℤ left_of width widest grids p
  pub right : (left_of width widest grids p +ℤ width (master_at_spot grids p)) ≤ℤ whole_width width widest grids
  pub bottom : pos 0 ≤ℤ bottom_of height grids p
  pub top : (bottom_of height grids p +ℤ height (master_at_spot grids p)) ≤ℤ whole_height height grids

across : (width height : ℕ → ℤ) (widest : ℤ) (grids : List (List (List ℕ))) → IsLength width → pos 0 ≤ℤ widest
    → All IsRectangular grids → All (IsAligned width height) grids
    → (p : InstancePlace) → IsInstancePlace grids p → (pos 0 ≤ℤ left_of width widest grids p)
    × ((left_of width widest grids p +ℤ width (master_at_spot grids p)) ≤ℤ whole_width width widest grids)
across width height widest grids wide apart rectangular aligned p there =
    let rows = grid_at grids p.grid in
    let row = row_at rows p.row in
    let step = λ (one : List (List ℕ)). grid_width width one +ℤ widest in
    let each : IsLength step =
    λ one. (let own : pos 0 ≤ℤ grid_width width one = sum_low width (first_row one) wide in
    omega (arith, ints, own, apart)) in
    let equal : length row ≡ length (first_row rows) = (rectangular p.grid [] there.grid).equal p.row [] there.row in
    let same : total (map width row) ≡ grid_width width rows =
    same_sums width row (first_row rows) equal
    (λ c lt. (aligned p.grid [] there.grid).columns p.row c there.row lt) in
    let low : pos 0 ≤ℤ left_in_row width row p.col = part_low width row p.col wide in
    let next : (left_in_row width row p.col +ℤ width (master_at_spot grids p)) ≤ℤ total (map width row) =
    part_next width row p.col 0 wide there.col in
    let before : pos 0 ≤ℤ left_of_grid width widest grids p.grid = part_low step grids p.grid each in
    let own : (left_of_grid width widest grids p.grid +ℤ (grid_width width rows +ℤ widest)) ≤ℤ total
    (map step grids) = part_next step grids p.grid [] each there.grid in
    let all : left_of_grid width widest grids (length grids) ≡ total (map step grids) =
    ap (λ gs. total (map step gs)) (take_all (length grids) grids (omega arith)) in
    (omega (arith, ints, before, low), omega (arith, ints, own, all, same, next))

up : (width height : ℕ → ℤ) (grids : List (List (List ℕ))) → IsLength height → All (IsAligned width height) grids
    → (p : InstancePlace) → IsInstancePlace grids p → (pos 0 ≤ℤ bottom_of height grids p)
    × ((bottom_of height grids p +ℤ height (master_at_spot grids p)) ≤ℤ whole_height height grids)
up width height grids high aligned p there =
    let rows = grid_at grids p.grid in
    let each : IsLength (row_height height) = λ row. high (slice_index row 0) in
    let level : height (master_at_spot grids p) ≡ row_height height (row_at rows p.row) =
    (aligned p.grid [] there.grid).rows p.row p.col there.row there.col in
    let low : pos 0 ≤ℤ bottom_of height grids p = part_low (row_height height) rows p.row each in
    let next : (bottom_of height grids p +ℤ row_height height (row_at rows p.row)) ≤ℤ grid_height height rows =
    part_next (row_height height) rows p.row [] each there.row in
    let heights = fold-int_max_bounds (pos 0) (map (grid_height height) grids) (whole_height height grids) refl in
    let counted : length (map (grid_height height) grids) ≡ length grids = length-map grids (grid_height height) in
    let among = there.grid in
    let tall = heights.1 p.grid (pos 0) (omega (arith, counted, among)) in
    let one = get_or-map (grid_height height) grids p.grid [] (pos 0) there.grid in
    (low, omega (arith, ints, level, next, tall, one))

pub stands_inside : (width height : ℕ → ℤ) (widest : ℤ) (grids : List (List (List ℕ))) → ((m : ℕ) → pos 0 ≤ℤ width m)
    → ((m : ℕ) → pos 0 ≤ℤ height m) → pos 0 ≤ℤ widest
    → All IsRectangular grids → All (IsAligned width height) grids → (p : InstancePlace) → IsInstancePlace grids p
    → StandsInside width height widest grids p
stands_inside width height widest grids wide high apart rectangular aligned p there =
    let x = across width height widest grids wide apart rectangular aligned p there in
    let y = up width height grids high aligned p there in
    record { left = x.0; right = x.1; bottom = y.0; top = y.1 }
