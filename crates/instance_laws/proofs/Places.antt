-- Where instances stand on an axis: between lines, one for each column or row, that lie at least the widest spacing
-- apart.
use Rattle.std.proofs.Common.{◌≡◌, ℕ, zero, suc, ◌+◌, ◌-◌, ◌<◌, ◌≤◌, ℤ, pos, ◌+ℤ◌, ◌≤ℤ◌, List, [], ◌∷◌, length, map}
use Rattle.std.proofs.{Common.{take, get_or, refl, sym, ap, ◌∙◌, subst, arith, take_all}, lemmas.Int.ints}
use Rattle.std.specs.Prelude.{slice_index}
use Rattle.lam_geom.specs.declared.boxes.Axis.{Axis, TheVariants.{X, Y}}
use Rattle.plan_model.specs.Instances.{InstancePlace, IsInstancePlace, grid_at, master_at_spot, total, row_height}
use Rattle.plan_model.specs.Instances.{grid_width, left_of_grid, left_of, bottom_of}
use Rattle.plan_model.specs.Rows.{row_at, first_row, IsRectangular}
use Rattle.instance_laws.proofs.Aligned.{row_long}

-- ---- sums of the first sizes

pub total_next : {X : Type 0} (f : X → ℤ) (xs : List X) (d : X) (k : ℕ) → k < length xs
    → total (map f (take (suc k) xs)) ≡ (total (map f (take k xs)) +ℤ f (get_or xs k d))
total_next f [] d k lt = absurd (omega arith)
total_next f (x ∷ xs) d zero lt = omega (arith, ints)
total_next f (x ∷ xs) d (suc k) lt = let h = total_next f xs d k (omega arith) in omega (arith, ints, h)

same_total : (f : ℕ → ℤ) (xs ys : List ℕ) (k : ℕ) → k ≤ length xs → k ≤ length ys
    → ((i : ℕ) → i < k → f (slice_index xs i) ≡ f (slice_index ys i))
    → total (map f (take k xs)) ≡ total (map f (take k ys))
same_total f xs ys zero l m h = refl
same_total f [] ys (suc k) l m h = absurd (omega arith)
same_total f (x ∷ xs) [] (suc k) l m h = absurd (omega arith)
same_total f (x ∷ xs) (y ∷ ys) (suc k) l m h =
    let rest = same_total f xs ys k (omega arith) (omega arith) (λ i lt. h (suc i) (omega arith)) in
    let here : f x ≡ f y = h zero (omega arith) in
    omega (arith, ints, rest, here)

-- ---- lines

-- lines one after another, each so far past the one before it as that is wide, and no less than the widest spacing
pub record AreLines (count : ℕ) (widest : ℤ) (line size : ℕ → ℤ) : Type 0 where
  pub not_below : pos 0 ≤ℤ widest
  pub next : (k : ℕ) → k < count → line (suc k) ≡ (line k +ℤ size k)
  pub wide : (k : ℕ) → k < count → widest ≤ℤ size k

pub lines_rise : (count : ℕ) (widest : ℤ) (line size : ℕ → ℤ) → AreLines count widest line size → (i j : ℕ)
    → i + j ≤ count → line i ≤ℤ line (i + j)
lines_rise count widest line size h i zero le = let same : i + 0 ≡ i = omega arith in rw same (omega (arith, ints))
lines_rise count widest line size h i (suc j) le =
    let below = lines_rise count widest line size h i j (omega arith) in
    let same : i + suc j ≡ suc (i + j) = omega arith in
    let next = h.next (i + j) (omega arith) in
    let wide = h.wide (i + j) (omega arith) in
    let zero_below = h.not_below in
    rw same (omega (arith, ints, below, next, wide, zero_below))

rises : (count : ℕ) (widest : ℤ) (line size : ℕ → ℤ) → AreLines count widest line size → (i j : ℕ) → i ≤ j → j ≤ count
    → line i ≤ℤ line j
rises count widest line size h i j le l =
    let same : i + (j - i) ≡ j = omega arith in
    let P : ℕ → Type 0 = λ k. line i ≤ℤ line k in
    subst P same (lines_rise count widest line size h i (j - i) (omega arith))

-- after a line, and with one more between
pub is_after : (count : ℕ) (widest : ℤ) (line size : ℕ → ℤ) → AreLines count widest line size → (i j : ℕ) → i < j
    → j ≤ count → (line i +ℤ size i) ≤ℤ line j
is_after count widest line size h i j lt l =
    let next = h.next i (omega arith) in
    let rest = rises count widest line size h (suc i) j (omega arith) l in
    omega (arith, ints, next, rest)

pub is_far_after : (count : ℕ) (widest : ℤ) (line size : ℕ → ℤ) → AreLines count widest line size → (i j : ℕ)
    → suc i < j → j ≤ count → ((line i +ℤ size i) +ℤ widest) ≤ℤ line j
is_far_after count widest line size h i j lt l =
    let next = h.next i (omega arith) in
    let rest = is_after count widest line size h (suc i) j lt l in
    let wide = h.wide (suc i) (omega arith) in
    omega (arith, ints, next, rest, wide)

-- ---- columns and rows

-- the column, on y the row, of an instance
abbrev pub place_of : Axis → InstancePlace → ℕ
place_of X p = p.col
place_of Y p = p.row

-- how many columns a grid has, or rows
abbrev pub count_of : Axis → List (List ℕ) → ℕ
count_of X rows = length (first_row rows)
count_of Y rows = length rows

-- how wide a column is, or how high a row, and where it begins in its grid; sizes are given on the axis
abbrev pub size_of : Axis → (ℕ → ℤ) → List (List ℕ) → ℕ → ℤ
size_of X size rows c = size (slice_index (first_row rows) c)
size_of Y size rows r = row_height size (row_at rows r)

abbrev pub line_of : Axis → (ℕ → ℤ) → List (List ℕ) → ℕ → ℤ
line_of X size rows c = total (map size (take c (first_row rows)))
line_of Y size rows r = total (map (row_height size) (take r rows))

-- where a grid begins, and an instance
abbrev pub begin_of : Axis → (ℕ → ℤ) → ℤ → List (List (List ℕ)) → ℕ → ℤ
begin_of X size widest grids g = left_of_grid size widest grids g
begin_of Y size widest grids g = pos 0

abbrev pub low_of : Axis → (ℕ → ℤ) → ℤ → List (List (List ℕ)) → InstancePlace → ℤ
low_of X size widest grids p = left_of size widest grids p
low_of Y size widest grids p = bottom_of size grids p

-- a grid whose masters have sizes on an axis, none below the widest spacing
pub record IsLaid (axis : Axis) (size : ℕ → ℤ) (widest : ℤ) (rows : List (List ℕ)) : Type 0 where
  pub rectangular : IsRectangular rows
  pub sizes : (r c : ℕ) → r < length rows → c < length (row_at rows r)
      → size (slice_index (row_at rows r) c) ≡ size_of axis size rows
      (place_of axis (record { grid = 0; row = r; col = c }))
  pub not_below : pos 0 ≤ℤ widest
  pub wide : (r c : ℕ) → r < length rows → c < length (row_at rows r) → widest ≤ℤ size (slice_index (row_at rows r) c)

pub lines_of : (axis : Axis) (size : ℕ → ℤ) (widest : ℤ) (rows : List (List ℕ)) → IsLaid axis size widest rows
    → AreLines (count_of axis rows) widest (line_of axis size rows) (size_of axis size rows)
lines_of X size widest rows h = record {
  not_below = h.not_below;
  next = λ k lt. total_next size (first_row rows) 0 k lt;
  wide = λ k lt. h.wide 0 k h.rectangular.some_rows lt;
}
lines_of Y size widest rows h = record {
  not_below = h.not_below;
  next = λ k lt. total_next (row_height size) rows [] k lt;
  wide = λ k lt. let long = row_long rows k h.rectangular lt in let some =
      h.rectangular.some_columns in h.wide k 0 lt (omega (arith, long, some));
}

pub place_among : (axis : Axis) (grids : List (List (List ℕ))) (p : InstancePlace) → IsInstancePlace grids p
    → IsRectangular (grid_at grids p.grid) → place_of axis p < count_of axis (grid_at grids p.grid)
place_among X grids p at h = let long = row_long (grid_at grids p.grid) p.row h at.row in let lt =
    at.col in omega (arith, long, lt)
place_among Y grids p at h = at.row

-- an instance stands on the line of its column or row
pub on_line : (axis : Axis) (size : ℕ → ℤ) (widest : ℤ) (grids : List (List (List ℕ))) (p : InstancePlace)
    → IsInstancePlace grids p → IsLaid axis size widest (grid_at grids p.grid)
    → low_of axis size widest grids p
    ≡ (begin_of axis size widest grids p.grid +ℤ line_of axis size (grid_at grids p.grid) (place_of axis p))
on_line X size widest grids p at h =
    let rows : List (List ℕ) = grid_at grids p.grid in
    let long = row_long rows p.row h.rectangular at.row in
    let lt = at.col in
    ap (λ z. left_of_grid size widest grids p.grid +ℤ z)
    (same_total size (row_at rows p.row) (first_row rows) p.col (omega (arith, lt)) (omega (arith, lt, long))
    (λ i l. h.sizes p.row i at.row (omega (arith, l, lt))))
on_line Y size widest grids p at h = omega (arith, ints)

pub size_on_line : (axis : Axis) (size : ℕ → ℤ) (widest : ℤ) (grids : List (List (List ℕ))) (p : InstancePlace)
    → IsInstancePlace grids p → IsLaid axis size widest (grid_at grids p.grid)
    → size (master_at_spot grids p) ≡ size_of axis size (grid_at grids p.grid) (place_of axis p)
size_on_line X size widest grids p at h = h.sizes p.row p.col at.row at.col
size_on_line Y size widest grids p at h = h.sizes p.row p.col at.row at.col

-- ---- two instances

-- each grid is laid
abbrev pub AreLaid : Axis → (ℕ → ℤ) → ℤ → List (List (List ℕ)) → Type 0
AreLaid axis size widest grids = (g : ℕ) → g < length grids → IsLaid axis size widest (grid_at grids g)

-- an instance as it stands in its grid, by the number of the grid
record StandsIn (axis : Axis) (size : ℕ → ℤ) (widest : ℤ) (grids : List (List (List ℕ))) (p : InstancePlace)
    (g : ℕ) : Type 0 where
  low : low_of axis size widest grids p
      ≡ (begin_of axis size widest grids g +ℤ line_of axis size (grid_at grids g) (place_of axis p))
  long : size (master_at_spot grids p) ≡ size_of axis size (grid_at grids g) (place_of axis p)
  among : place_of axis p < count_of axis (grid_at grids g)

stands_in : (axis : Axis) (size : ℕ → ℤ) (widest : ℤ) (grids : List (List (List ℕ))) (p : InstancePlace) (g : ℕ)
    → IsInstancePlace grids p → AreLaid axis size widest grids → p.grid ≡ g → StandsIn axis size widest grids p g
stands_in axis size widest grids p g at h same =
    let own = h p.grid at.grid in
    subst (StandsIn axis size widest grids p) same
    (record {
      low = on_line axis size widest grids p at own;
      long = size_on_line axis size widest grids p at own;
      among = place_among axis grids p at own.rectangular;
    })

-- an instance lies as far past another of its grid as their lines do
as_lines : (axis : Axis) (size : ℕ → ℤ) (widest : ℤ) (grids : List (List (List ℕ))) (p q : InstancePlace) (past : ℤ)
    → IsInstancePlace grids p → IsInstancePlace grids q → AreLaid axis size widest grids → p.grid ≡ q.grid
    → (let rows : List (List ℕ) = grid_at grids q.grid in
    AreLines (count_of axis rows) widest (line_of axis size rows) (size_of axis size rows)
    → place_of axis q ≤ count_of axis rows
    → ((line_of axis size rows (place_of axis p) +ℤ size_of axis size rows (place_of axis p)) +ℤ past) ≤ℤ line_of axis
    size rows (place_of axis q))
    → ((low_of axis size widest grids p +ℤ size (master_at_spot grids p)) +ℤ past) ≤ℤ low_of axis size widest grids q
as_lines axis size widest grids p q past at_p at_q h one lines_apart =
    let a = stands_in axis size widest grids p q.grid at_p h one in
    let b = stands_in axis size widest grids q q.grid at_q h refl in
    let among = b.among in
    let apart = lines_apart (lines_of axis size widest (grid_at grids q.grid) (h q.grid at_q.grid))
    (omega (arith, among)) in
    let low_p = a.low in
    let long_p = a.long in
    let low_q = b.low in
    omega (arith, ints, apart, low_p, long_p, low_q)

-- one instance past another of its grid, also with a third between, and beside it
pub stands_after : (axis : Axis) (size : ℕ → ℤ) (widest : ℤ) (grids : List (List (List ℕ))) (p q : InstancePlace)
    → IsInstancePlace grids p → IsInstancePlace grids q → AreLaid axis size widest grids → p.grid ≡ q.grid
    → place_of axis p < place_of axis q
    → (low_of axis size widest grids p +ℤ size (master_at_spot grids p)) ≤ℤ low_of axis size widest grids q
stands_after axis size widest grids p q at_p at_q h one lt =
    let after = as_lines axis size widest grids p q (pos 0) at_p at_q h one
    (λ lines within.
    (let k = is_after _ widest _ _ lines (place_of axis p) (place_of axis q) lt within in
    omega (arith, ints, k))) in
    omega (arith, ints, after)

pub stands_far_after : (axis : Axis) (size : ℕ → ℤ) (widest : ℤ) (grids : List (List (List ℕ))) (p q : InstancePlace)
    → IsInstancePlace grids p → IsInstancePlace grids q → AreLaid axis size widest grids → p.grid ≡ q.grid
    → suc (place_of axis p) < place_of axis q
    → ((low_of axis size widest grids p +ℤ size (master_at_spot grids p)) +ℤ widest) ≤ℤ low_of axis size widest grids
    q
stands_far_after axis size widest grids p q at_p at_q h one lt =
    as_lines axis size widest grids p q widest at_p at_q h one
    (λ lines within. is_far_after _ widest _ _ lines (place_of axis p) (place_of axis q) lt within)

pub stands_level : (axis : Axis) (size : ℕ → ℤ) (widest : ℤ) (grids : List (List (List ℕ))) (p q : InstancePlace)
    → IsInstancePlace grids p → IsInstancePlace grids q → AreLaid axis size widest grids → p.grid ≡ q.grid
    → place_of axis p ≡ place_of axis q → low_of axis size widest grids p ≡ low_of axis size widest grids q
stands_level axis size widest grids p q at_p at_q h one same =
    let a = stands_in axis size widest grids p q.grid at_p h one in
    let b = stands_in axis size widest grids q q.grid at_q h refl in
    a.low ∙ ap (λ k. begin_of axis size widest grids q.grid +ℤ line_of axis size (grid_at grids q.grid) k) same
    ∙ sym b.low

-- ---- two grids

-- an instance lies within the width of its grid
within_grid : (size : ℕ → ℤ) (widest : ℤ) (rows : List (List ℕ)) (c : ℕ) → IsLaid X size widest rows
    → c < length (first_row rows)
    → (pos 0 ≤ℤ line_of X size rows c) × ((line_of X size rows c +ℤ size_of X size rows c) ≤ℤ grid_width size rows)
within_grid size widest rows c h lt =
    let count : ℕ = length (first_row rows) in
    let lines = lines_of X size widest rows h in
    let from = rises count widest (line_of X size rows) (size_of X size rows) lines 0 c (omega arith)
    (omega (arith, lt)) in
    let from : pos 0 ≤ℤ line_of X size rows c = from in
    let to = is_after count widest (line_of X size rows) (size_of X size rows) lines c count lt (omega arith) in
    let whole : line_of X size rows count ≡ grid_width size rows =
    ap (λ xs. total (map size xs)) (take_all (length (first_row rows)) (first_row rows) (omega arith)) in
    (from, omega (arith, ints, to, whole))

pub grids_apart : (size : ℕ → ℤ) (widest : ℤ) (grids : List (List (List ℕ))) (p q : InstancePlace)
    → IsInstancePlace grids p → IsInstancePlace grids q → AreLaid X size widest grids
    → p.grid < q.grid → ((low_of X size widest grids p +ℤ size (master_at_spot grids p)) +ℤ widest) ≤ℤ low_of X size
    widest grids q
grids_apart size widest grids p q at_p at_q h lt =
    let width : List (List ℕ) → ℤ = λ rows. grid_width size rows +ℤ widest in
    let wide : (g : ℕ) → g < length grids → widest ≤ℤ width (grid_at grids g) =
    λ g l. (
    let own = h g l in
    let in_grid = within_grid size widest (grid_at grids g) 0 own own.rectangular.some_columns in
    let a = in_grid.0 in
    let b = in_grid.1 in
    let c = own.wide 0 0 own.rectangular.some_rows own.rectangular.some_columns in
    let d = own.not_below in
    omega (arith, ints, a, b, c, d)
    ) in
    let lines : AreLines (length grids) widest (left_of_grid size widest grids) (λ g. width (grid_at grids g)) =
    record { not_below = (h p.grid at_p.grid).not_below; next = λ g l. total_next width grids [] g l; wide = wide } in
    let last = at_q.grid in
    let apart = is_after (length grids) widest (left_of_grid size widest grids) (λ g. width (grid_at grids g)) lines
    p.grid q.grid lt (omega (arith, last)) in
    let a = stands_in X size widest grids p p.grid at_p h refl in
    let b = stands_in X size widest grids q q.grid at_q h refl in
    let before = (within_grid size widest (grid_at grids p.grid) p.col (h p.grid at_p.grid) a.among).1 in
    let after = (within_grid size widest (grid_at grids q.grid) q.col (h q.grid at_q.grid) b.among).0 in
    let low_p = a.low in
    let long_p = a.long in
    let low_q = b.low in
    omega (arith, ints, apart, before, after, low_p, long_p, low_q)
