-- Each master of a plan stands at some spot of its grids.
use Rattle.std.proofs.Common.{◌≡◌, ℕ, zero, suc, ◌+◌, ◌<◌, Bool, true, false, not, cond, eqb, ltb, Some, None}
use Rattle.std.proofs.Common.{unwrap_or, List, [], ◌∷◌, ◌++◌, length, map, get_or, inl, inr, refl, sym, ap, ◌∙◌, subst}
use Rattle.std.proofs.{Common.arith, lemmas.{Bool.{eq-eqb, lt-ltb, Decides.eqb_tells}, Map.Keys.apart_from_distinct}}
use Rattle.std.proofs.lemmas.List.{length-map, get_or-map}
use Rattle.std.specs.{Prelude.slice_index, List.{AllByRecursion, IsDistinct, flat_map, fold, list_any, position_or_len}}
use Rattle.list_facts.proofs.Elements.{all_at, all_flat, by_number}
use Rattle.stick_text.specs.declared.design.{GridText.GridText, RowText.RowText}
use Rattle.checked_cells.specs.CheckedCell.{CheckedCell, cell_of, known_at}
use Rattle.cell_model.specs.declared.cell.Cell.{Cell}
use Rattle.expand.specs.declared.master.Master.{Master}
use Rattle.plan_model.specs.{declared.plan.Plan.Plan, Instances.{spot, grid_at}, Rows.{add_new, row_at}}
use Rattle.pitch_join.proofs.Lists.{all_firsts}
use Rattle.grid_plan.specs.Numbered.{is_same_number, master_of, masters_in, numbers_in_row, numbers_in_grid}
use Rattle.grid_plan.{specs.{Numbered.planned_rows, Planned.IsPlanOf}, proofs.Placing.distinct_more}
use Rattle.master_counts.specs.Parts.{Stands, AllStand}

-- ---- the first places in a list have different numbers

still_distinct : (found : List ℕ) (x : ℕ) → IsDistinct eqb found → IsDistinct eqb (add_new is_same_number found x)
still_distinct found x d = by (list_any (is_same_number x) found) refl
  where
    by : (b : Bool) → list_any (is_same_number x) found ≡ b → IsDistinct eqb (cond b found (found ++ x ∷ []))
    by true e = d
    by false e = distinct_more found x d e

distinct_through : (found xs : List ℕ) → IsDistinct eqb found → IsDistinct eqb (fold (add_new is_same_number) found xs)
distinct_through found [] d = d
distinct_through found (x ∷ xs) d = distinct_through (add_new is_same_number found x) xs (still_distinct found x d)

none_distinct : IsDistinct eqb []
unfolding IsDistinct
none_distinct = tt

-- the first element that is the element number m is that element, where no two are one
own_place : (xs : List ℕ) (m : ℕ) → ((i j : ℕ) → i < j → j < length xs → eqb (get_or xs i 0) (get_or xs j 0) ≡ false)
    → m < length xs
    → position_or_len (is_same_number (get_or xs m 0)) xs ≡ m
own_place [] m apart lt = absurd (omega (arith, lt))
own_place (x ∷ xs) zero apart lt =
    ap (λ b. cond (not b) (1 + position_or_len (is_same_number x) xs) 0) (eq-eqb x x refl)
own_place (x ∷ xs) (suc m) apart lt = elim (eqb_tells (get_or xs m 0) x) [
  | inl one ↦
      absurd (let h : eqb x (get_or xs m 0) ≡ true = eq-eqb x (get_or xs m 0) (sym one.1) in let g : eqb x
      (get_or xs m 0) ≡ false = apart zero (suc m) (omega arith) (omega (arith, lt)) in cc)
  | inr other ↦
      let rest : position_or_len (is_same_number (get_or xs m 0)) xs ≡ m =
      own_place xs m (λ i j before among. apart (suc i) (suc j) (omega (arith, before)) (omega (arith, among)))
      (omega (arith, lt)) in
      ap (λ b. cond (not b) (1 + position_or_len (is_same_number (get_or xs m 0)) xs) 0) other.0
      ∙ (let up : 1 + position_or_len (is_same_number (get_or xs m 0)) xs ≡ suc m = omega (arith, rest) in up)
]

own_number : (masters : List ℕ) (m : ℕ) → IsDistinct eqb masters → m < length masters
    → master_of masters (get_or masters m 0) ≡ m
own_number masters m d lt =
    let P : ℕ → Type 0 = λ q. unwrap_or (cond (ltb q (length masters)) (Some q) None) 0 ≡ m in
    let own = own_place masters m (λ i j before among. apart_from_distinct eqb masters i j 0 d before among) lt in
    subst P (sym own) (ap (λ b. unwrap_or (cond b (Some m) None) 0) (lt-ltb m (length masters) lt))

-- ---- a spot

-- what the numbers of a row stand for stands there
in_row : (grids : List (List (List ℕ))) (place : ℕ → ℕ) (numbers : List ℕ) (g r : ℕ) → g < length grids
    → r < length (grid_at grids g) → row_at (grid_at grids g) r ≡ map place numbers
    → AllByRecursion (λ x. Stands grids (place x)) numbers
in_row grids place numbers g r grid row is =
    by_number (λ x. Stands grids (place x)) numbers 0
    (λ c lt.
    let C : List ℕ → Type 0 = λ cs. c < length cs in
    let count = length-map numbers place in
    let col : C (map place numbers) = omega (arith, lt, count) in (
      spot g r c,
      record { grid = grid; row = row; col = subst C (sym is) col },
      ap (λ cs. slice_index cs c) is ∙ get_or-map place numbers c 0 0 lt,
    ))

-- and what those of a grid stand for
in_grid : (grids : List (List (List ℕ))) (place : ℕ → ℕ) (cells : List CheckedCell) (text : GridText) (g : ℕ)
    → g < length grids
    → grid_at grids g ≡ map (map place) (numbers_in_grid cells text)
    → AllByRecursion (λ x. Stands grids (place x)) (flat_map (numbers_in_row cells) text.rows)
in_grid grids place cells text g within is =
    let P : ℕ → Type 0 = λ x. Stands grids (place x) in
    let R : List (List ℕ) → ℕ → Type 0 = λ rows r. r < length rows in
    let numbers : List (List ℕ) = numbers_in_grid cells text in
    all_flat P (numbers_in_row cells) text.rows
    (by_number (λ row. AllByRecursion P (numbers_in_row cells row)) text.rows no_row
    (λ r lt.
    let count = length-map text.rows (numbers_in_row cells) in
    let counted = length-map numbers (map place) in
    let among : r < length numbers = omega (arith, lt, count) in
    let row : R (map (map place) numbers) r = omega (arith, among, counted) in
    let at = get_or-map (map place) numbers r [] [] among
    ∙ ap (map place) (get_or-map (numbers_in_row cells) text.rows r no_row [] lt) in
    in_row grids place (numbers_in_row cells (get_or text.rows r no_row)) g r within
    (subst (λ rows. R rows r) (sym is) row) (ap (λ rows. row_at rows r) is ∙ at)))
  where
    no_row : RowText
    no_row = record { names = [] }

-- each master is in some row
each_stands : (cells : List CheckedCell) (grids : List GridText) (m : ℕ) → m < length (masters_in cells grids)
    → Stands (planned_rows cells grids) m
each_stands cells grids m lt =
    let named : GridText → List ℕ = λ grid. flat_map (numbers_in_row cells) grid.rows in
    let masters : List ℕ = masters_in cells grids in
    let place : ℕ → ℕ = master_of masters in
    let placed : GridText → List (List ℕ) = λ grid. map (map place) (numbers_in_grid cells grid) in
    let P : ℕ → Type 0 = λ x. Stands (planned_rows cells grids) (place x) in
    let count = length-map grids placed in
    let each : AllByRecursion P (flat_map named grids) =
    all_flat P named grids
    (by_number (λ grid. AllByRecursion P (named grid)) grids no_grid
    (λ g within.
    in_grid (planned_rows cells grids) place cells (get_or grids g no_grid) g (omega (arith, within, count))
    (get_or-map placed grids g no_grid [] within))) in
    let own = own_number masters m (distinct_through [] (flat_map named grids) none_distinct) lt in
    subst (Stands (planned_rows cells grids)) own
    (all_at P masters 0 m (all_firsts P is_same_number (flat_map named grids) each) lt)
  where
    no_grid : GridText
    no_grid = record { name = None; line = 0; rows = [] }

pub all_stand : (cells : List CheckedCell) (grids : List GridText) (plan : Plan) (masters : List Master)
    → IsPlanOf cells grids plan
    → map (λ (m : Master). m.cell) masters ≡ map (λ k. cell_of (known_at cells k)) plan.masters → AllStand plan masters
all_stand cells grids plan masters p same m lt =
    let made = length-map masters (λ (z : Master). z.cell) in
    let of_cells = length-map plan.masters (λ k. cell_of (known_at cells k)) in
    let counts = ap (λ (cs : List Cell). length cs) same in
    let alike = ap (λ (ks : List ℕ). length ks) p.masters in
    subst (λ gs. Stands gs m) (sym p.rows)
    (each_stands cells grids m (omega (arith, lt, made, of_cells, counts, alike)))
