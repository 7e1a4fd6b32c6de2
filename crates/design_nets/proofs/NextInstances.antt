-- The instance that stands above another one, and the one on its right.
use Rattle.std.proofs.Common.{◌≡◌, ℕ, ◌+◌, ◌<◌, ◌≤◌, List, [], length, map, get_or, refl, sym, ap, ◌∙◌, subst, arith}
use Rattle.std.proofs.{Common.length-append, lemmas.List.{length-map, get_or-map, FromFn.length-map-range_with_len}}
use Rattle.std.specs.{Prelude.slice_get, List.All}
use Rattle.lam_geom.specs.declared.boxes.Axis.{Axis, TheVariants.{X, Y}}
use Rattle.plan_model.specs.{declared.plan.{Plan.Plan, PlanGrid.PlanGrid, PlanRow.PlanRow}, GridNets.IsNextInstance}
use Rattle.plan_model.specs.Instances.{InstancePlace, IsInstancePlace, spot, grid_at, spots_in_row, spots_of}
use Rattle.plan_model.specs.{Plan.grids_of, Rows.{rows_of, row_at, IsRectangular}}
use Rattle.design_nets.specs.{declared.instances.Instance.Instance, Firsts.together, Instances.{instances_of, spot_no}}
use Rattle.design_nets.proofs.{Lists.together_more, Spots.{number_of_spot, spot_there, instance_stands}}
use Rattle.design_nets.proofs.Spots.{instance_at_spot}

-- ---- where a spot's rows are read

abbrev cells : PlanRow → List ℕ
cells row = row.cells

-- the rows of a grid, and how many there are
pub rows_read : (plan : Plan) (all : List PlanGrid) (g : ℕ) (d : PlanGrid) (rows : List PlanRow) → all ≡ plan.grids
    → g < length (grids_of plan) → rows ≡ (get_or all g d).rows
    → (map (λ (row : PlanRow). row.cells) rows ≡ grid_at (grids_of plan) g)
    × (length rows ≡ length (grid_at (grids_of plan) g))
rows_read plan all g d rows e lt is =
    let same : map cells rows ≡ grid_at (grids_of plan) g =
    ap (map cells) (is ∙ ap (λ (gs : List PlanGrid). (get_or gs g d).rows) e)
    ∙ sym (get_or-map rows_of plan.grids g d [] (omega (arith, lt, length-map plan.grids rows_of))) in
    (same, sym (length-map rows cells) ∙ ap (λ (rs : List (List ℕ)). length rs) same)

-- the masters of a row
pub row_read : (rows : List PlanRow) (whole : List (List ℕ)) (r : ℕ) (d : PlanRow) (row : List ℕ)
    → map (λ (row : PlanRow). row.cells) rows ≡ whole → r < length whole → row ≡ (get_or rows r d).cells
    → row ≡ row_at whole r
row_read rows whole r d row e lt is =
    let counted = ap (λ (rs : List (List ℕ)). length rs) e in
    is ∙ (sym (get_or-map cells rows r d [] (omega (arith, lt, counted, length-map rows cells)))
    ∙ ap (λ (rs : List (List ℕ)). row_at rs r) e)

-- ---- what stands next to it

module _ (grids : List (List (List ℕ))) (instances : List Instance) (are : instances ≡ instances_of grids) where
  -- the next instance has this number
  pub record IsNext (axis : Axis) (s t : ℕ) : Type 0 where
    pub within : t < length instances
    pub next : IsNextInstance axis (spot_no instances s) (spot_no instances t)

  pub above : (s : ℕ) → s < length instances → All IsRectangular grids
      → (spot_no instances s).row + 1 < length (grid_at grids (spot_no instances s).grid)
      → IsNext X s (s + length (row_at (grid_at grids (spot_no instances s).grid) (spot_no instances s).row))
  above s lt rectangular more =
      let p : InstancePlace = spot_no instances s in
      let i = instance_stands grids instances s are lt in
      let rows : List (List ℕ) = grid_at grids p.grid in
      let row : List ℕ = row_at rows p.row in
      let q : InstancePlace = spot p.grid (p.row + 1) p.col in
      let equal = (rectangular p.grid [] i.spot.grid).equal in
      let own = equal p.row [] i.spot.row in
      let next = equal (p.row + 1) [] more in
      let col = i.spot.col in
      let there : IsInstancePlace grids q =
      record { grid = i.spot.grid; row = more; col = omega (arith, own, next, col) } in
      let first = ap (λ (xs : List InstancePlace). length xs) (together_more (spots_in_row p.grid rows) p.row)
      ∙ length-append (together (spots_in_row p.grid rows) p.row) (spots_in_row p.grid rows p.row) in
      let wide = length-map-range_with_len (spot p.grid p.row) 0 (length row) in
      let number = i.number in
      let e : number_of_spot grids q ≡ s + length row = omega (arith, first, wide, number) in
      let at = instance_at_spot grids instances (s + length row) q are
      (ap (slice_get (spots_of grids)) (sym e) ∙ spot_there grids q there) in
      record { within = at.0; next = subst (IsNextInstance X p) (sym at.1) (refl, refl, refl) }

  pub beside : (s : ℕ) → s < length instances
      → (spot_no instances s).col + 1 < length
      (row_at (grid_at grids (spot_no instances s).grid) (spot_no instances s).row) → IsNext Y s (s + 1)
  beside s lt more =
      let p : InstancePlace = spot_no instances s in
      let i = instance_stands grids instances s are lt in
      let q : InstancePlace = spot p.grid p.row (p.col + 1) in
      let there : IsInstancePlace grids q = record { grid = i.spot.grid; row = i.spot.row; col = more } in
      let number = i.number in
      let e : number_of_spot grids q ≡ s + 1 = omega (arith, number) in
      let at = instance_at_spot grids instances (s + 1) q are
      (ap (slice_get (spots_of grids)) (sym e) ∙ spot_there grids q there) in
      record { within = at.0; next = subst (IsNextInstance Y p) (sym at.1) (refl, refl, refl) }

  pub none_above : (s t : ℕ) → t < length instances
      → length (grid_at grids (spot_no instances s).grid) ≤ (spot_no instances s).row + 1
      → IsNextInstance X (spot_no instances s) (spot_no instances t) → ⊥
  none_above s t lt past h =
      let i = instance_stands grids instances t are lt in
      let row = subst (λ (g : ℕ). (spot_no instances t).row < length (grid_at grids g)) h.0 i.spot.row in
      let next = h.1 in
      omega (arith, row, next, past)

  pub none_beside : (s t : ℕ) → t < length instances
      → length (row_at (grid_at grids (spot_no instances s).grid) (spot_no instances s).row) ≤
      (spot_no instances s).col + 1
      → IsNextInstance Y (spot_no instances s) (spot_no instances t) → ⊥
  none_beside s t lt past h =
      let i = instance_stands grids instances t are lt in
      let col =
      subst (λ (g : ℕ). (spot_no instances t).col < length (row_at (grid_at grids g) (spot_no instances s).row))
      h.0
      (subst (λ (r : ℕ). (spot_no instances t).col < length (row_at (grid_at grids (spot_no instances t).grid) r)) h.1
      i.spot.col) in
      let next = h.2 in
      omega (arith, col, next, past)
