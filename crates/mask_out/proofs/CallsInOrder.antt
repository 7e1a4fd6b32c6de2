-- The calls of all instances are those of the grids in order, row by row.
use Rattle.std.proofs.{Common.{◌≡◌, ℕ, ℤ, List, [], ◌∷◌, ◌++◌, length, map, refl, ap, ◌∙◌}, lemmas.List.map-append}
use Rattle.std.specs.List.{flat_map, range_with_len}
use Rattle.plan_model.specs.{Instances.{grid_at, spot, spots_in_row, spots_in_grid, left_of_grid}, Rows.row_at}
use Rattle.mask_out.specs.declared.drawing.Call.{Call}
use Rattle.mask_out.specs.{Pictures.{call_at, calls_of}, RowCalls.{calls_in_row_at, calls_in_grid}}

-- the calls of grid number g
abbrev pub calls_of_grid : (ℕ → ℤ) → (ℕ → ℤ) → ℤ → List (List (List ℕ)) → ℕ → List Call
calls_of_grid width height widest grids g =
    calls_in_grid width height (left_of_grid width widest grids g) (grid_at grids g)

-- images of joined lists, piece by piece
map_pieces : {X Y Z : Type 0} (h : Y → Z) (f : X → List Y) (k : X → List Z) (same : (x : X) → map h (f x) ≡ k x)
    (xs : List X) → map h (flat_map f xs) ≡ flat_map k xs
map_pieces h f k same [] = refl
map_pieces h f k same (x ∷ xs) =
    map-append h (f x) (flat_map f xs)
    ∙ (ap (λ zs. zs ++ map h (flat_map f xs)) (same x) ∙ ap (λ zs. k x ++ zs) (map_pieces h f k same xs))

map_twice : {X Y Z : Type 0} (h : Y → Z) (f : X → Y) (xs : List X) → map h (map f xs) ≡ map (λ x. h (f x)) xs
map_twice h f [] = refl
map_twice h f (x ∷ xs) = ap (λ zs. h (f x) ∷ zs) (map_twice h f xs)

pub calls_in_order : (width height : ℕ → ℤ) (widest : ℤ) (grids : List (List (List ℕ)))
    → calls_of width height widest grids ≡ flat_map (calls_of_grid width height widest grids)
    (range_with_len 0 (length grids))
calls_in_order width height widest grids =
    let call = call_at width height widest grids in
    map_pieces call (spots_in_grid grids) (calls_of_grid width height widest grids)
    (λ g. map_pieces call (spots_in_row g (grid_at grids g))
    (calls_in_row_at width height (left_of_grid width widest grids g) (grid_at grids g))
    (λ r. map_twice call (spot g r) (range_with_len 0 (length (row_at (grid_at grids g) r))))
    (range_with_len 0 (length (grid_at grids g))))
    (range_with_len 0 (length grids))
