-- Rows whose cells are renumbered: what stands beside and above what is renumbered too.
use Rattle.std.proofs.Common.{◌≡◌, ℕ, ◌<◌, List, [], ◌∷◌, ◌++◌, length, map, get_or, refl, ap, sym, ◌∙◌, arith}
use Rattle.std.proofs.{lemmas.List.{map-append, length-map, get_or_default}, Math.ListN.get_or-map}
use Rattle.std.specs.List.{All, zip, flat_map}
use Rattle.lam_geom.specs.declared.boxes.Axis.{Axis, TheVariants.{X, Y}}
use Rattle.plan_model.specs.{Plan.{meeting, borders_of}, Rows.{neighbours, zipped_rows, beside, above, first_row}}
use Rattle.plan_model.specs.Rows.{IsRectangular}

abbrev pub both : {A B : Type 0} → (A → B) → A × A → B × B
both f pair = (f pair.0, f pair.1)

neighbours_map : {A B : Type 0} (f : A → B) (xs : List A) → neighbours (map f xs) ≡ map (both f) (neighbours xs)
neighbours_map f [] = refl
neighbours_map f (x ∷ []) = refl
neighbours_map f (x ∷ y ∷ rest) = ap (λ pairs. (f x, f y) ∷ pairs) (neighbours_map f (y ∷ rest))

zip_map : {A B : Type 0} (f : A → B) (xs ys : List A) → zip (map f xs) (map f ys) ≡ map (both f) (zip xs ys)
zip_map f [] ys = refl
zip_map f (x ∷ xs) [] = refl
zip_map f (x ∷ xs) (y ∷ ys) = ap (λ pairs. (f x, f y) ∷ pairs) (zip_map f xs ys)

beside_map : (f : ℕ → ℕ) (rows : List (List ℕ)) → beside (map (map f) rows) ≡ map (both f) (beside rows)
beside_map f [] = refl
beside_map f (row ∷ rows) =
    ap (λ pairs. pairs ++ beside (map (map f) rows)) (neighbours_map f row)
    ∙ ap (λ pairs. map (both f) (neighbours row) ++ pairs) (beside_map f rows)
    ∙ sym (map-append (both f) (neighbours row) (beside rows))

zipped_map : (f : ℕ → ℕ) (pairs : List (List ℕ × List ℕ))
    → flat_map zipped_rows (map (both (map f)) pairs) ≡ map (both f) (flat_map zipped_rows pairs)
zipped_map f [] = refl
zipped_map f (pair ∷ pairs) =
    ap (λ zs. zs ++ flat_map zipped_rows (map (both (map f)) pairs)) (zip_map f pair.0 pair.1)
    ∙ ap (λ zs. map (both f) (zipped_rows pair) ++ zs) (zipped_map f pairs)
    ∙ sym (map-append (both f) (zipped_rows pair) (flat_map zipped_rows pairs))

above_map : (f : ℕ → ℕ) (rows : List (List ℕ)) → above (map (map f) rows) ≡ map (both f) (above rows)
above_map f rows = ap (flat_map zipped_rows) (neighbours_map (map f) rows) ∙ zipped_map f (neighbours rows)

meeting_map : (axis : Axis) (f : ℕ → ℕ) (rows : List (List ℕ))
    → meeting axis (map (map f) rows) ≡ map (both f) (meeting axis rows)
meeting_map X f rows = above_map f rows
meeting_map Y f rows = beside_map f rows

pub borders_map : (axis : Axis) (f : ℕ → ℕ) (grids : List (List (List ℕ)))
    → borders_of axis (map (map (map f)) grids) ≡ map (both f) (borders_of axis grids)
borders_map axis f [] = refl
borders_map axis f (rows ∷ grids) =
    ap (λ pairs. pairs ++ borders_of axis (map (map (map f)) grids)) (meeting_map axis f rows)
    ∙ ap (λ pairs. map (both f) (meeting axis rows) ++ pairs) (borders_map axis f grids)
    ∙ sym (map-append (both f) (meeting axis rows) (borders_of axis grids))

-- rectangular rows stay so
pub rectangular_map : (f : ℕ → ℕ) (rows : List (List ℕ)) → IsRectangular rows → IsRectangular (map (map f) rows)
rectangular_map f rows is =
    let first : first_row (map (map f) rows) ≡ map f (first_row rows) = get_or-map (map f) rows 0 [] in
    let many : length (first_row (map (map f) rows)) ≡ length (first_row rows) = ap length first
    ∙ length-map (first_row rows) f in
    let wide : length (map (map f) rows) ≡ length rows = length-map rows (map f) in
    record {
      some_rows = (let some = is.some_rows in omega arith);
      some_columns = (let some = is.some_columns in omega arith);
      equal = λ k d lt. row_at_map k d lt many wide is.equal;
    }
  where
    row_at_map : (k : ℕ) (d : List ℕ) → k < length (map (map f) rows)
        → length (first_row (map (map f) rows)) ≡ length (first_row rows) → length (map (map f) rows) ≡ length rows
        → All (λ row. length row ≡ length (first_row rows)) rows
        → length (get_or (map (map f) rows) k d) ≡ length (first_row (map (map f) rows))
    row_at_map k d lt many wide equal =
        ap length (get_or_default (map (map f) rows) k d (map f []) lt ∙ get_or-map (map f) rows k [])
        ∙ length-map (get_or rows k []) f ∙ equal k [] (omega arith) ∙ sym many
