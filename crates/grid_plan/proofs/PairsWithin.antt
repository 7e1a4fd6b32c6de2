-- What holds of both elements of each pair of neighbours, and of each element of the columns.
use Rattle.std.proofs.Common.{◌≡◌, ℕ, ◌<◌, List, [], ◌∷◌, ◌++◌, length, map, get_or, cond, true, false, Bool, arith}
use Rattle.std.proofs.Common.{sym, subst}
use Rattle.std.specs.List.{All, AllByRecursion, zip, flat_map, range_with_len, list_any, fold}
use Rattle.list_facts.proofs.Elements.{all_append, all_weaker, all_map, all_at, all_flat, all_numbers, by_number}
use Rattle.list_facts.proofs.Elements.{all_of}
use Rattle.plan_model.specs.Rows.{neighbours, zipped_rows, beside, above, column_at, columns_of, first_row, add_new}
use Rattle.plan_model.specs.Rows.{firsts}
use Rattle.grid_plan.specs.Small.{IsWithin, IsGridOf}

pub of_neighbours : {A : Type 0} (P : A → Type 0) (xs : List A) → AllByRecursion P xs
    → AllByRecursion (λ pair. P pair.0 × P pair.1) (neighbours xs)
of_neighbours P [] h = tt
of_neighbours P (x ∷ []) h = tt
of_neighbours P (x ∷ y ∷ rest) h = ((h.0, h.1.0), of_neighbours P (y ∷ rest) h.1)

of_zipped : {A : Type 0} (P : A → Type 0) (xs ys : List A) → AllByRecursion P xs → AllByRecursion P ys
    → AllByRecursion (λ pair. P pair.0 × P pair.1) (zip xs ys)
of_zipped P [] ys h k = tt
of_zipped P (x ∷ xs) [] h k = tt
of_zipped P (x ∷ xs) (y ∷ ys) h k = ((h.0, k.0), of_zipped P xs ys h.1 k.1)

pub of_beside : (P : ℕ → Type 0) (rows : List (List ℕ)) → AllByRecursion (λ row. AllByRecursion P row) rows
    → AllByRecursion (λ pair. P pair.0 × P pair.1) (beside rows)
of_beside P rows h =
    all_flat (λ pair. P pair.0 × P pair.1) neighbours rows
    (all_weaker (λ row. AllByRecursion P row)
    (λ row. AllByRecursion (λ pair. P pair.0 × P pair.1) (neighbours row)) (λ row k. of_neighbours P row k) rows
    h)

pub of_above : (P : ℕ → Type 0) (rows : List (List ℕ)) → AllByRecursion (λ row. AllByRecursion P row) rows
    → AllByRecursion (λ pair. P pair.0 × P pair.1) (above rows)
of_above P rows h =
    all_flat (λ pair. P pair.0 × P pair.1) zipped_rows (neighbours rows)
    (all_weaker (λ pair. AllByRecursion P pair.0 × AllByRecursion P pair.1)
    (λ pair. AllByRecursion (λ two. P two.0 × P two.1) (zipped_rows pair))
    (λ pair k. of_zipped P pair.0 pair.1 k.0 k.1) (neighbours rows)
    (of_neighbours (λ row. AllByRecursion P row) rows h))

of_column : (P : ℕ → Type 0) (c : ℕ) (rows : List (List ℕ)) → AllByRecursion (λ row. AllByRecursion P row) rows
    → AllByRecursion (λ row. c < length row) rows → AllByRecursion P (column_at rows c)
of_column P c [] h long = tt
of_column P c (row ∷ rows) h long = (all_at P row 0 c h.0 long.0, of_column P c rows h.1 long.1)

of_columns : (P : ℕ → Type 0) (rows : List (List ℕ)) → AllByRecursion (λ row. AllByRecursion P row) rows
    → AllByRecursion (λ row. length row ≡ length (first_row rows)) rows
    → AllByRecursion (λ row. AllByRecursion P row) (columns_of rows)
of_columns P rows h equal =
    all_map (λ row. AllByRecursion P row) (column_at rows) (range_with_len 0 (length (first_row rows)))
    (all_numbers (λ c. AllByRecursion P (column_at rows c)) 0 (length (first_row rows))
    (λ c le lt.
    of_column P c rows h
    (all_weaker (λ row. length row ≡ length (first_row rows)) (λ row. c < length row) (λ row e. omega arith) rows
    equal)))

-- ---- over all grids

pub rec_of : {X : Type 0} (P : X → Type 0) (xs : List X) (d : X) → All P xs → AllByRecursion P xs
rec_of P xs d h = by_number P xs d (λ k lt. h k d lt)

numbers_of : (n : ℕ) (rows : List (List ℕ)) → All (All (λ k. k < n)) rows
    → AllByRecursion (λ row. AllByRecursion (λ k. k < n) row) rows
numbers_of n rows h = by_number (λ row. AllByRecursion (λ k. k < n) row) rows []
    (λ k lt. rec_of (λ j. j < n) (get_or rows k []) 0 (h k [] lt))

pub beside_within : (n : ℕ) (grids : List (List (List ℕ))) → All (IsGridOf n) grids
    → All (IsWithin n) (flat_map beside grids)
beside_within n grids h =
    all_of (IsWithin n) (flat_map beside grids)
    (all_flat (IsWithin n) beside grids (by_number (λ rows. AllByRecursion (IsWithin n) (beside rows)) grids []
    (λ k lt. of_beside (λ j. j < n) (get_or grids k []) (numbers_of n (get_or grids k []) (h k [] lt).are.within))))

pub above_within : (n : ℕ) (grids : List (List (List ℕ))) → All (IsGridOf n) grids
    → All (IsWithin n) (flat_map above grids)
above_within n grids h =
    all_of (IsWithin n) (flat_map above grids)
    (all_flat (IsWithin n) above grids (by_number (λ rows. AllByRecursion (IsWithin n) (above rows)) grids []
    (λ k lt. of_above (λ j. j < n) (get_or grids k []) (numbers_of n (get_or grids k []) (h k [] lt).are.within))))

pub columns_within : (n : ℕ) (grids : List (List (List ℕ))) → All (IsGridOf n) grids
    → All (IsWithin n) (flat_map beside (map columns_of grids))
columns_within n grids h =
    all_of (IsWithin n) (flat_map beside (map columns_of grids)) (all_flat (IsWithin n) beside (map columns_of grids)
    (all_map (λ rows. AllByRecursion (IsWithin n) (beside rows)) columns_of grids
    (by_number (λ rows. AllByRecursion (IsWithin n) (beside (columns_of rows))) grids []
    (λ k lt.
    of_beside (λ j. j < n) (columns_of (get_or grids k []))
    (of_columns (λ j. j < n) (get_or grids k []) (numbers_of n (get_or grids k []) (h k [] lt).are.within)
    (rec_of (λ row. length row ≡ length (first_row (get_or grids k []))) (get_or grids k []) []
    (h k [] lt).are.equal))))))

-- of lists that are lent
pub lent_within : (masters lent : List ℕ) (pairs given : List (ℕ × ℕ)) → lent ≡ masters → given ≡ pairs
    → All (IsWithin (length masters)) pairs → All (IsWithin (length lent)) given
lent_within masters lent pairs given e f h =
    let P : List (ℕ × ℕ) → Type 0 = All (IsWithin (length masters)) in
    let Q : List ℕ → Type 0 = λ ms. All (IsWithin (length ms)) given in
    subst Q (sym e) (subst P (sym f) h)

-- ---- of the first places

each_first : {A : Type 0} (P : A → Type 0) (same : A → A → Bool) (found xs : List A) → AllByRecursion P found
    → AllByRecursion P xs → AllByRecursion P (fold (add_new same) found xs)
each_first P same found [] h k = h
each_first P same found (x ∷ xs) h k = each_first P same (add_new same found x) xs (go (list_any (same x) found)) k.1
  where
    go : (there : Bool) → AllByRecursion P (cond there found (found ++ x ∷ []))
    go true = h
    go false = all_append P found (x ∷ []) h (k.0, tt)

pub firsts_all : {A : Type 0} (P : A → Type 0) (same : A → A → Bool) (xs : List A) (d : A) → All P xs
    → All P (firsts same xs)
firsts_all P same xs d h = all_of P (firsts same xs) (each_first P same [] xs tt (rec_of P xs d h))
