-- Each cell that grids name has a place among the masters.
use Rattle.std.proofs.Common.{◌≡◌, ℕ, ◌<◌, Bool, true, false, ◌||◌, cond, Some, None, unwrap_or, List, [], ◌∷◌, ◌++◌}
use Rattle.std.proofs.{Common.{length, map, get_or, refl, ap, sym, subst, ◌∙◌}, lemmas.Bool.{eq-eqb, eqb-true}}
use Rattle.std.proofs.lemmas.List.{Folds.{list_any-append, flat_map-map}, Quantifiers.position-Some}
use Rattle.std.specs.List.{AllByRecursion, list_any, fold, flat_map, position, position_or_len}
use Rattle.stick_text.specs.declared.design.GridText.{GridText}
use Rattle.checked_cells.specs.CheckedCell.{CheckedCell}
use Rattle.plan_model.specs.Rows.{add_new, firsts}
use Rattle.grid_plan.specs.Numbered.{is_same_number, master_of, numbers_in_row, numbers_in_grid, masters_in}
use Rattle.grid_plan.proofs.Placing.{any_place}
use Rattle.list_facts.proofs.Elements.{all_pieces, all_weaker}

pub record HasPlace (masters : List ℕ) (x : ℕ) : Type 0 where
  pub within : master_of masters x < length masters
  pub there : get_or masters (master_of masters x) 0 ≡ x

place_of : (masters : List ℕ) (x : ℕ) → list_any (is_same_number x) masters ≡ true → HasPlace masters x
place_of masters x e =
    let q = position_or_len (is_same_number x) masters in
    let some : position (is_same_number x) masters ≡ Some q =
    ap (λ b. cond b (Some q) None) (sym (any_place (is_same_number x) masters) ∙ e) in
    let at : master_of masters x ≡ q = ap (λ o. unwrap_or o 0) some in
    let found = position-Some (is_same_number x) masters q 0 some in
    record {
      within = subst (λ k. k < length masters) (sym at) found.0;
      there = ap (λ k. get_or masters k 0) at ∙ sym (eqb-true x (get_or masters q 0) found.1);
    }

kept_there : (p : ℕ → Bool) (found : List ℕ) (y : ℕ) → list_any p found ≡ true
    → list_any p (add_new is_same_number found y) ≡ true
kept_there p found y h = go (list_any (is_same_number y) found)
  where
    go : (there : Bool) → list_any p (cond there found (found ++ y ∷ [])) ≡ true
    go true = h
    go false = list_any-append p found (y ∷ []) ∙ ap (λ b. b || list_any p (y ∷ [])) h

kept_through : (p : ℕ → Bool) (found xs : List ℕ) → list_any p found ≡ true
    → list_any p (fold (add_new is_same_number) found xs) ≡ true
kept_through p found [] h = h
kept_through p found (x ∷ xs) h = kept_through p (add_new is_same_number found x) xs (kept_there p found x h)

or_here : (a b : Bool) → b ≡ true → (a || (b || false)) ≡ true
or_here true b e = refl
or_here false true e = refl
or_here false false e = e

added_there : (found : List ℕ) (y : ℕ) → list_any (is_same_number y) (add_new is_same_number found y) ≡ true
added_there found y = go (list_any (is_same_number y) found) refl
  where
    go : (there : Bool) → there ≡ list_any (is_same_number y) found
        → list_any (is_same_number y) (cond there found (found ++ y ∷ [])) ≡ true
    go true e = sym e
    go false e = list_any-append (is_same_number y) found (y ∷ [])
        ∙ or_here (list_any (is_same_number y) found) (is_same_number y y) (eq-eqb y y refl)

all_there : (found xs : List ℕ)
    → AllByRecursion (λ x. list_any (is_same_number x) (fold (add_new is_same_number) found xs) ≡ true) xs
all_there found [] = tt
all_there found (x ∷ xs) = (
  kept_through (is_same_number x) (add_new is_same_number found x) xs (added_there found x),
  all_there
      (add_new is_same_number found x) xs,
)

-- the numbers of all grids in one list, and the masters among them
abbrev pub all_numbers_of : List (List (List ℕ)) → List ℕ
all_numbers_of grids = flat_map (flat_map (λ row. row)) grids

abbrev pub firsts_of : List (List (List ℕ)) → List ℕ
firsts_of grids = firsts is_same_number (all_numbers_of grids)

pub pieces_of : (P : ℕ → Type 0) (grids : List (List (List ℕ))) → AllByRecursion P (all_numbers_of grids)
    → AllByRecursion (λ rows. AllByRecursion (λ row. AllByRecursion P row) rows) grids
pieces_of P grids h =
    all_weaker (λ rows. AllByRecursion P (flat_map (λ row. row) rows))
    (λ rows. AllByRecursion (λ row. AllByRecursion P row) rows) (λ rows k. all_pieces P (λ row. row) rows k) grids
    (all_pieces P (flat_map (λ row. row)) grids h)

pub all_placed : (grids : List (List (List ℕ)))
    → AllByRecursion (λ rows. AllByRecursion (λ row. AllByRecursion (HasPlace (firsts_of grids)) row) rows) grids
all_placed grids =
    pieces_of (HasPlace (firsts_of grids)) grids
    (all_weaker (λ x. list_any (is_same_number x) (firsts_of grids) ≡ true) (HasPlace (firsts_of grids))
    (λ x h. place_of (firsts_of grids) x h) (all_numbers_of grids) (all_there [] (all_numbers_of grids)))

-- the numbers of the cells that grids name
flat_numbers : (cells : List CheckedCell) (grids : List GridText)
    → all_numbers_of (map (numbers_in_grid cells) grids)
    ≡ flat_map (λ grid. flat_map (numbers_in_row cells) grid.rows) grids
flat_numbers cells [] = refl
flat_numbers cells (grid ∷ grids) =
    ap (λ xs. xs ++ all_numbers_of (map (numbers_in_grid cells) grids))
    (flat_map-map (λ row. row) (numbers_in_row cells) grid.rows)
    ∙ ap (λ xs. flat_map (numbers_in_row cells) grid.rows ++ xs) (flat_numbers cells grids)

pub same_masters : (cells : List CheckedCell) (grids : List GridText)
    → firsts_of (map (numbers_in_grid cells) grids) ≡ masters_in cells grids
same_masters cells grids = ap (firsts is_same_number) (flat_numbers cells grids)
