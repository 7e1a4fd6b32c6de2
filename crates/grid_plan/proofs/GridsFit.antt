-- Where no misfit is found, the ports fit at each border.
use Rattle.std.proofs.Common.{◌≡◌, ℕ, suc, ◌+◌, ◌<◌, cond, true, false, Option, Some, None, List, [], ◌∷◌, length}
use Rattle.std.proofs.{Common.{get_or, refl, ap, sym, subst, ◌∙◌, arith}, lemmas.Bool.lt-ltb}
use Rattle.std.specs.{List.{AllByRecursion, zip}, Option.option_map}
use Rattle.lam_geom.specs.declared.boxes.Axis.{Axis, TheVariants.{X, Y}}
use Rattle.cell_model.specs.declared.cell.CellPort.{CellPort}
use Rattle.plan_model.specs.{Borders.{misfit_at, FitsAt}, Plan.meeting, Rows.{neighbours, zipped_rows, row_at}}
use Rattle.stick_text.specs.declared.fault.GridFault.TheVariants.{PortMismatch}
use Rattle.grid_plan.specs.Faults.{misfit_on_right, misfit_on_top, misfit_here, misfit_in_row, misfit_in}
use Rattle.grid_plan.proofs.GridsRead.{nowhere, both_none}
use Rattle.list_facts.proofs.Elements.{by_number, all_flat}

pub no_image : {A B : Type 0} (f : A → B) (o : Option A) → option_map f o ≡ None → o ≡ None
no_image f None e = refl
no_image f (Some x) e = cc

-- ---- by the numbers of neighbours

by_neighbours : {A : Type 0} (P : A × A → Type 0) (xs : List A) (d : A)
    → ((c : ℕ) → c + 1 < length xs → P (get_or xs c d, get_or xs (c + 1) d)) → AllByRecursion P (neighbours xs)
by_neighbours P [] d h = tt
by_neighbours P (x ∷ []) d h = tt
by_neighbours P (x ∷ y ∷ rest) d h = (
  h 0 (omega arith),
  by_neighbours P (y ∷ rest) d
      (λ c lt.
      (let e : suc c + 1 ≡ suc (c + 1) = omega arith in subst
      (λ k. P (get_or (y ∷ rest) c d, get_or (x ∷ y ∷ rest) k d)) e (h (suc c) (omega arith)))),
)

by_zip : {A B : Type 0} (P : A × B → Type 0) (xs : List A) (ys : List B) (d : A) (e : B)
    → ((c : ℕ) → c < length xs → c < length ys → P (get_or xs c d, get_or ys c e)) → AllByRecursion P (zip xs ys)
by_zip P [] ys d e h = tt
by_zip P (x ∷ xs) [] d e h = tt
by_zip P (x ∷ xs) (y ∷ ys) d e h =
    (h 0 (omega arith) (omega arith), by_zip P xs ys d e (λ c lt less. h (suc c) (omega arith) (omega arith)))

-- ---- at each instance

right_fits : (ports : List (List CellPort)) (rows : List (List ℕ)) (r c : ℕ) → misfit_on_right ports rows r c ≡ None
    → c + 1 < length (row_at rows r)
    → FitsAt Y ports (get_or (row_at rows r) c 0, get_or (row_at rows r) (c + 1) 0)
right_fits ports rows r c none lt =
    no_image (PortMismatch r c false) (misfit_at Y ports (get_or (row_at rows r) c 0, get_or (row_at rows r) (c + 1) 0))
    (ap (λ t.
    cond t (option_map (PortMismatch r c false)
    (misfit_at Y ports (get_or (row_at rows r) c 0, get_or (row_at rows r) (c + 1) 0))) None) (sym (lt-ltb (c + 1)
    (length (row_at rows r)) lt)) ∙ none)

top_fits : (ports : List (List CellPort)) (rows : List (List ℕ)) (r c : ℕ) → misfit_on_top ports rows r c ≡ None
    → r + 1 < length rows
    → FitsAt X ports (get_or (row_at rows r) c 0, get_or (row_at rows (r + 1)) c 0)
top_fits ports rows r c none lt =
    no_image (PortMismatch r c true) (misfit_at X ports (get_or (row_at rows r) c 0, get_or (row_at rows (r + 1)) c 0))
    (ap (λ t.
    cond t (option_map (PortMismatch r c true)
    (misfit_at X ports (get_or (row_at rows r) c 0, get_or (row_at rows (r + 1)) c 0))) None) (sym (lt-ltb (r + 1)
    (length rows) lt)) ∙ none)

none_at : (ports : List (List CellPort)) (rows : List (List ℕ)) (r c : ℕ) → misfit_in ports rows ≡ None
    → r < length rows → c < length (row_at rows r)
    → (misfit_on_right ports rows r c ≡ None) × (misfit_on_top ports rows r c ≡ None)
none_at ports rows r c none lr lc =
    let in_row : misfit_in_row ports rows r (row_at rows r) ≡ None =
    nowhere (misfit_in_row ports rows) rows none r [] lr in
    both_none (misfit_on_right ports rows r c) (misfit_on_top ports rows r c)
    (nowhere (misfit_here ports rows r) (row_at rows r) in_row c 0 lc)

pub all_fit : (axis : Axis) (ports : List (List CellPort)) (rows : List (List ℕ)) → misfit_in ports rows ≡ None
    → AllByRecursion (FitsAt axis ports) (meeting axis rows)
all_fit Y ports rows none =
    all_flat (FitsAt Y ports) neighbours rows
    (by_number (λ row. AllByRecursion (FitsAt Y ports) (neighbours row)) rows []
    (λ r lr. by_neighbours (FitsAt Y ports) (row_at rows r) 0
    (λ c lc. right_fits ports rows r c (none_at ports rows r c none lr (omega arith)).0 lc)))
all_fit X ports rows none =
    all_flat (FitsAt X ports) zipped_rows (neighbours rows)
    (by_neighbours (λ pair. AllByRecursion (FitsAt X ports) (zip pair.0 pair.1)) rows []
    (λ r lr. by_zip (FitsAt X ports) (row_at rows r) (row_at rows (r + 1)) 0 0
    (λ c lc less. top_fits ports rows r c (none_at ports rows r c none (omega arith) lc).1 lr)))
