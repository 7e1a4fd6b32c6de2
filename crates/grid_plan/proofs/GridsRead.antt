-- Grids without a fault: their rows are equally long.
use Rattle.std.proofs.Common.{◌≡◌, ℕ, zero, suc, ◌+◌, ◌<◌, Option, Some, None, List, [], ◌∷◌, inl, inr, length, map}
use Rattle.std.proofs.{Common.{get_or, cond, refl, ap, sym, ◌∙◌, arith}, lemmas.Bool.Decides.eqb_tells}
use Rattle.std.{proofs.lemmas.List.length-map, specs.{List.{All, AllByRecursion}, Option.option_or}}
use Rattle.stick_text.specs.declared.{design.RowText.RowText, fault.GridFault.TheVariants.RaggedRow}
use Rattle.checked_cells.specs.CheckedCell.{CheckedCell}
use Rattle.plan_model.specs.Rows.{first_row}
use Rattle.grid_plan.specs.{Faults.{first_found, ragged_row, ragged_in}, Numbered.{cell_named, numbers_in_row}}
use Rattle.list_facts.proofs.Elements.{by_number, all_map, all_of}

-- ---- nothing is found

pub both_none : {B : Type 0} (a b : Option B) → option_or a b ≡ None → (a ≡ None) × (b ≡ None)
both_none None b e = (refl, e)
both_none (Some x) b e = cc

found_not : {A B : Type 0} (find : ℕ → A → Option B) (k : ℕ) (xs : List A) → first_found find k xs ≡ None
    → (j : ℕ) (d : A) → j < length xs → find (k + j) (get_or xs j d) ≡ None
found_not find k [] none j d lt = absurd (omega arith)
found_not find k (x ∷ xs) none zero d lt =
    let here : k + zero ≡ k = omega arith in
    ap (λ i. find i x) here ∙ (both_none (find k x) (first_found find (suc k) xs) none).0
found_not find k (x ∷ xs) none (suc j) d lt =
    let there : k + suc j ≡ suc k + j = omega arith in
    ap (λ i. find i (get_or xs j d)) there
    ∙ found_not find (suc k) xs (both_none (find k x) (first_found find (suc k) xs) none).1 j d (omega arith)

pub nowhere : {A B : Type 0} (find : ℕ → A → Option B) (xs : List A) → first_found find 0 xs ≡ None → (j : ℕ) (d : A)
    → j < length xs → find j (get_or xs j d) ≡ None
nowhere find xs none j d lt =
    (let here : 0 + j ≡ j = omega arith in ap (λ i. find i (get_or xs j d)) (sym here)
    ∙ found_not find 0 xs none j d lt)

-- ---- rows of one length

as_long : (columns row : ℕ) (text : RowText) → ragged_row columns row text ≡ None → length text.names ≡ columns
as_long columns row text e = elim (eqb_tells (length text.names) columns) [
  | inl same ↦ same.1
  | inr other ↦
      absurd (let h : ragged_row columns row text ≡ Some (RaggedRow row) = ap
      (λ b. cond b None (Some (RaggedRow row))) other.0 in cc)
]

pub no_text : RowText
no_text = record { names = [] }

pub equal_rows : (cells : List CheckedCell) (rows : List RowText) → ragged_in rows ≡ None
    → All (λ row. length row ≡ length (first_row (map (numbers_in_row cells) rows))) (map (numbers_in_row cells) rows)
equal_rows cells [] none = all_of (λ row. length row ≡ length (first_row [])) [] tt
equal_rows cells (first ∷ rows) none =
    let columns : ℕ = length (map (cell_named cells) first.names) in
    let long : columns ≡ length first.names = length-map first.names (cell_named cells) in
    let each : AllByRecursion (λ text. length (numbers_in_row cells text) ≡ columns) (first ∷ rows) =
    by_number (λ text. length (numbers_in_row cells text) ≡ columns) (first ∷ rows) no_text
    (λ j lt. length-map (get_or (first ∷ rows) j no_text).names (cell_named cells)
    ∙ (as_long (length first.names) j (get_or (first ∷ rows) j no_text)
    (nowhere (ragged_row (length first.names)) (first ∷ rows) none j no_text lt) ∙ sym long)) in
    all_of (λ row. length row ≡ columns) (map (numbers_in_row cells) (first ∷ rows))
    (all_map (λ row. length row ≡ columns) (numbers_in_row cells) (first ∷ rows) each)
