-- Cells and grids that are copied, part by part.
use Rattle.std.proofs.Common.{◌≡◌, ℕ, ◌+◌, ◌<◌, ◌≤◌, List, [], ◌∷◌, ◌++◌, length, take, drop, set, refl, sym, ap, ◌∙◌}
use Rattle.std.proofs.{Common.{arith, append_assoc, add-one}, lemmas.List.{set_split, Sums.sum_by-take-drop}}
use Rattle.std.{proofs.lemmas.List.Sums.sum_by-drop_more, specs.Prelude.sum_by}
use Rattle.stick_text.specs.declared.design.{CellText.CellText, GridText.GridText, Design.Design}
use Rattle.stick_print.specs.ReadBack.{lines_from, cells_from, line_after_cells, grids_from, laid_out}
use Rattle.design_edits.specs.Cells.{no_cell}
use Rattle.design_sizes.specs.Sizes.{lines_of_cell}

abbrev numbered : ℕ → CellText → CellText
numbered n x = record { name = x.name; line = n; end_line = n + 1 + length x.lines; lines = lines_from (n + 1) x.lines }

pub cells_from-append : (n : ℕ) (xs ys : List CellText)
    → cells_from n (xs ++ ys) ≡ cells_from n xs ++ cells_from (line_after_cells n xs) ys
cells_from-append n [] ys = refl
cells_from-append n (x ∷ xs) ys = ap (λ l. numbered n x ∷ l) (cells_from-append (n + 1 + length x.lines + 1) xs ys)

pub line_after_cells-append : (n : ℕ) (xs ys : List CellText)
    → line_after_cells n (xs ++ ys) ≡ line_after_cells (line_after_cells n xs) ys
line_after_cells-append n [] ys = refl
line_after_cells-append n (x ∷ xs) ys = line_after_cells-append (n + 1 + length x.lines + 1) xs ys

-- the other cells have fewer lines than all
pub few_cells : (cells : List CellText) (n : ℕ) → n < length cells
    → 2 + (sum_by lines_of_cell (take n cells) + sum_by lines_of_cell (drop (n + 1) cells)) ≤ sum_by lines_of_cell
    cells
few_cells cells n lt =
    omega (arith, sum_by-take-drop lines_of_cell cells n, sum_by-drop_more lines_of_cell cells n no_cell lt)

-- the cells before one, the other one in its place, and the cells after it
pub laid_with : (version : ℕ) (cells : List CellText) (grids : List GridText) (n first second third : ℕ)
    (cell copy : CellText) (none one two three : List CellText) (copies : List GridText) (prefix back : List CellText)
    → n < length cells → prefix ≡ take n cells → back ≡ drop (n + 1) cells
    → none ≡ [] → one ≡ none ++ cells_from 2 prefix → first ≡ line_after_cells 2 prefix
    → copy ∷ [] ≡ cells_from first (cell ∷ []) → two ≡ one ++ copy ∷ [] → second ≡ first + length cell.lines + 2
    → three ≡ two ++ cells_from second back → third ≡ line_after_cells second back → copies ≡ grids_from third grids
    → ◌≡◌ {A = Design} (record { version = version; cells = three; grids = copies })
    (laid_out (record { version = version; cells = set cells n cell; grids = grids }))
laid_with version cells grids n first second third cell copy none one two three copies prefix back lt is_prefix
    is_back e0 e1 e2 e3 e4 e5 e6 e7 e8 =
    let split : set cells n cell ≡ prefix ++ cell ∷ back = set_split cells n cell lt
    ∙ ap (λ (k : ℕ). take n cells ++ cell ∷ drop k cells) (sym (add-one n))
    ∙ ap (λ (l : List CellText). l ++ cell ∷ drop (n + 1) cells) (sym is_prefix)
    ∙ ap (λ (l : List CellText). prefix ++ cell ∷ l) (sym is_back) in
    let number : first + 1 + length cell.lines + 1 ≡ second = omega arith in
    let after : cells_from first (cell ∷ back) ≡ copy ∷ cells_from second back =
    ap (λ (l : List CellText). l ++ cells_from (first + 1 + length cell.lines + 1) back) (sym e3)
    ∙ ap (λ (k : ℕ). copy ∷ cells_from k back) number in
    let whole : cells_from 2 (prefix ++ cell ∷ back) ≡ cells_from 2 prefix ++ copy ∷ cells_from second back =
    cells_from-append 2 prefix (cell ∷ back)
    ∙ ap (λ (k : ℕ). cells_from 2 prefix ++ cells_from k (cell ∷ back)) (sym e2)
    ∙ ap (λ (l : List CellText). cells_from 2 prefix ++ l) after in
    let made : three ≡ cells_from 2 prefix ++ copy ∷ cells_from second back =
    e6 ∙ ap (λ (l : List CellText). l ++ cells_from second back)
    (e4 ∙ ap (λ (l : List CellText). l ++ copy ∷ [])
    (e1 ∙ ap (λ (l : List CellText). l ++ cells_from 2 prefix) e0)) ∙ append_assoc (cells_from 2 prefix) (copy ∷
    []) (cells_from second back) in
    let cells_same : three ≡ cells_from 2 (set cells n cell) = made ∙ sym whole ∙ sym (ap (cells_from 2) split) in
    let third_is : third ≡ line_after_cells 2 (set cells n cell) =
    e7 ∙ sym (ap (λ (k : ℕ). line_after_cells k back) number) ∙ ap (λ (k : ℕ). line_after_cells k (cell ∷ back)) e2
    ∙ sym (line_after_cells-append 2 prefix (cell ∷ back)) ∙ sym (ap (line_after_cells 2) split) in
    let grids_same : copies ≡ grids_from (line_after_cells 2 (set cells n cell)) grids = e8
    ∙ ap (λ (k : ℕ). grids_from k grids) third_is in
    ap (λ (l : List CellText). record { version = version; cells = l; grids = copies }) cells_same
    ∙ ap (λ (l : List GridText). record { version = version; cells = cells_from 2 (set cells n cell); grids = l })
    grids_same
