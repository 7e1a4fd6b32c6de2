-- What is read of lines, and the kind of a fault, do not depend on the numbers of the lines.
use Rattle.std.proofs.Common.{◌≡◌, ℕ, ◌+◌, List, [], ◌∷◌, ◌++◌, length, Result, Ok, Err, refl, sym, ap, ◌∙◌}
use Rattle.rule_table.specs.declared.technology.Tech.{Tech}
use Rattle.stick_text.specs.declared.fault.StickKind.{StickKind, TheVariants.{RepeatedName, PortWires}}
use Rattle.stick_text.specs.declared.{fault.StickFault.StickFault, design.{Line.Line, CellText.CellText}}
use Rattle.stick_text.specs.{declared.design.{GridText.GridText, Design.Design}, Reading.{◌>>=◌, demand}, Order.at_line}
use Rattle.stick_print.specs.ReadBack.{lines_from, cells_from, line_after_cells, grids_from, laid_out}
use Rattle.checked_cells.specs.{CheckedCell.{CheckedCell, begun}, Lines.{after_form, after_lines, is_wired}}
use Rattle.checked_cells.specs.{Lines.{is_new_cell, after_cell, cells_after, known_cells}, Grids.is_new_grid}
use Rattle.checked_cells.specs.Grids.{with_grid_name, grids_after, resolved_cells}

-- what is read, or the kind of the fault
abbrev pub kinded : {A : Type 0} → Result A StickFault → Result A StickKind
kinded (Ok x) = Ok x
kinded (Err fault) = Err fault.kind

kinded_at : {A : Type 0} (n m : ℕ) (r : Result A StickKind) → kinded (at_line n r) ≡ kinded (at_line m r)
kinded_at n m (Ok x) = refl
kinded_at n m (Err kind) = refl

same_ok : {A : Type 0} (a b : A) → ◌≡◌ {A = Result A StickKind} (Ok a) (Ok b) → a ≡ b
same_ok a b e = cc

no_ok : {A : Type 0} (a : A) (kind : StickKind) → ◌≡◌ {A = Result A StickKind} (Ok a) (Err kind) → ⊥
no_ok a kind e = cc

same_kind : {A : Type 0} (a b : StickKind) → ◌≡◌ {A = Result A StickKind} (Err a) (Err b) → a ≡ b
same_kind a b e = cc

kinded_then : {A B : Type 0} (r s : Result A StickFault) (f g : A → Result B StickFault) → kinded r ≡ kinded s
    → ((a : A) → kinded (f a) ≡ kinded (g a)) → kinded (r >>= f) ≡ kinded (s >>= g)
kinded_then (Ok a) (Ok b) f g e h = h a ∙ ap (λ x. kinded (g x)) (same_ok a b e)
kinded_then (Ok a) (Err fault) f g e h = absurd (no_ok a fault.kind e)
kinded_then (Err fault) (Ok b) f g e h = absurd (no_ok b fault.kind (sym e))
kinded_then {A} (Err fault) (Err other) f g e h =
    ap (λ (k : StickKind). Err k) (same_kind {A = A} fault.kind other.kind e)

-- ---- lines, cells and grids

lines_renumbered : (tech : Tech) (cells : List CheckedCell) (known : CheckedCell) (n : ℕ) (lines : List Line)
    → kinded (after_lines tech cells known (lines_from n lines)) ≡ kinded (after_lines tech cells known lines)
lines_renumbered tech cells known n [] = refl
lines_renumbered tech cells known n (line ∷ lines) =
    kinded_then (at_line n (after_form tech cells known line.form))
    (at_line line.number (after_form tech cells known line.form)) _ _
    (kinded_at n line.number (after_form tech cells known line.form))
    (λ next. lines_renumbered tech cells next (n + 1) lines)

cell_renumbered : (tech : Tech) (cells : List CheckedCell) (n m : ℕ) (text : CellText)
    → kinded
    (after_cell tech cells
    (record {
      name = text.name;
      line = n;
      end_line = m;
      lines = lines_from (n + 1) text.lines;
    })) ≡ kinded (after_cell tech cells text)
unfolding after_cell
cell_renumbered tech cells n m text =
    kinded_then (at_line n (demand (is_new_cell cells text.name) RepeatedName))
    (at_line text.line (demand (is_new_cell cells text.name) RepeatedName)) _ _
    (kinded_at n text.line (demand (is_new_cell cells text.name) RepeatedName)) (λ fresh.
    kinded_then (after_lines tech cells (begun text.name) (lines_from (n + 1) text.lines))
    (after_lines tech cells (begun text.name) text.lines) _ _
    (lines_renumbered tech cells (begun text.name) (n + 1) text.lines) (λ known.
    kinded_then (at_line m (demand (is_wired known) PortWires))
    (at_line text.end_line (demand (is_wired known) PortWires)) _ _
    (kinded_at m text.end_line (demand (is_wired known) PortWires)) (λ wired. refl)))

cells_renumbered : (tech : Tech) (cells : List CheckedCell) (n : ℕ) (texts : List CellText)
    → kinded (cells_after tech cells (cells_from n texts)) ≡ kinded (cells_after tech cells texts)
cells_renumbered tech cells n [] = refl
cells_renumbered tech cells n (text ∷ texts) =
    kinded_then
    (after_cell tech cells
    (record {
      name = text.name;
      line = n;
      end_line = n + 1 + length text.lines;
      lines = lines_from (n + 1) text.lines;
    })) (after_cell tech cells text) _ _
    (cell_renumbered tech cells n (n + 1 + length text.lines) text)
    (λ known. cells_renumbered tech (cells ++ known ∷ []) (n + 1 + length text.lines + 1) texts)

grids_renumbered : (names : List (List ℕ)) (n : ℕ) (grids : List GridText)
    → kinded (grids_after names (grids_from n grids)) ≡ kinded (grids_after names grids)
grids_renumbered names n [] = refl
grids_renumbered names n (grid ∷ grids) =
    kinded_then (at_line n (demand (is_new_grid names grid.name) RepeatedName))
    (at_line grid.line (demand (is_new_grid names grid.name) RepeatedName)) _ _
    (kinded_at n grid.line (demand (is_new_grid names grid.name) RepeatedName))
    (λ new. grids_renumbered (with_grid_name names grid.name) (n + 1 + length grid.rows + 1) grids)

pub resolved_renumbered : (tech : Tech) (design : Design)
    → kinded (resolved_cells tech (laid_out design)) ≡ kinded (resolved_cells tech design)
unfolding resolved_cells known_cells
resolved_renumbered tech design =
    kinded_then (cells_after tech [] (cells_from 2 design.cells)) (cells_after tech [] design.cells) _ _
    (cells_renumbered tech [] 2 design.cells) (λ cells.
    kinded_then (grids_after [] (grids_from (line_after_cells 2 design.cells) design.grids))
    (grids_after [] design.grids) _ _ (grids_renumbered [] (line_after_cells 2 design.cells) design.grids)
    (λ apart. refl))

-- ---- the design on its own lines

pub read_of : {A : Type 0} (r s : Result A StickFault) (x : A) → kinded r ≡ kinded s → s ≡ Ok x → r ≡ Ok x
read_of (Ok a) s x e f = ap (λ y. Ok y) (same_ok a x (e ∙ ap kinded f))
read_of (Err fault) s x e f = absurd (no_ok x fault.kind (sym (e ∙ ap kinded f)))

pub fault_of : {A : Type 0} (r s : Result A StickFault) (fault : StickFault) → kinded r ≡ kinded s → s ≡ Err fault
    → (other : StickFault) × (r ≡ Err other) × (other.kind ≡ fault.kind)
fault_of (Ok a) s fault e f = absurd (no_ok a fault.kind (e ∙ ap kinded f))
fault_of {A} (Err other) s fault e f = (other, refl, same_kind {A = A} other.kind fault.kind (e ∙ ap kinded f))
