use Rattle.std.{proofs.Common.{◌≡◌, ℕ, ◌+◌, None, List, [], ◌∷◌, length, ap, ◌∙◌, arith}, specs.Prelude.codes}
use Rattle.stick_text.specs.declared.design.{Form.Form, CellText.CellText, GridText.GridText, Design.Design}
use Rattle.design_gen.{specs.Made.{forms_of, lines_from, made}, proofs.Growing.few_forms}
use Rattle.design_gen.proofs.making.make.Goals as goal

abbrev cell_with : ℕ → List Form → CellText
cell_with size forms = record { name = codes "bench"; line = 2; end_line = 3 + size; lines = lines_from 3 forms }

abbrev grid_from : ℕ → GridText
grid_from line = record { name = None; line = line; rows = record { names = codes "bench" ∷ [] } ∷ [] }

abbrev design_with : CellText → GridText → Design
design_with cell grid = record { version = 1; cells = cell ∷ []; grids = grid ∷ [] }

whole : (n size : ℕ) (forms : List Form) (cell : CellText) (grid : GridText) → forms ≡ forms_of n
    → size ≡ length forms → cell ≡ cell_with size forms → grid ≡ grid_from (cell.end_line + 1)
    → design_with cell grid ≡ made n
unfolding made
whole n size forms cell grid same long is_cell is_grid =
    let size_is : size ≡ length (forms_of n) = long ∙ ap length same in
    let line : cell.end_line + 1 ≡ 4 + length (forms_of n) = omega (arith, ap (λ x. x.end_line) is_cell, size_is) in
    ap (λ x. design_with x grid) (is_cell ∙ ap (λ k. cell_with k forms) size_is
    ∙ ap (cell_with (length (forms_of n))) same)
    ∙ ap (design_with (cell_with (length (forms_of n)) (forms_of n))) (is_grid ∙ ap grid_from line)

pub cell_of-requires : goal.cell_of-requires
cell_of-requires c =
    omega (arith, few_forms c.args.n c.requires.few, ap length c.in_ok-forms.ensures, c.in_ok-forms.forms.ok.0)

pub overflow_add-cell : goal.overflow_add-cell
overflow_add-cell c =
    omega (
      arith,
      few_forms c.args.n c.requires.few,
      ap length c.in_ok-forms.ensures,
      c.in_ok-forms.forms.ok.0,
      ap
          (λ cell. cell.end_line) c.in_ok-cell.ensures,
    )

same_lists : (cells : List CellText) (grids : List GridText) (cell : CellText) (grid : GridText) → cells ≡ cell ∷ []
    → grids ≡ grid ∷ [] → record { version = 1; cells = cells; grids = grids } ≡ design_with cell grid
same_lists cells grids cell grid e f = cc

pub returns : goal.returns
returns c =
    same_lists c.from_vec.result c.from_vec-2.result c.in_ok-cell.cell c.in_ok-grid.grid
    (c.from_vec.ensures ∙ c.in_ok-vec.ensures.items) (c.from_vec-2.ensures ∙ c.in_ok-vec-2.ensures.items)
    ∙ whole c.args.n _ c.in_ok-forms.forms.items c.in_ok-cell.cell c.in_ok-grid.grid c.in_ok-forms.ensures
    c.in_ok-forms.forms.ok.0 c.in_ok-cell.ensures c.in_ok-grid.ensures
