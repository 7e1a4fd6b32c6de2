-- A design with an edited cell.
use Rattle.std.proofs.Common.{◌≡◌, ℕ, ◌<◌, List, length, get_or, set, Some, sym, ap, subst, ◌∙◌, arith}
use Rattle.std.{proofs.lemmas.List.Quantifiers.position-Some, specs.{Prelude.slice_set, Str.bytes_eq}}
use Rattle.stick_text.specs.declared.design.{Line.Line, CellText.CellText, Design.Design}
use Rattle.stick_print.specs.ReadBack.{laid_out}
use Rattle.design_edits.{specs.Cells.{no_cell, cell_text_at}, proofs.Laid.{lines_of_laid, text_here}}
use Rattle.edit_lines.specs.declared.script.EditLine.{EditLine, TheVariants.{Add, Take}}
use Rattle.limit_edits.specs.Edits.{number_named, ChangesTo, HasLinesAfter, IsEdited}
use Rattle.limit_edits.proofs.Lines.{changes_are_determined, HasLengthAfter}

pub same_some : (a b : ℕ) → Some a ≡ Some b → a ≡ b
same_some a b e = cc

-- the design with these lines in a cell
abbrev with_lines : Design → ℕ → List Line → Design
with_lines design cell lines =
    laid_out
    (record design { cells = slice_set design.cells cell (record (cell_text_at design cell) { lines = lines }) })

pub edited_is_determined : (design : Design) (masters : List ℕ) (edit : EditLine) (new other : Design)
    → IsEdited design masters edit new → IsEdited design masters edit other → new ≡ other
edited_is_determined design masters edit new other a b =
    let cells : b.cell ≡ a.cell = same_some b.cell a.cell (sym b.named ∙ a.named) in
    let P : ℕ → Type 0 = λ k. ChangesTo edit (cell_text_at design k).lines b.lines in
    let lines : a.lines ≡ b.lines =
    changes_are_determined edit (cell_text_at design a.cell).lines a.lines b.lines a.changed
    (subst P cells b.changed) in
    a.made ∙ ap (with_lines design a.cell) lines ∙ ap (λ (k : ℕ). with_lines design k b.lines) (sym cells) ∙ sym b.made

-- ---- where there is none

-- ---- the cell that the code reads

pub text_of_cell : (design : Design) (cells : List CellText) (name : List ℕ) (k : ℕ) (text : CellText)
    → cells ≡ design.cells → Some k ≡ number_named cells name → text ≡ get_or cells k text
    → (k < length design.cells) × (text ≡ get_or design.cells k no_cell)
text_of_cell design cells name k text e named is =
    let found : k < length cells =
    (position-Some (λ (t : CellText). bytes_eq name t.name) cells k no_cell (sym named)).0 in
    let lt : k < length design.cells = omega (arith, found, ap length e) in
    (lt, text_here design cells k text e lt is)

-- ---- how many lines

pub lines_after : (edit : EditLine) (design : Design) (k : ℕ) (cell : CellText) → k < length design.cells
    → HasLengthAfter edit (length (get_or design.cells k no_cell).lines) (length cell.lines)
    → HasLinesAfter edit design (laid_out (record design { cells = set design.cells k cell }))
lines_after (Add own vertical a b at_most n) design k cell lt e = omega (arith, lines_of_laid design k cell lt, e)
lines_after (Take own j) design k cell lt e = omega (arith, lines_of_laid design k cell lt, e)
