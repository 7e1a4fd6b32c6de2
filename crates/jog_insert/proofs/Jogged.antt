-- A jog in a design whose names and sizes have been checked.
use Rattle.std.proofs.Common.{◌≡◌, ℕ, ◌<◌, Bool, List, length, sym, ap, subst, ◌∙◌, arith}
use Rattle.std.specs.{Prelude.{All, slice_set}, List.AllByRecursion}
use Rattle.list_facts.proofs.Elements.{all_at}
use Rattle.stick_text.specs.{declared.design.{Line.Line, CellText.CellText, Design.Design}, Writable.IsCell}
use Rattle.stick_print.specs.ReadBack.{laid_out}
use Rattle.cell_model.specs.declared.cell.Cell.{Cell}
use Rattle.checked_cells.specs.{declared.cells.Cells.Cells, CheckedCell.known_at, Tables.{known_of, IsResolved}}
use Rattle.checked_cells.proofs.TableReads.{length-known_cells}
use Rattle.design_edits.specs.Cells.{cell_text_at, no_cell}
use Rattle.jog_insert.specs.{Jogs.{IsCopy, IsNearForm, IsBent, IsJogged}, Building.{StandsAlone, IsBentCell}}
use Rattle.jog_insert.proofs.NodeNames.{AreNamed, nodes_named}

-- ---- the cell

pub cells_number : (cells : Cells) (design : Design) → IsResolved cells → cells.design.now ≡ design
    → length (known_of cells) ≡ length design.cells
cells_number cells design is of = length-known_cells cells.tech cells.design.now.cells (known_of cells) is.read
    ∙ ap (λ (d : Design). length d.cells) of

pub cell_written : (cells : Cells) (design : Design) (k : ℕ) → IsResolved cells → cells.design.now ≡ design
    → k < length design.cells → IsCell (cell_text_at design k)
cell_written cells design k is of lt =
    all_at IsCell design.cells no_cell k
    (let P : Design → Type 0 = λ d. AllByRecursion IsCell d.cells in subst P of is.writable.cells) lt

pub cell_named : (cells : Cells) (design : Design) (k : ℕ) → IsResolved cells → cells.design.now ≡ design
    → k < length design.cells
    → All (λ (line : Line). IsCopy line.form → ⊥) (cell_text_at design k).lines → AreNamed (known_at (known_of cells) k)
cell_named cells design k is of lt whole =
    let before : k < length cells.design.now.cells = omega (arith, lt, ap (λ (d : Design). length d.cells) of) in
    let P : Design → Type 0 = λ d. All (λ (line : Line). IsCopy line.form → ⊥) (cell_text_at d k).lines in
    nodes_named cells.tech cells.design.now.cells (known_of cells) k no_cell is.read before
    (all_at IsCell cells.design.now.cells no_cell k is.writable.cells before) (subst P (sym of) whole)

-- ---- the jog

pub none_jogged : (design : Design) (content own : Cell) (masters : List ℕ) (cell k row : ℕ) (left : Bool)
    (text : CellText) → text ≡ cell_text_at design cell → own ≡ content
    → ((lines : List Line) → IsBent text own k row left lines → All (λ (line : Line). IsNearForm line.form) lines → ⊥)
    → (new : Design) → IsJogged design content masters cell k row left new → ⊥
none_jogged design content own masters cell k row left text e f none new jogged =
    let P : CellText → Type 0 = λ t. IsBent t content k row left jogged.lines in
    let Q : Cell → Type 0 = λ c. IsBent text c k row left jogged.lines in
    none jogged.lines (subst Q (sym f) (subst P (sym e) jogged.bent)) jogged.near

pub jogged_of : (design : Design) (content own : Cell) (masters : List ℕ) (cell k row : ℕ) (left : Bool)
    (text : CellText) (lines : List Line) (new : Design) → StandsAlone design masters cell
    → text ≡ cell_text_at design cell
    → own ≡ content → IsBentCell text own k row left lines
    → new ≡ laid_out
    (record design { cells = slice_set design.cells cell (record (cell_text_at design cell) { lines = lines }) })
    → IsJogged design content masters cell k row left new
jogged_of design content own masters cell k row left text lines new alone e f is made =
    let P : CellText → Type 0 = λ t. IsBent t content k row left lines in
    let Q : Cell → Type 0 = λ c. IsBent text c k row left lines in
    record {
      master = alone.master;
      whole = alone.whole;
      unused = alone.unused;
      lines = lines;
      bent = subst P e (subst Q f is.bent);
      near = is.near;
      made = made;
    }
