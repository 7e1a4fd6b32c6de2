-- What reading the tables of a design's cells gives.
use Rattle.std.proofs.Common.{◌≡◌, ℕ, zero, suc, ◌+◌, ◌<◌, ◌≤◌, cond, not, List, [], ◌∷◌, ◌++◌, length, get_or, vec_len}
use Rattle.std.proofs.Common.{Ok, Option, Some, refl, sym, ap, subst, ◌∙◌, arith, length-append}
use Rattle.std.proofs.lemmas.List.Quantifiers.{position-Some}
use Rattle.std.specs.{Prelude.{position, bytes_eq}, List.position_or_len}
use Rattle.rule_table.specs.declared.technology.Tech.{Tech}
use Rattle.stick_text.specs.declared.design.CellText.{CellText}
use Rattle.checked_cells.specs.{declared.{table.Table.Table, cells.Cells.Cells}, CheckedCell.{CheckedCell, begun}}
use Rattle.checked_cells.specs.{CheckedCell.known_at, Lines.{number_of, after_cell, cells_after, known_cells}}
use Rattle.checked_cells.{specs.Tables.{IsTableOf, AreTables, known_of, IsResolved}, proofs.Accepted.bound}

-- there are as many tables as cells
pub length-tables : (cells : List CheckedCell) (tables : List Table) → AreTables cells tables
    → length tables ≡ length cells
length-tables [] [] are = refl
length-tables [] (table ∷ tables) are = absurd are
length-tables (known ∷ cells) [] are = absurd are
length-tables (known ∷ cells) (table ∷ tables) are = ap suc (length-tables cells tables are.1)

-- the table with a cell's number is that cell's
pub table_at : (cells : List CheckedCell) (tables : List Table) (k : ℕ) (table : Table) → AreTables cells tables
    → k < length cells → table ≡ get_or tables k table → IsTableOf (known_at cells k) table
table_at [] tables k table are lt e = absurd (omega arith)
table_at (known ∷ cells) [] k table are lt e = absurd are
table_at (known ∷ cells) (first ∷ tables) zero table are lt e = subst (IsTableOf known) (sym e) are.0
table_at (known ∷ cells) (first ∷ tables) (suc k) table are lt e = table_at cells tables k table are.1 (omega arith) e

same_place : (cells : List CheckedCell) (tables : List Table) (name : List ℕ) → AreTables cells tables
    → position_or_len (λ table. bytes_eq name table.name.now) tables
    ≡ position_or_len (λ (cell : CheckedCell). bytes_eq name cell.name) cells
same_place [] [] name are = refl
same_place [] (table ∷ tables) name are = absurd are
same_place (known ∷ cells) [] name are = absurd are
same_place (known ∷ cells) (table ∷ tables) name are =
    let rest : position_or_len (λ (other : Table). bytes_eq name other.name.now) tables
    ≡ position_or_len (λ (cell : CheckedCell). bytes_eq name cell.name) cells =
    same_place cells tables name are.1 in
    ap (λ n. cond (not (bytes_eq name table.name.now)) (1 + n) 0) rest
    ∙ ap (λ text. cond (not (bytes_eq name text))
    (1 + position_or_len (λ (cell : CheckedCell). bytes_eq name cell.name) cells) 0) are.0.tells.name

-- the first table with a name has the number of the cell with this name
pub position-name : (cells : List CheckedCell) (tables : List Table) (name : List ℕ) → AreTables cells tables
    → position (λ table. bytes_eq name table.name.now) tables ≡ number_of cells name
position-name cells tables name are =
    let same : position_or_len (λ table. bytes_eq name table.name.now) tables
    ≡ position_or_len (λ (cell : CheckedCell). bytes_eq name cell.name) cells =
    same_place cells tables name are in
    let many : length tables ≡ length cells = length-tables cells tables are in
    cc

pub number_found : (cells : List CheckedCell) (tables lent : List Table) (name : List ℕ) (r : Option ℕ)
    → AreTables cells tables → lent ≡ tables → r ≡ position (λ table. bytes_eq name table.name.now) lent
    → r ≡ number_of cells name
number_found cells tables lent name r are same e = e ∙ ap (position (λ table. bytes_eq name table.name.now)) same
    ∙ position-name cells tables name are

-- the number of a cell is less than how many there are
pub number-lt : (cells : List CheckedCell) (name : List ℕ) (k : ℕ) → number_of cells name ≡ Some k → k < length cells
number-lt cells name k e = (position-Some (λ (cell : CheckedCell). bytes_eq name cell.name) cells k (begun []) e).0

-- there are as many cells as their texts
length-cells_after : (tech : Tech) (before : List CheckedCell) (texts : List CellText) (cells : List CheckedCell)
    → cells_after tech before texts ≡ Ok cells → length cells ≡ length before + length texts
length-cells_after tech before [] cells e = let same : before ≡ cells = cc in omega (arith, ap length same)
length-cells_after tech before (text ∷ texts) cells e =
    let (known, read, rest) =
    bound (after_cell tech before text) (λ known. cells_after tech (before ++ known ∷ []) texts) cells e in
    omega (arith, length-cells_after tech (before ++ known ∷ []) texts cells rest, length-append before (known ∷ []))

pub length-known_cells : (tech : Tech) (texts : List CellText) (cells : List CheckedCell)
    → known_cells tech texts ≡ Ok cells → length cells ≡ length texts
unfolding known_cells
length-known_cells tech texts cells e = omega (arith, length-cells_after tech [] texts cells e)

-- the cells of a design are at most 256
pub few_known : (cells : Cells) → IsResolved cells → length (known_of cells) ≤ 256
few_known cells is =
    omega (
      arith,
      is.writable.few_cells,
      length-known_cells cells.tech cells.design.now.cells (known_of cells)
          is.read,
    )

-- there are as many tables as known cells
pub vec_len-tables : (cells : Cells) → IsResolved cells → vec_len cells.tables ≡ length (known_of cells)
vec_len-tables cells is = omega (arith, length-tables (known_of cells) cells.tables.items is.tables, cells.tables.ok.0)

-- the table that is read at a cell's number
pub table_read : (cells : Cells) (k : ℕ) (table : Table) → IsResolved cells → k < length (known_of cells)
    → table ≡ get_or cells.tables.items k table → IsTableOf (known_at (known_of cells) k) table
table_read cells k table is lt e = table_at (known_of cells) cells.tables.items k table is.tables lt e

-- an element of a list that is lent
pub element_at : {X : Type 0} (xs lent : List X) (i : ℕ) (x : X) → lent ≡ xs → i < length lent → x ≡ get_or lent i x
    → (i < length xs) × (x ≡ get_or xs i x)
element_at xs lent i x same lt at = (omega (arith, lt, ap length same), at ∙ ap (λ l. get_or l i x) same)
