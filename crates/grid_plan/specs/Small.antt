-- Numbers below a bound.
use Rattle.std.specs.Prelude.{◌≡◌, ℕ, ◌^◌, ◌<◌, All, List, length}
use Rattle.stick_text.specs.declared.design.{GridText.GridText, RowText.RowText}
use Rattle.plan_model.specs.Rows.{first_row, row_at}

-- both numbers of a pair are below a count
abbrev pub IsWithin : ℕ → ℕ × ℕ → Type 0
IsWithin count pair = (pair.0 < count) × (pair.1 < count)

-- a pair that a table of pairs has room for
abbrev pub IsSmall : ℕ × ℕ → Type 0
IsSmall pair = IsWithin 256 pair

-- rows of one length, of cells below a count
pub record AreRowsOf (count : ℕ) (rows : List (List ℕ)) : Type 0 where
  pub within : All (All (λ cell. cell < count)) rows
  pub equal : All (λ row. length row ≡ length (first_row rows)) rows

-- an instance of rows of that kind, by its row and its column
pub record IsInstanceOf (count : ℕ) (rows : List (List ℕ)) (r c : ℕ) : Type 0 where
  pub are : AreRowsOf count rows
  pub row : r < length rows
  pub column : c < length (row_at rows r)

-- some rows of that kind
pub record IsGridOf (count : ℕ) (rows : List (List ℕ)) : Type 0 where
  pub some_rows : 0 < length rows
  pub are : AreRowsOf count rows

-- ---- what a u32 has room for

pub record AreFewRows (texts : List RowText) : Type 0 where
  pub rows : length texts < 2 ^ 32
  pub names : All (λ row. length row.names < 2 ^ 32) texts

pub record AreFewGrids (texts : List GridText) : Type 0 where
  pub grids : length texts < 2 ^ 32
  pub rows : All (λ grid. AreFewRows grid.rows) texts

-- the same of a grid by its cells' numbers, row by row
pub record AreFewCells (grid : List (List ℕ)) : Type 0 where
  pub rows : length grid < 2 ^ 32
  pub cells : All (λ row. length row < 2 ^ 32) grid
