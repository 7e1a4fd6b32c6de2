-- What a file of any dialect holds, as a hierarchy.
use Rattle.std.specs.Prelude.{ℕ, ◌<◌, ◌≤◌, ◌^◌, pos, All, [], map, length, slice_index_or}
use Rattle.cif_read.specs.declared.file.{ForeignFile.ForeignFile, ForeignSymbol.ForeignSymbol, ForeignStep.ForeignStep}
use Rattle.cif_read.specs.{declared.file.ForeignStep.TheVariants.{Own, Called}, Hierarchies.{Step, own, called, Symbol}}
use Rattle.cif_read.specs.{Hierarchies.{Hierarchy, depths_of, most_depth}, Files.{drawn_of, IsWithin, IsSolidWithin}}

abbrev pub foreign_step : ForeignStep → Step
foreign_step (Own box) = own (drawn_of box)
foreign_step (Called symbol turn x y) = called symbol (record { turn = turn; x = x; y = y })

abbrev pub foreign_symbol : ForeignSymbol → Symbol
foreign_symbol symbol = record { number = pos symbol.number; steps = map foreign_step symbol.steps }

abbrev pub foreign_hierarchy : ForeignFile → Hierarchy
foreign_hierarchy file = record { symbols = map foreign_symbol file.symbols; steps = map foreign_step file.top }

-- ---- a file that can be flattened

-- a box that has an inside, not far from the origin; or a call of one of so many symbols, its turn and its shift
abbrev pub IsForeignStep : ℕ → ForeignStep → Type 0
IsForeignStep symbols (Own box) = IsSolidWithin (2 ^ 50) (drawn_of box)
IsForeignStep symbols (Called symbol turn x y) = (symbol < symbols) × (turn < 8) × IsWithin (2 ^ 47) x
    × IsWithin (2 ^ 47) y

abbrev pub no_foreign_symbol : ForeignSymbol
no_foreign_symbol = record { number = 0; steps = [] }

-- each symbol calls those before it alone, and not too deep
pub record IsForeignFile (file : ForeignFile) : Type 0 where
  pub symbols : (k : ℕ) → k < length file.symbols
      → All (IsForeignStep k) (slice_index_or file.symbols k no_foreign_symbol).steps
  pub top : All (IsForeignStep (length file.symbols)) file.top
  pub shallow : All (λ depth. depth ≤ most_depth) (depths_of (map foreign_symbol file.symbols))
