-- What a reader keeps, as a state; and what holds of it.
use Rattle.std.specs.Prelude.{◌≡◌, ℕ, ◌<◌, ◌≤◌, ◌^◌, ℤ, pos, ◌≤ℤ◌, All, IfSome, false, if◌then◌else◌, Option, Some}
use Rattle.std.specs.{Prelude.{None, List, map, max, fold, length, option_map, slice_index_or}, Ordering.nat_cmp}
use Rattle.std.specs.BTreeMap.{BTreeMap, get}
use Rattle.cif_lex.specs.{declared.command.{Command.{Command, TheVariants.Call}, Next.TheVariants.End}, Commands.IsNext}
use Rattle.cif_read.specs.declared.{dialect.Dialect.Dialect, file.ForeignSymbol.ForeignSymbol, state.Drawing.Drawing}
use Rattle.cif_read.specs.{declared.state.{Begun.Begun, Reading.Reading}, Hierarchies.{Step, Symbol, depth_of_step}}
use Rattle.cif_read.specs.{Hierarchies.{depths_of, most_depth}, Acts.{State, Level, Definition, is_known, place_of}}
use Rattle.cif_read.specs.{Readers.BeginsWellBy, Meaning.reader_of, Foreign.{foreign_step, foreign_symbol}}
use Rattle.cif_read.specs.{Foreign.{IsForeignStep, no_foreign_symbol}, Scales.IsScale}

-- ---- as a state

abbrev pub level_from : Drawing → Level
level_from d =
    record { above = d.scale.above; below = d.scale.below; layer = d.layer; steps = map foreign_step d.steps }

abbrev pub definition_of : Begun → Definition
definition_of b = record { number = pos b.number; top = level_from b.top }

abbrev pub begun_of : Option Begun → Option Definition
begun_of begun = option_map definition_of begun

abbrev pub symbols_of : Reading → List Symbol
symbols_of r = map foreign_symbol r.symbols.items

abbrev pub state_of : Reading → State
state_of r = record { symbols = symbols_of r; level = level_from r.drawing; begun = begun_of r.begun }

-- ---- numbers

abbrev pub IsExtent : ℤ → Type 0
IsExtent n = (pos 1 ≤ℤ n) × (n ≤ℤ pos (2 ^ 46))

-- the turn of a command that calls
abbrev pub HasTurn : Command → Type 0
HasTurn (Call n place bad is_turned divisor) = place.turn < 8
HasTurn command = Unit {0}

-- ---- what holds

-- the greatest depth of the symbols that steps call, where those of the symbols are these
abbrev pub called_depth : List ℕ → List Step → ℕ
called_depth depths steps = fold max 0 (map (depth_of_step depths) steps)

-- a level whose steps are such, of so many symbols of these depths
pub record IsSoundLevel (depths : List ℕ) (d : Drawing) : Type 0 where
  pub scale : IsScale d.scale
  pub steps : All (IsForeignStep (length depths)) d.steps
  pub called : d.called ≡ called_depth depths (map foreign_step d.steps)

-- at most so many symbols, of these depths, each of which calls those before it alone, and none too deep
pub record AreSoundSymbols (count : ℕ) (symbols : List ForeignSymbol) (depths : List ℕ) : Type 0 where
  pub few : length symbols ≤ count
  pub counted : length depths ≡ length symbols
  pub told : depths ≡ depths_of (map foreign_symbol symbols)
  pub shallow : All (λ depth. depth ≤ most_depth) depths
  pub in_order : (k : ℕ) → k < length symbols → All (IsForeignStep k) (slice_index_or symbols k no_foreign_symbol).steps

-- the place of the symbol with this number, if there is one
abbrev pub place_among : ℤ → List Symbol → Option ℕ
place_among n symbols = if is_known n symbols then Some (place_of n symbols) else None

pub record HasPlaces (places : BTreeMap ℕ ℕ) (symbols : List Symbol) : Type 0 where
  pub each : (n : ℕ) → get nat_cmp places n ≡ place_among (pos n) symbols

pub record IsSound (count : ℕ) (r : Reading) : Type 0 where
  pub symbols : AreSoundSymbols count r.symbols.items r.depths.items
  pub places : HasPlaces r.places (symbols_of r)
  pub drawing : IsSoundLevel r.depths.items r.drawing
  pub top : IfSome r.begun (λ b. IsSoundLevel r.depths.items b.top)
  pub fresh : IfSome r.begun (λ b. is_known (pos b.number) (symbols_of r) ≡ false)
  pub not_deep : IfSome r.begun (λ b. r.drawing.called < most_depth)

-- so many bytes have been read, and this was made of them
pub record HasRead (dialect : Dialect) (text : List ℕ) (read : ℕ) (r : Reading) : Type 0 where
  pub within : read ≤ length text
  pub well : BeginsWellBy (reader_of dialect) text read (state_of r)
  pub sound : IsSound read r

-- all commands have been read, and the letter E stands there
pub record HasReadAll (dialect : Dialect) (text : List ℕ) (begin : ℕ) (r : Reading) : Type 0 where
  pub read : ℕ
  pub reading : HasRead dialect text read r
  pub ended : IsNext text read (End begin)
