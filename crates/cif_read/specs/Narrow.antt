-- What the plain dialect draws: symbols of boxes alone, and at the top calls that only shift.
use Rattle.std.specs.{Prelude.{◌≡◌, ℕ, ◌+◌, ◌≤◌, ◌^◌, List, [], ◌∷◌, length, map, flat_map}, List.AllByRecursion}
use Rattle.lam_geom.specs.declared.boxes.MaskBox.{MaskBox}
use Rattle.cif_read.specs.declared.file.{CifFile.CifFile, CifSymbol.CifSymbol, CifStep.CifStep, ForeignFile.ForeignFile}
use Rattle.cif_read.specs.declared.file.{ForeignSymbol.ForeignSymbol, ForeignStep.{ForeignStep, TheVariants.Own}}
use Rattle.cif_read.specs.{declared.file.ForeignStep.TheVariants.Called, Hierarchies.{Step, Symbol, Hierarchy, own}}
use Rattle.cif_read.specs.{Hierarchies.called, Files.IsWithin}
use Rattle.cif_read.specs.declared.file.CifStep.TheVariants as plain

-- a box
abbrev pub IsOwn : Step → Type 0
IsOwn (own box) = Unit {0}
IsOwn (called symbol place) = ⊥

-- a box, or a call that only shifts, within 2^31
abbrev pub IsShift : Step → Type 0
IsShift (own box) = Unit {0}
IsShift (called symbol place) = (place.turn ≡ 0) × IsWithin (2 ^ 31) place.x × IsWithin (2 ^ 31) place.y

-- at most so many steps, each such
pub record AreFew (count : ℕ) (Is : Step → Type 0) (steps : List Step) : Type 0 where
  pub each : AllByRecursion Is steps
  pub few : length steps ≤ count

-- at most so many steps in each symbol and at the top
pub record IsPlain (count : ℕ) (hierarchy : Hierarchy) : Type 0 where
  pub symbols : AllByRecursion (λ (symbol : Symbol). AreFew count IsOwn symbol.steps) hierarchy.symbols
  pub top : AreFew count IsShift hierarchy.steps

-- ---- such a file, as it is handed on

-- the box of a step, if it is one
abbrev pub own_box : ForeignStep → List MaskBox
own_box (Own box) = box ∷ []
own_box (Called symbol turn x y) = []

abbrev pub own_boxes : List ForeignStep → List MaskBox
own_boxes steps = flat_map own_box steps

abbrev pub plain_symbol : ForeignSymbol → CifSymbol
plain_symbol symbol = record { number = symbol.number; boxes = own_boxes symbol.steps }

-- steps, of which the next box has this position
abbrev pub plain_order : ℕ → List ForeignStep → List CifStep
plain_order k [] = []
plain_order k (Own box ∷ steps) = plain.Own k ∷ plain_order (k + 1) steps
plain_order k (Called symbol turn x y ∷ steps) = plain.Called symbol x y ∷ plain_order k steps

abbrev pub plain_file : ForeignFile → CifFile
plain_file file =
    record { symbols = map plain_symbol file.symbols; boxes = own_boxes file.top; order = plain_order 0 file.top }
