-- What a file that has been read holds, as a hierarchy.
use Rattle.std.specs.Prelude.{◌≡◌, ℕ, ◌≢◌, ◌<◌, ◌≤◌, ◌^◌, ℤ, pos, neg_ℤ, ◌≤ℤ◌, ◌<ℤ◌, All, List, [], ◌∷◌, map, length}
use Rattle.std.specs.{Prelude.slice_index_or, List.{flat_map, range_with_len}}
use Rattle.lam_geom.specs.declared.boxes.{MaskBox.MaskBox, MaskLayer.TheVariants.ND}
use Rattle.cif_read.specs.declared.fault.CifReadFault.{CifReadFault, TheVariants.{Cif, OutOfMemory}}
use Rattle.cif_read.specs.declared.{fault.CifKind.TheVariants.TooDeep, file.{CifFile.CifFile, CifSymbol.CifSymbol}}
use Rattle.cif_read.specs.{declared.file.CifStep.{CifStep, TheVariants.{Own, Called}}, Hierarchies.{Drawn, Symbol}}
use Rattle.cif_read.specs.{Hierarchies.{Step, own, called, Hierarchy, moved}, Readers.IsCauseBy, Meaning.reader}

abbrev pub drawn_of : MaskBox → Drawn
drawn_of box =
    record {
      layer = box.layer;
      left = box.area.x.lo;
      right = box.area.x.hi;
      bottom = box.area.y.lo;
      top = box.area.y.hi;
    }

abbrev pub boxes_in : CifSymbol → List Drawn
boxes_in symbol = map drawn_of symbol.boxes

abbrev pub symbol_of : CifSymbol → Symbol
symbol_of symbol = record { number = pos symbol.number; steps = map own (boxes_in symbol) }

-- the box in this position
abbrev pub no_box : Drawn
no_box = record { layer = ND; left = pos 0; right = pos 0; bottom = pos 0; top = pos 0 }

abbrev pub drawn_at : List MaskBox → ℕ → Drawn
drawn_at boxes k = slice_index_or (map drawn_of boxes) k no_box

abbrev pub step_of : List MaskBox → CifStep → Step
step_of boxes (Own k) = own (drawn_at boxes k)
step_of boxes (Called symbol x y) = called symbol (record { turn = 0; x = x; y = y })

-- steps name so many boxes once each, in their order: the places are 0, 1, 2, ..
abbrev pub places_of_step : CifStep → List ℕ
places_of_step (Own k) = k ∷ []
places_of_step (Called symbol x y) = []

abbrev pub NamesInOrder : List CifStep → ℕ → Type 0
NamesInOrder order boxes = flat_map places_of_step order ≡ range_with_len 0 boxes

abbrev pub hierarchy_of : CifFile → Hierarchy
hierarchy_of file = record { symbols = map symbol_of file.symbols; steps = map (step_of file.boxes) file.order }

-- the boxes of a step
abbrev pub drawn_in_step : CifFile → CifStep → List Drawn
drawn_in_step file (Own k) = drawn_at file.boxes k ∷ []
drawn_in_step file (Called symbol x y) = map (moved x y) (slice_index_or (map boxes_in file.symbols) symbol [])

-- ---- a file that can be flattened

abbrev pub IsWithin : ℕ → ℤ → Type 0
IsWithin reach z = (neg_ℤ (pos reach) ≤ℤ z) × (z ≤ℤ pos reach)

-- a box that has an inside, and whose sides lie within so much of the origin
pub record IsSolidWithin (reach : ℕ) (box : Drawn) : Type 0 where
  pub left : IsWithin reach box.left
  pub right : IsWithin reach box.right
  pub bottom : IsWithin reach box.bottom
  pub top : IsWithin reach box.top
  pub wide : box.left <ℤ box.right
  pub high : box.bottom <ℤ box.top

-- a step has its box or symbol among these, and shifts within 2^31
abbrev pub IsStepOf : ℕ → ℕ → CifStep → Type 0
IsStepOf symbols boxes (Own k) = k < boxes
IsStepOf symbols boxes (Called symbol x y) = (symbol < symbols) × IsWithin (2 ^ 31) x × IsWithin (2 ^ 31) y

pub record CanBeFlattened (file : CifFile) : Type 0 where
  pub symbols : All (λ (symbol : CifSymbol). All (IsSolidWithin (2 ^ 50)) (map drawn_of symbol.boxes)) file.symbols
  pub boxes : All (IsSolidWithin (2 ^ 50)) (map drawn_of file.boxes)
  pub steps : All (IsStepOf (length file.symbols) (length file.boxes)) file.order
  pub few_steps : length file.order ≤ 2 ^ 26
  pub few_boxes : All (λ (symbol : CifSymbol). length symbol.boxes ≤ 2 ^ 26) file.symbols

-- a box that has an inside
abbrev pub IsSolid : MaskBox → Type 0
IsSolid box = (box.area.x.lo <ℤ box.area.x.hi) × (box.area.y.lo <ℤ box.area.y.hi)

-- ---- why a text could not be read

abbrev pub IsCauseOf : List ℕ → CifReadFault → Type 0
IsCauseOf text fault = IsCauseBy reader text fault

-- no fault of calls inside definitions, which are no form here
abbrev pub IsNotTooDeep : CifReadFault → Type 0
IsNotTooDeep (Cif fault) = fault.kind ≢ TooDeep
IsNotTooDeep OutOfMemory = Unit {0}

-- the most boxes of a flattened file
abbrev pub most_boxes : ℕ
most_boxes = 2 ^ 20
