-- Steps, as they are kept.
use Rattle.std.specs.Prelude.{◌≡◌, ℕ, ◌<◌, pos, List, length, map, slice_index_or}
use Rattle.lam_geom.specs.declared.boxes.MaskBox.{MaskBox}
use Rattle.cif_read.specs.declared.{file.ForeignStep.ForeignStep, steps.Place.{Place, TheVariants.{Own, Called}}}
use Rattle.cif_read.specs.declared.file.ForeignStep.TheVariants as steps

abbrev pub no_step : ForeignStep
no_step = steps.Called 0 0 (pos 0) (pos 0)

-- the step that is kept so, beside these boxes
abbrev pub step_at : List MaskBox → Place → ForeignStep
step_at boxes (Own k) = slice_index_or (map steps.Own boxes) k no_step
step_at boxes (Called turn symbol x y) = steps.Called symbol turn x y

-- a box is one of so many
abbrev pub IsPlaceOf : ℕ → Place → Type 0
IsPlaceOf boxes (Own k) = k < boxes
IsPlaceOf boxes (Called turn symbol x y) = Unit {0}

-- places are those of boxes alone, one after another
abbrev pub AreBoxes : List Place → Type 0
AreBoxes places = (k : ℕ) → k < length places → slice_index_or places k (Own 0) ≡ Own k
