-- Where poly crosses diffusion: buried pairs, proper crossings, and the first pair that is neither.
use Rattle.std.specs.Prelude.{◌≡◌, ◌↔◌, ℕ, ◌<◌, ◌≤◌, ◌⊎◌, All, Contains, IsTrue, List, map, length, slice_index}
use Rattle.lam_geom.specs.declared.boxes.{Axis.Axis, BoxXY.BoxXY, MaskBox.MaskBox, MaskLayer.TheVariants.{ND, NP, NI}}
use Rattle.lam_geom.specs.{declared.boxes.MaskLayer.TheVariants.NB, Gaps.{Overlaps, Encloses, EnclosesSpan, span_along}}
use Rattle.rule_table.specs.{declared.technology.Tech.Tech, Technology.{numbers_of, has_buried_of}}
use Rattle.crossing_model.specs.declared.crossing.{Crossing.Crossing, CrossingFault.CrossingFault}
use Rattle.crossing_model.specs.declared.crossing.CrossingFault.TheVariants.{NotProper, OutOfMemory}
use Rattle.crossing_model.specs.Boxes.{area_at, IsOn, other, IsCommon, grains}

-- each number of a list is less than those after it
abbrev pub IsIncreasing : List ℕ → Type 0
IsIncreasing numbers = (i j : ℕ) → i < j → j < length numbers → slice_index numbers i < slice_index numbers j

-- poly p and diffusion d overlap
pub record IsOverlap (boxes : List MaskBox) (p d : ℕ) : Type 0 where
  pub poly : IsOn boxes NP p
  pub diffusion : IsOn boxes ND d
  pub overlap : Overlaps (area_at boxes p) (area_at boxes d)

-- A buried pair: where the technology has buried contacts, poly and diffusion that overlap, and a window that goes
-- past what they have in common by the extension on all sides.
pub record IsBuriedPair (tech : Tech) (boxes : List MaskBox) (p d : ℕ) : Type 0 where
  pub has_buried : IsTrue (has_buried_of tech)
  pub overlap : IsOverlap boxes p d
  pub shared : BoxXY
  pub common : IsCommon (area_at boxes p) (area_at boxes d) shared
  pub window : ℕ
  pub is_window : IsOn boxes NB window
  pub covered : Encloses (area_at boxes window) shared (grains tech (numbers_of tech).extension_buried)

-- poly and diffusion that overlap, and are no buried pair
pub record IsMeeting (tech : Tech) (boxes : List MaskBox) (p d : ℕ) : Type 0 where
  pub overlap : IsOverlap boxes p d
  pub unburied : IsBuriedPair tech boxes p d → ⊥

-- poly goes past diffusion along an axis, and diffusion past poly along the other, on both sides by their extensions
pub record CrossAlong (tech : Tech) (axis : Axis) (poly diffusion : BoxXY) : Type 0 where
  pub gate : EnclosesSpan (span_along poly axis) (span_along diffusion axis)
      (grains tech (numbers_of tech).extension_poly)
  pub channel : EnclosesSpan (span_along diffusion (other axis)) (span_along poly (other axis))
      (grains tech (numbers_of tech).extension_diffusion)

-- They cross properly, and neither overlaps a further box of the other's layer.
pub record CrossProperly (tech : Tech) (boxes : List MaskBox) (p d : ℕ) : Type 0 where
  pub axis : Axis
  pub along : CrossAlong tech axis (area_at boxes p) (area_at boxes d)
  pub poly_alone : (e : ℕ) → IsOverlap boxes p e → e ≡ d
  pub diffusion_alone : (q : ℕ) → IsOverlap boxes q d → q ≡ p

-- all poly and diffusion that overlap are buried pairs or cross properly
abbrev pub AreProper : Tech → List MaskBox → Type 0
AreProper tech boxes = (p d : ℕ) → IsMeeting tech boxes p d → CrossProperly tech boxes p d

-- ---- the first pair that is neither

pub record IsImproper (tech : Tech) (boxes : List MaskBox) (p d : ℕ) : Type 0 where
  pub meeting : IsMeeting tech boxes p d
  pub improper : CrossProperly tech boxes p d → ⊥

-- by numbers, the lesser one first
abbrev pub IsBadPair : Tech → List MaskBox → ℕ → ℕ → Type 0
IsBadPair tech boxes a b = (a < b) × (IsImproper tech boxes a b ⊎ IsImproper tech boxes b a)

pub record IsFirstBadPair (tech : Tech) (boxes : List MaskBox) (a b : ℕ) : Type 0 where
  pub bad : IsBadPair tech boxes a b
  pub first : (c d : ℕ) → IsBadPair tech boxes c d → (a < c) ⊎ ((a ≡ c) × (b ≤ d))

-- ---- the crossings

-- a depletion transistor: an implant goes past its channel by the extension on all sides
pub record IsImplanted (tech : Tech) (boxes : List MaskBox) (channel : BoxXY) : Type 0 where
  pub implant : ℕ
  pub is_implant : IsOn boxes NI implant
  pub covered : Encloses (area_at boxes implant) channel (grains tech (numbers_of tech).extension_implant)

-- the boxes of a crossing, the axis along which the gate runs, and the channel, which is what they have in common
pub record IsCrossing (tech : Tech) (boxes : List MaskBox) (c : Crossing) : Type 0 where
  pub meeting : IsMeeting tech boxes c.poly c.diffusion
  pub along : CrossAlong tech c.axis (area_at boxes c.poly) (area_at boxes c.diffusion)
  pub channel : IsCommon (area_at boxes c.poly) (area_at boxes c.diffusion) c.channel
  pub depletion : IsTrue c.depletion ↔ IsImplanted tech boxes c.channel

-- from each to the next, the diffusion grows
abbrev pub AreInOrder : List Crossing → Type 0
AreInOrder crossings = IsIncreasing (map (λ (c : Crossing). c.diffusion) crossings)

-- all crossings of some boxes, in order of their diffusion
pub record AreCrossings (tech : Tech) (boxes : List MaskBox) (crossings : List Crossing) : Type 0 where
  pub each : All (IsCrossing tech boxes) crossings
  pub in_order : AreInOrder crossings
  pub complete : (p d : ℕ) → IsMeeting tech boxes p d → (c : Crossing) × Contains crossings c × (c.poly ≡ p)
      × (c.diffusion ≡ d)

-- why there are none
abbrev pub IsCauseOf : Tech → List MaskBox → CrossingFault → Type 0
IsCauseOf tech boxes (NotProper a b) = IsFirstBadPair tech boxes a b
IsCauseOf tech boxes OutOfMemory = Unit {0}
