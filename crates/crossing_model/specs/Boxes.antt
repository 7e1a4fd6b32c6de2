-- Mask boxes by their numbers, and what boxes have in common. Lengths are in grains, half hundredths of a micron.
use Rattle.std.specs.Prelude.{◌≡◌, ℕ, ◌^◌, ◌<◌, ◌≤◌, ℤ, pos, ◌-ℤ◌, ◌*ℤ◌, ◌<ℤ◌, All, List, length, slice_index_or}
use Rattle.std.specs.Int.{int_max, int_min}
use Rattle.lam_geom.specs.declared.boxes.{Axis.{Axis, TheVariants.{X, Y}}, BoxXY.BoxXY, MaskBox.MaskBox}
use Rattle.lam_geom.specs.{declared.boxes.{MaskLayer.{MaskLayer, TheVariants.ND}, Span.Span}, Gaps.span_along}
use Rattle.lam_geom.specs.{Gaps.Encloses, Places.IsPlacedBox}
use Rattle.rule_table.specs.{declared.technology.Tech.Tech, Technology.numbers_of}

-- ---- boxes by number

abbrev pub no_span : Span
no_span = record { lo = pos 0; hi = pos 0; ordered = record { le = tt } }

abbrev pub no_box : MaskBox
no_box = record { layer = ND; area = record { x = no_span; y = no_span } }

abbrev pub box_at : List MaskBox → ℕ → MaskBox
box_at boxes k = slice_index_or boxes k no_box

abbrev pub area_at : List MaskBox → ℕ → BoxXY
area_at boxes k = (box_at boxes k).area

abbrev pub layer_at : List MaskBox → ℕ → MaskLayer
layer_at boxes k = (box_at boxes k).layer

-- there is a box with this number, on this layer
pub record IsOn (boxes : List MaskBox) (layer : MaskLayer) (k : ℕ) : Type 0 where
  pub among : k < length boxes
  pub on : layer_at boxes k ≡ layer

-- a box that has an inside
abbrev pub IsSolid : MaskBox → Type 0
IsSolid box = (box.area.x.lo <ℤ box.area.x.hi) × (box.area.y.lo <ℤ box.area.y.hi)

-- boxes that can be searched: not too many, within reach, and each with an inside
pub record AreSearchable (boxes : List MaskBox) : Type 0 where
  pub few : length boxes ≤ 2 ^ 20
  pub placed : All (λ (box : MaskBox). IsPlacedBox box.area) boxes
  pub solid : All IsSolid boxes

-- ---- geometry

abbrev pub other : Axis → Axis
other X = Y
other Y = X

-- how long a box is along an axis
abbrev pub extent : Axis → BoxXY → ℤ
extent axis box = (span_along box axis).hi -ℤ (span_along box axis).lo

pub record IsCommonSpan (a b common : Span) : Type 0 where
  pub lo : common.lo ≡ int_max a.lo b.lo
  pub hi : common.hi ≡ int_min a.hi b.hi

-- what two boxes that overlap have in common
pub record IsCommon (a b common : BoxXY) : Type 0 where
  pub x : IsCommonSpan a.x b.x common.x
  pub y : IsCommonSpan a.y b.y common.y

-- a length of the technology in grains
abbrev pub grains : Tech → ℤ → ℤ
grains tech n = n *ℤ (pos 2 *ℤ (numbers_of tech).unit)

-- a box of a layer goes past an area by a margin on all sides
pub record IsCovered (boxes : List MaskBox) (layer : MaskLayer) (area : BoxXY) (margin : ℤ) : Type 0 where
  pub cover : ℕ
  pub is_on : IsOn boxes layer cover
  pub covers : Encloses (area_at boxes cover) area margin
