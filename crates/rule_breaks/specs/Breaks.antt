-- The rules of a technology on mask boxes, and where they are broken: over all boxes and all pairs of boxes. Lengths
-- are in grains, half hundredths of a micron.
use Rattle.std.specs.Prelude.{◌≡◌, ℕ, ◌<◌, ◌≤◌, ◌⊎◌, ℤ, ◌<ℤ◌, IsTrue, Option, Some, None, List, length, slice_get}
use Rattle.lam_geom.specs.declared.boxes.{Axis.{Axis, TheVariants.{X, Y}}, BoxXY.BoxXY, MaskBox.MaskBox}
use Rattle.lam_geom.specs.declared.boxes.MaskLayer.{MaskLayer, TheVariants.{ND, NP, NC, NM, NI, NB}}
use Rattle.lam_geom.specs.Gaps.{gap_of_boxes, Overlaps, Encloses}
use Rattle.rule_table.specs.{declared.technology.Tech.Tech, Technology.{numbers_of, has_buried_of}}
use Rattle.graph_search.specs.Netting.{Reaches}
use Rattle.crossing_model.specs.{declared.crossing.Crossing.Crossing, Boxes.{area_at, layer_at, IsOn, extent, grains}}
use Rattle.crossing_model.specs.{Boxes.IsCovered, Crossings.{AreProper, IsBadPair, IsCrossing, AreCrossings}}
use Rattle.box_pieces.specs.{Places.{Place, places_of}, Areas.IsAreaOf}
use Rattle.net_model.specs.Extraction.{IsLink}
use Rattle.rule_breaks.specs.declared.rule.Rule.{Rule, TheVariants.{Width, CutSize, ProperCrossing, PolyToDiffusion}}
use Rattle.rule_breaks.specs.declared.rule.Rule.TheVariants.{CutCover, MetalSpacing, PolySpacing, DiffusionSpacing}
use Rattle.rule_breaks.specs.declared.rule.Rule.TheVariants.{CutSpacing, CutToChannel, ImplantToChannel}
use Rattle.rule_breaks.specs.declared.rule.{Rule.TheVariants.WindowToChannel, Break.Break}

abbrev pub number_of : Rule → ℕ
number_of Width = 1
number_of CutSize = 2
number_of ProperCrossing = 3
number_of PolyToDiffusion = 4
number_of CutCover = 5
number_of MetalSpacing = 6
number_of PolySpacing = 7
number_of DiffusionSpacing = 8
number_of CutSpacing = 9
number_of CutToChannel = 10
number_of ImplantToChannel = 11
number_of WindowToChannel = 12

-- ---- boxes and their layers

-- how wide a conductor on this layer is at least, in u
abbrev pub width_on : Tech → MaskLayer → Option ℤ
width_on tech ND = Some (numbers_of tech).width_diffusion
width_on tech NP = Some (numbers_of tech).width_poly
width_on tech NM = Some (numbers_of tech).width_metal
width_on tech NC = None
width_on tech NI = None
width_on tech NB = None

-- diffusion, poly or metal that is too narrow on an axis
pub record IsNarrow (tech : Tech) (boxes : List MaskBox) (a : ℕ) : Type 0 where
  pub among : a < length boxes
  pub width : ℤ
  pub is_width : width_on tech (layer_at boxes a) ≡ Some width
  pub axis : Axis
  pub narrow : extent axis (area_at boxes a) <ℤ grains tech width

-- so long on both axes
abbrev pub IsSquare : ℤ → BoxXY → Type 0
IsSquare side area = (extent X area ≡ side) × (extent Y area ≡ side)

-- a cut that is no square of the cut's size
pub record IsOddCut (tech : Tech) (boxes : List MaskBox) (a : ℕ) : Type 0 where
  pub is_cut : IsOn boxes NC a
  pub odd : IsSquare (grains tech (numbers_of tech).cut_size) (area_at boxes a) → ⊥

-- a cut that does not lie inside metal, or inside neither poly nor diffusion, by the enclosure
pub record IsUncovered (tech : Tech) (boxes : List MaskBox) (a : ℕ) : Type 0 where
  pub is_cut : IsOn boxes NC a
  pub uncovered : ((IsCovered boxes NM (area_at boxes a) (grains tech (numbers_of tech).cut_enclosure) → ⊥))
      ⊎ ((IsCovered boxes NP (area_at boxes a) (grains tech (numbers_of tech).cut_enclosure)
      ⊎ IsCovered boxes ND (area_at boxes a) (grains tech (numbers_of tech).cut_enclosure)) → ⊥)

-- ---- pairs of boxes

-- p is one of a and b, and q the other
abbrev pub ArePairOf : ℕ → ℕ → ℕ → ℕ → Type 0
ArePairOf a b p q = ((a ≡ p) × (b ≡ q)) ⊎ ((a ≡ q) × (b ≡ p))

-- two boxes, one on each of these layers, in either order
pub record AreOnBoth (boxes : List MaskBox) (one other : MaskLayer) (a b : ℕ) : Type 0 where
  pub p : ℕ
  pub q : ℕ
  pub pair : ArePairOf a b p q
  pub first : IsOn boxes one p
  pub second : IsOn boxes other q

-- poly and diffusion that do not overlap, and lie too near one another
pub record IsPolyTooNear (tech : Tech) (boxes : List MaskBox) (a b : ℕ) : Type 0 where
  pub on : AreOnBoth boxes NP ND a b
  pub apart : Overlaps (area_at boxes a) (area_at boxes b) → ⊥
  pub near : gap_of_boxes (area_at boxes a) (area_at boxes b) <ℤ grains tech (numbers_of tech).spacing_poly_diffusion

-- two cuts that lie too near one another
pub record AreCutsTooNear (tech : Tech) (boxes : List MaskBox) (a b : ℕ) : Type 0 where
  pub first : IsOn boxes NC a
  pub second : IsOn boxes NC b
  pub near : gap_of_boxes (area_at boxes a) (area_at boxes b) <ℤ grains tech (numbers_of tech).spacing_cut

-- Pieces of two boxes on a layer lie nearer to one another than so many u, and are of different nets: no chain of
-- links joins them.
pub record ArePiecesTooNear (tech : Tech) (boxes : List MaskBox) (layer : MaskLayer) (spacing : ℤ) (a b : ℕ) : Type
    0 where
  pub crossings : List Crossing
  pub are_crossings : AreCrossings tech boxes crossings
  pub i : ℕ
  pub j : ℕ
  pub p : Place
  pub q : Place
  pub first : slice_get (places_of crossings boxes) i ≡ Some p
  pub second : slice_get (places_of crossings boxes) j ≡ Some q
  pub of_first : p.box_no ≡ a
  pub of_second : q.box_no ≡ b
  pub on_first : layer_at boxes a ≡ layer
  pub on_second : layer_at boxes b ≡ layer
  pub s : BoxXY
  pub t : BoxXY
  pub covers_first : IsAreaOf boxes crossings p s
  pub covers_second : IsAreaOf boxes crossings q t
  pub near : gap_of_boxes s t <ℤ grains tech spacing
  pub apart : Reaches (IsLink tech boxes crossings) i j → ⊥

-- ---- channels

-- The channel of diffusion box number d. There are channels only where poly and diffusion cross properly.
pub record IsChannel (tech : Tech) (boxes : List MaskBox) (d : ℕ) (channel : BoxXY) : Type 0 where
  pub proper : AreProper tech boxes
  pub crossing : Crossing
  pub is_crossing : IsCrossing tech boxes crossing
  pub diffusion : crossing.diffusion ≡ d
  pub there : crossing.channel ≡ channel

-- box k on a layer lies nearer to a channel than so many u; the channel goes by its diffusion
pub record IsNearChannel (tech : Tech) (boxes : List MaskBox) (layer : MaskLayer) (spacing : ℤ) (k d : ℕ) : Type 0 where
  pub on : IsOn boxes layer k
  pub channel : BoxXY
  pub is_channel : IsChannel tech boxes d channel
  pub near : gap_of_boxes (area_at boxes k) channel <ℤ grains tech spacing

-- an implant that lies too near a channel, and does not go past it by the extension on all sides
pub record IsImplantTooNear (tech : Tech) (boxes : List MaskBox) (k d : ℕ) : Type 0 where
  pub near : IsNearChannel tech boxes NI (numbers_of tech).spacing_implant_channel k d
  pub short : Encloses (area_at boxes k) near.channel (grains tech (numbers_of tech).extension_implant) → ⊥

abbrev pub IsCutNearChannel : Tech → List MaskBox → ℕ → ℕ → Type 0
IsCutNearChannel tech boxes = IsNearChannel tech boxes NC (numbers_of tech).spacing_cut_channel

-- a window that lies too near a channel, where the technology has buried contacts
abbrev pub IsWindowTooNear : Tech → List MaskBox → ℕ → ℕ → Type 0
IsWindowTooNear tech boxes k d = IsTrue (has_buried_of tech)
    × IsNearChannel tech boxes NB (numbers_of tech).spacing_buried_channel k d

-- ---- breaks

-- at one box, which goes by its number twice
abbrev pub AtOne : (ℕ → Type 0) → ℕ → ℕ → Type 0
AtOne IsBad a b = IsBad a × (b ≡ a)

-- at two boxes, the lesser number first
abbrev pub AtTwo : (ℕ → ℕ → Type 0) → ℕ → ℕ → Type 0
AtTwo AreBad a b = (a < b) × AreBad a b

-- at two boxes of which one stands in this way to the other
abbrev pub AtEither : (ℕ → ℕ → Type 0) → ℕ → ℕ → Type 0
AtEither IsBadTo a b = (a < b) × (IsBadTo a b ⊎ IsBadTo b a)

-- rules 1 to 5 hold at all boxes
pub record ShapesHold (tech : Tech) (boxes : List MaskBox) : Type 0 where
  pub widths : (a : ℕ) → IsNarrow tech boxes a → ⊥
  pub cuts : (a : ℕ) → IsOddCut tech boxes a → ⊥
  pub crossings : AreProper tech boxes
  pub poly : (a b : ℕ) → IsPolyTooNear tech boxes a b → ⊥
  pub covers : (a : ℕ) → IsUncovered tech boxes a → ⊥

-- Nets are looked at only there.
abbrev pub AtNets : Tech → List MaskBox → MaskLayer → ℤ → ℕ → ℕ → Type 0
AtNets tech boxes layer spacing a b = ShapesHold tech boxes × AtTwo (ArePiecesTooNear tech boxes layer spacing) a b

-- a rule is broken at boxes number a and b
abbrev pub IsBreak : Tech → List MaskBox → Rule → ℕ → ℕ → Type 0
IsBreak tech boxes Width = AtOne (IsNarrow tech boxes)
IsBreak tech boxes CutSize = AtOne (IsOddCut tech boxes)
IsBreak tech boxes ProperCrossing = IsBadPair tech boxes
IsBreak tech boxes PolyToDiffusion = AtTwo (IsPolyTooNear tech boxes)
IsBreak tech boxes CutCover = AtOne (IsUncovered tech boxes)
IsBreak tech boxes MetalSpacing = AtNets tech boxes NM (numbers_of tech).spacing_metal
IsBreak tech boxes PolySpacing = AtNets tech boxes NP (numbers_of tech).spacing_poly
IsBreak tech boxes DiffusionSpacing = AtNets tech boxes ND (numbers_of tech).spacing_diffusion
IsBreak tech boxes CutSpacing = AtTwo (AreCutsTooNear tech boxes)
IsBreak tech boxes CutToChannel = AtEither (IsCutNearChannel tech boxes)
IsBreak tech boxes ImplantToChannel = AtEither (IsImplantTooNear tech boxes)
IsBreak tech boxes WindowToChannel = AtEither (IsWindowTooNear tech boxes)

-- no rule is broken anywhere: the boxes keep the technology's rules
abbrev pub KeepRules : Tech → List MaskBox → Type 0
KeepRules tech boxes = (rule : Rule) (a b : ℕ) → IsBreak tech boxes rule a b → ⊥

-- ---- the first break

-- by rule, then by the first box, then by the second
abbrev pub IsNotAfter : Break → Rule → ℕ → ℕ → Type 0
IsNotAfter first rule a b =
    (first.rule < number_of rule) ⊎ ((first.rule ≡ number_of rule) × ((first.a < a) ⊎ ((first.a ≡ a) × (first.b ≤ b))))

pub record IsFirstBreak (tech : Tech) (boxes : List MaskBox) (first : Break) : Type 0 where
  pub rule : Rule
  pub numbered : first.rule ≡ number_of rule
  pub broken : IsBreak tech boxes rule first.a first.b
  pub least : (other : Rule) (a b : ℕ) → IsBreak tech boxes other a b → IsNotAfter first other a b
