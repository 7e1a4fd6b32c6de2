-- What the search says of boxes, one after another.
use Rattle.std.specs.Prelude.{◌≡◌, ℕ, ◌<◌, ◌≤◌, ◌⊎◌, All, Contains, IsTrue, Option, Some, None, List, [], ◌∷◌, ◌++◌}
use Rattle.std.specs.Prelude.{length}
use Rattle.lam_geom.specs.declared.boxes.{Axis.Axis, BoxXY.BoxXY, MaskBox.MaskBox, MaskLayer.MaskLayer}
use Rattle.lam_geom.specs.declared.boxes.MaskLayer.TheVariants.{ND, NP, NC, NM, NI, NB}
use Rattle.rule_table.specs.{declared.technology.Tech.Tech, Technology.has_buried_of}
use Rattle.box_tree.specs.{declared.entries.Entry.Entry, Tree.entry_of}
use Rattle.crossing_model.specs.declared.crossing.{Crossing.Crossing, CrossingFault.CrossingFault}
use Rattle.crossing_model.specs.{declared.crossing.CrossingFault.TheVariants.{NotProper, OutOfMemory}, Boxes.area_at}
use Rattle.crossing_model.specs.{Boxes.{layer_at, IsCommon}, Crossings.{IsOverlap, IsMeeting, CrossAlong}}
use Rattle.crossing_model.specs.Crossings.{CrossProperly, IsImproper, IsBadPair, IsFirstBadPair, IsCrossing, AreInOrder}
use Rattle.crossings.specs.declared.{pairs.Pair.Pair, partners.Partners.{Partners, TheVariants.{Nothing, One, Several}}}
use Rattle.crossings.specs.declared.standings.Standing.{Standing, TheVariants.{Clear, Crosses, Bad}}

-- what poly and diffusion have in common, where a window that goes past it makes them a buried pair
pub record IsShared (tech : Tech) (boxes : List MaskBox) (p d : ℕ) (shared : BoxXY) : Type 0 where
  pub has_buried : IsTrue (has_buried_of tech)
  pub overlap : IsOverlap boxes p d
  pub common : IsCommon (area_at boxes p) (area_at boxes d) shared

-- ---- poly and diffusion, in either order

-- the layer that crosses a layer
abbrev pub facing_of : MaskLayer → Option MaskLayer
facing_of ND = Some NP
facing_of NP = Some ND
facing_of NC = None
facing_of NM = None
facing_of NI = None
facing_of NB = None

-- one is poly, the other diffusion
pub record AreFacing (boxes : List MaskBox) (a b : ℕ) : Type 0 where
  pub a_among : a < length boxes
  pub b_among : b < length boxes
  pub facing : facing_of (layer_at boxes a) ≡ Some (layer_at boxes b)

abbrev pub DoOverlap : List MaskBox → ℕ → ℕ → Type 0
DoOverlap boxes a b = IsOverlap boxes a b ⊎ IsOverlap boxes b a

-- they overlap, and are no buried pair
abbrev pub Meets : Tech → List MaskBox → ℕ → ℕ → Type 0
Meets tech boxes a b = IsMeeting tech boxes a b ⊎ IsMeeting tech boxes b a

abbrev pub IsBadWith : Tech → List MaskBox → ℕ → ℕ → Type 0
IsBadWith tech boxes a b = IsImproper tech boxes a b ⊎ IsImproper tech boxes b a

-- box b is that of an entry at a place from one up to before another, and box a meets it
pub record IsMetAt (tech : Tech) (boxes : List MaskBox) (a : ℕ) (entries : List Entry)
    (first end b : ℕ) : Type 0 where
  pub p : ℕ
  pub from : first ≤ p
  pub before : p < end
  pub owner : (entry_of entries p).owner ≡ b
  pub met : Meets tech boxes a b

-- p is one of a and b, and d the other
abbrev pub IsPairOf : ℕ → ℕ → ℕ → ℕ → Type 0
IsPairOf a b p d = ((p ≡ a) × (d ≡ b)) ⊎ ((p ≡ b) × (d ≡ a))

-- ---- how many, and which

-- two numbers with a fact
pub record AreTwo (P : ℕ → Type 0) : Type 0 where
  pub a : ℕ
  pub b : ℕ
  pub apart : a ≡ b → ⊥
  pub at_a : P a
  pub at_b : P b

-- how many numbers have a fact
abbrev pub HowMany : (ℕ → Type 0) → Partners → Type 0
HowMany P Nothing = (k : ℕ) → P k → ⊥
HowMany P (One a) = P a × ((k : ℕ) → P k → k ≡ a)
HowMany P Several = AreTwo P

-- the least number with a fact
abbrev pub Least : (ℕ → Type 0) → Option ℕ → Type 0
Least P None = (k : ℕ) → P k → ⊥
Least P (Some a) = P a × ((k : ℕ) → P k → a ≤ k)

-- less than the least so far, if there is one
abbrev pub IsBelow : ℕ → Option ℕ → Type 0
IsBelow k None = Unit {0}
IsBelow k (Some a) = k < a

-- ---- how a box stands

-- it crosses this one properly, and overlaps no other
pub record IsCrossed (tech : Tech) (boxes : List MaskBox) (a p d : ℕ) (axis : Axis) : Type 0 where
  pub one : (p ≡ a) ⊎ (d ≡ a)
  pub meeting : IsMeeting tech boxes p d
  pub along : CrossAlong tech axis (area_at boxes p) (area_at boxes d)
  pub proper : CrossProperly tech boxes p d

abbrev pub StandsAs : Tech → List MaskBox → ℕ → Standing → Type 0
StandsAs tech boxes a Clear = (b : ℕ) → Meets tech boxes a b → ⊥
StandsAs tech boxes a (Crosses pair axis) = IsCrossed tech boxes a pair.poly pair.diffusion axis
StandsAs tech boxes a (Bad b) = IsBadWith tech boxes a b × ((c : ℕ) → IsBadWith tech boxes a c → b ≤ c)

-- all that overlaps box a crosses it properly, or is a buried pair with it
abbrev pub IsSettled : Tech → List MaskBox → ℕ → Type 0
IsSettled tech boxes a = (p d : ℕ) → IsMeeting tech boxes p d → (p ≡ a) ⊎ (d ≡ a) → CrossProperly tech boxes p d

-- all crossings with a diffusion of a number below n, in order of their diffusion
pub record AreCrossingsBelow (tech : Tech) (boxes : List MaskBox) (n : ℕ) (crossings : List Crossing) : Type 0 where
  pub each : All (IsCrossing tech boxes) crossings
  pub in_order : AreInOrder crossings
  pub below : All (λ (c : Crossing). c.diffusion < n) crossings
  pub complete : (p d : ℕ) → IsMeeting tech boxes p d → d < n
      → (c : Crossing) × Contains crossings c × (c.poly ≡ p) × (c.diffusion ≡ d)

-- the crossing of a pair after the others
pub record AddsCrossing (tech : Tech) (boxes : List MaskBox) (pair : Pair) (old new : List Crossing) : Type 0 where
  pub added : Crossing
  pub items : new ≡ old ++ added ∷ []
  pub is_crossing : IsCrossing tech boxes added
  pub poly : added.poly ≡ pair.poly
  pub diffusion : added.diffusion ≡ pair.diffusion

-- ---- the end of the search

-- poly and diffusion that cross properly, and each pair that does not stands after the diffusion
pub record IsCrossingBeforeBad (tech : Tech) (boxes : List MaskBox) : Type 0 where
  pub p : ℕ
  pub d : ℕ
  pub meeting : IsMeeting tech boxes p d
  pub proper : CrossProperly tech boxes p d
  pub before : (a b : ℕ) → IsBadPair tech boxes a b → d < a

-- why the search by trees, which takes memory for each crossing, gives none
abbrev pub EndsSearch : Tech → List MaskBox → CrossingFault → Type 0
EndsSearch tech boxes (NotProper a b) = IsFirstBadPair tech boxes a b
EndsSearch tech boxes OutOfMemory = IsCrossingBeforeBad tech boxes
