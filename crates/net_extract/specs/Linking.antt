-- Which pieces are linked by the areas that they cover, and the nodes of the search: the pieces, and the cuts that
-- join some of them.
use Rattle.std.specs.Prelude.{◌≡◌, ◌≢◌, ℕ, ◌+◌, ◌<◌, ◌⊎◌, List, length}
use Rattle.lam_geom.specs.{declared.boxes.{MaskBox.MaskBox, MaskLayer.TheVariants.NC}, Gaps.{Touches, Overlaps}}
use Rattle.rule_table.specs.declared.technology.Tech.{Tech}
use Rattle.crossing_model.specs.{Boxes.{area_at, layer_at, IsOn}, Crossings.IsBuriedPair}
use Rattle.box_pieces.specs.{declared.placing.Placed.Placed, Pieces.{box_of, area_of}}

-- ---- kinds of links

-- pieces of different boxes
pub record AreApart (pieces : List Placed) (x y : ℕ) : Type 0 where
  pub first : x < length pieces
  pub second : y < length pieces
  pub apart : box_of pieces y ≢ box_of pieces x

-- they are of one layer and touch
pub record IsTouch (boxes : List MaskBox) (pieces : List Placed) (x y : ℕ) : Type 0 where
  pub apart : AreApart pieces x y
  pub one_layer : layer_at boxes (box_of pieces x) ≡ layer_at boxes (box_of pieces y)
  pub touch : Touches (area_of pieces x) (area_of pieces y)

-- both overlap box number k, which is a cut
pub record IsOverBoth (boxes : List MaskBox) (pieces : List Placed) (k x y : ℕ) : Type 0 where
  pub is_cut : IsOn boxes NC k
  pub apart : AreApart pieces x y
  pub first : Overlaps (area_of pieces x) (area_at boxes k)
  pub second : Overlaps (area_of pieces y) (area_at boxes k)

-- one of two boxes is poly, and they are a buried pair
abbrev pub IsPairWith : Tech → List MaskBox → ℕ → ℕ → Type 0
IsPairWith tech boxes a b = IsBuriedPair tech boxes a b ⊎ IsBuriedPair tech boxes b a

-- their boxes are a buried pair
pub record IsContact (tech : Tech) (boxes : List MaskBox) (pieces : List Placed) (x y : ℕ) : Type 0 where
  pub first : x < length pieces
  pub second : y < length pieces
  pub pair : IsPairWith tech boxes (box_of pieces x) (box_of pieces y)

-- ---- nodes

-- a cut joins where pieces of two boxes overlap it
abbrev pub IsJoining : List MaskBox → List Placed → ℕ → Type 0
IsJoining boxes pieces k = (x : ℕ) × (y : ℕ) × IsOverBoth boxes pieces k x y

-- the node of a cut: after the pieces, by the number of its box
abbrev pub cut_node : List Placed → ℕ → ℕ
cut_node pieces k = length pieces + k

-- piece x overlaps box number k
pub record IsOver (boxes : List MaskBox) (pieces : List Placed) (k x : ℕ) : Type 0 where
  pub among : x < length pieces
  pub over : Overlaps (area_of pieces x) (area_at boxes k)

-- piece x overlaps a cut that joins, and n is its node
pub record IsOverCut (boxes : List MaskBox) (pieces : List Placed) (x n : ℕ) : Type 0 where
  pub cut : ℕ
  pub node : n ≡ cut_node pieces cut
  pub joins : IsJoining boxes pieces cut
  pub is : IsOver boxes pieces cut x

-- a piece, or a cut that joins
abbrev pub IsNode : List MaskBox → List Placed → ℕ → Type 0
IsNode boxes pieces n = (n < length pieces) ⊎ ((k : ℕ) × (n ≡ cut_node pieces k) × IsJoining boxes pieces k)

-- two nodes are beside each other: pieces that touch, a piece and a cut, or pieces of a buried pair
abbrev pub AreBeside : Tech → List MaskBox → List Placed → ℕ → ℕ → Type 0
AreBeside tech boxes pieces x y = IsTouch boxes pieces x y
    ⊎ (IsOverCut boxes pieces x y ⊎ (IsOverCut boxes pieces y x ⊎ IsContact tech boxes pieces x y))
