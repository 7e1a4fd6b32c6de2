-- Lanes over stretches of one length.
use Rattle.std.specs.Prelude.{◌≡◌, ℕ, ◌+◌, ◌<◌, ◌≤◌, ℤ, Bool, ◌&&◌, nat_le, Vec, List, [], length, map, filter}
use Rattle.std.specs.{Prelude.slice_index_or, declared.alloc.Global.Global}
use Rattle.lam_geom.specs.declared.boxes.{Axis.Axis, Span.Span}
use Rattle.sym_items.specs.{declared.items.{Item.Item, Coords.Coords}, Sides.Sides}
use Rattle.pair_rules.specs.{Bound.item_at, Candidates.sides_at}
use Rattle.scan_line.specs.{declared.{stretches.Stretches.Stretches, level.Level.Level}, Stretches.{stretch_of, IsCut}}

-- the list of a number
abbrev pub list_at : List (Vec ℕ Global) → ℕ → List ℕ
list_at lists t = slice_index_or (map (λ v. v.items) lists) t []

-- a box meets lane t, which is stretch t and the next: it begins in the next or lower, and ends in t or higher
abbrev pub meets_lane : Stretches → ℕ → Sides → Bool
meets_lane s t a = nat_le (stretch_of s a.bottom) (t + 1) && nat_le t (stretch_of s a.top)

-- of some items in order, those that meet lane t
abbrev pub lane_of : Axis → Coords → List Item → Stretches → List ℕ → ℕ → List ℕ
lane_of axis c items s order t = filter (λ i. meets_lane s t (sides_at axis c (item_at items i))) order

-- some spans are the places of some items across an axis: where each begins there, and where it ends
pub record ArePlaces (axis : Axis) (c : Coords) (items : List Item) (order : List ℕ) (spans : List Span) : Type 0 where
  pub lows : map (λ s. s.lo) spans ≡ map (λ k. (sides_at axis c (item_at items k)).bottom) order
  pub highs : map (λ s. s.hi) spans ≡ map (λ k. (sides_at axis c (item_at items k)).top) order

-- a level has a list for each of its stretches
pub record IsLevel (level : Level) : Type 0 where
  pub cut : IsCut level.stretches
  pub counted : length level.lists.items ≡ level.stretches.last + 1

-- the list of each lane has the items that meet it, in order
pub record IsLevelOf (axis : Axis) (c : Coords) (items : List Item) (order : List ℕ) (level : Level) : Type 0 where
  pub level_is : IsLevel level
  pub lanes : (t : ℕ) → t < length level.lists.items
      → list_at level.lists.items t ≡ lane_of axis c items level.stretches order t

-- a list is that of the lane that holds all between two places
pub record IsLaneOver (level : Level) (low high : ℤ) (list : List ℕ) : Type 0 where
  pub lane : ℕ
  pub among : lane < length level.lists.items
  pub list_is : list ≡ list_at level.lists.items lane
  pub low_in : stretch_of level.stretches low ≡ lane
  pub high_in : stretch_of level.stretches high ≤ lane + 1
