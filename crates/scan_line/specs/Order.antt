-- The order in which a scan along an axis comes to items.
use Rattle.std.specs.Prelude.{◌≡◌, ℕ, ◌<◌, ◌⊎◌, ℤ, ◌<ℤ◌, List, length, All, AllPairs, Contains}
use Rattle.lam_geom.specs.declared.boxes.Axis.{Axis}
use Rattle.sym_items.specs.{declared.items.{Item.Item, Coords.Coords}, Values.value_at, Transposed.values_along}
use Rattle.pair_rules.specs.Candidates.{low_end}

-- where item k begins on an axis: the value of its low end
abbrev pub begin_of : Axis → Coords → List Item → ℕ → ℤ
begin_of axis c items k = value_at (low_end axis items k) (values_along axis c)

-- the scan comes to item a before item b: it begins before it, or where it begins and has the lower number
abbrev pub ComesBefore : Axis → Coords → List Item → ℕ → ℕ → Type 0
ComesBefore axis c items a b = (begin_of axis c items a <ℤ begin_of axis c items b)
    ⊎ ((begin_of axis c items a ≡ begin_of axis c items b) × (a < b))

-- the numbers of all items, each once, in the order of the scan
pub record IsScanOrder (axis : Axis) (c : Coords) (items : List Item) (order : List ℕ) : Type 0 where
  pub in_range : All (λ k. k < length items) order
  pub each : (k : ℕ) → k < length items → Contains order k
  pub in_order : AllPairs (ComesBefore axis c items) order
