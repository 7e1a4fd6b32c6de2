-- The least pair of items that are too near one another.
use Rattle.std.specs.Prelude.{◌≡◌, ℕ, ◌<◌, ◌⊎◌, ℤ, Bool, true, false, int_lt, Option, Some, None, List, length}
use Rattle.rule_table.specs.declared.technology.Tech.{Tech}
use Rattle.sym_items.specs.{declared.items.{Item.Item, Coords.Coords}, Sides.gap_in}
use Rattle.pair_rules.specs.Bound.{item_at, bound_spacing}

-- a gap is below a spacing, where there is one
abbrev pub is_below : ℤ → Option ℤ → Bool
is_below gap None = false
is_below gap (Some spacing) = int_lt gap spacing

-- two items are bound, and their gap is below their spacing
abbrev pub is_near : Tech → Coords → Item → Item → Bool
is_near tech c a b = is_below (gap_in c a b) (bound_spacing tech a b)

-- the same of the items number i and j
abbrev pub is_near_at : Tech → Coords → List Item → ℕ → ℕ → Bool
is_near_at tech c items i j = is_near tech c (item_at items i) (item_at items j)

-- (i, j) is the least pair i < j, by i and then by j, of items that are too near one another
pub record IsFirstClash (tech : Tech) (c : Coords) (items : List Item) (i j : ℕ) : Type 0 where
  pub ordered : i < j
  pub among : j < length items
  pub near : is_near_at tech c items i j ≡ true
  pub least : (k l : ℕ) → k < l → l < length items → (k < i) ⊎ ((k ≡ i) × (l < j)) → is_near_at tech c items k l ≡ false
