-- Clean layouts.
use Rattle.std.specs.Prelude.{ℕ, ◌<◌, ◌≤ℤ◌, IfSome, List, length}
use Rattle.rule_table.specs.declared.technology.Tech.{Tech}
use Rattle.sym_items.specs.{declared.items.{Item.Item, Coords.Coords}, Sides.gap_in}
use Rattle.pair_rules.specs.Bound.{item_at, bound_spacing}

-- where two items are bound, their boxes lie at least their spacing apart
abbrev pub IsSpaced : Tech → Coords → Item → Item → Type 0
IsSpaced t c a b = IfSome (bound_spacing t a b) (λ s. s ≤ℤ gap_in c a b)

-- a clean layout: every two bound items keep their spacing
abbrev pub IsClean : Tech → Coords → List Item → Type 0
IsClean t c items = (i j : ℕ) → i < length items → j < length items → IsSpaced t c (item_at items i) (item_at items j)
