-- A scan that stands somewhere: which item it has come to, and what it lends of the candidates that end there.
use Rattle.std.specs.Prelude.{◌≡◌, ℕ, ◌+◌, ◌<◌, ◌≤◌, ◌^◌, Option, Some, None, List, [], length, map, All, slice_get}
use Rattle.std.specs.Prelude.{min}
use Rattle.lam_geom.specs.declared.boxes.Axis.{Axis}
use Rattle.rule_table.specs.declared.technology.Tech.{Tech}
use Rattle.sym_items.specs.{declared.items.{Item.Item, Coords.Coords}, Boxes.HasBox}
use Rattle.pair_rules.specs.{declared.pairs.Pair.Pair, Bound.item_at, Candidates.candidates_to}
use Rattle.scan_line.specs.{declared.scan.{Near.Near, Scan.Scan}, Order.IsScanOrder, Lanes.AreLanesOf}

-- the first items of some pairs, with the spacings of the pairs, in their order
pub record AreFirstOf (items : List Item) (pairs : List Pair) (near : List Near) : Type 0 where
  pub numbers : map (λ (n : Near). n.number) near ≡ map (λ (p : Pair). p.i) pairs
  pub spacings : map (λ (n : Near). n.s) near ≡ map (λ (p : Pair). p.s) pairs
  pub each : All (λ (n : Near). n.item.now ≡ item_at items n.number) near

-- the first items of the candidates that end at an item, if there is one
abbrev pub AreBefore : Axis → Tech → Coords → List Item → Option ℕ → List Near → Type 0
AreBefore axis t c items None near = near ≡ []
AreBefore axis t c items (Some j) near = AreFirstOf items (candidates_to axis t c items j) near

-- the order in which a scan comes to its items, how many of them it has come to, and at which it stands: at none
-- before the first and after the last
abbrev pub order_of : Scan → List ℕ
order_of scan = scan.lanes.order.items

abbrev pub come_to : Scan → ℕ
come_to scan = scan.come

abbrev pub present_of : Scan → Option ℕ
present_of scan = scan.present

-- what is scanned
abbrev pub axis_of : Scan → Axis
axis_of scan = scan.axis

abbrev pub tech_of : Scan → Tech
tech_of scan = scan.tech.now

abbrev pub layout_of : Scan → Coords
layout_of scan = scan.coords.now

abbrev pub items_of : Scan → List Item
items_of scan = scan.items.now

-- a scan: its lanes are those of its items, and it lends the candidates that end at the item at which it stands
pub record IsScan (scan : Scan) : Type 0 where
  pub few : length (items_of scan) < 2 ^ 32
  pub boxes : All (HasBox (layout_of scan)) (items_of scan)
  pub lanes : AreLanesOf (axis_of scan) (layout_of scan) (items_of scan) scan.lanes
  pub come : come_to scan ≤ length (order_of scan)
  pub before : AreBefore (axis_of scan) (tech_of scan) (layout_of scan) (items_of scan) (present_of scan)
      scan.near.items

-- two scans of the same items in the same layout, along the same axis
pub record SameScan (old new : Scan) : Type 0 where
  pub axis : axis_of new ≡ axis_of old
  pub tech : tech_of new ≡ tech_of old
  pub layout : layout_of new ≡ layout_of old
  pub items : items_of new ≡ items_of old
  pub order : order_of new ≡ order_of old

-- a scan stands as another stood
pub record StandsAs (old new : Scan) : Type 0 where
  pub same : SameScan old new
  pub come : come_to new ≡ come_to old
  pub present : present_of new ≡ present_of old

-- a scan moved to the next item, or past the last
pub record IsNext (old new : Scan) (found : Option ℕ) : Type 0 where
  pub same : SameScan old new
  pub next : found ≡ slice_get (order_of old) (come_to old)
  pub present : present_of new ≡ found
  pub come : come_to new ≡ min (come_to old + 1) (length (order_of old))

-- a scan of these items, before the first
pub record BeginsOver (a : Axis) (t : Tech) (c : Coords) (xs : List Item) (scan : Scan) : Type 0 where
  pub axis : axis_of scan ≡ a
  pub tech : tech_of scan ≡ t
  pub layout : layout_of scan ≡ c
  pub items : items_of scan ≡ xs
  pub order : IsScanOrder a c xs (order_of scan)
  pub come : come_to scan ≡ 0
  pub present : present_of scan ≡ None
