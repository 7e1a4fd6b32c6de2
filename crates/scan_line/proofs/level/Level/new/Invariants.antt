use Rattle.std.proofs.Common.{◌≡◌, ℕ, ◌+◌, ◌<◌, List, length, take}
use Rattle.lam_geom.specs.declared.boxes.Axis.{Axis}
use Rattle.sym_items.specs.declared.items.{Item.Item, Coords.Coords}
use Rattle.scan_line.specs.Levels.{list_at, lane_of, ArePlaces}
use Rattle.scan_line.proofs.level.Level.new.Given as goal

abbrev pub invariant-loop-p : goal.invariant-loop-p
invariant-loop-p l = record {
  counted : length l.lists.items ≡ l.stretches.last + 1;
  lanes : (axis : Axis) (c : Coords) (items : List Item) → ArePlaces axis c items l.order l.across
      → (t : ℕ) → t < length l.lists.items
      → list_at l.lists.items t ≡ lane_of axis c items l.stretches (take l.p l.order) t;
}
