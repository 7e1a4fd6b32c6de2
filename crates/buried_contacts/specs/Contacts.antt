-- Buried contacts in a layout: their pads, their windows, and the poly and diffusion that they join.
use Rattle.std.specs.Prelude.{◌≡◌, ℕ, ◌+◌, ◌<◌, ◌⊎◌, ℤ, pos, ◌+ℤ◌, ◌-ℤ◌, ◌≤ℤ◌, ◌<ℤ◌, Bool, true, false, if◌then◌else◌}
use Rattle.std.specs.{Prelude.length, Int.{int_max, int_min}}
use Rattle.lam_geom.specs.declared.boxes.Axis.{Axis, TheVariants.{X, Y}}
use Rattle.rule_table.specs.declared.{technology.Tech.Tech, classes.Class.{Class, TheVariants.{P, Dm, Dc, G, B}}}
use Rattle.rule_table.specs.Technology.{numbers_of}
use Rattle.sym_items.specs.{declared.items.{Item.Item, Coords.Coords}, Values.value_of, Transposed.values_along}
use Rattle.sym_items.specs.{Transposed.sides_along, Sides.{Sides, sides_in, gap_in}, Standing.{StandsAt, StandTogether}}
use Rattle.pair_rules.specs.{Bound.item_at, Clean.IsClean}
use Rattle.cell_model.specs.declared.cell.{Axis2.{Axis2, TheVariants.{Across, Up}}, NodeKind.NodeKind}
use Rattle.cell_model.specs.declared.cell.{NodeKind.TheVariants.{Joint, Contact, Buried, Fet}, WireEnd.WireEnd}
use Rattle.cell_model.specs.{Sound.{node_at, wire_at}, Wiring.buried_pad}
use Rattle.cell_model.specs.declared.cell.WireEnd.TheVariants as ends
use Rattle.expand.specs.{declared.master.Master.Master, Variables.{half, centre}, Laws.MeetsStructure}

-- a layout of a master that meets its structure on both axes, and in which bound items keep their spacings
pub record IsFinished (tech : Tech) (master : Master) (layout : Coords) : Type 0 where
  pub structure : (axis : Axis) → MeetsStructure axis tech master (value_of (values_along axis layout))
  pub clean : IsClean tech layout master.items.list

-- item number i of a master, and the sides of its box
abbrev pub item_of : Master → ℕ → Item
item_of master i = item_at master.items.list i

abbrev pub sides_of_item : Master → Coords → ℕ → Sides
sides_of_item master layout i = sides_in layout (item_of master i)

abbrev pub IsItem : Master → ℕ → Type 0
IsItem master i = i < length master.items.list

abbrev pub kind_of : Master → ℕ → NodeKind
kind_of master k = (node_at master.cell.nodes k).kind

-- node k is a buried contact
abbrev pub IsBuried : Master → ℕ → Type 0
IsBuried master k = (k < length master.cell.nodes) × (kind_of master k ≡ Buried)

-- the square round the centre of node k that goes so far to each side
abbrev pub square_at : Coords → ℕ → ℤ → Sides
square_at layout k reach = record {
  left = value_of layout.x (centre k) -ℤ reach;
  right = value_of layout.x (centre k) +ℤ reach;
  bottom = value_of layout.y (centre k) -ℤ reach;
  top = value_of layout.y (centre k) +ℤ reach;
}

-- the pad of buried contact k, and its window
abbrev pub pad_at : Tech → Coords → ℕ → Sides
pad_at tech layout k = square_at layout k (half (buried_pad tech))

abbrev pub window_at : Tech → Coords → ℕ → Sides
window_at tech layout k = square_at layout k (half (buried_pad tech) +ℤ (numbers_of tech).extension_buried)

-- what two boxes that overlap have in common
abbrev pub common : Sides → Sides → Sides
common a b =
    record {
      left = int_max a.left b.left;
      right = int_min a.right b.right;
      bottom = int_max a.bottom b.bottom;
      top = int_min a.top b.top;
    }

-- ---- wires on pads

abbrev pub axis_along : Axis2 → Axis
axis_along Across = X
axis_along Up = Y

-- a box begins with a pad, or ends with it
abbrev pub EndsWith : Bool → Sides → Sides → Type 0
EndsWith true box pad = box.left ≡ pad.left
EndsWith false box pad = box.right ≡ pad.right

-- A box, seen so that it runs from left to right, lies across where a pad lies, and covers it along; it begins with
-- the pad, or ends with it.
pub record CoversFrom (is_low : Bool) (box pad : Sides) : Type 0 where
  pub bottom : box.bottom ≡ pad.bottom
  pub top : box.top ≡ pad.top
  pub left : box.left ≤ℤ pad.left
  pub right : pad.right ≤ℤ box.right
  pub ends_with : EndsWith is_low box pad

-- item i is one of wire w: the owners of wires are numbered after those of the nodes
abbrev pub IsOfWire : Master → ℕ → ℕ → Type 0
IsOfWire master w i = IsItem master i × ((item_of master i).owner ≡ length master.cell.nodes + w)

-- the low end of wire w, or its high end
abbrev pub end_of_wire : Master → ℕ → Bool → WireEnd
end_of_wire master w is_low = if is_low then (wire_at master.cell.wires w).low else (wire_at master.cell.wires w).high

-- each box of a wire covers the pad of a buried contact at which it ends, and has its end there
abbrev pub WiresCoverPads : Tech → Master → Coords → Type 0
WiresCoverPads tech master layout =
    (w k i : ℕ) (is_low : Bool) → w < length master.cell.wires → IsBuried master k
    → end_of_wire master w is_low ≡ ends.Node k → IsOfWire master w i
    → CoversFrom is_low (sides_along (axis_along (wire_at master.cell.wires w).along) (sides_of_item master layout i))
    (sides_along (axis_along (wire_at master.cell.wires w).along) (pad_at tech layout k))

-- ---- poly and diffusion

abbrev pub Overlap : Master → Coords → ℕ → ℕ → Type 0
Overlap master layout i j = gap_in layout (item_of master i) (item_of master j) <ℤ pos 0

abbrev pub IsTransistor : NodeKind → Type 0
IsTransistor (Joint layer width) = ⊥
IsTransistor (Contact lower) = ⊥
IsTransistor Buried = ⊥
IsTransistor (Fet depletion gate w l) = Unit {0}

-- two items are of one transistor
abbrev pub AreOfOneTransistor : Master → ℕ → ℕ → Type 0
AreOfOneTransistor master i j =
    ((item_of master i).owner ≡ (item_of master j).owner) × ((item_of master i).owner < length master.cell.nodes)
    × IsTransistor (kind_of master (item_of master i).owner)

-- poly overlaps diffusion of the mask only where both are of one transistor, or where both stand at one buried contact
abbrev pub OverlapOnlyThere : Master → Coords → Type 0
OverlapOnlyThere master layout =
    (i j : ℕ) → IsItem master i → IsItem master j → (item_of master i).class ≡ P → (item_of master j).class ≡ Dm
    → Overlap master layout i j
    → AreOfOneTransistor master i j ⊎ StandTogether (item_of master i) (item_of master j)

-- there they share exactly its pad
abbrev pub ShareThePad : Tech → Master → Coords → Type 0
ShareThePad tech master layout =
    (k i j : ℕ) → IsItem master i → IsItem master j → (item_of master i).class ≡ P → (item_of master j).class ≡ Dm
    → StandsAt (item_of master i) k → StandsAt (item_of master j) k
    → IsBuried master k
    × (common (sides_of_item master layout i) (sides_of_item master layout j) ≡ pad_at tech layout k)

-- ---- windows

-- each window is that of a buried contact, whose number is its owner's
abbrev pub WindowsHoldPads : Tech → Master → Coords → Type 0
WindowsHoldPads tech master layout =
    (i : ℕ) → IsItem master i → (item_of master i).class ≡ B
    → IsBuried master (item_of master i).owner
    × (sides_of_item master layout i ≡ window_at tech layout (item_of master i).owner)

-- node k has a box of this class with these sides
abbrev pub HasBox : Master → Coords → ℕ → Class → Sides → Type 0
HasBox master layout k class sides =
    (i : ℕ) × IsItem master i × ((item_of master i).owner ≡ k) × ((item_of master i).class ≡ class)
    × (sides_of_item master layout i ≡ sides)

-- and each buried contact has one
abbrev pub HaveWindows : Tech → Master → Coords → Type 0
HaveWindows tech master layout = (k : ℕ) → IsBuried master k → HasBox master layout k B (window_at tech layout k)

-- and poly, diffusion of the mask and conducting diffusion on its pad
abbrev pub HavePads : Tech → Master → Coords → Type 0
HavePads tech master layout =
    (k : ℕ) → IsBuried master k
    → HasBox master layout k P (pad_at tech layout k) × HasBox master layout k Dm (pad_at tech layout k)
    × HasBox master layout k Dc (pad_at tech layout k)

-- a window keeps off each channel by their spacing, which is at least 1
abbrev pub WindowsKeepOff : Tech → Master → Coords → Type 0
WindowsKeepOff tech master layout =
    (i j : ℕ) → IsItem master i → IsItem master j → (item_of master i).class ≡ B → (item_of master j).class ≡ G
    → (pos 1 ≤ℤ (numbers_of tech).spacing_buried_channel)
    × ((numbers_of tech).spacing_buried_channel ≤ℤ gap_in layout (item_of master i) (item_of master j))
