-- Netlists: pieces with their nets, and devices. What pieces there are, which of them are of one net, and which
-- crossings make the devices is told by those who use these definitions.
use Rattle.std.specs.Prelude.{◌≡◌, ◌↔◌, ℕ, ◌<◌, ◌==◌, ◌&&◌, Bool, true, false, if◌then◌else◌, List, [], ◌∷◌, length}
use Rattle.std.specs.Prelude.{map, slice_index}
use Rattle.graph_search.specs.Netting.{next_net, IsNumberedInOrder}
use Rattle.crossing_model.specs.{declared.crossing.Crossing.Crossing, Boxes.{extent, other}}
use Rattle.net_model.specs.declared.netlist.{Device.Device, Netlist.Netlist, Piece.Piece}
use Rattle.box_pieces.specs.{declared.placing.Part.{Part, TheVariants.{Whole, Low, High}}, Places.{Place, place}}

abbrev pub place_of : Piece → Place
place_of piece = place piece.box_no piece.part

abbrev pub nets_of : List Piece → List ℕ
nets_of pieces = map (λ (piece : Piece). piece.net) pieces

-- ---- the net of a piece by its place

abbrev pub is_same_part : Part → Part → Bool
is_same_part Whole Whole = true
is_same_part Low Low = true
is_same_part High High = true
is_same_part a b = false

abbrev pub stands_at : Place → Piece → Bool
stands_at p piece = (piece.box_no == p.box_no) && is_same_part piece.part p.part

abbrev pub net_at : List Piece → Place → ℕ
net_at [] p = 0
net_at (piece ∷ pieces) p = if stands_at p piece then piece.net else net_at pieces p

-- ---- devices

-- the device of a crossing: its gate, and its low and high diffusion; its width along the gate, and its length across
abbrev pub device_of : List Piece → Crossing → Device
device_of pieces c = record {
  gate = net_at pieces (place c.poly Whole);
  low = net_at pieces (place c.diffusion Low);
  high = net_at pieces (place c.diffusion High);
  w = extent c.axis c.channel;
  l = extent (other c.axis) c.channel;
  depletion = c.depletion;
  channel = c.channel;
}

-- A netlist of pieces at these places: two pieces, by their numbers, have one net exactly where they are of one; nets
-- are numbered in order of their first pieces; and each crossing is a device.
pub record IsNetlistOf (places : List Place) (AreOne : ℕ → ℕ → Type 0) (crossings : List Crossing)
    (list : Netlist) : Type 0 where
  pub placed : map place_of list.pieces ≡ places
  pub joined : (a b : ℕ) → a < length places → b < length places
      → slice_index (nets_of list.pieces) a ≡ slice_index (nets_of list.pieces) b ↔ AreOne a b
  pub in_order : IsNumberedInOrder (nets_of list.pieces)
  pub counted : list.nets ≡ next_net (nets_of list.pieces)
  pub devices : list.devices ≡ map (device_of list.pieces) crossings
