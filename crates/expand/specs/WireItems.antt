-- The items of a wire. All is said of a wire that runs across; one that runs up is the transposed of it.
use Rattle.std.specs.Prelude.{ℕ, ℤ, pos, ◌+ℤ◌, neg_ℤ, List, if◌then◌else◌}
use Rattle.rule_table.specs.{declared.{technology.Tech.Tech, classes.Class.TheVariants.M}, Technology.numbers_of}
use Rattle.sym_items.specs.{declared.items.{End.End, Item.Item}, Standing.nowhere}
use Rattle.cell_model.specs.declared.cell.{Axis2.Axis2, NodeKind.{NodeKind, TheVariants.{Joint, Contact, Buried, Fet}}}
use Rattle.cell_model.specs.{declared.cell.{WireEnd.WireEnd, Wire.Wire, Cell.Cell}, Wiring.is_same_axis, Sound.node_at}
use Rattle.cell_model.specs.declared.cell.WireEnd.TheVariants as ends
use Rattle.expand.specs.{Variables.{half, centre, past}, NodeItems.{item_running, on_layer}}

-- the half size of a channel on an axis: W runs along the gate, L across it
abbrev pub half_channel : Axis2 → ℤ → ℤ → Axis2 → ℤ
half_channel gate w l along = if is_same_axis gate along then half w else half l

-- How far past the centre of a node a wire goes that ends there: by half its width at a joint, a contact or a buried
-- contact. At a transistor it stops short of the centre, outside the channel by the spacing of poly and diffusion.
abbrev pub reach : Tech → NodeKind → ℤ → Axis2 → ℤ
reach tech (Joint layer own) width along = half width
reach tech (Contact lower) width along = half width
reach tech Buried width along = half width
reach tech (Fet depletion gate w l) width along =
    neg_ℤ (half_channel gate w l along +ℤ (numbers_of tech).spacing_poly_diffusion)

-- the same past a terminal; at a port a wire ends on the border
abbrev pub reach_at : Tech → Cell → Wire → WireEnd → ℤ
reach_at tech cell wire (ends.Node j) = reach tech (node_at cell.nodes j).kind wire.width wire.along
reach_at tech cell wire (ends.Port j) = pos 0

-- the variable of a terminal: a node's centre, or the border on which a port lies
abbrev pub terminal : ℕ → WireEnd → ℕ
terminal border (ends.Node j) = centre j
terminal border (ends.Port j) = border

-- where a wire begins and where it ends
abbrev pub low_end_of : Tech → Cell → Wire → WireEnd → End
low_end_of tech cell wire end = past (terminal 0 end) (neg_ℤ (reach_at tech cell wire end))

abbrev pub high_end_of : Tech → Cell → Wire → WireEnd → End
high_end_of tech cell wire end = past (terminal 1 end) (reach_at tech cell wire end)

-- the buried contact at which a wire stands where it ends at this terminal
abbrev pub contact_of_kind : ℕ → NodeKind → ℕ
contact_of_kind j (Joint layer own) = nowhere
contact_of_kind j (Contact lower) = nowhere
contact_of_kind j Buried = j
contact_of_kind j (Fet depletion gate w l) = nowhere

abbrev pub contact_at : Cell → WireEnd → ℕ
contact_at cell (ends.Node j) = contact_of_kind j (node_at cell.nodes j).kind
contact_at cell (ends.Port j) = nowhere

-- A box that runs across between two ends, so wide round the cross coordinate; it is at least as long as it is wide.
-- It stands at the buried contacts at its two ends.
abbrev pub run_item : ℕ → ℕ → ℕ → ℤ → End → End → ℕ → ℕ → Item
run_item owner net cross width low high at_low at_high = record {
  class = M;
  net = net;
  owner = owner;
  xl = low;
  xh = high;
  yl = past cross (neg_ℤ (half width));
  yh = past cross (half width);
  least_x = width;
  least_y = width;
  at_low = at_low;
  at_high = at_high;
}

-- the items of a wire with this owner, net and cross coordinate
abbrev pub wire_items : Tech → Cell → ℕ → ℕ → ℕ → Wire → List Item
wire_items tech cell owner net cross wire =
    let run =
    run_item owner net cross wire.width (low_end_of tech cell wire wire.low) (high_end_of tech cell wire wire.high)
    (contact_at cell wire.low) (contact_at cell wire.high) in
    on_layer wire.layer (item_running wire.along run)
