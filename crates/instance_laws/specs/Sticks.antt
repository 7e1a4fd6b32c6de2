-- The netlist of the sticks: the pieces of all instances with the nets of the parts that they belong to, and a device
-- for each transistor.
use Rattle.std.specs.Prelude.{◌≡◌, ◌↔◌, ℕ, ◌<◌, ◌&&◌, nat_lt, ℤ, Bool, true, false, All, Contains, Some, List, length}
use Rattle.std.specs.{Prelude.{map, flat_map, slice_get, slice_index_or}, List.range_with_len}
use Rattle.lam_geom.specs.declared.boxes.MaskBox.{MaskBox}
use Rattle.rule_table.specs.declared.{technology.Tech.Tech, classes.Class.TheVariants.{P, Dm, G}}
use Rattle.cell_model.specs.declared.cell.{Axis2.Axis2, NodeKind.{NodeKind, TheVariants.{Joint, Contact, Buried, Fet}}}
use Rattle.cell_model.specs.declared.cell.Nets.{Nets}
use Rattle.sym_items.specs.{declared.items.Coords.Coords, Sides.sides_of}
use Rattle.expand.specs.{declared.master.Master.Master, Items.nets_at}
use Rattle.buried_contacts.specs.Contacts.{axis_along, kind_of}
use Rattle.plan_model.specs.{declared.plan.Plan.Plan, GridNets.IsOneNet, Instances.{InstancePlace, master_at_spot}}
use Rattle.plan_model.specs.Plan.{grids_of}
use Rattle.pitch_join.specs.Masters.{ports_of_masters}
use Rattle.graph_search.specs.Netting.{Reaches}
use Rattle.crossing_model.specs.{declared.crossing.Crossing.Crossing, Boxes.{extent, other, grains}}
use Rattle.crossing_model.specs.Crossings.{AreInOrder, AreProper, AreCrossings}
use Rattle.net_model.specs.{declared.netlist.Netlist.Netlist, Extraction.{IsLink, IsExtracted}, Netlists.IsNetlistOf}
use Rattle.box_pieces.specs.declared.placing.Part.{Part, TheVariants.{Whole, Low, High}}
use Rattle.box_pieces.specs.Places.{Place, place, parts_on, places_of}
use Rattle.instance_laws.specs.{Rules.AreNetsOf, Conductors.{InstanceItem, item_of, sides_of_drawn}, Meetings.at}
use Rattle.instance_laws.specs.{Meetings.{master_of, IsOwned, IsTransistorAt}, Shapes.{shapes_of, Shows, layer_of}}
use Rattle.instance_laws.specs.Shapes.{sides_in_grains}

-- ---- pieces

abbrev pub is_transistor : NodeKind → Bool
is_transistor (Joint layer width) = false
is_transistor (Contact lower) = false
is_transistor Buried = false
is_transistor (Fet depletion gate w l) = true

-- an item is a transistor's
abbrev pub is_of_transistor : Plan → List Master → InstanceItem → Bool
is_of_transistor plan masters a =
    nat_lt (item_of plan masters a).owner (length (master_of plan masters a.spot).cell.nodes)
    && is_transistor (kind_of (master_of plan masters a.spot) (item_of plan masters a).owner)

-- diffusion of a transistor has a low and a high piece
abbrev pub no_shape : InstanceItem
no_shape = at (record { grid = 0; row = 0; col = 0 }) 0

abbrev pub places_of_shape : Plan → List Master → ℕ → List Place
places_of_shape plan masters k =
    (let a = slice_index_or (shapes_of plan masters) k no_shape in map (place k)
    (parts_on (layer_of plan masters a) (is_of_transistor plan masters a)))

-- in order of the boxes, low before high
abbrev pub places_of_sticks : Plan → List Master → List Place
places_of_sticks plan masters =
    flat_map (places_of_shape plan masters) (range_with_len 0 (length (shapes_of plan masters)))

-- ---- nets

-- the net of the part of a cell that a piece belongs to: a transistor's low or high diffusion, or else that of its item
abbrev pub net_of_part : (ℕ → Nets) → Plan → List Master → InstanceItem → Part → ℕ
net_of_part nets plan masters a Whole = (item_of plan masters a).net
net_of_part nets plan masters a Low =
    (nets_at (nets (master_at_spot (grids_of plan) a.spot)).node (item_of plan masters a).owner).low
net_of_part nets plan masters a High =
    (nets_at (nets (master_at_spot (grids_of plan) a.spot)).node (item_of plan masters a).owner).high

-- pieces number i and j are of one net: of parts that chains of wires and of ports that meet join
pub record AreOfOne (nets : ℕ → Nets) (plan : Plan) (masters : List Master) (i j : ℕ) : Type 0 where
  pub p : Place
  pub q : Place
  pub a : InstanceItem
  pub b : InstanceItem
  pub first : slice_get (places_of_sticks plan masters) i ≡ Some p
  pub second : slice_get (places_of_sticks plan masters) j ≡ Some q
  pub shows_first : Shows plan masters p.box_no a
  pub shows_second : Shows plan masters q.box_no b
  pub one : IsOneNet (ports_of_masters masters) nets (grids_of plan) a.spot (net_of_part nets plan masters a p.part)
      b.spot (net_of_part nets plan masters b q.part)

-- ---- transistors

-- A transistor of an instance, by its boxes of poly and diffusion: its gate's axis, its channel in grains, its kind,
-- and its width and length.
pub record IsTransistor (tech : Tech) (plan : Plan) (masters : List Master) (layouts : List Coords)
    (c : Crossing) : Type 0 where
  pub spot : InstancePlace
  pub k : ℕ
  pub depletion : Bool
  pub gate : Axis2
  pub w : ℤ
  pub l : ℤ
  pub transistor : IsTransistorAt plan masters spot k depletion gate w l
  pub poly : ℕ
  pub diffusion : ℕ
  pub channel : ℕ
  pub is_poly : IsOwned plan masters P k (at spot poly)
  pub is_diffusion : IsOwned plan masters Dm k (at spot diffusion)
  pub is_channel : IsOwned plan masters G k (at spot channel)
  pub shows_poly : Shows plan masters c.poly (at spot poly)
  pub shows_diffusion : Shows plan masters c.diffusion (at spot diffusion)
  pub runs : c.axis ≡ axis_along gate
  pub there : sides_of c.channel ≡ sides_in_grains tech (sides_of_drawn tech plan masters layouts (at spot channel))
  pub kind : c.depletion ≡ depletion
  pub wide : extent c.axis c.channel ≡ grains tech w
  pub long : extent (other c.axis) c.channel ≡ grains tech l

-- the diffusion with this number is of that transistor
pub record IsOfNode (plan : Plan) (masters : List Master) (spot : InstancePlace) (k : ℕ) (c : Crossing) : Type 0 where
  pub diffusion : ℕ
  pub shown : Shows plan masters c.diffusion (at spot diffusion)
  pub owned : IsOwned plan masters Dm k (at spot diffusion)

-- all transistors of all instances, in order of their diffusion
pub record AreTransistors (tech : Tech) (plan : Plan) (masters : List Master) (layouts : List Coords)
    (transistors : List Crossing) : Type 0 where
  pub each : All (IsTransistor tech plan masters layouts) transistors
  pub in_order : AreInOrder transistors
  pub complete : (spot : InstancePlace) (k : ℕ) (depletion : Bool) (gate : Axis2) (w l : ℤ)
      → IsTransistorAt plan masters spot k depletion gate w l
      → (c : Crossing) × Contains transistors c × IsOfNode plan masters spot k c

-- ---- the netlist

pub record IsSticksNetlist (tech : Tech) (plan : Plan) (masters : List Master) (layouts : List Coords)
    (list : Netlist) : Type 0 where
  pub nets : ℕ → Nets
  pub are_nets : AreNetsOf masters nets
  pub transistors : List Crossing
  pub are_transistors : AreTransistors tech plan masters layouts transistors
  pub netlist : IsNetlistOf (places_of_sticks plan masters) (AreOfOne nets plan masters) transistors list

-- Poly and diffusion of boxes that show the instances cross properly. Their crossings are the transistors, with which
-- they have the pieces of the sticks; chains of links join what is of one net of the sticks; and what is extracted
-- from them is the sticks' netlist, as a value.
pub record NetsAreTheSticks (tech : Tech) (plan : Plan) (masters : List Master) (layouts : List Coords)
    (boxes : List MaskBox) : Type 0 where
  pub proper : AreProper tech boxes
  pub transistors : (crossings : List Crossing) → AreCrossings tech boxes crossings
      → AreTransistors tech plan masters layouts crossings
  pub places : (crossings : List Crossing) → AreCrossings tech boxes crossings
      → places_of crossings boxes ≡ places_of_sticks plan masters
  pub joined : (crossings : List Crossing) → AreCrossings tech boxes crossings → (nets : ℕ → Nets)
      → AreNetsOf masters nets
      → (i j : ℕ) → i < length (places_of_sticks plan masters) → j < length (places_of_sticks plan masters)
      → Reaches (IsLink tech boxes crossings) i j ↔ AreOfOne nets plan masters i j
  pub equal : (list : Netlist) → IsExtracted tech boxes list ↔ IsSticksNetlist tech plan masters layouts list
