-- What is known of the netlist of the sticks before anything is laid out: the pieces with their nets, by the plan and
-- its masters alone, and the numbers of the nets of all instances.
use Rattle.std.specs.Prelude.{◌≡◌, ◌↔◌, ℕ, ◌+◌, ◌<◌, Some, List, length, map, take, slice_get, slice_index}
use Rattle.cell_model.specs.declared.cell.Nets.{Nets}
use Rattle.expand.specs.declared.master.Master.{Master}
use Rattle.graph_search.specs.Netting.{next_net, IsNumberedInOrder}
use Rattle.plan_model.specs.{declared.plan.Plan.Plan, Plan.grids_of}
use Rattle.net_model.specs.{declared.netlist.Piece.Piece, Devices.ArePieceRanges, Netlists.{place_of, nets_of}}
use Rattle.box_pieces.specs.Places.{Place}
use Rattle.instance_laws.specs.{Conductors.InstanceItem, Shapes.Shows, Sticks.{places_of_sticks, net_of_part, AreOfOne}}
use Rattle.design_nets.specs.declared.{connections.Connections.Connections, instances.Instance.Instance}
use Rattle.design_nets.specs.{declared.{numbering.NetNumbers.NetNumbers, owners.OwnNet.OwnNet}, Firsts.AreFirsts}
use Rattle.design_nets.specs.{Instances.{instances_of, spot_no}, Joining.{nets_in, AreNetNumbers}, Linking.number_of}
use Rattle.design_nets.specs.{Nets.{nets_no, AreNetsOfAll}, Shapes.{drawn_in, AreShapesOf}}

-- ---- pieces and their nets

-- The pieces of the sticks with the numbers of their nets: equal exactly where pieces are of one net, in order of the
-- first piece of each.
pub record AreSticksPieces (nets : List Nets) (plan : Plan) (masters : List Master) (pieces : List Piece) : Type 0 where
  pub placed : map place_of pieces ≡ places_of_sticks plan masters
  pub joined : (i j : ℕ) → i < length (places_of_sticks plan masters) → j < length (places_of_sticks plan masters)
      → slice_index (nets_of pieces) i ≡ slice_index (nets_of pieces) j ↔ AreOfOne (nets_no nets) plan masters i j
  pub in_order : IsNumberedInOrder (nets_of pieces)

-- piece number i is of this net of an instance
pub record IsPieceOf (plan : Plan) (masters : List Master) (nets : List Nets) (instances : List Instance)
    (own : OwnNet) (i : ℕ) : Type 0 where
  pub p : Place
  pub a : InstanceItem
  pub instance : own.instance < length instances
  pub there : slice_get (places_of_sticks plan masters) i ≡ Some p
  pub shows : Shows plan masters p.box_no a
  pub spot : a.spot ≡ spot_no instances own.instance
  pub net : net_of_part (nets_no nets) plan masters a p.part ≡ own.net

-- each net of an instance has the number of its pieces
abbrev pub AreNumbersOfPieces : Plan → List Master → List Nets → List Instance → List Piece → (OwnNet → ℕ) → Type 0
AreNumbersOfPieces plan masters nets instances pieces number =
    (i : ℕ) (own : OwnNet) → IsPieceOf plan masters nets instances own i → slice_index (nets_of pieces) i ≡ number own

-- ---- in lists of numbers

-- the number of a net of an instance
abbrev pub number_in : NetNumbers → OwnNet → ℕ
number_in numbers own = slice_index numbers.all.items (number_of numbers.firsts.items own)

-- Numbers of pieces that are of these nets of instances, and after them those of all nets of the instances, one
-- instance after another.
pub record AreAllNumbers (plan : Plan) (nets : List Nets) (instances : List Instance) (owners : List OwnNet)
    (numbers : NetNumbers) : Type 0 where
  pub pieces : AreNetNumbers plan nets instances owners (take (length owners) numbers.all.items)
  pub firsts : AreFirsts (nets_in nets instances) (length instances) (length owners) numbers.firsts.items
  pub counted : length numbers.all.items ≡ slice_index numbers.firsts.items (length instances)
  pub same : (i : ℕ) (own : OwnNet) → slice_get owners i ≡ Some own
      → slice_index numbers.all.items i ≡ number_in numbers own

-- ---- all of it

pub record AreConnections (plan : Plan) (masters : List Master) (c : Connections) : Type 0 where
  pub nets : AreNetsOfAll masters c.nets.items
  pub instances : c.instances.items ≡ instances_of (grids_of plan)
  pub drawn : c.drawn.items ≡ map drawn_in masters
  pub shapes : AreShapesOf masters c.instances.items c.shapes.all.items c.shapes.firsts.items
  pub pieces : AreSticksPieces c.nets.items plan masters c.pieces.items
  pub count : c.count ≡ next_net (nets_of c.pieces.items)
  pub starts : length c.starts.items ≡ length c.shapes.all.items + 1
  pub ranges : ArePieceRanges c.pieces.items c.starts.items
  pub first : ℕ
  pub firsts : AreFirsts (nets_in c.nets.items c.instances.items) (length c.instances.items) first
      c.numbers.firsts.items
  pub numbered : length c.numbers.all.items ≡ slice_index c.numbers.firsts.items (length c.instances.items)
  pub of_pieces : AreNumbersOfPieces plan masters c.nets.items c.instances.items c.pieces.items (number_in c.numbers)
