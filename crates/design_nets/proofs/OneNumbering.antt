-- The pieces of the sticks have one numbering, by whatever nets of the masters.
use Rattle.std.proofs.Common.{◌≡◌, ℕ, ◌<◌, List, [], length, get_or, refl, sym, ap, ◌∙◌, subst, arith}
use Rattle.std.proofs.lemmas.Option.{slice_get-get_or, slice_get-map}
use Rattle.std.specs.{Prelude.{Option, Some, option_map, slice_get, slice_index}, List.range_with_len}
use Rattle.rule_table.specs.declared.technology.Tech.{Tech}
use Rattle.cell_model.specs.declared.cell.{CellPort.CellPort, Nets.Nets}
use Rattle.cell_nets.proofs.Determined.{nets_same}
use Rattle.expand.specs.{declared.master.Master.Master, Items.nets_at}
use Rattle.plan_model.specs.{GridNets.{net_of_port, IsOneNet, the_same, met_before, met_after}, declared.plan.Plan.Plan}
use Rattle.plan_model.specs.{Instances.{InstancePlace, IsInstancePlace, master_at_spot}, Plan.grids_of}
use Rattle.pitch_join.specs.Masters.{master_at, ports_of_masters}
use Rattle.graph_search.specs.Netting.{next_net}
use Rattle.net_model.specs.{declared.netlist.{Netlist.Netlist, Piece.Piece}, Devices.no_netted, Netlists.place_of}
use Rattle.net_model.{specs.Netlists.{nets_of, IsNetlistOf}, proofs.Determined.netlist_same}
use Rattle.box_pieces.specs.{declared.placing.Part.{Part, TheVariants.{Whole, Low, High}}, Places.{Place, place}}
use Rattle.instance_laws.specs.{Planned.AreOfPlan, Rules.AreNetsOf, Conductors.{InstanceItem, item_of}}
use Rattle.instance_laws.specs.{Shapes.shapes_of, Sticks.{places_of_shape, places_of_sticks, net_of_part, AreOfOne}}
use Rattle.instance_laws.proofs.{Meeting.master_among, NetlistLists.{from_flat, from_map, from_range, has_at}}
use Rattle.instance_laws.proofs.NetlistShapes.{shown}
use Rattle.design_nets.specs.{Connections.AreSticksPieces, Nets.{nets_no, AreNetsOfAll}}

-- the box of a piece
pub piece_box : (plan : Plan) (masters : List Master) (nets : List Nets) (pieces : List Piece)
    → AreSticksPieces nets plan masters pieces → (i : ℕ) → i < length pieces
    → (get_or pieces i no_netted).box_no < length (shapes_of plan masters)
piece_box plan masters nets pieces are i lt =
    let p : Place = place_of (get_or pieces i no_netted) in
    let there : slice_get (places_of_sticks plan masters) i ≡ Some p =
    ap (λ (ps : List Place). slice_get ps i) (sym are.placed)
    ∙ (slice_get-map place_of pieces i
    ∙ ap (λ (o : Option Piece). option_map place_of o) (slice_get-get_or pieces i no_netted lt)) in
    let of = from_flat (places_of_shape plan masters) (range_with_len 0 (length (shapes_of plan masters))) p
    (has_at (places_of_sticks plan masters) i p there) in
    let among = from_range 0 (length (shapes_of plan masters)) of.0 of.1 in
    let part = from_map (place of.0) _ p of.2 in
    let box : of.0 ≡ p.box_no = ap (λ (q : Place). q.box_no) part.2 in
    let high = among.1 in
    omega (arith, high, box)

module _ (tech : Tech) (plan : Plan) (masters : List Master) (planned : AreOfPlan tech plan masters) where
  -- ---- two ways to give the nets of the masters

  module _ (f g : ℕ → Nets) (own : AreNetsOf masters f) (other : AreNetsOf masters g) where
    nets_at_spot : (p : InstancePlace) → IsInstancePlace (grids_of plan) p
        → f (master_at_spot (grids_of plan) p) ≡ g (master_at_spot (grids_of plan) p)
    nets_at_spot p at =
        let m : ℕ = master_at_spot (grids_of plan) p in
        let lt = master_among tech plan masters p planned at in
        nets_same (master_at masters m).cell (f m) (g m) (own m lt) (other m lt)

    port_net : (p : InstancePlace) → IsInstancePlace (grids_of plan) p → (a : CellPort)
        → net_of_port f (master_at_spot (grids_of plan) p) a ≡ net_of_port g (master_at_spot (grids_of plan) p) a
    port_net p at a = ap (λ (n : Nets). slice_index n.wire a.wire) (nets_at_spot p at)

    one_net_like : (p : InstancePlace) (n : ℕ) (q : InstancePlace) (m : ℕ)
        → IsOneNet (ports_of_masters masters) f (grids_of plan) p n q m
        → IsOneNet (ports_of_masters masters) g (grids_of plan) p n q m
    one_net_like p n q m the_same = the_same
    one_net_like p n q m (met_before axis r u a b chain met) =
        let before : IsOneNet (ports_of_masters masters) g (grids_of plan) p n r
        (net_of_port g (master_at_spot (grids_of plan) r) a) =
        subst (λ (z : ℕ). IsOneNet (ports_of_masters masters) g (grids_of plan) p n r z) (port_net r met.before a)
        (one_net_like p n r (net_of_port f (master_at_spot (grids_of plan) r) a) chain) in
        subst (λ (z : ℕ). IsOneNet (ports_of_masters masters) g (grids_of plan) p n u z)
        (sym (port_net u met.after b)) (met_before axis r u a b before met)
    one_net_like p n q m (met_after axis r u a b chain met) =
        let after : IsOneNet (ports_of_masters masters) g (grids_of plan) p n u
        (net_of_port g (master_at_spot (grids_of plan) u) b) =
        subst (λ (z : ℕ). IsOneNet (ports_of_masters masters) g (grids_of plan) p n u z) (port_net u met.after b)
        (one_net_like p n u (net_of_port f (master_at_spot (grids_of plan) u) b) chain) in
        subst (λ (z : ℕ). IsOneNet (ports_of_masters masters) g (grids_of plan) p n r z)
        (sym (port_net r met.before a)) (met_after axis r u a b after met)

    pub part_like : (a : InstanceItem) → IsInstancePlace (grids_of plan) a.spot → (part : Part)
        → net_of_part f plan masters a part ≡ net_of_part g plan masters a part
    part_like a at Whole = refl
    part_like a at Low = ap (λ (n : Nets). (nets_at n.node (item_of plan masters a).owner).low) (nets_at_spot a.spot at)
    part_like a at High = ap (λ (n : Nets). (nets_at n.node (item_of plan masters a).owner).high)
        (nets_at_spot a.spot at)

    of_one_like : (i j : ℕ) → AreOfOne f plan masters i j → AreOfOne g plan masters i j
    of_one_like i j h =
        let at_a = (shown plan masters h.p.box_no h.a h.shows_first).drawn.spot in
        let at_b = (shown plan masters h.q.box_no h.b h.shows_second).drawn.spot in
        let n : ℕ = net_of_part f plan masters h.a h.p.part in
        let m : ℕ = net_of_part f plan masters h.b h.q.part in
        record {
          p = h.p;
          q = h.q;
          a = h.a;
          b = h.b;
          first = h.first;
          second = h.second;
          shows_first = h.shows_first;
          shows_second = h.shows_second;
          one = subst
              (λ (z : ℕ). IsOneNet (ports_of_masters masters) g (grids_of plan) h.a.spot z h.b.spot
              (net_of_part g plan masters h.b h.q.part)) (part_like h.a at_a h.p.part)
              (subst (λ (z : ℕ). IsOneNet (ports_of_masters masters) g (grids_of plan) h.a.spot n h.b.spot z)
              (part_like h.b at_b h.q.part) (one_net_like h.a.spot n h.b.spot m h.one));
        }

  -- ---- one list of pieces

  -- pieces as a netlist without devices
  abbrev listed : List Piece → Netlist
  listed pieces = record { pieces = pieces; nets = next_net (nets_of pieces); devices = [] }

  sticks_netlist : (nets : ℕ → Nets) (named : List Nets) (pieces : List Piece) → AreNetsOf masters nets
      → AreNetsOfAll masters named → AreSticksPieces named plan masters pieces
      → IsNetlistOf (places_of_sticks plan masters) (AreOfOne nets plan masters) [] (listed pieces)
  sticks_netlist nets named pieces are all h = record {
    placed = h.placed;
    joined = λ i j li lj. (let e = h.joined i j li lj in (
      λ same. of_one_like (nets_no named) nets all.each are i j (e.0 same),
      λ one. e.1 (of_one_like nets (nets_no named) are all.each i j one),
    ));
    in_order = h.in_order;
    counted = refl;
    devices = refl;
  }

  pub pieces_one : (nets : ℕ → Nets) (named : List Nets) (pieces other : List Piece) → AreNetsOf masters nets
      → AreNetsOfAll masters named → AreSticksPieces named plan masters pieces
      → IsNetlistOf (places_of_sticks plan masters) (AreOfOne nets plan masters) [] (listed other) → pieces ≡ other
  pieces_one nets named pieces other are all h k =
      ap (λ (list : Netlist). list.pieces)
      (netlist_same (places_of_sticks plan masters) (AreOfOne nets plan masters) [] (listed pieces) (listed other)
      (sticks_netlist nets named pieces are all h) k)

  pub named_pieces_one : (first second : List Nets) (pieces other : List Piece) → AreNetsOfAll masters first
      → AreNetsOfAll masters second → AreSticksPieces first plan masters pieces
      → AreSticksPieces second plan masters other
      → pieces ≡ other
  named_pieces_one first second pieces other one two h k =
      pieces_one (nets_no second) first pieces other two.each one h
      (sticks_netlist (nets_no second) second other two.each two k)

  -- the nets of the masters themselves
  pub nets_one : (first second : List Nets) → AreNetsOfAll masters first → AreNetsOfAll masters second → (m : ℕ)
      → m < length masters → nets_no first m ≡ nets_no second m
  nets_one first second one two m lt =
      nets_same (master_at masters m).cell (nets_no first m) (nets_no second m) (one.each m lt) (two.each m lt)
