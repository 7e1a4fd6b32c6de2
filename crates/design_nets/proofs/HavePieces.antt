-- Each part of an instance that has a name has a piece.
use Rattle.std.proofs.Common.{◌≡◌, ℕ, ◌+◌, ◌<◌, ℤ, Bool, true, false, List, length, map, refl, sym, ap, ◌∙◌, subst}
use Rattle.std.proofs.{Common.{arith, inl, inr}, lemmas.Bool.{and_left, and_right, le-ltb}}
use Rattle.std.specs.{Prelude.{nat_lt, slice_index}, List.{AllByRecursion, flat_map, range_with_len}, Option.unwrap_or}
use Rattle.list_facts.proofs.Elements.{all_append, all_flat, all_map, all_numbers, all_weaker}
use Rattle.lam_geom.specs.declared.boxes.MaskLayer.{MaskLayer, TheVariants.{ND, NP, NM}}
use Rattle.rule_table.specs.declared.{technology.Tech.Tech, classes.{Class.TheVariants.{M, P}, Layer.Layer}}
use Rattle.rule_table.specs.declared.classes.Layer.TheVariants.{Diffusion, Poly, Metal}
use Rattle.cell_model.specs.declared.cell.{Axis2.{Axis2, TheVariants.{Across, Up}}, Cell.Cell, Nets.Nets}
use Rattle.cell_model.specs.declared.cell.{NodeKind.{NodeKind, TheVariants.{Joint, Contact, Buried, Fet}}, Wire.Wire}
use Rattle.cell_model.specs.{Nets.AreNets, Sound.{node_at, port_at, wire_at}}
use Rattle.cell_nets.proofs.Determined.{nets_same}
use Rattle.sym_items.specs.declared.items.{Item.Item, Items.Items}
use Rattle.pair_rules.specs.Bound.{item_at}
use Rattle.expand.specs.{declared.master.Master.Master, Masters.IsMaster, Items.{nets_at, item_list}}
use Rattle.expand.specs.{NodeItems.{item_running, on_layer, square_round, kind_items}, Variables.{half, cross_of}}
use Rattle.expand.specs.WireItems.{low_end_of, high_end_of, contact_at, run_item}
use Rattle.buried_contacts.specs.Contacts.{kind_of}
use Rattle.plan_model.specs.{declared.plan.Plan.Plan, Instances.{InstancePlace, master_at_spot}, Plan.grids_of}
use Rattle.pitch_join.specs.Masters.{master_at}
use Rattle.box_pieces.specs.declared.placing.Part.{Part, TheVariants.{Whole, Low as LowPart, High as HighPart}}
use Rattle.box_pieces.specs.Places.{place, parts_of_diffusion, parts_on}
use Rattle.instance_laws.specs.{Planned.AreOfPlan, Conductors.{InstanceItem, IsInstanceItem, item_of}, Meetings.at}
use Rattle.instance_laws.specs.{Meetings.{IsOwned, IsTransistorAt}, Shapes.layer_of, Sticks.is_transistor}
use Rattle.instance_laws.specs.Sticks.{is_of_transistor, net_of_part}
use Rattle.instance_laws.proofs.ChainPlaces.{place_of_node, place_of_wire, StandsAtPlace, node_item_stands}
use Rattle.instance_laws.proofs.{ChainPlaces.wire_item_stands, Meeting.{master_among, master_is}}
use Rattle.instance_laws.proofs.{MeetingBlocks.{class_running, owner_running}, MeetingOwners.owners_have_poly}
use Rattle.instance_laws.proofs.{NetlistLists.Has, NetlistPlaces.{item_fet, parts_of_item, place_there}}
use Rattle.instance_laws.proofs.NetlistShapes.{class_of_layer, layer_there, number}
use Rattle.design_nets.specs.declared.{instances.Instance.Instance, named_parts.CellPart.{CellPart, TheVariants.Gate}}
use Rattle.design_nets.specs.{declared.named_parts.CellPart.TheVariants.{Low, High, Port}, Connections.IsPieceOf}
use Rattle.design_nets.specs.{Instances.{instances_of, spot_no, master_no}, Joining.own_net, NamedLaws.HasPiece}
use Rattle.design_nets.specs.NamedParts.{parts_of_kind, parts_of_node, parts_of_cell, net_in, part_of, parts_in}
use Rattle.design_nets.specs.{NamedParts.named_parts, Nets.{nets_no, AreNetsOfAll}}
use Rattle.design_nets.proofs.Spots.{IsInstance, instance_stands}

-- ---- the first box on a layer

abbrev mask_of : Layer → MaskLayer
mask_of Metal = NM
mask_of Poly = NP
mask_of Diffusion = ND

first_class : (layer : Layer) (i : Item) → (item_at (on_layer layer i) 0).class ≡ class_of_layer (mask_of layer)
first_class Metal i = refl
first_class Poly i = refl
first_class Diffusion i = refl

first_net : (layer : Layer) (i : Item) → (item_at (on_layer layer i) 0).net ≡ i.net
first_net Metal i = refl
first_net Poly i = refl
first_net Diffusion i = refl

first_owner : (layer : Layer) (i : Item) → (item_at (on_layer layer i) 0).owner ≡ i.owner
first_owner Metal i = refl
first_owner Poly i = refl
first_owner Diffusion i = refl

first_within : (layer : Layer) (i : Item) → 0 < length (on_layer layer i)
first_within Metal i = omega arith
first_within Poly i = omega arith
first_within Diffusion i = omega arith

first_part : (layer : Layer) (b : Bool) → b ≡ false → Has (parts_on (mask_of layer) b) Whole
first_part Metal b e = inl refl
first_part Poly b e = inl refl
first_part Diffusion b e = subst (λ (z : Bool). Has (parts_of_diffusion z) Whole) (sym e) (inl refl)

-- ---- an item that runs along an axis

running_net : (along : Axis2) (i : Item) → (item_running along i).net ≡ i.net
running_net Across i = refl
running_net Up i = refl

module _ (tech : Tech) (plan : Plan) (masters : List Master) (planned : AreOfPlan tech plan masters)
    (nets : List Nets) (all : AreNetsOfAll masters nets) where
  abbrev Instances : List Instance
  Instances = instances_of (grids_of plan)

  module _ (s : ℕ) (lt : s < length (instances_of (grids_of plan))) where
    abbrev Place : InstancePlace
    Place = spot_no (instances_of (grids_of plan)) s

    abbrev Own : Master
    Own = master_at masters (master_at_spot (grids_of plan) (spot_no (instances_of (grids_of plan)) s))

    abbrev N : Nets
    N = nets_no nets (master_at_spot (grids_of plan) (spot_no (instances_of (grids_of plan)) s))

    stands : IsInstance (grids_of plan) Instances s
    stands = instance_stands (grids_of plan) Instances s refl lt

    is_own : IsMaster tech Own
    is_own = master_is tech plan masters Place planned stands.spot

    own : AreNets Own.cell N
    own = all.each (master_at_spot (grids_of plan) Place) (master_among tech plan masters Place planned stands.spot)

    items_are : Own.items.list ≡ item_list tech Own.cell N
    items_are = ap (λ (z : Items). z.list) is_own.items.are
        ∙ ap (λ (z : Nets). item_list tech Own.cell z)
        (nets_same Own.cell is_own.items.nets N is_own.items.of_cell own)

    -- item number n of the instance
    record IsItem (n : ℕ) (item : Item) : Type 0 where
      drawn : IsInstanceItem plan masters (at Place n)
      is : item_of plan masters (at Place n) ≡ item

    item_there : (n : ℕ) (item : Item) → StandsAtPlace (item_list tech Own.cell N) n item → IsItem n item
    item_there n item h = record {
      drawn = record { spot = stands.spot; among = subst (λ (is : List Item). n < length is) (sym items_are) h.among };
      is = ap (λ (is : List Item). item_at is n) items_are ∙ h.read;
    }

    abbrev HasNet : ℕ → Type 0
    HasNet net = (i : ℕ) × IsPieceOf plan masters nets (instances_of (grids_of plan)) (own_net s net) i

    abbrev IsFet : ℕ → Bool
    IsFet n = is_of_transistor plan masters (at (spot_no (instances_of (grids_of plan)) s) n)

    -- an item that is a box has a piece for each of its parts
    piece : (n : ℕ) (item : Item) (layer : MaskLayer) (part : Part) (net : ℕ) → IsItem n item
        → item.class ≡ class_of_layer layer → Has (parts_on layer (IsFet n)) part
        → net_of_part (nets_no nets) plan masters (at Place n) part ≡ net → HasNet net
    piece n item layer part net h e has is =
        let a : InstanceItem = at Place n in
        let class : (item_of plan masters a).class ≡ class_of_layer layer = ap (λ (i : Item). i.class) h.is ∙ e in
        let found = number plan masters a layer h.drawn class in
        let on : layer_of plan masters a ≡ layer =
        ap (λ z. unwrap_or z ND) (layer_there (item_of plan masters a).class layer class) in
        let in_parts : Has (parts_of_item plan masters a) part =
        subst (λ (l : MaskLayer). Has (parts_on l (IsFet n)) part) (sym on) has in
        let there = place_there plan masters found.0 a part found.1 in_parts in (
          there.0,
          record {
            p = place found.0 part;
            a = a;
            instance = lt;
            there = there.1;
            shows = found.1;
            spot = refl;
            net = is;
          },
        )

    whole : (n : ℕ) (item : Item) (layer : MaskLayer) → IsItem n item → item.class ≡ class_of_layer layer
        → Has (parts_on layer (IsFet n)) Whole → HasNet item.net
    whole n item layer h e has = piece n item layer Whole item.net h e has (ap (λ (i : Item). i.net) h.is)

    layer_piece : (layer : Layer) (i : Item) (n : ℕ) → IsItem n (item_at (on_layer layer i) 0) → IsFet n ≡ false
        → HasNet i.net
    layer_piece layer i n h off =
        subst HasNet (first_net layer i)
        (whole n (item_at (on_layer layer i) 0) (mask_of layer) h (first_class layer i)
        (first_part layer (IsFet n) off))

    -- ---- nodes

    node_item : (k r : ℕ) (kind : NodeKind) → k < length Own.cell.nodes → (node_at Own.cell.nodes k).kind ≡ kind
        → r < length (kind_items tech k kind (nets_at N.node k))
        → IsItem (place_of_node tech Own.cell N k r) (item_at (kind_items tech k kind (nets_at N.node k)) r)
    node_item k r kind node e within =
        let n : ℕ = place_of_node tech Own.cell N k r in
        item_there n (item_at (kind_items tech k kind (nets_at N.node k)) r)
        (subst (λ (z : NodeKind). StandsAtPlace (item_list tech Own.cell N) n
        (item_at (kind_items tech k z (nets_at N.node k)) r)) e
        (node_item_stands tech Own.cell N k r node
        (subst (λ (z : NodeKind). r < length (kind_items tech k z (nets_at N.node k))) (sym e) within)))

    node_off : (n k : ℕ) (item : Item) (kind : NodeKind) → IsItem n item → item.owner ≡ k
        → (node_at Own.cell.nodes k).kind ≡ kind → is_transistor kind ≡ false → IsFet n ≡ false
    node_off n k item kind h owner e off =
        let o : ℕ = (item_of plan masters (at Place n)).owner in
        and_right (nat_lt o (length Own.cell.nodes)) (is_transistor (kind_of Own o))
        (ap (λ (i : Item). is_transistor (kind_of Own i.owner)) h.is
        ∙ (ap (λ (j : ℕ). is_transistor (kind_of Own j)) owner ∙ (ap is_transistor e ∙ off)))

    pub node_pieces : (k : ℕ) → k < length Own.cell.nodes → (kind : NodeKind) → (node_at Own.cell.nodes k).kind ≡ kind
        → AllByRecursion (λ (part : CellPart). HasNet (net_in Own.cell N part)) (parts_of_kind kind k)
    node_pieces k node (Joint layer width) e =
        (let i : Item = square_round k M (nets_at N.node k).main (half width) in
        let h = node_item k 0 (Joint layer width) node e (first_within layer i) in (
          layer_piece layer i (place_of_node tech Own.cell N k 0) h
              (node_off (place_of_node tech Own.cell N k 0) k (item_at (on_layer layer i) 0) (Joint layer width) h
              (first_owner layer i) e refl),
          tt,
        ))
    node_pieces k node (Contact lower) e = (
      whole (place_of_node tech Own.cell N k 0) _ NM (node_item k 0 (Contact lower) node e (omega arith)) refl
          (inl refl),
      tt,
    )
    node_pieces k node Buried e = (
      whole (place_of_node tech Own.cell N k 0) _ NP (node_item k 0 Buried node e (omega arith)) refl
          (inl refl),
      tt,
    )
    node_pieces k node (Fet depletion gate w l) e =
        (let poly : ℕ = place_of_node tech Own.cell N k 0 in
        let mask : ℕ = place_of_node tech Own.cell N k 1 in
        let kind : NodeKind = Fet depletion gate w l in
        let p = node_item k 0 kind node e (omega arith) in
        let d = node_item k 1 kind node e (omega arith) in
        let fet : IsTransistorAt plan masters Place k depletion gate w l =
        record { there = stands.spot; node = node; kind = e } in
        let owner : (item_of plan masters (at Place mask)).owner ≡ k =
        ap (λ (i : Item). i.owner) d.is ∙ owner_running gate _ in
        let on : IsFet mask ≡ true = item_fet plan masters (at Place mask) k depletion gate w l fet owner in
        let class : (item_at (kind_items tech k kind (nets_at N.node k)) 1).class ≡ class_of_layer ND =
        class_running gate _ in
        let low : HasNet (nets_at N.node k).low =
        piece mask _ ND LowPart (nets_at N.node k).low d class
        (subst (λ (z : Bool). Has (parts_of_diffusion z) LowPart) (sym on) (inl refl))
        (ap (λ (o : ℕ). (nets_at N.node o).low) owner) in
        let high : HasNet (nets_at N.node k).high =
        piece mask _ ND HighPart (nets_at N.node k).high d class
        (subst (λ (z : Bool). Has (parts_of_diffusion z) HighPart) (sym on) (inr (inl refl)))
        (ap (λ (o : ℕ). (nets_at N.node o).high) owner) in
        (subst HasNet (running_net gate _) (whole poly _ NP p (class_running gate _) (inl refl)), (low, (high, tt))))

    -- ---- wires and ports

    wire_piece : (w : ℕ) → w < length Own.cell.wires → HasNet (slice_index N.wire w)
    wire_piece w among =
        let cell : Cell = Own.cell in
        let wire : Wire = wire_at cell.wires w in
        let run : Item = run_item (length cell.nodes + w) (slice_index N.wire w) (cross_of cell w) wire.width
        (low_end_of tech cell wire wire.low) (high_end_of tech cell wire wire.high) (contact_at cell wire.low)
        (contact_at cell wire.high) in
        let i : Item = item_running wire.along run in
        let n : ℕ = place_of_wire tech cell N w 0 in
        let h : IsItem n (item_at (on_layer wire.layer i) 0) =
        item_there n (item_at (on_layer wire.layer i) 0)
        (wire_item_stands tech cell N w 0 among (first_within wire.layer i)) in
        let owner : (item_of plan masters (at Place n)).owner ≡ length cell.nodes + w =
        ap (λ (j : Item). j.owner) h.is ∙ (first_owner wire.layer i ∙ owner_running wire.along run) in
        let off : IsFet n ≡ false =
        and_left (nat_lt (item_of plan masters (at Place n)).owner (length cell.nodes))
        (is_transistor (kind_of Own (item_of plan masters (at Place n)).owner))
        (le-ltb (item_of plan masters (at Place n)).owner (length cell.nodes) (omega (arith, owner))) in
        subst HasNet (running_net wire.along run) (layer_piece wire.layer i n h off)

    cell_pieces : AllByRecursion (λ (part : CellPart). HasNet (net_in Own.cell N part)) (parts_of_cell Own.cell)
    cell_pieces =
        let P : CellPart → Type 0 = λ part. HasNet (net_in Own.cell N part) in
        let nodes : ℕ = length Own.cell.nodes in
        let ports : ℕ = length Own.cell.ports in
        all_append P (flat_map (parts_of_node Own.cell) (range_with_len 0 nodes)) (map Port (range_with_len 0 ports))
        (all_flat P (parts_of_node Own.cell) (range_with_len 0 nodes)
        (all_numbers (λ k. AllByRecursion P (parts_of_node Own.cell k)) 0 nodes
        (λ k le few. node_pieces k (omega (arith, few)) (node_at Own.cell.nodes k).kind refl)))
        (all_map P Port (range_with_len 0 ports)
        (all_numbers (λ k. P (Port k)) 0 ports
        (λ k le few. wire_piece (port_at Own.cell.ports k).wire
        (is_own.sound.ports k (omega (arith, few))).wire)))

    -- by the number of its master
    master_same : master_at_spot (grids_of plan) Place ≡ master_no Instances s
    master_same = sym stands.master

    instance_pieces : AllByRecursion (HasPiece plan masters nets Instances) (parts_in masters Instances s)
    instance_pieces =
        let Q : ℕ → Type 0 =
        λ m. AllByRecursion
        (λ (part : CellPart). HasNet (net_in (master_at masters m).cell (nets_no nets m) part))
        (parts_of_cell (master_at masters m).cell) in
        let m : ℕ = master_no Instances s in
        let parts : List CellPart = parts_of_cell (master_at masters m).cell in
        let P : CellPart → Type 0 = λ part. HasNet (net_in (master_at masters m).cell (nets_no nets m) part) in
        all_map (HasPiece plan masters nets Instances) (part_of s) parts
        (all_weaker P (λ (part : CellPart). HasPiece plan masters nets Instances (part_of s part))
        (λ part h. record { i = h.0; is = h.1 }) parts (subst Q master_same cell_pieces))

    -- of a transistor
    pub fet_pieces : (k : ℕ) (depletion : Bool) (gate : Axis2) (w l : ℤ)
        → k < length (master_at masters (master_no Instances s)).cell.nodes
        → (node_at (master_at masters (master_no Instances s)).cell.nodes k).kind ≡ Fet depletion gate w l
        → HasPiece plan masters nets Instances (part_of s (Gate k))
        × HasPiece plan masters nets Instances (part_of s (Low k))
        × HasPiece plan masters nets Instances (part_of s (High k))
    fet_pieces k depletion gate w l node e =
        let m : ℕ = master_no Instances s in
        let P : ℕ → CellPart → Type 0 = λ m part. HasNet (net_in (master_at masters m).cell (nets_no nets m) part) in
        let Q : ℕ → Type 0 = λ m. k < length (master_at masters m).cell.nodes
        → (node_at (master_at masters m).cell.nodes k).kind ≡ Fet depletion gate w l
        → AllByRecursion (P m) (parts_of_kind (Fet depletion gate w l) k) in
        let here : Q m = subst Q master_same (λ among is. node_pieces k among (Fet depletion gate w l) is) in
        let r = here node e in
        let has : (part : CellPart) → P m part → HasPiece plan masters nets Instances (part_of s part) =
        λ part h. record { i = h.0; is = h.1 } in
        (has (Gate k) r.0, has (Low k) r.1.0, has (High k) r.1.1.0)

    -- the poly of a transistor is of the net of its gate
    pub poly_net : (k : ℕ) (depletion : Bool) (gate : Axis2) (w l : ℤ) (n : ℕ) → k < length Own.cell.nodes
        → (node_at Own.cell.nodes k).kind ≡ Fet depletion gate w l → IsOwned plan masters P k (at Place n)
        → (item_of plan masters (at Place n)).net ≡ (nets_at N.node k).main
    poly_net k depletion gate w l n node e is =
        let kind : NodeKind = Fet depletion gate w l in
        let m : ℕ = place_of_node tech Own.cell N k 0 in
        let h = node_item k 0 kind node e (omega arith) in
        let there : IsOwned plan masters P k (at Place m) = record {
          drawn = h.drawn;
          of_class = ap (λ (i : Item). i.class) h.is ∙ class_running gate _;
          owned = ap (λ (i : Item). i.owner) h.is ∙ owner_running gate _;
        } in
        let same : n ≡ m = owners_have_poly tech plan masters planned Place k n m is there in
        ap (λ (j : ℕ). (item_of plan masters (at Place j)).net) same
        ∙ (ap (λ (i : Item). i.net) h.is ∙ running_net gate _)

  pub parts_have_pieces : AllByRecursion (HasPiece plan masters nets Instances) (named_parts masters Instances)
  parts_have_pieces =
      all_flat (HasPiece plan masters nets Instances) (parts_in masters Instances) (range_with_len 0 (length Instances))
      (all_numbers (λ s. AllByRecursion (HasPiece plan masters nets Instances) (parts_in masters Instances s)) 0
      (length Instances) (λ s le lt. instance_pieces s (omega (arith, lt))))
