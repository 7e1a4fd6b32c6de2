-- Conductors of one net of one instance are connected, by a chain of attachments between the parts of its cell.
use Rattle.std.proofs.Common.{◌≡◌, ℕ, zero, suc, ◌+◌, ◌<◌, List, length, refl, sym, ap, ◌∙◌, subst, arith, inl, inr}
use Rattle.std.{proofs.Common.◌⊎◌, specs.Prelude.slice_index}
use Rattle.rule_table.specs.declared.{technology.Tech.Tech, classes.Class.Class}
use Rattle.sym_items.specs.declared.items.{Coords.Coords, Item.Item, Items.Items}
use Rattle.graph_search.specs.Netting.{Attached, Chain}
use Rattle.cell_model.specs.declared.cell.{NodeKind.NodeKind, NodeNets.NodeNets, Cell.Cell, Wire.Wire, Nets.Nets}
use Rattle.cell_model.specs.Nets.{node_parts, parts_of, first_part, joined_part, attachments_of}
use Rattle.cell_model.specs.Sound.{node_at, wire_at}
use Rattle.pair_rules.specs.Bound.{item_at}
use Rattle.expand.specs.{declared.master.Master.Master, Masters.IsMaster, NodeItems.kind_items, Items.nets_at}
use Rattle.expand.{specs.Items.{items_of_node, items_of_wire, item_list}, proofs.Cells.wire_sound}
use Rattle.buried_contacts.proofs.Owners.{item_keeps, wire_box}
use Rattle.plan_model.specs.{declared.plan.Plan.Plan, Instances.{InstancePlace, IsInstancePlace}, Plan.grids_of}
use Rattle.instance_laws.proofs.{AtPorts.net_of_box, Gaps.IsDone, Meeting.master_is, Pairs.master_of}
use Rattle.instance_laws.proofs.ChainConductors.{class_on, class_has, class_conducts, home_on, Conducting, part_in}
use Rattle.instance_laws.proofs.ChainConductors.{part_small, node_conducts, node_net, node_owner, one_or_pair}
use Rattle.instance_laws.proofs.{ChainConductors.wire_conducts, ChainLinks.{linked_back, connected_one, connected_then}}
use Rattle.instance_laws.proofs.{ChainLinks.connected_same, ChainParts.{parts_within, node_part_is, node_nets_are}}
use Rattle.instance_laws.proofs.{ChainParts.{wire_net_is, IsAttached, attached_is}, ChainPlaces.IsNodePlace}
use Rattle.instance_laws.proofs.ChainPlaces.{IsWirePlace, place_of_node, place_of_wire, places_are}
use Rattle.instance_laws.proofs.ChainSpot.{drawn_at, conductor_at, touch_linked, wire_touches, node_drawn}
use Rattle.instance_laws.proofs.ChainSpot.{wire_item_drawn, wire_drawn, wire_conductor, pair_linked}
use Rattle.instance_laws.proofs.ChainTouch.{item_met, end_among}
use Rattle.instance_laws.specs.Conductors.{item_of, Conducts, IsConductor, AreOfOneBox, AreLinked, AreConnected}

-- ---- of which part a conductor is

-- item number i of a cell is a conductor of part q of node k
record IsOfNodePart (tech : Tech) (cell : Cell) (nets : Nets) (i k q : ℕ) : Type 0 where
  node : k < length cell.nodes
  r : ℕ
  is : i ≡ place_of_node tech cell nets k r
  conducting : Conducting (node_at cell.nodes k).kind r
  part : part_in (node_at cell.nodes k).kind r ≡ q

-- or of wire w
record IsOfWire (tech : Tech) (cell : Cell) (nets : Nets) (i w : ℕ) : Type 0 where
  wire : w < length cell.wires
  is : i ≡ place_of_wire tech cell nets w (home_on (wire_at cell.wires w).layer)

-- its part has this number
abbrev IsOfPart : Tech → Cell → Nets → ℕ → ℕ → Type 0
IsOfPart tech cell nets i v =
    ((k : ℕ) × (q : ℕ) × IsOfNodePart tech cell nets i k q × (v ≡ first_part cell.nodes k + q))
    ⊎ ((w : ℕ) × IsOfWire tech cell nets i w × (v ≡ node_parts cell.nodes + w))

-- the part of a conductor, and its net
record HasPart (tech : Tech) (cell : Cell) (nets : Nets) (numbers : List ℕ) (i net : ℕ) : Type 0 where
  v : ℕ
  among : v < parts_of cell
  of_part : IsOfPart tech cell nets i v
  net_is : net ≡ slice_index numbers v

module _ (tech : Tech) (plan : Plan) (masters : List Master) (layouts : List Coords)
    (done : IsDone tech plan masters layouts) (p : InstancePlace) (at_p : IsInstancePlace (grids_of plan) p) where
  abbrev cell : Cell
  cell = (master_of plan masters p).cell

  abbrev is_master : IsMaster tech (master_of plan masters p)
  is_master = master_is tech plan masters p done.planned at_p

  abbrev nets : Nets
  nets = is_master.items.nets

  abbrev numbers : List ℕ
  numbers = is_master.items.of_cell.numbers

  abbrev Connected : ℕ → ℕ → Type 0
  Connected i j = AreConnected tech plan masters layouts (drawn_at p i) (drawn_at p j)

  abbrev Conductor : ℕ → Type 0
  Conductor i = IsConductor plan masters (drawn_at p i)

  abbrev wire_place : ℕ → ℕ
  wire_place w = place_of_wire tech cell nets w (home_on (wire_at cell.wires w).layer)

  node_has : (i : ℕ) → Conductor i → IsNodePlace tech cell nets i
      → HasPart tech cell nets numbers i (item_of plan masters (drawn_at p i)).net
  node_has i conductor place =
      let k : ℕ = place.k in
      let r : ℕ = place.r in
      let kind : NodeKind = (node_at cell.nodes k).kind in
      let there : Conductor (place_of_node tech cell nets k r) = subst Conductor place.is conductor in
      let drawn = node_drawn tech plan masters layouts done p at_p k r place.node place.within in
      let conducts : Conducts (item_at (items_of_node tech cell nets k) r).class =
      subst (λ (i : Item). Conducts i.class) drawn.is there.conducts in
      let conducting = node_conducts tech k kind (nets_at nets.node k) r place.within conducts in
      let small = part_small kind r in
      let within = parts_within cell.nodes k place.node in
      record {
        v = first_part cell.nodes k + part_in kind r;
        among = omega (arith, small, within);
        of_part =
            inl (
              k,
              part_in kind r,
              record {
                node = place.node;
                r = r;
                is = place.is;
                conducting = conducting;
                part = refl;
              },
              refl,
            );
        net_is = ap (λ (j : ℕ). (item_of plan masters (drawn_at p j)).net) place.is ∙ (ap (λ (i : Item). i.net) drawn.is
            ∙ (ap (λ (n : NodeNets). (item_at (kind_items tech k kind n) r).net)
            (node_nets_are cell nets k is_master.items.of_cell place.node)
            ∙ node_net tech k kind numbers (first_part cell.nodes k) r conducting));
      }

  wire_has : (i : ℕ) → Conductor i → IsWirePlace tech cell nets i
      → HasPart tech cell nets numbers i (item_of plan masters (drawn_at p i)).net
  wire_has i conductor place =
      let w : ℕ = place.w in
      let r : ℕ = place.r in
      let class : Class = class_on (wire_at cell.wires w).layer in
      let there : Conductor (place_of_wire tech cell nets w r) = subst Conductor place.is conductor in
      let conducts : Conducts (item_at (items_of_wire tech cell nets w) r).class =
      subst (λ (i : Item). Conducts i.class)
      (wire_item_drawn tech plan masters layouts done p at_p w r place.wire place.within).is there.conducts in
      let home = wire_conducts tech cell nets w r place.within conducts in
      let is : i ≡ wire_place w = place.is ∙ ap (place_of_wire tech cell nets w) home in
      let drawn = wire_drawn tech plan masters layouts done p at_p w place.wire in
      let lt = place.wire in
      record {
        v = node_parts cell.nodes + w;
        among = omega (arith, lt);
        of_part = inr (w, record { wire = place.wire; is = is }, refl);
        net_is = ap (λ (j : ℕ). (item_of plan masters (drawn_at p j)).net) is ∙ (ap (λ (i : Item). i.net) drawn.is
            ∙ (net_of_box tech cell nets (wire_box tech cell nets w class) w
            (record { among = place.wire; class = class_has (wire_at cell.wires w).layer; is = refl })
            ∙ wire_net_is cell nets w is_master.items.of_cell));
      }

  has_part : (i : ℕ) → Conductor i → HasPart tech cell nets numbers i (item_of plan masters (drawn_at p i)).net
  has_part i conductor =
      let among : i < length (item_list tech cell nets) =
      subst (λ (items : Items). i < length items.list) is_master.items.are conductor.drawn.among in
      elim (places_are tech cell nets i among)
      [ inl place ↦ node_has i conductor place | inr place ↦ wire_has i conductor place ]

  -- ---- one part

  node_same : (i j k q : ℕ) → Conductor j → IsOfNodePart tech cell nets i k q → IsOfNodePart tech cell nets j k q
      → Connected i j
  node_same i j k q conductor a b =
      let kind : NodeKind = (node_at cell.nodes k).kind in
      let there : Conductor (place_of_node tech cell nets k b.r) = subst Conductor b.is conductor in
      let own : Connected (place_of_node tech cell nets k a.r) (place_of_node tech cell nets k b.r) =
      elim (one_or_pair kind a.r b.r a.conducting b.conducting (a.part ∙ sym b.part)) [
        | inl same ↦ connected_same tech plan masters layouts _ _
            (ap (λ (r : ℕ). drawn_at p (place_of_node tech cell nets k r)) same)
        | inr (inl pair) ↦ connected_one tech plan masters layouts _ _ there
            (pair_linked tech plan masters layouts done p at_p k a.r b.r kind a.node refl pair)
        | inr (inr pair) ↦ connected_one tech plan masters layouts _ _ there
            (linked_back tech plan masters layouts _ _
            (pair_linked tech plan masters layouts done p at_p k b.r a.r kind a.node refl pair))
      ] in
      subst (λ (n : ℕ). Connected n j) (sym a.is)
      (subst (Connected (place_of_node tech cell nets k a.r)) (sym b.is) own)

  part_same : (i j v : ℕ) → Conductor j → IsOfPart tech cell nets i v → IsOfPart tech cell nets j v → Connected i j
  part_same i j v conductor (inl (k, q, a, e)) (inl (l, s, b, f)) =
      let first = a.part in
      let second = b.part in
      let small = part_small (node_at cell.nodes k).kind a.r in
      let little = part_small (node_at cell.nodes l).kind b.r in
      let one = node_part_is cell.nodes l k s q b.node a.node (omega (arith, second, little))
      (omega (arith, first, small)) (sym f ∙ e) in
      node_same i j k q conductor a
      (subst (IsOfNodePart tech cell nets j k) one.1
      (subst (λ (n : ℕ). IsOfNodePart tech cell nets j n s) one.0 b))
  part_same i j v conductor (inl (k, q, a, e)) (inr (w, b, f)) =
      let first = a.part in
      let small = part_small (node_at cell.nodes k).kind a.r in
      let within = parts_within cell.nodes k a.node in
      absurd (omega (arith, first, small, within, e, f))
  part_same i j v conductor (inr (w, a, e)) (inl (k, q, b, f)) =
      let first = b.part in
      let small = part_small (node_at cell.nodes k).kind b.r in
      let within = parts_within cell.nodes k b.node in
      absurd (omega (arith, first, small, within, e, f))
  part_same i j v conductor (inr (w, a, e)) (inr (u, b, f)) =
      let one : w ≡ u = omega (arith, e, f) in
      connected_same tech plan masters layouts _ _ (ap (drawn_at p) (a.is ∙ (ap wire_place one ∙ sym b.is)))

  -- ---- parts that are attached

  -- The conductors that meet where two parts are attached: the wire's and the node's.
  record Meet (a c : ℕ) : Type 0 where
    of_wire : ℕ
    of_node : ℕ
    wire_conductor : Conductor of_wire
    node_conductor : Conductor of_node
    wire_part : IsOfPart tech cell nets of_wire a
    node_part : IsOfPart tech cell nets of_node c
    linked : AreLinked tech plan masters layouts (drawn_at p of_wire) (drawn_at p of_node)

  they_meet : (a c : ℕ) → IsAttached cell a c → Meet a c
  they_meet a c h =
      let w : ℕ = h.w in
      let k : ℕ = h.k in
      let wire : Wire = wire_at cell.wires w in
      let kind : NodeKind = (node_at cell.nodes k).kind in
      let met = item_met tech (master_of plan masters p) nets w h.is_low k is_master h.wire h.at_node in
      let node = end_among tech cell wire h.is_low k (wire_sound tech cell w is_master.sound h.wire) h.at_node in
      let conducts : Conducts (item_at (items_of_node tech cell nets k) met.r).class =
      subst Conducts (sym met.class) (class_conducts wire.layer) in
      let conducting = node_conducts tech k kind (nets_at nets.node k) met.r met.within conducts in
      let drawn = node_drawn tech plan masters layouts done p at_p k met.r node met.within in
      let of_wire = wire_drawn tech plan masters layouts done p at_p w h.wire in
      let wire_owner =
      (item_keeps tech cell nets (wire_box tech cell nets w (class_on wire.layer)) w
      (record { among = h.wire; class = class_has wire.layer; is = refl })).owner in
      let node_owned = node_owner tech k kind (nets_at nets.node k) met.r conducting in
      let apart : AreOfOneBox plan masters (drawn_at p (wire_place w))
      (drawn_at p (place_of_node tech cell nets k met.r)) → ⊥ =
      λ one. (
      let same = sym (ap (λ (i : Item). i.owner) of_wire.is) ∙ (one.owner ∙ ap (λ (i : Item). i.owner) drawn.is) in
      omega (arith, same, wire_owner, node_owned, node)
      ) in
      record {
        of_wire = wire_place w;
        of_node = place_of_node tech cell nets k met.r;
        wire_conductor = wire_conductor tech plan masters layouts done p at_p w h.wire;
        node_conductor = conductor_at plan masters (drawn_at p (place_of_node tech cell nets k met.r)) _ drawn conducts;
        wire_part = inr (w, record { wire = h.wire; is = refl }, h.first);
        node_part =
            inl (
              k,
              joined_part kind wire.layer h.is_low,
              record { node = node; r = met.r; is = refl; conducting = conducting; part = met.part },
              h.second,
            );
        linked = touch_linked tech plan masters layouts _ _ _ _ of_wire drawn apart (sym met.class)
            (wire_touches tech plan masters layouts done p at_p w h.is_low k h.wire h.at_node);
      }

  -- from a conductor of one part to some of the other
  record Leads (i c : ℕ) : Type 0 where
    to : ℕ
    conductor : Conductor to
    of_part : IsOfPart tech cell nets to c
    chain : Connected i to

  leads : (i a c : ℕ) → IsOfPart tech cell nets i a → Attached (attachments_of cell) a c → Leads i c
  leads i a c of_part (inl h) =
      let meet = they_meet a c (attached_is cell a c h) in
      record {
        to = meet.of_node;
        conductor = meet.node_conductor;
        of_part = meet.node_part;
        chain = connected_then tech plan masters layouts (drawn_at p i) (drawn_at p meet.of_wire)
            (drawn_at p meet.of_node) (part_same i meet.of_wire a meet.wire_conductor of_part meet.wire_part)
            (connected_one tech plan masters layouts _ _ meet.node_conductor meet.linked);
      }
  leads i a c of_part (inr h) =
      let meet = they_meet c a (attached_is cell c a h) in
      record {
        to = meet.of_wire;
        conductor = meet.wire_conductor;
        of_part = meet.wire_part;
        chain = connected_then tech plan masters layouts (drawn_at p i) (drawn_at p meet.of_node)
            (drawn_at p meet.of_wire) (part_same i meet.of_node a meet.node_conductor of_part meet.node_part)
            (connected_one tech plan masters layouts _ _ meet.wire_conductor
            (linked_back tech plan masters layouts _ _ meet.linked));
      }

  by_chain : (n a b i j : ℕ) → Conductor j → IsOfPart tech cell nets i a → IsOfPart tech cell nets j b
      → Chain (Attached (attachments_of cell)) n a b → Connected i j
  by_chain zero a b i j conductor of_a of_b e =
      part_same i j a conductor of_a (subst (IsOfPart tech cell nets j) (sym e) of_b)
  by_chain (suc n) a b i j conductor of_a of_b (c, step, rest) =
      let next = leads i a c of_a step in
      connected_then tech plan masters layouts (drawn_at p i) (drawn_at p next.to) (drawn_at p j) next.chain
      (by_chain n c b next.to j conductor next.of_part of_b rest)

  -- all conductors of one net of the instance
  pub net_connected : (i j : ℕ) → Conductor i → Conductor j
      → (item_of plan masters (drawn_at p i)).net ≡ (item_of plan masters (drawn_at p j)).net → Connected i j
  net_connected i j first second one =
      let a = has_part i first in
      let b = has_part j second in
      let joined = is_master.items.of_cell.netting.joined a.v b.v a.among b.among (sym a.net_is ∙ (one ∙ b.net_is)) in
      by_chain joined.0 a.v b.v i j second a.of_part b.of_part joined.1
