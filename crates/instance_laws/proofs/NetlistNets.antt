-- What is extracted from boxes that show the instances is the sticks' netlist.
use Rattle.std.proofs.Common.{◌≡◌, ℕ, zero, suc, ◌<◌, List, length, Some, refl, sym, ap, ◌∙◌, subst}
use Rattle.std.specs.Prelude.{slice_get}
use Rattle.lam_geom.specs.declared.boxes.MaskBox.{MaskBox}
use Rattle.rule_table.specs.declared.technology.Tech.{Tech}
use Rattle.cell_model.specs.declared.cell.Nets.{Nets}
use Rattle.sym_items.specs.declared.items.Coords.{Coords}
use Rattle.expand.specs.declared.master.Master.{Master}
use Rattle.graph_search.specs.Netting.{Chain, Reaches}
use Rattle.plan_model.specs.{declared.plan.Plan.Plan, GridNets.{IsOneNet, the_same}, Instances.InstancePlace}
use Rattle.plan_model.specs.Plan.{grids_of}
use Rattle.pitch_join.specs.Masters.{ports_of_masters}
use Rattle.crossing_model.specs.declared.crossing.Crossing.{Crossing}
use Rattle.net_model.specs.{declared.netlist.Netlist.Netlist, Extraction.IsLink, Netlists.IsNetlistOf}
use Rattle.box_pieces.specs.Places.{Place, place, places_of}
use Rattle.instance_laws.specs.{Rules.AreNetsOf, Conductors.{InstanceItem, item_of, IsConductor, AreOfOneNet}}
use Rattle.instance_laws.specs.{Conductors.{AreLinked, AreConnected, here, further}, Shapes.{Shows, AreShapes}}
use Rattle.instance_laws.specs.Sticks.{places_of_sticks, net_of_part, AreOfOne, AreTransistors, NetsAreTheSticks}
use Rattle.instance_laws.proofs.{Gaps.IsDone, OneNet.one_net_then, ChainLinks.end_conducts, ChainNets.all_connected}
use Rattle.instance_laws.proofs.{MeetingGaps.nets_there, MeetingLinks.links_keep, NetlistCrossings.crossings_are}
use Rattle.instance_laws.proofs.{NetlistCrossings.transistors_are, NetlistLinks.{same_box, link_of_pieces}}
use Rattle.instance_laws.proofs.{NetlistLinks.pieces_of_link, NetlistLists.at_below, NetlistMeetings.are_proper}
use Rattle.instance_laws.proofs.NetlistPieces.{one_part, IsPiece, piece_of_part, piece_there}
use Rattle.instance_laws.proofs.NetlistPlaces.{place_there, place_back, one_place, places_same}
use Rattle.instance_laws.proofs.NetlistShapes.{one_item}

-- ---- chains, and netlists, of other relations

chain_then : (Step : ℕ → ℕ → Type 0) (n i m j : ℕ) → Chain Step n i m → Step m j → Chain Step (suc n) i j
chain_then Step zero i m j e step = (j, subst (λ (z : ℕ). Step z j) (sym e) step, refl)
chain_then Step (suc n) i m j h step = (h.0, h.1, chain_then Step n h.0 m j h.2 step)

netlist_like : (ps qs : List Place) (R S : ℕ → ℕ → Type 0) (cs : List Crossing) (list : Netlist) → ps ≡ qs
    → ((a b : ℕ) → a < length qs → b < length qs → R a b → S a b)
    → ((a b : ℕ) → a < length qs → b < length qs → S a b → R a b)
    → IsNetlistOf ps R cs list → IsNetlistOf qs S cs list
netlist_like ps qs R S cs list e to back h =
    let own : IsNetlistOf qs R cs list = subst (λ (z : List Place). IsNetlistOf z R cs list) e h in
    record {
      placed = own.placed;
      joined =
          λ a b la lb. (
            λ same. to a b la lb ((own.joined a b la lb).0 same),
            λ one.
                (own.joined a b la lb).1 (back a b la lb one),
          );
      in_order = own.in_order;
      counted = own.counted;
      devices = own.devices;
    }

place_is : (p q : Place) → p.box_no ≡ q.box_no → p.part ≡ q.part → p ≡ q
place_is p q e f = ap (λ (n : ℕ). place n p.part) e ∙ ap (place q.box_no) f

module _ (tech : Tech) (plan : Plan) (masters : List Master) (layouts : List Coords) (boxes : List MaskBox)
    (done : IsDone tech plan masters layouts) (shapes : AreShapes tech plan masters layouts boxes)
    (cs : List Crossing) (are : AreTransistors tech plan masters layouts cs) where
  abbrev Places : List Place
  Places = places_of_sticks plan masters

  -- piece number i is this conductor
  record IsPieceAt (i : ℕ) (c : InstanceItem) : Type 0 where
    p : Place
    a : InstanceItem
    there : slice_get Places i ≡ Some p
    piece : IsPiece tech plan masters layouts boxes cs p a c

  piece_at : (i : ℕ) (p : Place) → slice_get Places i ≡ Some p → (c : InstanceItem) × IsPieceAt i c
  piece_at i p h =
      let b = place_back plan masters i p h in
      let f = piece_of_part tech plan masters layouts boxes done shapes cs are p.box_no b.0 p.part b.1.shown b.1.part in
      (f.0, record { p = p; a = b.0; there = h; piece = f.1 })

  conductor_at : (c : InstanceItem) → IsConductor plan masters c → (i : ℕ) × IsPieceAt i c
  conductor_at c is_c =
      let f = piece_there tech plan masters layouts boxes done shapes cs are c is_c in
      let n = place_there plan masters f.k f.a f.part f.piece.shows f.among in
      (n.0, record { p = place f.k f.part; a = f.a; there = n.1; piece = f.piece })

  -- a conductor is one piece
  one_at : (i j : ℕ) (c : InstanceItem) → IsPieceAt i c → IsPieceAt j c → i ≡ j
  one_at i j c x y =
      let box = same_box tech plan masters layouts boxes done shapes cs are x.p y.p x.a y.a c c x.piece y.piece
      (record { spot = refl; owner = refl; class = refl }) in
      let part = one_part plan masters c x.p.part y.p.part x.piece.tells y.piece.tells in
      one_place plan masters i j y.p (x.there ∙ ap Some (place_is x.p y.p box part)) y.there

  -- ---- links

  linked_pieces : (i j : ℕ) (c d : InstanceItem) → IsLink tech boxes cs i j → IsPieceAt i c → IsPieceAt j d
      → AreLinked tech plan masters layouts c d
  linked_pieces i j c d link x y =
      let same = places_same tech plan masters layouts boxes done shapes cs are in
      let first : slice_get Places i ≡ Some link.p =
      subst (λ (z : List Place). slice_get z i ≡ Some link.p) same link.first in
      let second : slice_get Places j ≡ Some link.q =
      subst (λ (z : List Place). slice_get z j ≡ Some link.q) same link.second in
      let at_first : Some x.p ≡ Some link.p = sym x.there ∙ first in
      let at_second : Some y.p ≡ Some link.q = sym y.there ∙ second in
      let e : x.p ≡ link.p = cc in
      let f : y.p ≡ link.q = cc in
      link_of_pieces tech plan masters layouts boxes done shapes cs are link.p link.q x.a y.a c d
      (subst (λ (z : Place). IsPiece tech plan masters layouts boxes cs z x.a c) e x.piece)
      (subst (λ (z : Place). IsPiece tech plan masters layouts boxes cs z y.a d) f y.piece) link.linked

  pieces_linked : (i j : ℕ) (c d : InstanceItem) → AreLinked tech plan masters layouts c d → IsPieceAt i c
      → IsPieceAt j d → IsLink tech boxes cs i j
  pieces_linked i j c d link x y =
      let same = places_same tech plan masters layouts boxes done shapes cs are in
      record {
        p = x.p;
        q = y.p;
        first = subst (λ (z : List Place). slice_get z i ≡ Some x.p) (sym same) x.there;
        second = subst (λ (z : List Place). slice_get z j ≡ Some y.p) (sym same) y.there;
        linked = pieces_of_link tech plan masters layouts boxes done shapes cs are x.p y.p x.a y.a c d x.piece y.piece
            link;
      }

  -- conductors that a chain connects are pieces that a chain reaches
  chain_reaches : (i : ℕ) (c : InstanceItem) → IsConductor plan masters c → IsPieceAt i c → (j : ℕ) (d : InstanceItem)
      → AreConnected tech plan masters layouts c d → IsPieceAt j d → Reaches (IsLink tech boxes cs) i j
  chain_reaches i c is_c x j d here y = (zero, one_at i j c x y)
  chain_reaches i c is_c x j d (further b e chain conducts link) y =
      let m = conductor_at b (end_conducts tech plan masters layouts c b is_c chain) in
      let before = chain_reaches i c is_c x m.0 b chain m.1 in
      (suc before.0, chain_then (IsLink tech boxes cs) before.0 i m.0 j before.1 (pieces_linked m.0 j b d link m.1 y))

  -- ---- nets

  module _ (nets : ℕ → Nets) (are_nets : AreNetsOf masters nets) where
    abbrev OneNet : InstancePlace → ℕ → InstancePlace → ℕ → Type 0
    OneNet s n t m = IsOneNet (ports_of_masters masters) nets (grids_of plan) s n t m

    net_ends : (s u t v : InstancePlace) (n k m l : ℕ) → s ≡ u → n ≡ k → t ≡ v → m ≡ l → OneNet s n t m → OneNet u k v l
    net_ends s u t v n k m l su nk tv ml h =
        subst (λ (z : InstancePlace). OneNet z k v l) su
        (subst (λ (z : ℕ). OneNet s z v l) nk
        (subst (λ (z : InstancePlace). OneNet s n z l) tv (subst (λ (z : ℕ). OneNet s n t z) ml h)))

    -- the net of a place is that of its conductor
    record HasNet (p : Place) (a c : InstanceItem) : Type 0 where
      spot : a.spot ≡ c.spot
      net : net_of_part nets plan masters a p.part ≡ (item_of plan masters c).net

    net_there : (i : ℕ) (c : InstanceItem) (p : Place) (a : InstanceItem) → IsPieceAt i c
        → slice_get Places i ≡ Some p → Shows plan masters p.box_no a → HasNet p a c
    net_there i c p a x h shows =
        let own : HasNet x.p x.a c = record { spot = x.piece.spot; net = x.piece.net nets are_nets } in
        let both : Some x.p ≡ Some p = sym x.there ∙ h in
        let e : x.p ≡ p = cc in
        let there : Shows plan masters p.box_no x.a =
        subst (λ (z : Place). Shows plan masters z.box_no x.a) e x.piece.shows in
        let same : x.a ≡ a = one_item plan masters p.box_no x.a a there shows in
        subst (λ (z : InstanceItem). HasNet p z c) same (subst (λ (z : Place). HasNet z x.a c) e own)

    same_net : (i : ℕ) (c d : InstanceItem) → IsPieceAt i c → IsPieceAt i d → AreOfOneNet nets plan masters c d
    same_net i c d x y =
        let first = net_there i c y.p y.a x y.there y.piece.shows in
        let second = net_there i d y.p y.a y y.there y.piece.shows in
        net_ends y.a.spot c.spot y.a.spot d.spot (net_of_part nets plan masters y.a y.p.part)
        (item_of plan masters c).net (net_of_part nets plan masters y.a y.p.part) (item_of plan masters d).net
        first.spot first.net second.spot second.net the_same

    chain_keeps : (n i j : ℕ) (c d : InstanceItem) → Chain (IsLink tech boxes cs) n i j → IsPieceAt i c
        → IsPieceAt j d → AreOfOneNet nets plan masters c d
    chain_keeps zero i j c d e x y = same_net j c d (subst (λ (z : ℕ). IsPieceAt z c) e x) y
    chain_keeps (suc n) i j c d h x y =
        let m : ℕ = h.0 in
        let link = h.1 in
        let same = places_same tech plan masters layouts boxes done shapes cs are in
        let z = piece_at m link.q (subst (λ (l : List Place). slice_get l m ≡ Some link.q) same link.second) in
        let first = links_keep tech plan masters layouts done nets are_nets c z.0 x.piece.conductor
        z.1.piece.conductor (linked_pieces i m c z.0 link x z.1) in
        let rest = chain_keeps n m j z.0 d h.2 z.1 y in
        one_net_then (ports_of_masters masters) nets (grids_of plan) c.spot (item_of plan masters c).net z.0.spot
        (item_of plan masters z.0).net d.spot (item_of plan masters d).net first rest

    reaches_one : (i j : ℕ) → i < length Places → j < length Places → Reaches (IsLink tech boxes cs) i j
        → AreOfOne nets plan masters i j
    reaches_one i j li lj h =
        let p = at_below Places i li in
        let q = at_below Places j lj in
        let x = piece_at i p.0 p.1 in
        let y = piece_at j q.0 q.1 in
        let c : InstanceItem = x.0 in
        let d : InstanceItem = y.0 in
        let one = chain_keeps h.0 i j c d h.1 x.1 y.1 in
        let a : InstanceItem = x.1.a in
        let b : InstanceItem = y.1.a in
        record {
          p = x.1.p;
          q = y.1.p;
          a = a;
          b = b;
          first = x.1.there;
          second = y.1.there;
          shows_first = x.1.piece.shows;
          shows_second = y.1.piece.shows;
          one = net_ends c.spot a.spot d.spot b.spot (item_of plan masters c).net
              (net_of_part nets plan masters a x.1.p.part) (item_of plan masters d).net
              (net_of_part nets plan masters b y.1.p.part)
              (sym x.1.piece.spot) (sym (x.1.piece.net nets are_nets)) (sym y.1.piece.spot)
              (sym (y.1.piece.net nets are_nets)) one;
        }

    one_reaches : (i j : ℕ) → AreOfOne nets plan masters i j → Reaches (IsLink tech boxes cs) i j
    one_reaches i j h =
        let x = piece_at i h.p h.first in
        let y = piece_at j h.q h.second in
        let c : InstanceItem = x.0 in
        let d : InstanceItem = y.0 in
        let first = net_there i c h.p h.a x.1 h.first h.shows_first in
        let second = net_there j d h.q h.b y.1 h.second h.shows_second in
        let one : AreOfOneNet nets plan masters c d =
        net_ends h.a.spot c.spot h.b.spot d.spot (net_of_part nets plan masters h.a h.p.part)
        (item_of plan masters c).net (net_of_part nets plan masters h.b h.q.part) (item_of plan masters d).net
        first.spot first.net second.spot second.net h.one in
        let chain = all_connected tech plan masters layouts done nets are_nets c d x.1.piece.conductor
        y.1.piece.conductor one in
        chain_reaches i c x.1.piece.conductor x.1 j d chain y.1

    pub to_sticks : (list : Netlist) → IsNetlistOf (places_of cs boxes) (Reaches (IsLink tech boxes cs)) cs list
        → IsNetlistOf Places (AreOfOne nets plan masters) cs list
    to_sticks list h = netlist_like (places_of cs boxes) Places (Reaches (IsLink tech boxes cs))
        (AreOfOne nets plan masters) cs list (places_same tech plan masters layouts boxes done shapes cs are)
        (λ i j li lj r. reaches_one i j li lj r) (λ i j li lj one. one_reaches i j one) h

    pub to_boxes : (list : Netlist) → IsNetlistOf Places (AreOfOne nets plan masters) cs list
        → IsNetlistOf (places_of cs boxes) (Reaches (IsLink tech boxes cs)) cs list
    to_boxes list h =
        let same = places_same tech plan masters layouts boxes done shapes cs are in
        let own : IsNetlistOf Places (Reaches (IsLink tech boxes cs)) cs list =
        netlist_like Places Places (AreOfOne nets plan masters) (Reaches (IsLink tech boxes cs)) cs list refl
        (λ i j li lj one. one_reaches i j one) (λ i j li lj r. reaches_one i j li lj r) h in
        subst (λ (z : List Place). IsNetlistOf z (Reaches (IsLink tech boxes cs)) cs list) (sym same) own

pub nets_are_the_sticks : (tech : Tech) (plan : Plan) (masters : List Master) (layouts : List Coords)
    (boxes : List MaskBox) → IsDone tech plan masters layouts → AreShapes tech plan masters layouts boxes
    → NetsAreTheSticks tech plan masters layouts boxes
nets_are_the_sticks tech plan masters layouts boxes done shapes = record {
  proper = are_proper tech plan masters layouts boxes done shapes;
  transistors = crossings_are tech plan masters layouts boxes done shapes;
  places = λ cs h. places_same tech plan masters layouts boxes done shapes cs
      (crossings_are tech plan masters layouts boxes done shapes cs h);
  joined = λ cs h nets are_nets i j li lj.
      (let are = crossings_are tech plan masters layouts boxes done shapes cs h in (
        λ r. reaches_one tech plan masters layouts boxes done shapes cs are nets are_nets i j li lj r,
        λ one. one_reaches tech plan masters layouts boxes done shapes cs are nets are_nets i j one,
      ));
  equal = λ list. (
    λ h. (
        let cs : List Crossing = h.crossings in
        let are = crossings_are tech plan masters layouts boxes done shapes cs h.are_crossings in
        let nets = nets_there tech masters done.planned.each in
        record {
          nets = nets.0;
          are_nets = nets.1;
          transistors = cs;
          are_transistors = are;
          netlist = to_sticks tech plan masters layouts boxes done shapes cs are nets.0 nets.1 list h.netlist;
        }
        ),
    λ h. (
        let cs : List Crossing = h.transistors in
        let are = h.are_transistors in
        record {
          proper = are_proper tech plan masters layouts boxes done shapes;
          crossings = cs;
          are_crossings = transistors_are tech plan masters layouts boxes done shapes cs are;
          netlist = to_boxes tech plan masters layouts boxes done shapes cs are h.nets h.are_nets list h.netlist;
        }
        ),
  );
}
