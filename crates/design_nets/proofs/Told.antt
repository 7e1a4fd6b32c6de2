-- What the text of nets by their names tells is what the netlist of the sticks tells.
use Rattle.std.proofs.Common.{◌≡◌, ℕ, zero, suc, ◌+◌, ◌-◌, ◌<◌, Bool, true, eqb, List, [], ◌∷◌, ◌++◌, length, map}
use Rattle.std.proofs.{Common.{get_or, Some, refl, sym, ap, ◌∙◌, subst, arith, inl, inr}, lemmas.Bool.cases_Bool}
use Rattle.std.proofs.lemmas.Bool.{cond-true, cond-false, eqb-true, eq-eqb, and_parts, and_from, lt-ltb}
use Rattle.std.proofs.lemmas.{List.{length-map, get_or-map, Elements.All-contains}, Option.slice_get-get_or}
use Rattle.std.proofs.lemmas.{Option.{slice_get_within, slice_get-map}, Simd.map-map}
use Rattle.std.specs.{Prelude.{nat_lt, slice_get, slice_index, option_map, Option}, List.All, Option.unwrap_or}
use Rattle.list_facts.proofs.Elements.{all_of}
use Rattle.lam_geom.specs.declared.boxes.MaskLayer.{MaskLayer, TheVariants.{ND, NP}}
use Rattle.rule_table.specs.declared.{technology.Tech.Tech, classes.Class.{Class, TheVariants.{P, Dm}}}
use Rattle.cell_model.specs.{declared.cell.{Cell.Cell, Nets.Nets}, Sound.node_at}
use Rattle.sym_items.specs.declared.items.{Coords.Coords, Item.Item}
use Rattle.pair_rules.specs.Bound.{item_at}
use Rattle.expand.specs.{declared.master.Master.Master, Items.nets_at}
use Rattle.plan_model.specs.{declared.plan.Plan.Plan, Instances.{InstancePlace, master_at_spot}, Plan.grids_of}
use Rattle.pitch_join.specs.Masters.{master_at}
use Rattle.mask_out.specs.Masks.{is_drawn}
use Rattle.crossing_model.specs.declared.crossing.Crossing.{Crossing}
use Rattle.net_model.specs.{declared.netlist.{Device.Device, Piece.Piece}, Netlists.{place_of, nets_of, is_same_part}}
use Rattle.net_model.specs.{Netlists.{stands_at, net_at, device_of}, Devices.no_netted}
use Rattle.box_pieces.specs.declared.placing.Part.{Part, TheVariants.{Whole, Low as LowPart, High as HighPart}}
use Rattle.box_pieces.specs.Places.{Place, place, parts_on}
use Rattle.instance_laws.specs.{Planned.AreOfPlan, Conductors.{InstanceItem, item_of}, Meetings.{at, IsOwned}}
use Rattle.instance_laws.specs.{Meetings.{IsTransistorAt, TransistorsHaveBoxes}, Shapes.{shapes_of, Shows, layer_of}}
use Rattle.instance_laws.specs.Sticks.{is_transistor, is_of_transistor, net_of_part, places_of_sticks, IsTransistor}
use Rattle.instance_laws.{specs.Sticks.AreTransistors, proofs.NetlistLists.{Has, has_map, from_map}}
use Rattle.instance_laws.proofs.NetlistPlaces.{item_fet, fet_item as item_fet_of, place_there, parts_of_item}
use Rattle.instance_laws.proofs.{NetlistPlaces.{contains_of_has, has_of_contains}, NetlistShapes.class_of_layer}
use Rattle.instance_laws.proofs.NetlistShapes.{layer_there, shown, one_number, one_item, shown_below}
use Rattle.design_nets.specs.declared.{fet_nodes.FetAt.FetAt, instances.Instance.Instance}
use Rattle.design_nets.specs.declared.named_parts.{NamedPart.NamedPart, CellPart.TheVariants.{Gate, Low, High}}
use Rattle.design_nets.specs.{declared.{owners.OwnNet.OwnNet, shapes.Shape.Shape}, Connections.AreSticksPieces}
use Rattle.design_nets.specs.{Connections.{IsPieceOf, AreNumbersOfPieces}, Firsts.together, Instances.instances_of}
use Rattle.design_nets.specs.{Instances.{spot_no, master_no}, Joining.own_net, NamedLaws.named_devices}
use Rattle.design_nets.specs.NamedNets.{fet_name, is_depletion, kind_of_fet, device_line, shows_fet, fet_shown}
use Rattle.design_nets.specs.{NamedNets.{shape_item, all_fets, line_of_fet, lines_of_fets}, NamedParts.cell_no}
use Rattle.design_nets.specs.{NamedParts.{part_of, own_net_of}, Nets.{nets_no, AreNetsOfAll}, Pieces.is_fet}
use Rattle.design_nets.specs.{Pieces.IsShapeOf, Shapes.{drawn_by, shapes_in, shape_no, no_shape}}
use Rattle.design_nets.proofs.{FetPieces.shapes_there, HavePieces.poly_net, Kept.{AreKept, kept_of, rise_of}}
use Rattle.design_nets.proofs.{LaidOut.instances_among, Shown.all_shown, Spots.instance_stands}

-- ---- the net at a place

-- some piece that stands at a place has the net there
pub record IsNetAt (pieces : List Piece) (p : Place) : Type 0 where
  pub i : ℕ
  pub within : i < length pieces
  pub stands : place_of (get_or pieces i no_netted) ≡ p
  pub net : net_at pieces p ≡ (get_or pieces i no_netted).net

same_part : (a b : Part) → is_same_part a b ≡ true → a ≡ b
same_part Whole Whole e = refl
same_part LowPart LowPart e = refl
same_part HighPart HighPart e = refl
same_part a b e = absurd cc

part_same : (a : Part) → is_same_part a a ≡ true
part_same Whole = refl
part_same LowPart = refl
part_same HighPart = refl

stands_there : (p : Place) (x : Piece) → stands_at p x ≡ true → place_of x ≡ p
stands_there p x e =
    let both = and_parts (eqb x.box_no p.box_no) (is_same_part x.part p.part) e in
    ap (λ (n : ℕ). place n x.part) (eqb-true x.box_no p.box_no both.0)
    ∙ ap (place p.box_no) (same_part x.part p.part both.1)

there_stands : (p : Place) (x : Piece) → place_of x ≡ p → stands_at p x ≡ true
there_stands p x e =
    and_from (eqb x.box_no p.box_no) (is_same_part x.part p.part)
    (eq-eqb x.box_no p.box_no (ap (λ (q : Place). q.box_no) e))
    (ap (λ (q : Place). is_same_part x.part q.part) (sym e) ∙ part_same x.part)

pub net_found : (pieces : List Piece) (p : Place) (i : ℕ) → i < length pieces
    → place_of (get_or pieces i no_netted) ≡ p → IsNetAt pieces p
net_found [] p i lt e = absurd (omega (arith, lt))
net_found (x ∷ xs) p zero lt e =
    record {
      i = 0;
      within = lt;
      stands = e;
      net = cond-true (stands_at p x) x.net (net_at xs p) (there_stands p x e);
    }
net_found (x ∷ xs) p (suc i) lt e = elim (cases_Bool (stands_at p x)) [
  | inl here ↦
      record {
        i = 0;
        within = omega arith;
        stands = stands_there p x here;
        net = cond-true (stands_at p x) x.net (net_at xs p) here;
      }
  | inr there ↦
      (let r = net_found xs p i (omega (arith, lt)) e in
      let within = r.within in
      record {
        i = suc r.i;
        within = omega (arith, within);
        stands = r.stands;
        net = cond-false (stands_at p x) x.net (net_at xs p) there ∙ r.net;
      })
]

-- what is drawn on diffusion
mask_class : (class : Class) → is_drawn ND class ≡ true → class ≡ Dm
mask_class Dm e = refl
mask_class class e = absurd cc

-- ---- the pieces of the sticks

module _ (tech : Tech) (plan : Plan) (masters : List Master) (planned : AreOfPlan tech plan masters)
    (nets : List Nets) (all : AreNetsOfAll masters nets) (pieces : List Piece)
    (are : AreSticksPieces nets plan masters pieces) (number : OwnNet → ℕ)
    (numbered : AreNumbersOfPieces plan masters nets (instances_of (grids_of plan)) pieces number) where
  abbrev Instances : List Instance
  Instances = instances_of (grids_of plan)

  abbrev Grids : List (List (List ℕ))
  Grids = grids_of plan

  piece_place : (i : ℕ) → i < length pieces
      → slice_get (places_of_sticks plan masters) i ≡ Some (place_of (get_or pieces i no_netted))
  piece_place i lt =
      ap (λ (ps : List Place). slice_get ps i) (sym are.placed)
      ∙ (slice_get-map place_of pieces i
      ∙ ap (λ (o : Option Piece). option_map place_of o) (slice_get-get_or pieces i no_netted lt))

  place_within : (i : ℕ) (p : Place) → slice_get (places_of_sticks plan masters) i ≡ Some p → i < length pieces
  place_within i p h =
      let within = slice_get_within (places_of_sticks plan masters) i p h in
      let counted = ap (λ (ps : List Place). length ps) (sym are.placed) ∙ length-map pieces place_of in
      omega (arith, within, counted)

  place_read : (i : ℕ) (p : Place) → slice_get (places_of_sticks plan masters) i ≡ Some p
      → place_of (get_or pieces i no_netted) ≡ p
  place_read i p h =
      (let both : Some (place_of (get_or pieces i no_netted)) ≡ Some p = sym (piece_place i (place_within i p h))
      ∙ h in cc)

  net_read : (i : ℕ) → i < length pieces → (get_or pieces i no_netted).net ≡ slice_index (nets_of pieces) i
  net_read i lt = sym (get_or-map (λ (x : Piece). x.net) pieces i no_netted 0 lt)

  -- the net at the place of a part is the number of its net
  number_at : (k : ℕ) (a : InstanceItem) (part : Part) (s net : ℕ) → Shows plan masters k a
      → Has (parts_of_item plan masters a) part → s < length (instances_of (grids_of plan))
      → a.spot ≡ spot_no (instances_of (grids_of plan)) s
      → net_of_part (nets_no nets) plan masters a part ≡ net → net_at pieces (place k part) ≡ number (own_net s net)
  number_at k a part s net shows has lt spot is =
      let p : Place = place k part in
      let there = place_there plan masters k a part shows has in
      let found = net_found pieces p there.0 (place_within there.0 p there.1) (place_read there.0 p there.1) in
      let own : IsPieceOf plan masters nets Instances (own_net s net) found.i = record {
        p = p;
        a = a;
        instance = lt;
        there = piece_place found.i found.within ∙ ap Some found.stands;
        shows = shows;
        spot = spot;
        net = is;
      } in
      found.net ∙ (net_read found.i found.within ∙ numbered found.i (own_net s net) own)

  -- ---- one transistor

  abbrev All_shapes : List Shape
  All_shapes = together (shapes_in masters (instances_of (grids_of plan))) (length (instances_of (grids_of plan)))

  abbrev Shape_at : ℕ → Shape
  Shape_at k =
      shape_no (together (shapes_in masters (instances_of (grids_of plan))) (length (instances_of (grids_of plan)))) k

  -- the transistor of which a box shows the diffusion
  abbrev pub fet_of : ℕ → FetAt
  fet_of k = fet_shown masters (instances_of (grids_of plan))
      (shape_no (together (shapes_in masters (instances_of (grids_of plan))) (length (instances_of (grids_of plan))))
      k)

  abbrev pub number_of_part : NamedPart → ℕ
  number_of_part p = number (own_net_of masters nets (instances_of (grids_of plan)) p)

  shapes_are : All (IsShapeOf masters (instances_of (grids_of plan)))
      (together (shapes_in masters (instances_of (grids_of plan))) (length (instances_of (grids_of plan))))
  shapes_are = all_of (IsShapeOf masters Instances) All_shapes
      (shapes_there masters Instances (instances_among tech plan masters planned))

  shown_all : map (drawn_by (instances_of (grids_of plan)))
      (together (shapes_in masters (instances_of (grids_of plan))) (length (instances_of (grids_of plan))))
      ≡ shapes_of plan masters
  shown_all = all_shown plan masters Instances refl

  shapes_count : length
      (together (shapes_in masters (instances_of (grids_of plan))) (length (instances_of (grids_of plan))))
      ≡ length (shapes_of plan masters)
  shapes_count = sym (length-map All_shapes (drawn_by Instances)) ∙ ap (λ (ds : List InstanceItem). length ds) shown_all

  shape_shows : (k : ℕ)
      → k < length
      (together (shapes_in masters (instances_of (grids_of plan))) (length (instances_of (grids_of plan))))
      → Shows plan masters k (drawn_by (instances_of (grids_of plan)) (Shape_at k))
  shape_shows k lt =
      ap (λ (ds : List InstanceItem). slice_get ds k) (sym shown_all)
      ∙ (slice_get-map (drawn_by Instances) All_shapes k
      ∙ ap (λ (o : Option Shape). option_map (drawn_by Instances) o) (slice_get-get_or All_shapes k no_shape lt))

  -- what a shape shows, as an item of the plan
  record IsShown (k : ℕ) : Type 0 where
    among : k < length
        (together (shapes_in masters (instances_of (grids_of plan))) (length (instances_of (grids_of plan))))
    instance : (Shape_at k).instance < length (instances_of (grids_of plan))
    master : master_no (instances_of (grids_of plan)) (Shape_at k).instance
        ≡ master_at_spot (grids_of plan) (spot_no (instances_of (grids_of plan)) (Shape_at k).instance)
    item : shape_item masters (instances_of (grids_of plan)) (Shape_at k)
        ≡ item_of plan masters (drawn_by (instances_of (grids_of plan)) (Shape_at k))

  shape_is : (k : ℕ)
      → k < length
      (together (shapes_in masters (instances_of (grids_of plan))) (length (instances_of (grids_of plan))))
      → IsShown k
  shape_is k lt =
      let lt_s = (shapes_are k no_shape lt).instance in
      let m = (instance_stands Grids Instances (Shape_at k).instance refl lt_s).master in
      record {
        among = lt;
        instance = lt_s;
        master = m;
        item = ap (λ (n : ℕ). item_at (master_at masters n).items.list (Shape_at k).item) m;
      }

  module _ (layouts : List Coords) where
    -- the transistor of a crossing, and its device
    pub record IsCrossingTold (c : Crossing) : Type 0 where
      pub among : c.diffusion < length
          (together (shapes_in masters (instances_of (grids_of plan))) (length (instances_of (grids_of plan))))
      pub shows : shows_fet masters (instances_of (grids_of plan))
          (shape_no
          (together (shapes_in masters (instances_of (grids_of plan))) (length (instances_of (grids_of plan))))
          c.diffusion) ≡ true
      pub kind : c.depletion ≡ kind_of_fet masters (instances_of (grids_of plan)) (fet_of c.diffusion)
      pub gate : net_at pieces (place c.poly Whole) ≡ number_of_part
          (part_of (fet_of c.diffusion).instance (Gate (fet_of c.diffusion).node))
      pub low : net_at pieces (place c.diffusion LowPart) ≡ number_of_part
          (part_of (fet_of c.diffusion).instance (Low (fet_of c.diffusion).node))
      pub high : net_at pieces (place c.diffusion HighPart)
          ≡ number_of_part (part_of (fet_of c.diffusion).instance (High (fet_of c.diffusion).node))

    part_on : (a : InstanceItem) (layer : MaskLayer) (b : Bool) (part : Part)
        → (item_of plan masters a).class ≡ class_of_layer layer → is_of_transistor plan masters a ≡ b
        → Has (parts_on layer b) part → Has (parts_of_item plan masters a) part
    part_on a layer b part class on has =
        let is : layer_of plan masters a ≡ layer =
        ap (λ z. unwrap_or z ND) (layer_there (item_of plan masters a).class layer class) in
        subst (λ (l : MaskLayer). Has (parts_on l (is_of_transistor plan masters a)) part) (sym is)
        (subst (λ (z : Bool). Has (parts_on layer z) part) (sym on) has)

    pub told : (c : Crossing) → IsTransistor tech plan masters layouts c → IsCrossingTold c
    told c t =
        let d : ℕ = c.diffusion in
        let below = shown_below plan masters d (at t.spot t.diffusion) t.shows_diffusion in
        let lt : d < length All_shapes = omega (arith, below, shapes_count) in
        let one : Shape = Shape_at d in
        let s : ℕ = one.instance in
        let is = shape_is d lt in
        let same : drawn_by Instances one ≡ at t.spot t.diffusion =
        one_item plan masters d (drawn_by Instances one) (at t.spot t.diffusion) (shape_shows d lt)
        t.shows_diffusion in
        let spot : spot_no Instances s ≡ t.spot = ap (λ (z : InstanceItem). z.spot) same in
        let m : master_no Instances s ≡ master_at_spot Grids t.spot = is.master ∙ ap (master_at_spot Grids) spot in
        let item : shape_item masters Instances one ≡ item_of plan masters (at t.spot t.diffusion) = is.item
        ∙ ap (item_of plan masters) same in
        let o : ℕ = (shape_item masters Instances one).owner in
        let owner : o ≡ t.k = ap (λ (i : Item). i.owner) item ∙ t.is_diffusion.owned in
        let class : (shape_item masters Instances one).class ≡ Dm = ap (λ (i : Item). i.class) item
        ∙ t.is_diffusion.of_class in
        let cell : Cell = (master_at masters (master_at_spot Grids t.spot)).cell in
        let fet : is_fet cell t.k ≡ true =
        and_from (nat_lt t.k (length cell.nodes)) (is_transistor (node_at cell.nodes t.k).kind)
        (lt-ltb t.k (length cell.nodes) t.transistor.node) (ap is_transistor t.transistor.kind) in
        let fet_there : is_fet (cell_no masters Instances s) o ≡ true =
        ap (λ (n : ℕ). is_fet (master_at masters n).cell o) m ∙ (ap (is_fet cell) owner ∙ fet) in
        let on : is_of_transistor plan masters (at t.spot t.diffusion) ≡ true =
        item_fet plan masters (at t.spot t.diffusion) t.k t.depletion t.gate t.w t.l t.transistor
        t.is_diffusion.owned in
        let T : InstancePlace → Type 0 = λ p. IsTransistorAt plan masters p t.k t.depletion t.gate t.w t.l
        → IsOwned plan masters P t.k (at p t.poly)
        → (item_of plan masters (at p t.poly)).net ≡ (nets_at (nets_no nets (master_at_spot Grids p)).node t.k).main in
        let poly : T t.spot =
        subst T spot
        (λ f owned. poly_net tech plan masters planned nets all s is.instance t.k t.depletion t.gate t.w t.l
        t.poly f.node f.kind owned) in
        let at_spot : Nets = nets_no nets (master_at_spot Grids t.spot) in
        let main : number (own_net s (nets_at at_spot.node t.k).main) ≡ number_of_part (part_of s (Gate o)) =
        ap (λ (k : ℕ). number (own_net s (nets_at at_spot.node k).main)) (sym owner)
        ∙ ap (λ (n : ℕ). number (own_net s (nets_at (nets_no nets n).node o).main)) (sym m) in
        let low : number (own_net s (nets_at at_spot.node t.k).low) ≡ number_of_part (part_of s (Low o)) =
        ap (λ (k : ℕ). number (own_net s (nets_at at_spot.node k).low)) (sym owner)
        ∙ ap (λ (n : ℕ). number (own_net s (nets_at (nets_no nets n).node o).low)) (sym m) in
        let high : number (own_net s (nets_at at_spot.node t.k).high) ≡ number_of_part (part_of s (High o)) =
        ap (λ (k : ℕ). number (own_net s (nets_at at_spot.node k).high)) (sym owner)
        ∙ ap (λ (n : ℕ). number (own_net s (nets_at (nets_no nets n).node o).high)) (sym m) in
        record {
          among = lt;
          shows = and_from (is_drawn ND (shape_item masters Instances one).class)
              (is_fet (cell_no masters Instances s) o) (ap (is_drawn ND) class) fet_there;
          kind = t.kind
              ∙ sym (ap (λ (n : ℕ). is_depletion (node_at (master_at masters n).cell.nodes o).kind) m
              ∙ (ap (λ (k : ℕ). is_depletion (node_at cell.nodes k).kind) owner ∙ ap is_depletion t.transistor.kind));
          gate = number_at c.poly (at t.spot t.poly) Whole s (nets_at at_spot.node t.k).main t.shows_poly
              (part_on (at t.spot t.poly) NP (is_of_transistor plan masters (at t.spot t.poly)) Whole
              t.is_poly.of_class refl (inl refl)) is.instance (sym spot) (poly t.transistor t.is_poly) ∙ main;
          low = number_at d (at t.spot t.diffusion) LowPart s (nets_at at_spot.node t.k).low t.shows_diffusion
              (part_on (at t.spot t.diffusion) ND true LowPart t.is_diffusion.of_class on (inl refl)) is.instance
              (sym spot)
              (ap (λ (k : ℕ). (nets_at at_spot.node k).low) t.is_diffusion.owned) ∙ low;
          high = number_at d (at t.spot t.diffusion) HighPart s (nets_at at_spot.node t.k).high t.shows_diffusion
              (part_on (at t.spot t.diffusion) ND true HighPart t.is_diffusion.of_class on (inr (inl refl)))
              is.instance
              (sym spot) (ap (λ (k : ℕ). (nets_at at_spot.node k).high) t.is_diffusion.owned) ∙ high;
        }

    -- ---- all of them

    module _ (laws : TransistorsHaveBoxes tech plan masters layouts) (cs : List Crossing)
        (transistors : AreTransistors tech plan masters layouts cs) where
      abbrev diffusions : List ℕ
      diffusions = map (λ (c : Crossing). c.diffusion) cs

      told_of : (c : Crossing) → Has cs c → IsCrossingTold c
      told_of c has =
          told c (All-contains (IsTransistor tech plan masters layouts) cs c transistors.each
          (contains_of_has cs c has))

      -- a shape that is a transistor's diffusion is that of a crossing
      found : (j : ℕ)
          → j < length
          (together (shapes_in masters (instances_of (grids_of plan))) (length (instances_of (grids_of plan))))
          → shows_fet masters (instances_of (grids_of plan)) (Shape_at j) ≡ true
          → (c : Crossing) × Has cs c × (c.diffusion ≡ j)
      found j lt shows =
          let one : Shape = Shape_at j in
          let is = shape_is j lt in
          let a : InstanceItem = drawn_by Instances one in
          let item : Item = shape_item masters Instances one in
          let cell : Cell = cell_no masters Instances one.instance in
          let both = and_parts (is_drawn ND item.class) (is_fet cell item.owner) shows in
          let there = shape_shows j lt in
          let boxed = shown plan masters j a there in
          let class : (item_of plan masters a).class ≡ Dm =
          mask_class (item_of plan masters a).class
          (ap (λ (i : Item). is_drawn ND i.class) (sym is.item) ∙ both.0) in
          let fet_here : is_of_transistor plan masters a ≡ true =
          ap (λ (i : Item). is_fet (master_at masters (master_at_spot Grids a.spot)).cell i.owner) (sym is.item)
          ∙ (ap (λ (n : ℕ). is_fet (master_at masters n).cell item.owner) (sym is.master) ∙ both.1) in
          let f = item_fet_of plan masters a boxed.drawn fet_here in
          let k : ℕ = (item_of plan masters a).owner in
          let r = transistors.complete a.spot k f.depletion f.gate f.w f.l f.fet in
          let boxes = laws a.spot k f.depletion f.gate f.w f.l f.fet in
          let own : IsOwned plan masters Dm k a = record { drawn = boxed.drawn; of_class = class; owned = refl } in
          let same : r.2.diffusion ≡ a.item = boxes.one_diffusion r.2.diffusion r.2.owned
          ∙ sym (boxes.one_diffusion a.item own) in
          let at_j : Shows plan masters r.0.diffusion a =
          subst (λ (n : ℕ). Shows plan masters r.0.diffusion (at a.spot n)) same r.2.shown in
          (r.0, has_of_contains cs r.0 r.1, one_number plan masters r.0.diffusion j a at_j there)

      are_kept : AreKept (shows_fet masters Instances) no_shape All_shapes 0 diffusions
      are_kept = record {
        rise = rise_of diffusions transistors.in_order 0 (λ j lt. omega arith);
        sound = λ k has. (
            let s = from_map (λ (c : Crossing). c.diffusion) cs k has in
            let h = told_of s.0 s.1 in
            let among = h.among in
            let e = s.2 in
            let zero_less : s.0.diffusion ≡ k - 0 = omega (arith, e) in (
              omega (arith, among, e),
              ap (λ (n : ℕ). shows_fet masters Instances (Shape_at n)) (sym zero_less)
                  ∙ h.shows,
            ));
        complete = λ j lt shows. (
            let f = found j lt shows in
            let e : f.0.diffusion ≡ 0 + j = (let is = f.2 in omega (arith, is)) in
            subst (Has diffusions) e (has_map (λ (c : Crossing). c.diffusion) cs f.0 f.1));
      }

      pub fets_found : all_fets masters Instances ≡ map (λ (c : Crossing). fet_of c.diffusion) cs
      fets_found =
          ap (map (fet_shown masters Instances))
          (kept_of (shows_fet masters Instances) no_shape All_shapes diffusions are_kept)
          ∙ (map-map (fet_shown masters Instances) (λ k. get_or All_shapes k no_shape) diffusions
          ∙ map-map fet_of (λ (c : Crossing). c.diffusion) cs)

      -- ---- lines

      module _ (grids : List (List ℕ)) where
        abbrev pub named : Crossing → List ℕ × Device
        named c = (fet_name grids masters (instances_of (grids_of plan)) (fet_of c.diffusion), device_of pieces c)

        line_told : (j : ℕ) (c : Crossing) → IsCrossingTold c
            → device_line j c.depletion (named c).0 (named c).1.gate (named c).1.low (named c).1.high
            ≡ line_of_fet grids masters Instances number_of_part j (fet_of c.diffusion)
        line_told j c h =
            let f : FetAt = fet_of c.diffusion in
            let name : List ℕ = fet_name grids masters Instances f in
            let kind : Bool = kind_of_fet masters Instances f in
            let gate : ℕ = number_of_part (part_of f.instance (Gate f.node)) in
            let low : ℕ = number_of_part (part_of f.instance (Low f.node)) in
            ap (λ (b : Bool). device_line j b name (named c).1.gate (named c).1.low (named c).1.high) h.kind
            ∙ (ap (λ (n : ℕ). device_line j kind name n (named c).1.low (named c).1.high) h.gate
            ∙ (ap (λ (n : ℕ). device_line j kind name gate n (named c).1.high) h.low
            ∙ ap (λ (n : ℕ). device_line j kind name gate low n) h.high))

        lines_told : (j : ℕ) (some : List Crossing) → ((c : Crossing) → Has some c → IsCrossingTold c)
            → named_devices j (map named some) ≡ lines_of_fets grids masters Instances number_of_part j
            (map (λ (c : Crossing). fet_of c.diffusion) some)
        lines_told j [] h = refl
        lines_told j (c ∷ some) h =
            ap (λ (text : List ℕ). text ++ named_devices (j + 1) (map named some)) (line_told j c (h c (inl refl)))
            ∙ ap (λ (text : List ℕ). line_of_fet grids masters Instances number_of_part j (fet_of c.diffusion)
            ++ text) (lines_told (j + 1) some (λ x has. h x (inr has)))

        pub devices_told : named_devices 0 (map named cs) ≡ lines_of_fets grids masters Instances number_of_part 0
            (all_fets masters Instances)
        devices_told = lines_told 0 cs told_of
            ∙ ap (lines_of_fets grids masters Instances number_of_part 0) (sym fets_found)
