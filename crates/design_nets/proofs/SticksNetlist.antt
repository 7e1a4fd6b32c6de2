-- The netlist of the sticks, from its pieces with their numbers and its transistors.
use Rattle.std.proofs.Common.{◌≡◌, ◌↔◌, ℕ, ◌+◌, ◌*◌, ◌^◌, ◌<◌, ◌≤◌, List, length, get_or, map, Option, Some, sym, ap}
use Rattle.std.proofs.{Common.{◌∙◌, subst, arith}, lemmas.List.{length-map, get_or_default, Elements.All-from_get_or}}
use Rattle.std.proofs.lemmas.Option.{slice_get_within, slice_get-get_or, slice_get-map}
use Rattle.std.specs.{Prelude.{slice_get, slice_index, option_map}, List.All}
use Rattle.lam_geom.specs.Places.{IsPlacedBox}
use Rattle.rule_table.specs.declared.technology.Tech.{Tech}
use Rattle.cell_model.specs.declared.cell.Nets.{Nets}
use Rattle.sym_items.specs.declared.items.Coords.{Coords}
use Rattle.expand.specs.declared.master.Master.{Master}
use Rattle.graph_search.specs.Netting.{next_net, IsNumberedInOrder}
use Rattle.plan_model.specs.{declared.plan.Plan.Plan, Plan.grids_of}
use Rattle.instance_laws.specs.{Planned.AreOfPlan, Conductors.InstanceItem, Meetings.at, Shapes.shapes_of}
use Rattle.instance_laws.specs.Sticks.{places_of_sticks, AreOfOne, IsTransistor, AreTransistors, IsSticksNetlist}
use Rattle.instance_laws.proofs.NetlistShapes.{shown_below}
use Rattle.crossing_model.specs.declared.crossing.Crossing.{Crossing}
use Rattle.net_model.specs.{declared.netlist.{Device.Device, Piece.Piece}, Devices.HasBoxes, Netlists.place_of}
use Rattle.net_model.specs.Netlists.{nets_of, device_of}
use Rattle.box_pieces.specs.{declared.placing.Part.TheVariants.Whole, Places.Place}
use Rattle.design_nets.specs.declared.{instances.Instance.Instance, owners.OwnNet.OwnNet, pieces.Placed.Placed}
use Rattle.design_nets.specs.{declared.{connections.Connections.Connections, shapes.Shape.Shape}, Firsts.together}
use Rattle.design_nets.specs.{Connections.{AreSticksPieces, AreNumbersOfPieces, AreConnections}, Instances.instances_of}
use Rattle.design_nets.specs.{Instances.{no_instance, spot_no}, Joining.{own_net, nets_in, IsOwn, AreNetNumbers}}
use Rattle.design_nets.specs.{Nets.{nets_no, AreNetsOfAll}, Pieces.{stand_of, own_of, IsShapeOf, AreInstancePieces}}
use Rattle.design_nets.specs.Shapes.{drawn_by, no_shape, shape_no, shapes_in, AreShapesOf}
use Rattle.design_nets.proofs.{Counted.{number_below, next_few}, Few.{pieces_few, nets_few}, Fets.shape_of}
use Rattle.design_nets.proofs.{Owned.owners_own, Placed.{pieces_stand, told, one_of_pieces, pieces_of_one}}
use Rattle.design_nets.proofs.{Spots.{number_of_spot, instance_stands}, Ports.{have_nets, joined_one, one_joined}}
use Rattle.design_nets.proofs.Shown.{all_shown, shapes_counted}

-- ---- the same of equal lists

pub pieces_moved : (masters : List Master) (n m : List Nets) (i j : List Instance) (s t : List Shape)
    (pieces : List Placed) (starts : List ℕ) → n ≡ m → i ≡ j → s ≡ t → AreInstancePieces masters n i s pieces starts
    → AreInstancePieces masters m j t pieces starts
pieces_moved masters n m i j s t pieces starts e f g h =
    subst (λ (z : List Shape). AreInstancePieces masters m j z pieces starts) g
    (subst (λ (z : List Instance). AreInstancePieces masters m z s pieces starts) f
    (subst (λ (z : List Nets). AreInstancePieces masters z i s pieces starts) e h))

-- ---- instances and shapes

module _ (tech : Tech) (plan : Plan) (masters : List Master) (nets : List Nets) (instances : List Instance)
    (planned : AreOfPlan tech plan masters) (all : AreNetsOfAll masters nets)
    (are : instances ≡ instances_of (grids_of plan)) where
  pub masters_among : All (λ (i : Instance). i.master < length masters) instances
  masters_among s d lt =
      let among = (have_nets tech plan masters nets instances planned all are).among s d lt in
      let counted = all.counted in
      omega (arith, among, counted)

  pub all_counted : length (together (shapes_in masters instances) (length instances)) ≡ length (shapes_of plan masters)
  all_counted =
      sym (length-map (together (shapes_in masters instances) (length instances)) (drawn_by instances))
      ∙ ap (λ (ds : List InstanceItem). length ds) (all_shown plan masters instances are)

  -- no two instances stand at one spot
  pub one_instance : (s t : ℕ) → s < length instances → t < length instances
      → spot_no instances s ≡ spot_no instances t → s ≡ t
  one_instance s t s_lt t_lt e =
      let i = instance_stands (grids_of plan) instances s are s_lt in
      let j = instance_stands (grids_of plan) instances t are t_lt in
      i.number ∙ (ap (number_of_spot (grids_of plan)) e ∙ sym j.number)

  module _ (shapes : List Shape) (firsts : List ℕ) (made : AreShapesOf masters instances shapes firsts) where
    pub shape_is : (k : ℕ) → k < length shapes → IsShapeOf masters instances (shape_no shapes k)
    shape_is = shape_of masters instances shapes firsts masters_among made

    pub shapes_are : All (IsShapeOf masters instances) shapes
    shapes_are = All-from_get_or (IsShapeOf masters instances) shapes no_shape shape_is

    module _ (pieces : List Placed) (starts : List ℕ)
        (have : AreInstancePieces masters nets instances shapes pieces starts) where
      pub own : All (IsOwn nets instances) (map own_of pieces)
      own = owners_own tech plan masters nets instances planned all are shapes firsts made shape_is pieces starts have

      -- there are not too many pieces and nets
      pub pieces_counted : length pieces ≤ 2 * length (shapes_of plan masters)
      pieces_counted =
          let few = pieces_few masters nets instances shapes in
          let is = ap (λ (ps : List Placed). length ps) have.all in
          let counted = shapes_counted plan masters instances are shapes firsts made in
          omega (arith, few, is, counted)

      pub few_together : length (shapes_of plan masters) ≤ 2 ^ 20
          → length (map own_of pieces) + length (together (nets_in nets instances) (length instances)) < 2 ^ 31
      few_together few =
          let one = pieces_counted in
          let same = length-map pieces own_of in
          let two = nets_few tech masters nets instances planned.each all (λ s lt. masters_among s no_instance lt) in
          let counted = all_counted in
          omega (arith, few, one, same, two, counted)

      -- ---- the netlist

      module _ (numbers : List ℕ) (numbered : AreNetNumbers plan nets instances (map own_of pieces) numbers) where
        pub numbers_small : length (shapes_of plan masters) ≤ 2 ^ 20 → All (λ n. n < 2 ^ 31) numbers
        numbers_small few k d lt =
            let below = number_below numbers k lt in
            let next = next_few numbers numbered.in_order in
            let counted = numbered.counted in
            let same = length-map pieces own_of in
            let one = pieces_counted in
            let read = get_or_default numbers k d 0 lt in
            omega (arith, few, below, next, counted, same, one, read)

        no_piece : Placed
        no_piece = record { box_no = 0; part = Whole; own = record { instance = 0; net = 0 } }

        piece_at : ℕ → Placed
        piece_at i = get_or pieces i no_piece

        piece_there : (i : ℕ) → i < length pieces → slice_get pieces i ≡ Some (piece_at i)
        unfolding piece_at
        piece_there i lt = slice_get-get_or pieces i no_piece lt

        owner_there : (i : ℕ) → i < length pieces → slice_get (map own_of pieces) i ≡ Some (own_of (piece_at i))
        owner_there i lt = slice_get-map own_of pieces i
            ∙ ap (λ (o : Option Placed). option_map own_of o) (piece_there i lt)

        instance_there : (i : ℕ) → i < length pieces → (piece_at i).own.instance < length instances
        instance_there i lt =
            let few = length-map pieces own_of in
            let within : i < length (map own_of pieces) = omega (arith, lt, few) in
            let none : OwnNet = record { instance = 0; net = 0 } in
            let is = own i none within in
            let both : Some (get_or (map own_of pieces) i none) ≡ Some (own_of (piece_at i)) =
            sym (slice_get-get_or (map own_of pieces) i none within) ∙ owner_there i lt in
            let same : get_or (map own_of pieces) i none ≡ own_of (piece_at i) = cc in
            subst (λ (o : OwnNet). o.instance < length instances) same is.instance

        joined : (a b : ℕ) → a < length pieces → b < length pieces
            → slice_index numbers a ≡ slice_index numbers b ↔ AreOfOne (nets_no nets) plan masters a b
        joined a b lt_a lt_b =
            let x : Placed = piece_at a in
            let y : Placed = piece_at b in
            let j = numbered.joined a b (own_of x) (own_of y) (owner_there a lt_a) (owner_there b lt_b) in (
              λ e. pieces_of_one plan masters nets instances are shapes firsts made shape_is pieces starts have a b x
                  y (piece_there a lt_a) (piece_there b lt_b)
                  (joined_one tech plan masters nets instances planned are (own_of x) (own_of y) (j.0 e)),
              λ one. j.1
                  (one_joined tech plan masters nets instances planned are (own_of x) (own_of y)
                  (instance_there a lt_a) (instance_there b lt_b)
                  (one_of_pieces plan masters nets instances are shapes firsts made shape_is pieces starts have a b x
                  y (piece_there a lt_a) (piece_there b lt_b) one)),
            )

        -- the pieces of the sticks
        module _ (netted : List Piece) (places : map place_of netted ≡ map stand_of pieces)
            (same : nets_of netted ≡ numbers) where
          stand : map stand_of pieces ≡ places_of_sticks plan masters
          stand = pieces_stand plan masters nets instances are shapes firsts made shape_is pieces starts have

          long : length (places_of_sticks plan masters) ≡ length pieces
          long = ap (λ (ps : List Place). length ps) (sym stand) ∙ length-map pieces stand_of

          pub pieces_are : AreSticksPieces nets plan masters netted
          pieces_are = record {
            placed = places ∙ stand;
            joined = λ a b lt_a lt_b.
                subst (λ (ns : List ℕ). slice_index ns a ≡ slice_index ns b
                ↔ AreOfOne (nets_no nets) plan masters a b) (sym same) (joined a b (omega (arith, lt_a, long))
                (omega (arith, lt_b, long)));
            in_order = subst IsNumberedInOrder (sym same) numbered.in_order;
          }

          -- each net of an instance has the number of its pieces
          pub of_pieces : (number : OwnNet → ℕ)
              → ((i : ℕ) (o : OwnNet) → slice_get (map own_of pieces) i ≡ Some o → slice_index numbers i ≡ number o)
              → AreNumbersOfPieces plan masters nets instances netted number
          of_pieces number each i o h =
              let lt : i < length pieces =
              (let within = slice_get_within (places_of_sticks plan masters) i h.p h.there in
              omega (arith, within, long)) in
              let x : Placed = piece_at i in
              let tells = told plan masters nets instances are shapes firsts made shape_is pieces starts have i x h.p
              h.a (piece_there i lt) h.there h.shows in
              let instance : x.own.instance ≡ o.instance =
              one_instance x.own.instance o.instance (instance_there i lt) h.instance (sym tells.spot ∙ h.spot) in
              let net : x.own.net ≡ o.net = sym tells.net ∙ h.net in
              let own : own_of x ≡ o = ap (λ (s : ℕ). own_net s x.own.net) instance ∙ ap (own_net o.instance) net in
              ap (λ (ns : List ℕ). slice_index ns i) same ∙ (each i (own_of x) (owner_there i lt) ∙ ap number own)

    -- the boxes of transistors have pieces
    pub boxes_there : (starts : List ℕ) → length starts ≡ length shapes + 1 → (layouts : List Coords) (c : Crossing)
        → IsTransistor tech plan masters layouts c → IsPlacedBox c.channel → HasBoxes starts c
    boxes_there starts starts_counted layouts c t placed =
        let counted = shapes_counted plan masters instances are shapes firsts made in
        let poly = shown_below plan masters c.poly (at t.spot t.poly) t.shows_poly in
        let diffusion = shown_below plan masters c.diffusion (at t.spot t.diffusion) t.shows_diffusion in
        record {
          poly = omega (arith, counted, starts_counted, poly);
          diffusion = omega (arith, counted, starts_counted, diffusion);
          channel = placed;
        }

-- the netlist
pub netlist_is : (tech : Tech) (plan : Plan) (masters : List Master) (layouts : List Coords) (c : Connections)
    (crossings : List Crossing) (pieces : List Piece) (devices : List Device) (count : ℕ)
    → AreConnections plan masters c → AreTransistors tech plan masters layouts crossings → pieces ≡ c.pieces.items
    → devices ≡ map (device_of pieces) crossings → count ≡ c.count
    → IsSticksNetlist tech plan masters layouts (record { pieces = pieces; nets = count; devices = devices })
netlist_is tech plan masters layouts c crossings pieces devices count all transistors same made counted =
    let are : AreSticksPieces c.nets.items plan masters pieces =
    subst (AreSticksPieces c.nets.items plan masters) (sym same) all.pieces in
    record {
      nets = nets_no c.nets.items;
      are_nets = all.nets.each;
      transistors = crossings;
      are_transistors = transistors;
      netlist = record {
        placed = are.placed;
        joined = are.joined;
        in_order = are.in_order;
        counted = counted ∙ (all.count ∙ ap (λ (ps : List Piece). next_net (nets_of ps)) (sym same));
        devices = made;
      };
    }
