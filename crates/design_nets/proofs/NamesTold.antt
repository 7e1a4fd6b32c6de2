-- The text of nets by their names and the netlist of the sticks, as a whole.
use Rattle.std.proofs.Common.{◌≡◌, ℕ, ◌<◌, List, [], ◌∷◌, ◌++◌, length, map, get_or, refl, sym, ap, ◌∙◌, subst}
use Rattle.std.proofs.lemmas.{List.length-map, Simd.map-map, Option.get_or_from_slice_get}
use Rattle.std.specs.{Prelude.slice_index, List.{AllByRecursion, flat_map, range_with_len}}
use Rattle.list_facts.proofs.Elements.{by_number}
use Rattle.lam_geom.specs.declared.boxes.MaskBox.{MaskBox}
use Rattle.rule_table.specs.declared.technology.Tech.{Tech}
use Rattle.sym_items.specs.declared.items.Coords.{Coords}
use Rattle.expand.specs.declared.master.Master.{Master}
use Rattle.plan_model.specs.{declared.plan.Plan.Plan, Plan.grids_of}
use Rattle.graph_search.specs.Netting.{next_net}
use Rattle.crossing_model.specs.{declared.crossing.Crossing.Crossing, Boxes.layer_at}
use Rattle.net_model.specs.{declared.netlist.{Device.Device, Netlist.Netlist, Piece.Piece}, Devices.no_netted}
use Rattle.net_model.specs.Netlists.{nets_of, device_of}
use Rattle.net_list.specs.{declared.counting.PieceCounts.PieceCounts, Lines.head_line, Counts.counts_words}
use Rattle.net_list.proofs.Counted.{counts_same}
use Rattle.instance_laws.specs.{Planned.AreOfPlan, Meetings.TransistorsHaveBoxes, Shapes.{shapes_of, layer_of}}
use Rattle.instance_laws.{specs.{Shapes.AreShapes, Sticks.{no_shape, IsSticksNetlist}}, proofs.NetlistShapes.each_shown}
use Rattle.design_nets.specs.declared.{fet_nodes.FetAt.FetAt, instances.Instance.Instance}
use Rattle.design_nets.specs.{declared.named_parts.NamedPart.NamedPart, Connections.{AreSticksPieces, IsPieceOf}}
use Rattle.design_nets.specs.{Connections.AreNumbersOfPieces, Instances.instances_of, NamedLaws.named_devices}
use Rattle.design_nets.specs.{NamedLaws.TellsNetlist, NamedParts.own_net_of, NamedNets.{names_of_net, spaced, net_line}}
use Rattle.design_nets.specs.NamedNets.{layer_of_box, all_fets, lines_of_fets, net_lines, named_text, IsNamedText}
use Rattle.design_nets.proofs.{Lists.together_same, OneNumbering.{piece_box, pieces_one}, Told.{fets_found, named}}
use Rattle.design_nets.proofs.Told.{devices_told}

module _ (tech : Tech) (plan : Plan) (masters : List Master) (planned : AreOfPlan tech plan masters)
    (layouts : List Coords) (list : Netlist) (sticks : IsSticksNetlist tech plan masters layouts list)
    (grids : List (List ℕ)) (text : List ℕ) (is : IsNamedText grids plan masters text) where
  abbrev Instances : List Instance
  Instances = instances_of (grids_of plan)

  abbrev Number : NamedPart → ℕ
  Number p = is.number (own_net_of masters is.nets (instances_of (grids_of plan)) p)

  -- the pieces are those of the netlist
  pub same_pieces : is.pieces ≡ list.pieces
  same_pieces =
      pieces_one tech plan masters planned sticks.nets is.nets is.pieces list.pieces sticks.are_nets is.are_nets
      is.are_pieces
      (record {
        placed = sticks.netlist.placed;
        joined = sticks.netlist.joined;
        in_order = sticks.netlist.in_order;
        counted = refl;
        devices = refl;
      })

  pub numbered : AreNumbersOfPieces plan masters is.nets (instances_of (grids_of plan)) list.pieces is.number
  numbered = subst (λ (ps : List Piece). AreNumbersOfPieces plan masters is.nets Instances ps is.number) same_pieces
      is.numbered

  are : AreSticksPieces is.nets plan masters list.pieces
  are = subst (AreSticksPieces is.nets plan masters) same_pieces is.are_pieces

  -- ---- layers

  module _ (boxes : List MaskBox) (shapes : AreShapes tech plan masters layouts boxes) where
    piece_layer : (i : ℕ) → i < length list.pieces
        → layer_of_box plan masters (get_or list.pieces i no_netted).box_no
        ≡ layer_at boxes (get_or list.pieces i no_netted).box_no
    piece_layer i lt =
        let k : ℕ = (get_or list.pieces i no_netted).box_no in
        let a = each_shown plan masters k (piece_box plan masters is.nets list.pieces are i lt) in
        ap (layer_of plan masters) (get_or_from_slice_get (shapes_of plan masters) k a.0 no_shape a.1)
        ∙ sym (shapes.each k a.0 a.1).layer

    layers : AllByRecursion (λ (p : Piece). layer_of_box plan masters p.box_no ≡ layer_at boxes p.box_no) list.pieces
    layers = by_number (λ (p : Piece). layer_of_box plan masters p.box_no ≡ layer_at boxes p.box_no) list.pieces
        no_netted piece_layer

    line_same : (net : ℕ) → net_lines grids plan masters list.pieces Number net
        ≡ net_line (layer_at boxes) list.pieces net (names_of_net grids masters Instances Number net)
    line_same net =
        ap (λ (c : PieceCounts). counts_words net c
        ++ (flat_map spaced (names_of_net grids masters Instances Number net) ++ (10 ∷ []))) (counts_same
        (layer_of_box plan masters) (layer_at boxes) list.pieces layers net)

    -- ---- the text

    pub names_told : TransistorsHaveBoxes tech plan masters layouts → TellsNetlist boxes list text
    unfolding named_text
    names_told laws =
        let cs : List Crossing = sticks.transistors in
        let pieces : List Piece = list.pieces in
        let count : ℕ = next_net (nets_of pieces) in
        let fets : List FetAt = all_fets masters Instances in
        let found = fets_found tech plan masters planned is.nets is.are_nets pieces are is.number numbered layouts
        laws cs sticks.are_transistors in
        let with_names : Crossing → List ℕ × Device =
        named tech plan masters planned is.nets is.are_nets pieces are is.number numbered layouts laws cs
        sticks.are_transistors grids in
        let devices : named_devices 0 (map with_names cs) ≡ lines_of_fets grids masters Instances Number 0 fets =
        devices_told tech plan masters planned is.nets is.are_nets pieces are is.number numbered layouts laws cs
        sticks.are_transistors grids in
        let counted : length fets ≡ length list.devices =
        ap (λ (fs : List FetAt). length fs) found
        ∙ (length-map cs _
        ∙ (sym (length-map cs (device_of pieces))
        ∙ ap (λ (ds : List Device). length ds) (sym sticks.netlist.devices))) in
        let nets : flat_map (net_lines grids plan masters pieces Number) (range_with_len 0 count)
        ≡ flat_map (λ net. net_line (layer_at boxes) pieces net (names_of_net grids masters Instances Number net))
        (range_with_len 0 count) =
        together_same (net_lines grids plan masters pieces Number)
        (λ net. net_line (layer_at boxes) pieces net (names_of_net grids masters Instances Number net)) count
        (λ net lt. line_same net) in
        let tail : ℕ → List ℕ =
        λ n. flat_map
        (λ net. net_line (layer_at boxes) pieces net (names_of_net grids masters Instances Number net))
        (range_with_len 0 n) ++ named_devices 0 (map with_names cs) in
        record {
          names = names_of_net grids masters Instances Number;
          devices = map with_names cs;
          are = map-map (λ (d : List ℕ × Device). d.1) with_names cs ∙ sym sticks.netlist.devices;
          is = is.is ∙ (ap (λ (ps : List Piece). named_text grids plan masters ps Number) same_pieces
              ∙ (ap (λ (body : List ℕ). head_line count (length fets)
              ++ (body ++ lines_of_fets grids masters Instances Number 0 fets)) nets
              ∙ (ap (λ (lines : List ℕ). head_line count (length fets)
              ++ (flat_map
              (λ net. net_line (layer_at boxes) pieces net (names_of_net grids masters Instances Number net))
              (range_with_len 0 count) ++ lines)) (sym devices)
              ∙ (ap (λ (n : ℕ). head_line count n ++ tail count) counted
              ∙ ap (λ (n : ℕ). head_line n (length list.devices) ++ tail n) (sym sticks.netlist.counted)))));
        }

  pub part_stands : (p : NamedPart) (i : ℕ)
      → IsPieceOf plan masters is.nets (instances_of (grids_of plan))
      (own_net_of masters is.nets (instances_of (grids_of plan)) p) i
      → slice_index (nets_of list.pieces) i ≡ is.number (own_net_of masters is.nets (instances_of (grids_of plan)) p)
  part_stands p i of = numbered i (own_net_of masters is.nets Instances p) of
