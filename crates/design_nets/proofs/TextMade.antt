-- The text of nets by their names, from the lists that it is made of.
use Rattle.smallvec.specs.SmallVec.{SmallVec}
use Rattle.std.proofs.Common.{◌≡◌, ℕ, ◌<◌, List, [], ◌∷◌, ◌++◌, length, map, get_or, sym, ap, ◌∙◌, subst, arith, inl}
use Rattle.std.proofs.{Common.inr, lemmas.{Bool.cases_lt, List.{length-map, get_or-map, get_or_past}}}
use Rattle.std.proofs.lemmas.List.{FromFn.{length-map-range_with_len, get_or-map-range_with_len}, Elements.All-nil}
use Rattle.std.specs.{Prelude.slice_index_or, List.{All, flat_map, range_with_len}}
use Rattle.list_facts.proofs.Elements.{by_number}
use Rattle.lam_geom.specs.declared.boxes.MaskLayer.{MaskLayer}
use Rattle.rule_table.specs.declared.technology.Tech.{Tech}
use Rattle.sym_items.specs.declared.items.Item.{Item}
use Rattle.pair_rules.specs.Bound.{item_at}
use Rattle.expand.specs.declared.master.Master.{Master}
use Rattle.plan_model.specs.{declared.plan.Plan.Plan, Plan.grids_of}
use Rattle.pitch_join.specs.Masters.{master_at, no_master}
use Rattle.crossing_model.specs.Boxes.{no_box}
use Rattle.net_model.specs.{declared.netlist.Piece.Piece, Devices.no_netted}
use Rattle.net_list.specs.{declared.counting.PieceCounts.PieceCounts, Lines.head_line, Counts.{no_pieces, layer_in}}
use Rattle.net_list.{specs.Counts.{counts_of, counts_words}, proofs.Counted.counts_same}
use Rattle.instance_laws.specs.{Planned.AreOfPlan, Conductors.{InstanceItem, item_of}, Shapes.{shapes_of, layer_of}}
use Rattle.instance_laws.specs.Sticks.{no_shape as no_drawn}
use Rattle.design_nets.specs.declared.{connections.Connections.Connections, fet_nodes.FetAt.FetAt}
use Rattle.design_nets.specs.declared.{instances.Instance.Instance, named_parts.NamedPart.NamedPart, shapes.Shape.Shape}
use Rattle.design_nets.specs.{Connections.{number_in, AreNumbersOfPieces, AreConnections}, Firsts.together}
use Rattle.design_nets.specs.{Instances.instances_of, Listing.list_in, NamedLines.{layer_of_shape, line_of_parts}}
use Rattle.design_nets.specs.{NamedLines.lines_of_nets, NamedNets.{name_of, names_of_net, spaced, layer_of_box}}
use Rattle.design_nets.specs.NamedNets.{shape_item, fets_of, all_fets, lines_of_fets, named_text, IsNamedText}
use Rattle.design_nets.specs.NamedParts.{named_parts, own_net_of, parts_of_net, IsNamedPart, AreNumbered}
use Rattle.design_nets.specs.{Pieces.{layer_shown, IsShapeOf}, Shapes.{drawn_by, no_shape, shape_no}}
use Rattle.design_nets.proofs.{LaidOut.instances_among, Lists.together_same, NamedParts.net_parts_named}
use Rattle.design_nets.proofs.{OneNumbering.piece_box, Shown.{shapes_shown, shapes_counted}, Spots.instance_stands}
use Rattle.design_nets.proofs.SticksNetlist.{shapes_are}

module _ (tech : Tech) (plan : Plan) (masters : List Master) (planned : AreOfPlan tech plan masters) (c : Connections)
    (all : AreConnections plan masters c) where
  pub among : All (λ (i : Instance). i.master < length masters) c.instances.items
  among = subst (λ (is : List Instance). All (λ (i : Instance). i.master < length masters) is) (sym all.instances)
      (instances_among tech plan masters planned)

  pub shapes_of_instances : All (IsShapeOf masters c.instances.items) c.shapes.all.items
  shapes_of_instances = shapes_are tech plan masters c.nets.items c.instances.items planned all.nets all.instances
      c.shapes.all.items c.shapes.firsts.items all.shapes

  pub numbered : AreNumbered masters c
  numbered = record {
    among = among;
    nets = all.nets;
    wired = λ m k lt few. ((planned.each m no_master lt).sound.ports k few).wire;
    first = all.first;
    firsts = all.firsts;
    counted = all.numbered;
  }

  pub box_within : (i : ℕ) → i < length c.pieces.items
      → (get_or c.pieces.items i no_netted).box_no < length c.shapes.all.items
  box_within i lt =
      let below = piece_box plan masters c.nets.items c.pieces.items all.pieces i lt in
      let counted = shapes_counted plan masters c.instances.items all.instances c.shapes.all.items
      c.shapes.firsts.items all.shapes in
      omega (arith, below, counted)

  -- ---- layers

  item_shown : (one : Shape) → one.instance < length c.instances.items
      → shape_item masters c.instances.items one ≡ item_of plan masters (drawn_by c.instances.items one)
  item_shown one lt = ap (λ (n : ℕ). item_at (master_at masters n).items.list one.item)
      (instance_stands (grids_of plan) c.instances.items one.instance all.instances lt).master

  layer_shown_at : (k : ℕ) → k < length c.shapes.all.items
      → layer_of_shape masters c.instances.items (shape_no c.shapes.all.items k) ≡ layer_of_box plan masters k
  layer_shown_at k lt =
      let one : Shape = shape_no c.shapes.all.items k in
      let own = item_shown one (shapes_of_instances k no_shape lt).instance in
      let shown = shapes_shown plan masters c.instances.items all.instances c.shapes.all.items c.shapes.firsts.items
      all.shapes in
      let drawn : drawn_by c.instances.items one ≡ get_or (shapes_of plan masters) k no_drawn =
      sym (get_or-map (drawn_by c.instances.items) c.shapes.all.items k no_shape no_drawn lt)
      ∙ ap (λ (ds : List InstanceItem). get_or ds k no_drawn) shown in
      ap (λ (i : Item). layer_of_item i) own ∙ ap (layer_of plan masters) drawn
    where
      layer_of_item : Item → MaskLayer
      layer_of_item i = layer_shown i.class

  layers_same : (layers : List MaskLayer) → layers ≡ map (layer_of_shape masters c.instances.items) c.shapes.all.items
      → (i : ℕ) → i < length c.pieces.items
      → layer_in layers (get_or c.pieces.items i no_netted).box_no
      ≡ layer_of_box plan masters (get_or c.pieces.items i no_netted).box_no
  layers_same layers is i lt =
      let k : ℕ = (get_or c.pieces.items i no_netted).box_no in
      let within = box_within i lt in
      ap (λ (ls : List MaskLayer). layer_in ls k) is
      ∙ (get_or-map (layer_of_shape masters c.instances.items) c.shapes.all.items k no_shape no_box.layer within
      ∙ layer_shown_at k within)

  -- ---- the text

  abbrev Number : NamedPart → ℕ
  Number p = number_in c.numbers (own_net_of masters c.nets.items c.instances.items p)

  -- the lists are those of the nets
  pub record AreLists (layers : List MaskLayer) (counts : List PieceCounts) (parts : List (SmallVec NamedPart)) : Type
      0 where
    pub layers_are : layers ≡ map (layer_of_shape masters c.instances.items) c.shapes.all.items
    pub counts_are : counts ≡ map (counts_of (layer_in layers) c.pieces.items) (range_with_len 0 c.count)
    pub counted : length parts ≡ c.count
    pub each : (net : ℕ) → net < c.count
        → list_in parts net ≡ parts_of_net
        (λ (p : NamedPart). number_in c.numbers (own_net_of masters c.nets.items c.instances.items p))
        (named_parts masters c.instances.items) net

  module _ (layers : List MaskLayer) (counts : List PieceCounts) (parts : List (SmallVec NamedPart))
      (lists : AreLists layers counts parts) where
    pub counts_long : length counts ≡ c.count
    counts_long = ap (λ (cs : List PieceCounts). length cs) lists.counts_are
        ∙ length-map-range_with_len (counts_of (layer_in layers) c.pieces.items) 0 c.count

    pub parts_named : (net : ℕ) → All (IsNamedPart masters c.instances.items) (list_in parts net)
    parts_named net = elim (cases_lt net c.count) [
      | inl lt ↦ subst (λ (ps : List NamedPart). All (IsNamedPart masters c.instances.items) ps)
          (sym (lists.each net lt)) (net_parts_named masters c.instances.items among Number net)
      | inr past ↦
          (let counted = lists.counted in
          let items = λ (v : SmallVec NamedPart). v.items in
          let none : list_in parts net ≡ [] =
          get_or_past (map items parts) net [] (omega (arith, past, counted, length-map parts items)) in
          subst (λ (ps : List NamedPart). All (IsNamedPart masters c.instances.items) ps) (sym none)
          (All-nil (IsNamedPart masters c.instances.items)))
    ]

    line_is : (grids : List (List ℕ)) (net : ℕ) → net < c.count
        → line_of_parts (name_of grids masters c.instances.items) counts parts net
        ≡ counts_words net (counts_of (layer_of_box plan masters) c.pieces.items net)
        ++ (flat_map spaced (names_of_net grids masters c.instances.items Number net) ++ (10 ∷ []))
    line_is grids net lt =
        let name = name_of grids masters c.instances.items in
        let f : ℕ → PieceCounts = counts_of (layer_in layers) c.pieces.items in
        let read : slice_index_or counts net no_pieces ≡ f net =
        ap (λ (cs : List PieceCounts). get_or cs net no_pieces) lists.counts_are
        ∙ get_or-map-range_with_len f 0 c.count net net no_pieces lt (omega arith) in
        let same = counts_same (layer_in layers) (layer_of_box plan masters) c.pieces.items
        (by_number (λ (p : Piece). layer_in layers p.box_no ≡ layer_of_box plan masters p.box_no) c.pieces.items
        no_netted (layers_same layers lists.layers_are)) net in
        ap (λ (z : PieceCounts). counts_words net z ++ (flat_map spaced (map name (list_in parts net)) ++ (10 ∷ [])))
        (read ∙ same)
        ∙ ap (λ (ps : List NamedPart). counts_words net (counts_of (layer_of_box plan masters) c.pieces.items net)
        ++ (flat_map spaced (map name ps) ++ (10 ∷ []))) (lists.each net lt)

    pub text_made : (grids : List (List ℕ)) (fets : List FetAt) (text : List ℕ)
        → fets ≡ fets_of masters c.instances.items c.shapes.all.items
        → text ≡ head_line c.count (length fets)
        ++ (lines_of_nets (name_of grids masters c.instances.items) counts parts
        ++ lines_of_fets grids masters c.instances.items Number 0 fets)
        → IsNamedText grids plan masters text
    unfolding named_text
    text_made grids fets text are is =
        let instances : List Instance = c.instances.items in
        let fets_all : fets ≡ all_fets masters instances = are ∙ ap (fets_of masters instances) all.shapes.all in
        let lines : List Instance → ℕ → List ℕ =
        λ some net. counts_words net (counts_of (layer_of_box plan masters) c.pieces.items net)
        ++ (flat_map spaced
        (names_of_net grids masters some
        (λ (p : NamedPart). number_in c.numbers (own_net_of masters c.nets.items some p)) net) ++ (10 ∷ [])) in
        let nets : lines_of_nets (name_of grids masters instances) counts parts ≡ together (lines instances) c.count =
        ap (together (line_of_parts (name_of grids masters instances) counts parts)) counts_long
        ∙ together_same (line_of_parts (name_of grids masters instances) counts parts) (lines instances) c.count
        (line_is grids) in
        let whole : List Instance → ℕ → List ℕ =
        λ some count. head_line count (length (all_fets masters some)) ++ (together (lines some) count
        ++ lines_of_fets grids masters some
        (λ (p : NamedPart). number_in c.numbers (own_net_of masters c.nets.items some p)) 0
        (all_fets masters some)) in
        record {
          nets = c.nets.items;
          are_nets = all.nets;
          pieces = c.pieces.items;
          are_pieces = all.pieces;
          number = number_in c.numbers;
          numbered =
              subst (λ (some : List Instance). AreNumbersOfPieces plan masters c.nets.items some c.pieces.items
              (number_in c.numbers)) all.instances all.of_pieces;
          is = is ∙ (ap
              (λ (fs : List FetAt). head_line c.count (length fs)
              ++ (lines_of_nets (name_of grids masters instances) counts parts
              ++ lines_of_fets grids masters instances Number 0 fs)) fets_all
              ∙ (ap (λ (body : List ℕ). head_line c.count (length (all_fets masters instances))
              ++ (body ++ lines_of_fets grids masters instances Number 0 (all_fets masters instances))) nets
              ∙ (ap (λ (some : List Instance). whole some c.count) all.instances
              ∙ ap (whole (instances_of (grids_of plan))) all.count)));
        }
