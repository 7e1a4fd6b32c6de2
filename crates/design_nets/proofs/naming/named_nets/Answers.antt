use Rattle.smallvec.specs.SmallVec.{SmallVec}
use Rattle.std.proofs.Common.{◌≡◌, ℕ, ◌++◌, List, length, map, get_or, All, sym, ap, ◌∙◌, subst, arith}
use Rattle.std.{proofs.lemmas.List.{length-map, get_or_default}, specs.List.range_with_len}
use Rattle.list_facts.proofs.Elements.{all_of}
use Rattle.lam_geom.specs.declared.boxes.MaskLayer.{MaskLayer}
use Rattle.net_model.specs.{declared.netlist.Piece.Piece, Devices.no_netted}
use Rattle.net_list.specs.{declared.counting.PieceCounts.PieceCounts, Lines.head_line, Counts.{layer_in, counts_of}}
use Rattle.net_list.proofs.Joined.{two_added}
use Rattle.design_nets.specs.declared.{fet_nodes.FetAt.FetAt, instances.Instance.Instance}
use Rattle.design_nets.specs.{declared.{named_parts.NamedPart.NamedPart, shapes.Shape.Shape}, Connections.number_in}
use Rattle.design_nets.specs.{Listing.list_in, NamedLines.{layer_of_shape, lines_of_nets, IsFet}, NamedNets.name_of}
use Rattle.design_nets.specs.{NamedNets.{fets_of, lines_of_fets}, NamedParts.{own_net_of, IsNamedPart}}
use Rattle.design_nets.{specs.Pieces.IsShapeOf, proofs.{FetPieces.fets_are, TextMade.{shapes_of_instances, numbered}}}
use Rattle.design_nets.proofs.TextMade.{box_within, AreLists, counts_long, parts_named, text_made}
use Rattle.design_nets.proofs.naming.named_nets.Goals as goal

pub layers_shown-requires : goal.layers_shown-requires
layers_shown-requires c =
    let masters = c.args.masters.now in
    let sticks = c.in_ok-sticks.sticks in
    subst (λ (is : List Instance). All (IsShapeOf masters is) c.deref-2.result.now) (sym c.deref.ensures.value)
    (subst (λ (ss : List Shape). All (IsShapeOf masters sticks.instances.items) ss) (sym c.deref-2.ensures.value)
    (shapes_of_instances c.args.tech.now c.args.plan.now masters c.requires.planned sticks
    c.in_ok-sticks.ensures))

pub counts_of-requires : goal.counts_of-requires
counts_of-requires c = λ k d lt.
    (let sticks = c.in_ok-sticks.sticks in
    let same = ap (λ (ps : List Piece). length ps) c.deref-3.ensures.value in
    let within = box_within c.args.tech.now c.args.plan.now c.args.masters.now c.requires.planned sticks
    c.in_ok-sticks.ensures k (omega (arith, lt, same)) in
    let read = ap (λ (p : Piece). p.box_no) (get_or_default c.deref-3.result.now k d no_netted lt) in
    let moved = ap (λ (ps : List Piece). (get_or ps k no_netted).box_no) c.deref-3.ensures.value in
    let layers = ap (λ (ls : List MaskLayer). length ls) (c.deref-4.ensures.value ∙ c.in_ok-layers.ensures) in
    let shapes = ap (λ (ss : List Shape). length ss) c.deref-2.ensures.value in
    let long = length-map c.deref-2.result.now (layer_of_shape c.args.masters.now c.deref.result.now) in
    omega (arith, within, read, moved, layers, shapes, long))

pub parts_of_nets-requires : goal.parts_of_nets-requires
parts_of_nets-requires c = numbered c.args.tech.now c.args.plan.now c.args.masters.now c.requires.planned
    c.in_ok-sticks.sticks c.in_ok-sticks.ensures

pub fets_of-requires : goal.fets_of-requires
fets_of-requires c =
    let masters = c.args.masters.now in
    let sticks = c.in_ok-sticks.sticks in
    subst (λ (is : List Instance). All (IsShapeOf masters is) c.deref-6.result.now) (sym c.deref-5.ensures.value)
    (subst (λ (ss : List Shape). All (IsShapeOf masters sticks.instances.items) ss) (sym c.deref-6.ensures.value)
    (shapes_of_instances c.args.tech.now c.args.plan.now masters c.requires.planned sticks
    c.in_ok-sticks.ensures))

pub push_nets-requires-clause-counted : goal.push_nets-requires-clause-counted
push_nets-requires-clause-counted c =
    let masters = c.args.masters.now in
    let sticks = c.in_ok-sticks.sticks in
    let all = c.in_ok-sticks.ensures in
    let instances = sticks.instances.items in
    let layers = c.in_ok-layers.layers.items in
    let counts = c.in_ok-counts.counts.items in
    let parts = c.in_ok-parts.parts.items in
    let lists : AreLists c.args.tech.now c.args.plan.now masters c.requires.planned sticks all layers counts parts =
    record {
      layers_are = c.in_ok-layers.ensures
          ∙ (ap (λ (is : List Instance). map (layer_of_shape masters is) c.deref-2.result.now) c.deref.ensures.value
          ∙ ap (λ (ss : List Shape). map (layer_of_shape masters instances) ss) c.deref-2.ensures.value);
      counts_are = c.in_ok-counts.ensures
          ∙ (ap (λ (ls : List MaskLayer). map (counts_of (layer_in ls) c.deref-3.result.now)
          (range_with_len 0 sticks.count)) c.deref-4.ensures.value
          ∙ ap (λ (ps : List Piece). map (counts_of (layer_in layers) ps) (range_with_len 0 sticks.count))
          c.deref-3.ensures.value);
      counted = c.in_ok-parts.ensures.counted;
      each = c.in_ok-parts.ensures.each;
    } in
    ap (λ (ls : List (SmallVec NamedPart)). length ls) c.deref-9.ensures.value
    ∙ (lists.counted
    ∙ (sym (counts_long c.args.tech.now c.args.plan.now masters c.requires.planned sticks all layers counts parts
    lists) ∙ sym (ap (λ (cs : List PieceCounts). length cs) c.deref-8.ensures.value)))

pub push_nets-requires-clause-named : goal.push_nets-requires-clause-named
push_nets-requires-clause-named c = λ net.
    (let masters = c.args.masters.now in
    let sticks = c.in_ok-sticks.sticks in
    let all = c.in_ok-sticks.ensures in
    let instances = sticks.instances.items in
    let layers = c.in_ok-layers.layers.items in
    let counts = c.in_ok-counts.counts.items in
    let parts = c.in_ok-parts.parts.items in
    let lists : AreLists c.args.tech.now c.args.plan.now masters c.requires.planned sticks all layers counts parts =
    record {
      layers_are = c.in_ok-layers.ensures
          ∙ (ap (λ (is : List Instance). map (layer_of_shape masters is) c.deref-2.result.now) c.deref.ensures.value
          ∙ ap (λ (ss : List Shape). map (layer_of_shape masters instances) ss) c.deref-2.ensures.value);
      counts_are = c.in_ok-counts.ensures
          ∙ (ap (λ (ls : List MaskLayer). map (counts_of (layer_in ls) c.deref-3.result.now)
          (range_with_len 0 sticks.count)) c.deref-4.ensures.value
          ∙ ap (λ (ps : List Piece). map (counts_of (layer_in layers) ps) (range_with_len 0 sticks.count))
          c.deref-3.ensures.value);
      counted = c.in_ok-parts.ensures.counted;
      each = c.in_ok-parts.ensures.each;
    } in
    subst (λ (is : List Instance). All (IsNamedPart masters is) (list_in c.deref-9.result.now net))
    (sym c.deref-7.ensures.value)
    (subst (λ (ls : List (SmallVec NamedPart)). All (IsNamedPart masters instances) (list_in ls net))
    (sym c.deref-9.ensures.value)
    (parts_named c.args.tech.now c.args.plan.now masters c.requires.planned sticks all layers counts parts lists net)))

pub push_fets-requires-clause-numbered : goal.push_fets-requires-clause-numbered
push_fets-requires-clause-numbered c =
    numbered c.args.tech.now c.args.plan.now c.args.masters.now c.requires.planned c.in_ok-sticks.sticks
    c.in_ok-sticks.ensures

pub push_fets-requires-clause-fets : goal.push_fets-requires-clause-fets
push_fets-requires-clause-fets c =
    let masters = c.args.masters.now in
    let sticks = c.in_ok-sticks.sticks in
    let instances = sticks.instances.items in
    let shapes = sticks.shapes.all.items in
    let are : c.deref-10.result.now ≡ fets_of masters instances shapes =
    c.deref-10.ensures.value
    ∙ (c.in_ok-fets.ensures
    ∙ (ap (λ (is : List Instance). fets_of masters is c.deref-6.result.now) c.deref-5.ensures.value
    ∙ ap (λ (ss : List Shape). fets_of masters instances ss) c.deref-6.ensures.value)) in
    subst (λ (fs : List FetAt). All (IsFet masters instances) fs) (sym are)
    (all_of (IsFet masters instances) (fets_of masters instances shapes)
    (fets_are masters instances shapes
    (shapes_of_instances c.args.tech.now c.args.plan.now masters c.requires.planned sticks
    c.in_ok-sticks.ensures)))

pub returns : goal.returns
returns c =
    let masters = c.args.masters.now in
    let sticks = c.in_ok-sticks.sticks in
    let all = c.in_ok-sticks.ensures in
    let instances = sticks.instances.items in
    let layers = c.in_ok-layers.layers.items in
    let counts = c.in_ok-counts.counts.items in
    let parts = c.in_ok-parts.parts.items in
    let lists : AreLists c.args.tech.now c.args.plan.now masters c.requires.planned sticks all layers counts parts =
    record {
      layers_are = c.in_ok-layers.ensures
          ∙ (ap (λ (is : List Instance). map (layer_of_shape masters is) c.deref-2.result.now) c.deref.ensures.value
          ∙ ap (λ (ss : List Shape). map (layer_of_shape masters instances) ss) c.deref-2.ensures.value);
      counts_are = c.in_ok-counts.ensures
          ∙ (ap (λ (ls : List MaskLayer). map (counts_of (layer_in ls) c.deref-3.result.now)
          (range_with_len 0 sticks.count)) c.deref-4.ensures.value
          ∙ ap (λ (ps : List Piece). map (counts_of (layer_in layers) ps) (range_with_len 0 sticks.count))
          c.deref-3.ensures.value);
      counted = c.in_ok-parts.ensures.counted;
      each = c.in_ok-parts.ensures.each;
    } in
    let grids = c.args.grids.now in
    let shapes = sticks.shapes.all.items in
    let fets = c.in_ok-fets.fets.items in
    let name : NamedPart → List ℕ = name_of grids masters instances in
    let number : NamedPart → ℕ = λ p. number_in sticks.numbers (own_net_of masters sticks.nets.items instances p) in
    let are : fets ≡ fets_of masters instances shapes =
    c.in_ok-fets.ensures
    ∙ (ap (λ (is : List Instance). fets_of masters is c.deref-6.result.now) c.deref-5.ensures.value
    ∙ ap (λ (ss : List Shape). fets_of masters instances ss) c.deref-6.ensures.value) in
    let long : c.len.result ≡ length fets =
    (let is = c.len.ensures in let held = c.in_ok-fets.fets.ok in omega (arith, is, held)) in
    let nets : lines_of_nets (name_of grids masters c.deref-7.result.now) c.deref-8.result.now c.deref-9.result.now
    ≡ lines_of_nets name counts parts =
    ap (λ (is : List Instance). lines_of_nets (name_of grids masters is) c.deref-8.result.now c.deref-9.result.now)
    c.deref-7.ensures.value
    ∙ (ap (λ (cs : List PieceCounts). lines_of_nets name cs c.deref-9.result.now) c.deref-8.ensures.value
    ∙ ap (λ (ls : List (SmallVec NamedPart)). lines_of_nets name counts ls) c.deref-9.ensures.value) in
    text_made c.args.tech.now c.args.plan.now masters c.requires.planned sticks all layers counts parts lists grids
    fets c.push_fets.new.out.items are
    (two_added (head_line sticks.count (length fets)) (lines_of_nets name counts parts)
    (lines_of_fets grids masters instances number 0 fets) _ _ _
    (c.in_ok-out.ensures.items ∙ (c.as_bytes.ensures.value ∙ (c.in_ok-head.ensures ∙ ap (head_line sticks.count) long)))
    (c.in_ok-push_nets.ensures ∙ ap (λ (text : List ℕ). c.in_ok-out.out.items ++ text) nets)
    (c.in_ok-push_fets.ensures
    ∙ ap (λ (fs : List FetAt). c.push_nets.new.out.items ++ lines_of_fets grids masters instances number 0 fs)
    c.deref-10.ensures.value))
