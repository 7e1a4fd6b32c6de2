use Rattle.std.proofs.Common.{◌≡◌, ℕ, List, All, get_or, map, refl, sym, ap, ◌∙◌, subst, arith}
use Rattle.std.proofs.lemmas.List.{length-map}
use Rattle.crossing_model.specs.declared.crossing.Crossing.{Crossing}
use Rattle.plan_model.specs.Plan.{grids_of, AreOfMasters}
use Rattle.pitch_join.specs.Masters.{master_ports}
use Rattle.net_model.specs.{declared.netlist.Piece.Piece, Devices.{ArePieceRanges, HasBoxes}, Netlists.device_of}
use Rattle.design_nets.specs.{declared.instances.Instance.Instance, Shapes.AreShapesOf}
use Rattle.design_nets.proofs.{Shown.shapes_counted, SticksNetlist.{netlist_is, boxes_there}}
use Rattle.design_nets.proofs.sticks.stick_netlist.Goals as goal

pub transistors-requires-clause-laid_out : goal.transistors-requires-clause-laid_out
transistors-requires-clause-laid_out c =
    let masters = c.args.masters.now in
    let sticks = c.in_ok-sticks.sticks in
    let all = c.in_ok-sticks.ensures in
    let counted = shapes_counted c.args.plan.now masters sticks.instances.items all.instances sticks.shapes.all.items
    sticks.shapes.firsts.items all.shapes in
    let few = c.requires.few in
    record {
      planned = c.requires.planned;
      near = c.requires.near;
      counted = c.requires.counted;
      boxes = c.requires.boxes;
      drawable = c.requires.drawable;
      called = c.deref.ensures.value ∙ c.in_ok-calls.ensures;
      shown = subst (λ (z : List Instance). AreShapesOf masters z sticks.shapes.all.items sticks.shapes.firsts.items)
          all.instances all.shapes;
      few = omega (arith, counted, few);
    }

pub transistors-requires-clause-drawn : goal.transistors-requires-clause-drawn
transistors-requires-clause-drawn c = c.deref-2.ensures.value ∙ c.in_ok-sticks.ensures.drawn

pub devices_of-requires-clause-starts : goal.devices_of-requires-clause-starts
devices_of-requires-clause-starts c =
    subst (λ (ps : List Piece). ArePieceRanges ps c.deref-4.result.now) (sym c.deref-3.ensures.value)
    (subst (λ (ss : List ℕ). ArePieceRanges c.in_ok-sticks.sticks.pieces.items ss) (sym c.deref-4.ensures.value)
    c.in_ok-sticks.ensures.ranges)

pub devices_of-requires-clause-crossings : goal.devices_of-requires-clause-crossings
devices_of-requires-clause-crossings c k d lt =
    let masters = c.args.masters.now in
    let sticks = c.in_ok-sticks.sticks in
    let all = c.in_ok-sticks.ensures in
    let starts : List ℕ = sticks.starts.items in
    let P : List Crossing → Type 0 = λ cs. All (HasBoxes c.deref-4.result.now) cs in
    let each : All (HasBoxes c.deref-4.result.now) c.in_ok-crossings.crossings.items =
    λ i e within. subst (λ (ss : List ℕ). HasBoxes ss (get_or c.in_ok-crossings.crossings.items i e))
    (sym c.deref-4.ensures.value)
    (boxes_there c.args.tech.now c.args.plan.now masters sticks.nets.items sticks.instances.items c.requires.planned
    all.nets all.instances sticks.shapes.all.items sticks.shapes.firsts.items all.shapes starts all.starts
    c.args.layouts.now
    (get_or c.in_ok-crossings.crossings.items i e) (c.in_ok-crossings.ensures.all.each i e within)
    (c.in_ok-crossings.ensures.placed i e within)) in
    subst P (sym c.deref-5.ensures.value) each k d lt

pub returns : goal.returns
returns c =
    let crossings = c.in_ok-crossings.crossings.items in
    let made_of : c.from_vec-2.result ≡ map (device_of c.from_vec.result) crossings =
    c.from_vec-2.ensures ∙ (c.in_ok-devices.ensures
    ∙ (ap (λ (ps : List Piece). map (device_of ps) c.deref-5.result.now)
    (c.deref-3.ensures.value ∙ sym c.from_vec.ensures)
    ∙ ap (λ (cs : List Crossing). map (device_of c.from_vec.result) cs) c.deref-5.ensures.value)) in
    netlist_is c.args.tech.now c.args.plan.now c.args.masters.now c.args.layouts.now c.in_ok-sticks.sticks crossings
    c.from_vec.result c.from_vec-2.result c.in_ok-sticks.sticks.count c.in_ok-sticks.ensures
    c.in_ok-crossings.ensures.all c.from_vec.ensures made_of refl
