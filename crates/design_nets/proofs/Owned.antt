-- The net of each piece is one of its instance.
use Rattle.std.proofs.Common.{◌≡◌, ℕ, ◌<◌, Bool, true, false, List, length, map, get_or, refl, sym, subst, arith, inl}
use Rattle.std.proofs.{Common.inr, lemmas.{Bool.{ltb-true, and_parts}, List.{length-map, get_or-map}}}
use Rattle.std.proofs.lemmas.{List.Elements.All-from_get_or, Option.slice_get-get_or}
use Rattle.std.specs.{Prelude.nat_lt, List.All}
use Rattle.lam_geom.specs.declared.boxes.MaskLayer.{MaskLayer, TheVariants.{ND, NP, NC, NM, NI, NB}}
use Rattle.rule_table.specs.declared.technology.Tech.{Tech}
use Rattle.cell_model.specs.{declared.cell.Nets.Nets, Sound.node_at}
use Rattle.sym_items.specs.declared.items.Item.{Item}
use Rattle.expand.specs.{declared.master.Master.Master, Items.nets_at, Masters.IsMaster}
use Rattle.list_facts.proofs.Elements.{all_at}
use Rattle.pair_rules.specs.Bound.{item_at, no_item}
use Rattle.plan_model.specs.{declared.plan.Plan.Plan, Plan.grids_of}
use Rattle.pitch_join.specs.Masters.{master_at, no_master}
use Rattle.instance_laws.{specs.{Planned.AreOfPlan, Sticks.is_transistor}, proofs.NetlistLists.Has}
use Rattle.box_pieces.specs.{declared.placing.Part.{Part, TheVariants.{Whole, Low, High}}, Places.parts_on}
use Rattle.design_nets.specs.declared.{instances.Instance.Instance, owners.OwnNet.OwnNet, pieces.Placed.Placed}
use Rattle.design_nets.specs.{declared.shapes.Shape.Shape, Instances.{instances_of, master_no}, Joining.IsOwn}
use Rattle.design_nets.specs.{Nets.{nets_no, AreNetsOfAll}, Pieces.{layer_shown, is_fet, part_net, placed}}
use Rattle.design_nets.specs.{Pieces.{parts_of_item, own_of, AreInstancePieces, IsShapeOf}, Shapes.shape_no}
use Rattle.design_nets.specs.Shapes.{AreShapesOf}
use Rattle.design_nets.proofs.{ItemNets.{HasNetBelow, AreBelow, node_below, items_below}, Placed.piece_is}

-- only transistors have a low and a high part
split_crossed : (layer : MaskLayer) (crossed : Bool) (part : Part) → Has (parts_on layer crossed) part
    → (part ≡ Whole → ⊥) → crossed ≡ true
split_crossed ND true part h ne = refl
split_crossed ND false part (inl e) ne = absurd (ne (sym e))
split_crossed ND false part (inr h) ne = absurd h
split_crossed NP crossed part (inl e) ne = absurd (ne (sym e))
split_crossed NP crossed part (inr h) ne = absurd h
split_crossed NM crossed part (inl e) ne = absurd (ne (sym e))
split_crossed NM crossed part (inr h) ne = absurd h
split_crossed NC crossed part h ne = absurd h
split_crossed NI crossed part h ne = absurd h
split_crossed NB crossed part h ne = absurd h

-- the net of a part
part_below : (tech : Tech) (masters : List Master) (nets : List Nets) (m n : ℕ) (part : Part)
    → All (IsMaster tech) masters → AreNetsOfAll masters nets → m < length masters
    → n < length (master_at masters m).items.list
    → Has (parts_of_item (master_at masters m) (item_at (master_at masters m).items.list n)) part
    → part_net (nets_no nets m) (item_at (master_at masters m).items.list n) part < (nets_no nets m).count
part_below tech masters nets m n part each are lt among has = by part has
  where
    node : (part : Part) → Has (parts_of_item (master_at masters m) (item_at (master_at masters m).items.list n)) part
        → (part ≡ Whole → ⊥)
        → AreBelow (nets_no nets m).count
        (nets_at (nets_no nets m).node (item_at (master_at masters m).items.list n).owner)
    node part has ne =
        let master : Master = master_at masters m in
        let item : Item = item_at master.items.list n in
        let crossed = split_crossed (layer_shown item.class) (is_fet master.cell item.owner) part has ne in
        let both = and_parts (nat_lt item.owner (length master.cell.nodes))
        (is_transistor (node_at master.cell.nodes item.owner).kind) crossed in
        node_below master.cell (nets_no nets m) (are.each m lt) item.owner
        (ltb-true item.owner (length master.cell.nodes) both.0)

    by : (part : Part) → Has (parts_of_item (master_at masters m) (item_at (master_at masters m).items.list n)) part
        → part_net (nets_no nets m) (item_at (master_at masters m).items.list n) part < (nets_no nets m).count
    by Whole has = all_at (HasNetBelow (nets_no nets m).count) (master_at masters m).items.list no_item n
        (items_below tech (master_at masters m) (nets_no nets m) (each m no_master lt) (are.each m lt)) among
    by Low has = (node Low has (λ e. cc)).low
    by High has = (node High has (λ e. cc)).high

pub owners_own : (tech : Tech) (plan : Plan) (masters : List Master) (nets : List Nets) (instances : List Instance)
    → AreOfPlan tech plan masters → AreNetsOfAll masters nets → (are : instances ≡ instances_of (grids_of plan))
    → (shapes : List Shape) (firsts : List ℕ) (made : AreShapesOf masters instances shapes firsts)
    (each : (k : ℕ) → k < length shapes → IsShapeOf masters instances (shape_no shapes k))
    → (pieces : List Placed) (starts : List ℕ) (all : AreInstancePieces masters nets instances shapes pieces starts)
    → All (IsOwn nets instances) (map own_of pieces)
owners_own tech plan masters nets instances planned of_all are shapes firsts made each pieces starts all =
    let none : OwnNet = record { instance = 0; net = 0 } in
    let empty : Placed = record { box_no = 0; part = Whole; own = none } in
    All-from_get_or (IsOwn nets instances) (map own_of pieces) none (λ i lt.
    (let few : i < length pieces = omega (arith, lt, length-map pieces own_of) in
    let piece : Placed = get_or pieces i empty in
    let x = piece_is plan masters nets instances are shapes firsts made each pieces starts all i piece
    (slice_get-get_or pieces i empty few) in
    let s = each x.k x.among in
    let m : ℕ = master_no instances (shape_no shapes x.k).instance in
    let below = part_below tech masters nets m (shape_no shapes x.k).item x.part planned.each of_all s.master s.item
    x.has in
    let here : IsOwn nets instances
    (placed (nets_no nets m) (item_at (master_at masters m).items.list (shape_no shapes x.k).item)
    (shape_no shapes x.k).instance x.k x.part).own = record { instance = s.instance; net = below } in
    let own : IsOwn nets instances piece.own = subst (λ (p : Placed). IsOwn nets instances p.own) (sym x.is) here in
    subst (IsOwn nets instances) (sym (get_or-map own_of pieces i empty none few)) own))
