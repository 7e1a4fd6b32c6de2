-- What is read of masters for the boxes of one more instance, and the pieces of one more box.
use Rattle.std.proofs.Common.{◌≡◌, ℕ, ◌<◌, ◌≤◌, List, length, map, get_or, sym, ap, ◌∙◌, arith}
use Rattle.std.{proofs.lemmas.List.{length-map, get_or-map, get_or_default}, specs.List.All}
use Rattle.cell_model.specs.declared.cell.Nets.{Nets}
use Rattle.expand.specs.declared.master.Master.{Master}
use Rattle.pair_rules.specs.Bound.{item_at}
use Rattle.pitch_join.specs.Masters.{master_at, no_master}
use Rattle.design_nets.specs.{declared.{instances.Instance.Instance, shapes.Shape.Shape}, Instances.no_instance}
use Rattle.design_nets.specs.{Instances.master_no, Nets.{no_nets, nets_no, AreNetsOfAll}, Pieces.{layer_shown, is_fet}}
use Rattle.design_nets.specs.{Pieces.{placed, parts_of_item, pieces_of_item, pieces_in}, Shapes.{shape, shape_no}}
use Rattle.design_nets.{specs.Shapes.{no_shape, drawn_in, shapes_in}, proofs.Counted.node_count}
use Rattle.box_pieces.proofs.BoxByBox.{parts_few}

-- ---- shapes

pub shapes_read : (masters : List Master) (drawn : List (List ℕ)) (instances : List Instance) (s : ℕ)
    (list some : List ℕ) → drawn ≡ map drawn_in masters → All (λ (i : Instance). i.master < length masters) instances
    → s < length instances → some ≡ get_or drawn (master_no instances s) some → list ≡ some
    → map (shape s) list ≡ shapes_in masters instances s
shapes_read masters drawn instances s list some are among lt is same =
    let m : ℕ = master_no instances s in
    ap (map (shape s))
    (same ∙ (is
    ∙ (ap (λ (ds : List (List ℕ)). get_or ds m some) are
    ∙ get_or-map drawn_in masters m no_master some (among s no_instance lt))))

-- ---- pieces

pub few_pieces : (master : Master) (nets : Nets) (box_no : ℕ) (one : Shape)
    → length (pieces_of_item master nets box_no one) ≤ 2
few_pieces master nets box_no one =
    let item = item_at master.items.list one.item in
    let few = parts_few (layer_shown item.class) (is_fet master.cell item.owner) in
    omega (arith, few, length-map (parts_of_item master item) (placed nets item one.instance box_no))

pub pieces_read : (masters : List Master) (nets : List Nets) (m : ℕ) (master : Master) (own : Nets)
    → AreNetsOfAll masters nets → m < length masters → master ≡ get_or masters m master → own ≡ get_or nets m own
    → (master ≡ master_at masters m) × (own ≡ nets_no nets m) × (length own.node ≡ length master.cell.nodes)
pieces_read masters nets m master own are lt read_master read_own =
    let counted = are.counted in
    let first : master ≡ master_at masters m = read_master ∙ get_or_default masters m master no_master lt in
    let second : own ≡ nets_no nets m = read_own ∙ get_or_default nets m own no_nets (omega (arith, lt, counted)) in
    let nodes = node_count (master_at masters m).cell (nets_no nets m) (are.each m lt) in (
      first,
      second,
      ap (λ (n : Nets). length n.node) second
          ∙ (nodes ∙ ap (λ (z : Master). length z.cell.nodes) (sym first)),
    )

pub pieces_same : (masters : List Master) (nets : List Nets) (instances : List Instance) (shapes : List Shape) (k : ℕ)
    (d : Shape) (master : Master) (own : Nets) → k < length shapes
    → master ≡ master_at masters (master_no instances (shape_no shapes k).instance)
    → own ≡ nets_no nets (master_no instances (shape_no shapes k).instance)
    → pieces_of_item master own k (get_or shapes k d) ≡ pieces_in masters nets instances shapes k
pieces_same masters nets instances shapes k d master own lt first second =
    ap (λ (z : Shape). pieces_of_item master own k z) (get_or_default shapes k d no_shape lt)
    ∙ (ap (λ (z : Master). pieces_of_item z own k (shape_no shapes k)) first
    ∙ ap (λ (n : Nets). pieces_of_item (master_at masters (master_no instances (shape_no shapes k).instance)) n k
    (shape_no shapes k)) second)
