-- The transistors of a plan, by the boxes of their diffusion.
use Rattle.std.proofs.{Common.{◌≡◌, ℕ, ◌<◌, true, List, length, filter, refl, arith}, lemmas.Bool.{and_parts, ltb-true}}
use Rattle.std.proofs.lemmas.List.Elements.{All-filter, filter_passes}
use Rattle.std.specs.{Prelude.nat_lt, List.{All, AllByRecursion, range_with_len}}
use Rattle.list_facts.proofs.Elements.{all_flat, all_map, all_numbers, all_of, by_number}
use Rattle.lam_geom.specs.declared.boxes.MaskLayer.TheVariants.{ND}
use Rattle.rule_table.specs.declared.technology.Tech.{Tech}
use Rattle.cell_model.specs.{declared.cell.{Cell.Cell, Nets.Nets}, Sound.node_at}
use Rattle.sym_items.specs.declared.items.Item.{Item}
use Rattle.expand.specs.declared.master.Master.{Master}
use Rattle.plan_model.specs.{declared.plan.Plan.Plan, Plan.grids_of}
use Rattle.pitch_join.specs.Masters.{master_at}
use Rattle.mask_out.specs.Masks.{is_drawn}
use Rattle.instance_laws.{specs.{Planned.AreOfPlan, Sticks.is_transistor}, proofs.NetlistPlaces.fet_kind}
use Rattle.design_nets.specs.declared.{fet_nodes.FetAt.FetAt, instances.Instance.Instance, shapes.Shape.Shape}
use Rattle.design_nets.specs.{declared.named_parts.CellPart.TheVariants.{Gate, Low, High}, Firsts.together}
use Rattle.design_nets.specs.{Instances.{instances_of, no_instance, master_no}, NamedLaws.HasPiece, NamedLines.IsFet}
use Rattle.design_nets.specs.{NamedNets.{shape_item, shows_fet, fet_shown, fets_of, all_fets}, NamedParts.cell_no}
use Rattle.design_nets.specs.{NamedParts.part_of, Nets.AreNetsOfAll, Pieces.{is_fet, IsShapeOf}, Shapes.drawn_in}
use Rattle.design_nets.specs.Shapes.{shape, shapes_in, no_shape}
use Rattle.design_nets.proofs.{HavePieces.fet_pieces, NodeItems.drawn_within}

-- ---- shapes that are transistors

module _ (masters : List Master) (instances : List Instance) where
  -- such a shape is of a node that is a transistor
  pub fet_node : (one : Shape) → IsShapeOf masters instances one → shows_fet masters instances one ≡ true
      → IsFet masters instances (fet_shown masters instances one)
  fet_node one is shows =
      let cell : Cell = cell_no masters instances one.instance in
      let item : Item = shape_item masters instances one in
      let both = and_parts (is_drawn ND item.class) (is_fet cell item.owner) shows in
      let fet = and_parts (nat_lt item.owner (length cell.nodes)) (is_transistor (node_at cell.nodes item.owner).kind)
      both.1 in
      record { instance = is.instance; master = is.master; node = ltb-true item.owner (length cell.nodes) fet.0 }

  pub record ShowsFet (one : Shape) : Type 0 where
    pub of : IsShapeOf masters instances one
    pub shows : shows_fet masters instances one ≡ true

  pub fets_shown : (shapes : List Shape) → All (IsShapeOf masters instances) shapes
      → All ShowsFet (filter (shows_fet masters instances) shapes)
  fets_shown shapes are k d lt =
      record {
        of = All-filter (shows_fet masters instances) (IsShapeOf masters instances) shapes are k d lt;
        shows = filter_passes (shows_fet masters instances) shapes k d lt;
      }

  pub fets_are : (shapes : List Shape) → All (IsShapeOf masters instances) shapes
      → AllByRecursion (IsFet masters instances) (fets_of masters instances shapes)
  fets_are shapes are =
      let kept : List Shape = filter (shows_fet masters instances) shapes in
      all_map (IsFet masters instances) (fet_shown masters instances) kept
      (by_number (λ one. IsFet masters instances (fet_shown masters instances one)) kept no_shape
      (λ k lt. (let h = fets_shown shapes are k no_shape lt in fet_node _ h.of h.shows)))

  -- all shapes
  pub shapes_there : All (λ (i : Instance). i.master < length masters) instances
      → AllByRecursion (IsShapeOf masters instances) (together (shapes_in masters instances) (length instances))
  shapes_there among =
      let n : ℕ = length instances in
      all_flat (IsShapeOf masters instances) (shapes_in masters instances) (range_with_len 0 n)
      (all_numbers (λ s. AllByRecursion (IsShapeOf masters instances) (shapes_in masters instances s)) 0 n (λ s le lt.
      (let here : s < n = omega (arith, lt) in
      let items : List Item = (master_at masters (master_no instances s)).items.list in
      let drawn : List ℕ = drawn_in (master_at masters (master_no instances s)) in
      all_map (IsShapeOf masters instances) (shape s) drawn
      (by_number (λ k. IsShapeOf masters instances (shape s k)) drawn 0
      (λ k within.
      record {
        instance = here;
        master = among s no_instance here;
        item = drawn_within items items drawn refl refl k 0 within;
      })))))

-- ---- their pieces

pub record HasPieces (plan : Plan) (masters : List Master) (nets : List Nets) (f : FetAt) : Type 0 where
  pub gate : HasPiece plan masters nets (instances_of (grids_of plan)) (part_of f.instance (Gate f.node))
  pub low : HasPiece plan masters nets (instances_of (grids_of plan)) (part_of f.instance (Low f.node))
  pub high : HasPiece plan masters nets (instances_of (grids_of plan)) (part_of f.instance (High f.node))

module _ (tech : Tech) (plan : Plan) (masters : List Master) (planned : AreOfPlan tech plan masters)
    (nets : List Nets) (all : AreNetsOfAll masters nets)
    (among : All (λ (i : Instance). i.master < length masters) (instances_of (grids_of plan))) where
  abbrev Instances : List Instance
  Instances = instances_of (grids_of plan)

  shape_pieces : (one : Shape) → ShowsFet masters Instances one
      → HasPieces plan masters nets (fet_shown masters Instances one)
  shape_pieces one h =
      let cell : Cell = cell_no masters Instances one.instance in
      let item : Item = shape_item masters Instances one in
      let both = and_parts (is_drawn ND item.class) (is_fet cell item.owner) h.shows in
      let fet = and_parts (nat_lt item.owner (length cell.nodes)) (is_transistor (node_at cell.nodes item.owner).kind)
      both.1 in
      let t = fet_kind (node_at cell.nodes item.owner).kind fet.1 in
      let r = fet_pieces tech plan masters planned nets all one.instance h.of.instance item.owner t.depletion t.gate
      t.w t.l (ltb-true item.owner (length cell.nodes) fet.0) t.is in
      record { gate = r.0; low = r.1; high = r.2 }

  pub fets_have_pieces : AllByRecursion (HasPieces plan masters nets) (all_fets masters Instances)
  fets_have_pieces =
      let shapes : List Shape = together (shapes_in masters Instances) (length Instances) in
      let are : All (IsShapeOf masters Instances) shapes =
      all_of (IsShapeOf masters Instances) shapes (shapes_there masters Instances among) in
      let kept : List Shape = filter (shows_fet masters Instances) shapes in
      all_map (HasPieces plan masters nets) (fet_shown masters Instances) kept
      (by_number (λ one. HasPieces plan masters nets (fet_shown masters Instances one)) kept no_shape
      (λ k lt. shape_pieces _ (fets_shown masters Instances shapes are k no_shape lt)))
