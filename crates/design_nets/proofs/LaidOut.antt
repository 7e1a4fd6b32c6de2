-- What is read of a plan that is laid out: the call and the place of each instance, and that each item has a box.
use Rattle.std.proofs.Common.{◌≡◌, ℕ, ◌^◌, ◌<◌, pos, ◌≤ℤ◌, List, length, get_or, refl, sym, ap, ◌∙◌, subst, arith}
use Rattle.std.proofs.lemmas.{Int.ints, List.{length-map, get_or-map, Elements.All-from_get_or}}
use Rattle.std.{proofs.lemmas.Option.{slice_get_within, get_or_from_slice_get}, specs.List.All}
use Rattle.lam_geom.specs.declared.boxes.Axis.TheVariants.{X, Y}
use Rattle.rule_table.specs.{declared.technology.Tech.Tech, Technology.widest_of}
use Rattle.sym_items.specs.{declared.items.Coords.Coords, Boxes.HasBox, Layouts.{layout_at, size_in}}
use Rattle.pair_rules.specs.Bound.{item_at, no_item}
use Rattle.expand.specs.declared.master.Master.{Master}
use Rattle.plan_model.specs.{declared.plan.Plan.Plan, Instances.{InstancePlace, spots_of}, Plan.grids_of}
use Rattle.pitch_join.specs.Masters.{master_at, no_master}
use Rattle.instance_laws.{specs.Planned.AreOfPlan, proofs.Meeting.master_among}
use Rattle.mask_out.specs.{declared.drawing.Call.Call, Pictures.call_at}
use Rattle.design_nets.specs.{declared.{instances.Instance.Instance, shapes.Shapes.Shapes}, Instances.instance_at}
use Rattle.design_nets.specs.{Instances.{instances_of, no_instance, spot_no, master_no}, Pieces.IsShapeOf}
use Rattle.design_nets.{specs.{Shapes.shape_no, Transistors.IsLaidOut}, proofs.{Fets.shape_of, Spots.instance_stands}}

-- the instances are of masters
pub instances_among : (tech : Tech) (plan : Plan) (masters : List Master) → AreOfPlan tech plan masters
    → All (λ (i : Instance). i.master < length masters) (instances_of (grids_of plan))
instances_among tech plan masters planned =
    All-from_get_or (λ (i : Instance). i.master < length masters) (instances_of (grids_of plan)) no_instance (λ s lt.
    (let i = instance_stands (grids_of plan) (instances_of (grids_of plan)) s refl lt in
    let among = master_among tech plan masters (spot_no (instances_of (grids_of plan)) s) planned i.spot in
    subst (λ (m : ℕ). m < length masters) (sym i.master) among))

module _ (tech : Tech) (plan : Plan) (masters : List Master) (layouts : List Coords) (calls : List Call)
    (shapes : Shapes) (out : IsLaidOut tech plan masters layouts calls shapes) where
  abbrev Grids : List (List (List ℕ))
  Grids = grids_of plan

  abbrev Instances : List Instance
  Instances = instances_of (grids_of plan)

  pub shape_seen : (k : ℕ) → k < length shapes.all.items
      → IsShapeOf masters (instances_of (grids_of plan)) (shape_no shapes.all.items k)
  shape_seen k lt = shape_of masters Instances shapes.all.items shapes.firsts.items
      (instances_among tech plan masters out.planned) out.shown k lt

  -- ---- calls

  pub record IsCalled (s : ℕ) (call : Call) : Type 0 where
    pub is : call ≡ call_at (size_in X layouts) (size_in Y layouts) (widest_of tech) (grids_of plan)
        (spot_no (instances_of (grids_of plan)) s)
    pub symbol : call.symbol ≡ master_no (instances_of (grids_of plan)) s
    pub x : (pos 0 ≤ℤ call.x) × (call.x ≤ℤ pos (2 ^ 41))
    pub y : (pos 0 ≤ℤ call.y) × (call.y ≤ℤ pos (2 ^ 41))

  pub calls_counted : length calls ≡ length (instances_of (grids_of plan))
  calls_counted =
      ap (λ (cs : List Call). length cs) out.called
      ∙ (length-map (spots_of Grids) (call_at (size_in X layouts) (size_in Y layouts) (widest_of tech) Grids)
      ∙ sym (length-map (spots_of Grids) (instance_at Grids)))

  pub called : (s : ℕ) (d : Call) → s < length (instances_of (grids_of plan)) → IsCalled s (get_or calls s d)
  called s d lt =
      let call : InstancePlace → Call = call_at (size_in X layouts) (size_in Y layouts) (widest_of tech) Grids in
      let i = instance_stands Grids Instances s refl lt in
      let p : InstancePlace = spot_no Instances s in
      let there = i.there in
      let is : get_or calls s d ≡ call p =
      ap (λ (cs : List Call). get_or cs s d) out.called
      ∙ (get_or-map call (spots_of Grids) s p d (slice_get_within (spots_of Grids) s p there)
      ∙ ap call (get_or_from_slice_get (spots_of Grids) s p p there)) in
      let grid = out.drawable.across p.grid i.spot.grid in
      let col = i.spot.col in
      let row = i.spot.row in
      let across = (out.drawable.each p.grid i.spot.grid).across p.row i.spot.row p.col (omega (arith, col)) in
      let up = (out.drawable.each p.grid i.spot.grid).up p.row (omega (arith, row)) in
      let own : IsCalled s (call p) = record {
        is = refl;
        symbol = sym i.master;
        x = (omega (arith, ints, grid.0, across.0), omega (arith, ints, grid.1, across.1));
        y = (up.0, omega (arith, ints, up.1));
      } in
      subst (IsCalled s) (sym is) own

  -- ---- items

  pub has_box : (s n : ℕ) → s < length (instances_of (grids_of plan))
      → n < length (master_at masters (master_no (instances_of (grids_of plan)) s)).items.list
      → HasBox (layout_at layouts (master_no (instances_of (grids_of plan)) s))
      (item_at (master_at masters (master_no (instances_of (grids_of plan)) s)).items.list n)
  has_box s n lt among = out.boxes (master_no Instances s) no_master
      (instances_among tech plan masters out.planned s no_instance lt) n no_item among
