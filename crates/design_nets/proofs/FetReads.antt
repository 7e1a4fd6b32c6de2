-- What is read of a box of a diffusion, its instance's call, its master's items and the items of its nodes.
use Rattle.std.proofs.Common.{◌≡◌, ℕ, ◌+◌, ◌<◌, ◌^◌, pos, List, length, get_or, Some, refl, sym, ap, ◌∙◌, subst, arith}
use Rattle.std.{proofs.lemmas.{List.get_or_default, Option.slice_get-get_or}, specs.Prelude.{slice_get, slice_index}}
use Rattle.rule_table.specs.declared.technology.Tech.{Tech}
use Rattle.sym_items.specs.{declared.items.{Coords.Coords, Item.Item}, Boxes.HasBox, Layouts.layout_at, Sides.sides_in}
use Rattle.sym_items.specs.Sides.{sides_of}
use Rattle.pair_rules.specs.Bound.{item_at}
use Rattle.expand.specs.declared.master.Master.{Master}
use Rattle.plan_model.specs.{declared.plan.Plan.Plan, Plan.grids_of}
use Rattle.pitch_join.specs.Masters.{master_at, no_master}
use Rattle.instance_laws.specs.{Rules.shifted_sides, Meetings.{at, TransistorsHaveBoxes}, Shapes.sides_in_grains}
use Rattle.instance_laws.{specs.Sticks.IsTransistor, proofs.NetlistShapes.shown_below}
use Rattle.mask_out.specs.declared.drawing.Call.{Call}
use Rattle.crossing_model.specs.declared.crossing.Crossing.{Crossing}
use Rattle.design_nets.specs.declared.{instances.Instance.Instance, node_items.NodeItems.NodeItems, shapes.Shape.Shape}
use Rattle.design_nets.specs.{declared.{shapes.Shapes.Shapes, transistors.Fet.Fet}, Instances.instances_of}
use Rattle.design_nets.specs.{Instances.{no_instance, spot_no, master_no}, Shapes.{drawn_in, shape_no}}
use Rattle.design_nets.specs.Transistors.{AreItemsOfNodes, IsFetItem, IsLaidOut, LiesNear, cell_shown, item_shown}
use Rattle.design_nets.proofs.FetBoxes.{channel_within, polys_counted, channels_counted, poly_shown, channel_near}
use Rattle.design_nets.proofs.{FetBoxes.transistor_is, LaidOut.{instances_among, shape_seen, IsCalled, called}}
use Rattle.design_nets.proofs.{LaidOut.{calls_counted, has_box}, Shown.shapes_counted}

abbrev pub no_call : Call
no_call = record { symbol = 0; x = pos 0; y = pos 0 }

module _ (tech : Tech) (plan : Plan) (masters : List Master) (layouts : List Coords) (calls : List Call)
    (shapes : Shapes) (out : IsLaidOut tech plan masters layouts calls shapes) (k : ℕ)
    (lt : k < length shapes.all.items) where
  abbrev Instances : List Instance
  Instances = instances_of (grids_of plan)

  -- ---- the box, its instance and its master

  pub record IsSeen (one : Shape) : Type 0 where
    pub instance : one.instance < length calls
    pub first : one.instance < length shapes.firsts.items
    pub called : IsCalled tech plan masters layouts calls shapes out one.instance (get_or calls one.instance no_call)
    pub master : (get_or calls one.instance no_call).symbol < length masters
    pub item : one.item < length (master_at masters (get_or calls one.instance no_call).symbol).items.list

  pub seen : (one : Shape) → one ≡ shape_no shapes.all.items k → IsSeen one
  seen one e =
      let own : Shape = shape_no shapes.all.items k in
      let s = shape_seen tech plan masters layouts calls shapes out k lt in
      let call = called tech plan masters layouts calls shapes out own.instance no_call s.instance in
      let few = s.instance in
      let counted = out.shown.begins.counted in
      let here : IsSeen own = record {
        instance = omega (arith, few, calls_counted tech plan masters layouts calls shapes out);
        first = omega (arith, few, counted);
        called = call;
        master = subst (λ (m : ℕ). m < length masters) (sym call.symbol)
            (instances_among tech plan masters out.planned own.instance no_instance s.instance);
        item = subst (λ (m : ℕ). own.item < length (master_at masters m).items.list) (sym call.symbol) s.item;
      } in
      subst IsSeen (sym e) here

  -- ---- the items of its node

  module _ (laws : TransistorsHaveBoxes tech plan masters layouts) (fet : Fet)
      (is : IsFetItem (cell_shown plan masters shapes k) (item_shown plan masters shapes k) fet)
      (tables : List NodeItems) (found : AreItemsOfNodes masters tables) where
    pub record IsRead (one : Shape) (m : ℕ) (items : List Item) (own : NodeItems) : Type 0 where
      pub polys : (item_at items one.item).owner < length own.polys.items
      pub channels : (item_at items one.item).owner < length own.channels.items
      pub channel : slice_index own.channels.items (item_at items one.item).owner < length items
      pub few : slice_index shapes.firsts.items one.instance + slice_index own.polys.items
          (item_at items one.item).owner < 2 ^ 20
      pub has_box : HasBox (layout_at layouts m)
          (item_at items (slice_index own.channels.items (item_at items one.item).owner))
      pub near : LiesNear
          (sides_in (layout_at layouts m)
          (item_at items (slice_index own.channels.items (item_at items one.item).owner)))
      pub transistor : (c : Crossing)
          → c.poly ≡ slice_index shapes.firsts.items one.instance + slice_index own.polys.items
          (item_at items one.item).owner → c.diffusion ≡ k → c.axis ≡ fet.axis → c.depletion ≡ fet.depletion
          → sides_of c.channel ≡ sides_in_grains tech
          (shifted_sides (get_or calls one.instance no_call).x (get_or calls one.instance no_call).y
          (sides_in (layout_at layouts m)
          (item_at items
          (slice_index own.channels.items
          (item_at items one.item).owner)))) → IsTransistor tech plan masters layouts c

    abbrev Own : Shape
    Own = shape_no shapes.all.items k

    read_here : (own : NodeItems) → slice_get tables (master_no Instances Own.instance) ≡ Some own
        → IsRead Own (master_no Instances Own.instance)
        (master_at masters (master_no Instances Own.instance)).items.list own
    read_here own there =
        let s = shape_seen tech plan masters layouts calls shapes out k lt in
        let call = called tech plan masters layouts calls shapes out Own.instance no_call s.instance in
        let inside = channel_within tech plan masters layouts calls shapes out laws k lt fet is tables found own
        there in
        let node = is.node in
        let below =
        shown_below plan masters
        (slice_index shapes.firsts.items Own.instance + slice_index own.polys.items
        (item_shown plan masters shapes k).owner)
        (at (spot_no Instances Own.instance)
        (slice_index (drawn_in (master_at masters (master_no Instances Own.instance)))
        (slice_index own.polys.items (item_shown plan masters shapes k).owner)))
        (poly_shown tech plan masters layouts calls shapes out laws k lt fet is tables found own there) in
        let all = out.few in
        record {
          polys = omega (
            arith,
            node,
            polys_counted tech plan masters layouts calls shapes out laws k lt fet is tables
                found own there,
          );
          channels =
              omega (
                arith,
                node,
                channels_counted tech plan masters layouts calls shapes out laws k lt fet is tables
                    found own there,
              );
          channel = inside;
          few = omega (
            arith,
            below,
            all,
            shapes_counted plan masters Instances refl shapes.all.items
                shapes.firsts.items out.shown,
          );
          has_box = has_box tech plan masters layouts calls shapes out Own.instance
              (slice_index own.channels.items (item_shown plan masters shapes k).owner) s.instance inside;
          near = channel_near tech plan masters layouts calls shapes out laws k lt fet is tables found own there;
          transistor = λ c. transistor_is tech plan masters layouts calls shapes out laws k lt fet is tables found own
              there (get_or calls Own.instance no_call) c call;
        }

    pub read : (one : Shape) (m : ℕ) (other : Master) (items : List Item) (own none : NodeItems)
        → one ≡ shape_no shapes.all.items k → m ≡ (get_or calls one.instance no_call).symbol
        → items ≡ (get_or masters m other).items.list
        → own ≡ get_or tables m none → IsRead one m items own
    read one m other items own none e m_is items_are own_is =
        let sees = seen one e in
        let m_own : m ≡ master_no Instances Own.instance = m_is
        ∙ (sees.called.symbol ∙ ap (λ (o : Shape). master_no Instances o.instance) e) in
        let among : m < length masters = subst (λ (n : ℕ). n < length masters) (sym m_is) sees.master in
        let counted = found.counted in
        let there : slice_get tables m ≡ Some own = slice_get-get_or tables m none (omega (arith, among, counted))
        ∙ ap Some (sym own_is) in
        let are_items : items ≡ (master_at masters m).items.list = items_are
        ∙ ap (λ (z : Master). z.items.list) (get_or_default masters m other no_master among) in
        let here = read_here own (subst (λ (n : ℕ). slice_get tables n ≡ Some own) m_own there) in
        subst (λ (is : List Item). IsRead one m is own) (sym are_items)
        (subst (λ (n : ℕ). IsRead one n (master_at masters n).items.list own) (sym m_own)
        (subst (λ (o : Shape). IsRead o (master_no Instances Own.instance)
        (master_at masters (master_no Instances Own.instance)).items.list own) (sym e) here))
