-- The transistor of which a box shows the diffusion, by its poly and its channel.
use Rattle.std.proofs.Common.{◌≡◌, ℕ, ◌+◌, ◌<◌, ℤ, ◌+ℤ◌, List, length, Some, refl, sym, ap, ◌∙◌, subst, arith, zero-add}
use Rattle.std.proofs.lemmas.{Int.{ints, clamps}, List.FromFn.{length-range_with_len, get_or-range_with_len}}
use Rattle.std.proofs.lemmas.Option.{slice_get-get_or}
use Rattle.std.specs.{Prelude.{slice_get, slice_index}, List.range_with_len, Int.{int_max, int_min}}
use Rattle.lam_geom.specs.declared.boxes.{Axis.{Axis, TheVariants.{X, Y}}, MaskLayer.TheVariants.NP}
use Rattle.rule_table.specs.declared.{technology.Tech.Tech, classes.Class.{Class, TheVariants.{P, Dm, G}}}
use Rattle.rule_table.specs.Technology.{widest_of}
use Rattle.cell_model.specs.declared.cell.Axis2.{Axis2, TheVariants.{Across, Up}}
use Rattle.cell_model.specs.declared.cell.NodeKind.TheVariants as kinds
use Rattle.sym_items.specs.{declared.items.{Coords.Coords, Item.Item}, Layouts.{layout_at, size_in}, Sides.Sides}
use Rattle.sym_items.specs.{Sides.{sides_in, sides_of}, Transposed.sides_along}
use Rattle.pair_rules.specs.Bound.{item_at}
use Rattle.expand.specs.declared.master.Master.{Master}
use Rattle.buried_contacts.specs.Contacts.{axis_along, common, kind_of}
use Rattle.plan_model.specs.{declared.plan.Plan.Plan, Instances.{InstancePlace, master_at_spot, left_of, bottom_of}}
use Rattle.plan_model.specs.Plan.{grids_of}
use Rattle.pitch_join.specs.Masters.{master_at}
use Rattle.instance_laws.specs.{Rules.{items_at, shifted_sides}, Conductors.{InstanceItem, sides_of_drawn}, Meetings.at}
use Rattle.instance_laws.specs.{Meetings.{IsOwned, IsTransistorAt, HasBoxes, TransistorsHaveBoxes}, Shapes.Shows}
use Rattle.instance_laws.specs.{Shapes.sides_in_grains, Sticks.IsTransistor}
use Rattle.instance_laws.proofs.{NetlistCross.channel_extents, NetlistShapes.{number, shown_below, one_item}}
use Rattle.mask_out.specs.declared.drawing.Call.{Call}
use Rattle.crossing_model.specs.{Boxes.{extent, other}, declared.crossing.Crossing.Crossing}
use Rattle.design_nets.specs.declared.{instances.Instance.Instance, node_items.NodeItems.NodeItems, shapes.Shape.Shape}
use Rattle.design_nets.specs.{declared.{shapes.Shapes.Shapes, transistors.Fet.Fet}, Instances.{instances_of, spot_no}}
use Rattle.design_nets.specs.{Instances.master_no, Shapes.{drawn_by, drawn_in, no_shape, shape_no}, Transistors.IsOf}
use Rattle.design_nets.specs.Transistors.{AreNodeItems, AreItemsOfNodes, IsFetItem, LiesNear, IsLaidOut, cell_shown}
use Rattle.design_nets.{specs.Transistors.item_shown, proofs.{Fets.shape_among, LaidOut.{shape_seen, IsCalled}}}
use Rattle.design_nets.proofs.{NodeItems.drawn_within, Shown.{own_items, shapes_counted, shape_shows, item_shows}}
use Rattle.design_nets.proofs.Spots.{number_of_spot, instance_stands}

-- a box that begins where another one does or past it, and ends where it does or before
sides_near : (x y : ℤ) (poly diffusion channel : Sides)
    → (x +ℤ channel.left) ≡ int_max (x +ℤ poly.left) (x +ℤ diffusion.left)
    → (x +ℤ channel.right) ≡ int_min (x +ℤ poly.right) (x +ℤ diffusion.right)
    → (y +ℤ channel.bottom) ≡ int_max (y +ℤ poly.bottom) (y +ℤ diffusion.bottom)
    → (y +ℤ channel.top) ≡ int_min (y +ℤ poly.top) (y +ℤ diffusion.top) → LiesNear poly → LiesNear channel
sides_near x y poly diffusion channel left right bottom top near =
    let low_x = near.left in
    let high_x = near.right in
    let low_y = near.bottom in
    let high_y = near.top in
    record {
      left = omega (arith, ints, clamps, left, low_x);
      right = omega (arith, ints, clamps, right, high_x);
      bottom = omega (arith, ints, clamps, bottom, low_y);
      top = omega (arith, ints, clamps, top, high_y);
    }

-- what poly and diffusion have in common lies where the poly does
common_near : (gate : Axis2) (x y : ℤ) (poly diffusion channel : Sides)
    → sides_along (axis_along gate) (shifted_sides x y channel)
    ≡ common (sides_along (axis_along gate) (shifted_sides x y poly))
    (sides_along (axis_along gate) (shifted_sides x y diffusion))
    → LiesNear poly → LiesNear channel
common_near Across x y poly diffusion channel shared near =
    let left : (x +ℤ channel.left) ≡ int_max (x +ℤ poly.left) (x +ℤ diffusion.left) =
    ap (λ (s : Sides). s.left) shared in
    let right : (x +ℤ channel.right) ≡ int_min (x +ℤ poly.right) (x +ℤ diffusion.right) =
    ap (λ (s : Sides). s.right) shared in
    let bottom : (y +ℤ channel.bottom) ≡ int_max (y +ℤ poly.bottom) (y +ℤ diffusion.bottom) =
    ap (λ (s : Sides). s.bottom) shared in
    let top : (y +ℤ channel.top) ≡ int_min (y +ℤ poly.top) (y +ℤ diffusion.top) = ap (λ (s : Sides). s.top) shared in
    sides_near x y poly diffusion channel left right bottom top near
common_near Up x y poly diffusion channel shared near =
    let left : (x +ℤ channel.left) ≡ int_max (x +ℤ poly.left) (x +ℤ diffusion.left) =
    ap (λ (s : Sides). s.bottom) shared in
    let right : (x +ℤ channel.right) ≡ int_min (x +ℤ poly.right) (x +ℤ diffusion.right) =
    ap (λ (s : Sides). s.top) shared in
    let bottom : (y +ℤ channel.bottom) ≡ int_max (y +ℤ poly.bottom) (y +ℤ diffusion.bottom) =
    ap (λ (s : Sides). s.left) shared in
    let top : (y +ℤ channel.top) ≡ int_min (y +ℤ poly.top) (y +ℤ diffusion.top) = ap (λ (s : Sides). s.right) shared in
    sides_near x y poly diffusion channel left right bottom top near

module _ (tech : Tech) (plan : Plan) (masters : List Master) (layouts : List Coords) (calls : List Call)
    (shapes : Shapes) (out : IsLaidOut tech plan masters layouts calls shapes)
    (laws : TransistorsHaveBoxes tech plan masters layouts) (k : ℕ) (lt : k < length shapes.all.items) (fet : Fet)
    (is : IsFetItem (cell_shown plan masters shapes k) (item_shown plan masters shapes k) fet) where
  abbrev Grids : List (List (List ℕ))
  Grids = grids_of plan

  abbrev Instances : List Instance
  Instances = instances_of (grids_of plan)

  -- its shape, and the number of its instance, and where that stands
  abbrev One : Shape
  One = shape_no shapes.all.items k

  abbrev S : ℕ
  S = (shape_no shapes.all.items k).instance

  abbrev Place : InstancePlace
  Place = spot_no (instances_of (grids_of plan)) (shape_no shapes.all.items k).instance

  abbrev M : ℕ
  M = master_no (instances_of (grids_of plan)) (shape_no shapes.all.items k).instance

  abbrev Own : Master
  Own = master_at masters (master_no (instances_of (grids_of plan)) (shape_no shapes.all.items k).instance)

  abbrev K : ℕ
  K = (item_shown plan masters shapes k).owner

  abbrev Gate : Axis2
  Gate = is.gate

  s_lt : S < length Instances
  s_lt = (shape_seen tech plan masters layouts calls shapes out k lt).instance

  m_is : M ≡ master_at_spot Grids Place
  m_is = (instance_stands Grids Instances S refl s_lt).master

  pub fet_there : IsTransistorAt plan masters
      (spot_no (instances_of (grids_of plan)) (shape_no shapes.all.items k).instance)
      (item_shown plan masters shapes k).owner fet.depletion is.gate is.w is.l
  fet_there = record {
    there = (instance_stands Grids Instances S refl s_lt).spot;
    node = subst (λ (m : ℕ). K < length (master_at masters m).cell.nodes) m_is is.node;
    kind = subst (λ (m : ℕ). kind_of (master_at masters m) K ≡ kinds.Fet fet.depletion is.gate is.w is.l) m_is is.kind;
  }

  boxes : HasBoxes tech plan masters layouts Place K is.gate is.w is.l
  boxes = laws Place K fet.depletion is.gate is.w is.l fet_there

  -- ---- items of the master, and of the instance

  same_items : items_at plan masters Place ≡ Own.items.list
  same_items = own_items plan masters Instances refl S s_lt

  record IsOwnedHere (class : Class) (n : ℕ) : Type 0 where
    among : n < length Own.items.list
    of_class : (item_at Own.items.list n).class ≡ class
    owned : (item_at Own.items.list n).owner ≡ K

  owned_here : (class : Class) (n : ℕ) → IsOwned plan masters class K (at Place n) → IsOwnedHere class n
  owned_here class n h = record {
    among = subst (λ (is : List Item). n < length is) same_items h.drawn.among;
    of_class = subst (λ (is : List Item). (item_at is n).class ≡ class) same_items h.of_class;
    owned = subst (λ (is : List Item). (item_at is n).owner ≡ K) same_items h.owned;
  }

  owned_there : (class : Class) (n : ℕ) → IsOwnedHere class n → IsOwned plan masters class K (at Place n)
  owned_there class n h = record {
    drawn = record {
      spot = fet_there.there;
      among = subst (λ (is : List Item). n < length is) (sym same_items) h.among;
    };
    of_class = subst (λ (is : List Item). (item_at is n).class ≡ class) (sym same_items) h.of_class;
    owned = subst (λ (is : List Item). (item_at is n).owner ≡ K) (sym same_items) h.owned;
  }

  -- an item of one of so many is one
  of_here : (among : List ℕ) (class : Class) (j n : ℕ) → j < length among → slice_index among j ≡ n
      → IsOwnedHere class n → IsOf Own.items.list among class K j
  of_here among class j n within e h = record {
    within = within;
    of_class = ap (λ (i : ℕ). (item_at Own.items.list i).class) e ∙ h.of_class;
    owned = ap (λ (i : ℕ). (item_at Own.items.list i).owner) e ∙ h.owned;
  }

  one_instance : (s : ℕ) → s < length Instances → spot_no Instances s ≡ Place → s ≡ S
  one_instance s among e =
      let i = instance_stands Grids Instances s refl among in
      let j = instance_stands Grids Instances S refl s_lt in
      i.number ∙ (ap (number_of_spot Grids) e ∙ sym j.number)

  -- the poly of the transistor is among the items that are boxes
  record IsPolyAt (j : ℕ) : Type 0 where
    within : j < length (drawn_in Own)
    item : slice_index (drawn_in Own) j ≡ boxes.poly

  poly_among : (j : ℕ) × IsPolyAt j
  poly_among =
      let poly : InstanceItem = at Place boxes.poly in
      let found = number plan masters poly NP boxes.is_poly.drawn boxes.is_poly.of_class in
      let below = shown_below plan masters found.0 poly found.1 in
      let few : found.0 < length shapes.all.items =
      omega (
        arith,
        below,
        shapes_counted plan masters Instances refl shapes.all.items shapes.firsts.items
            out.shown,
      ) in
      let other : Shape = shape_no shapes.all.items found.0 in
      let a = shape_among masters Instances shapes.all.items shapes.firsts.items out.shown found.0 few in
      let shows = shape_shows plan masters Instances refl shapes.all.items shapes.firsts.items out.shown found.0 other
      (slice_get-get_or shapes.all.items found.0 no_shape few) in
      let same : drawn_by Instances other ≡ poly =
      one_item plan masters found.0 (drawn_by Instances other) poly shows found.1 in
      let s_same = one_instance other.instance a.instance (ap (λ (d : InstanceItem). d.spot) same) in
      let n_same : other.item ≡ boxes.poly = ap (λ (d : InstanceItem). d.item) same in
      let lists : ℕ → List ℕ = λ s. drawn_in (master_at masters (master_no Instances s)) in (
        a.place,
        record {
          within = subst (λ (s : ℕ). a.place < length (lists s)) s_same a.within;
          item = subst (λ (s : ℕ). slice_index (lists s) a.place ≡ other.item) s_same a.item ∙ n_same;
        },
      )

  -- ---- what is found in the tables

  module _ (tables : List NodeItems) (found : AreItemsOfNodes masters tables) (own : NodeItems)
      (read : slice_get tables M ≡ Some own) where
    of_nodes : AreNodeItems Own own
    of_nodes = found.each M own read

    poly_of : IsOf Own.items.list (drawn_in Own) P K (slice_index own.polys.items K)
    poly_of =
        let p = poly_among in
        of_nodes.polys.each K p.0 is.node
        (of_here (drawn_in Own) P p.0 boxes.poly p.1.within p.1.item (owned_here P boxes.poly boxes.is_poly))

    every : (n : ℕ) → n < length Own.items.list → slice_index (range_with_len 0 (length Own.items.list)) n ≡ n
    every n among = get_or-range_with_len 0 (length Own.items.list) n 0 among ∙ zero-add n

    channel_of : IsOf Own.items.list (range_with_len 0 (length Own.items.list)) G K (slice_index own.channels.items K)
    channel_of =
        let h = owned_here G boxes.channel boxes.is_channel in
        let among = h.among in
        of_nodes.channels.each K boxes.channel is.node
        (of_here (range_with_len 0 (length Own.items.list)) G boxes.channel boxes.channel
        (omega (arith, among, length-range_with_len 0 (length Own.items.list))) (every boxes.channel among) h)

    pub channel_within : slice_index own.channels.items (item_shown plan masters shapes k).owner < length
        (master_at masters
        (master_no (instances_of (grids_of plan)) (shape_no shapes.all.items k).instance)).items.list
    channel_within =
        (let within = channel_of.within in omega (arith, within, length-range_with_len 0 (length Own.items.list)))

    pub polys_counted : length own.polys.items ≡ length (cell_shown plan masters shapes k).nodes
    polys_counted = of_nodes.polys.counted

    pub channels_counted : length own.channels.items ≡ length (cell_shown plan masters shapes k).nodes
    channels_counted = of_nodes.channels.counted

    poly_below : slice_index own.polys.items K < length (drawn_in Own)
        → slice_index (drawn_in Own) (slice_index own.polys.items K) < length Own.items.list
    poly_below within = drawn_within Own.items.list Own.items.list (drawn_in Own) refl refl
        (slice_index own.polys.items K) 0 within

    -- the poly's box
    pub poly_shown : Shows plan masters
        (slice_index shapes.firsts.items (shape_no shapes.all.items k).instance + slice_index own.polys.items
        (item_shown plan masters shapes k).owner)
        (at (spot_no (instances_of (grids_of plan)) (shape_no shapes.all.items k).instance)
        (slice_index
        (drawn_in
        (master_at masters
        (master_no (instances_of (grids_of plan))
        (shape_no shapes.all.items
        k).instance))) (slice_index own.polys.items (item_shown plan masters shapes k).owner)))
    poly_shown =
        item_shows plan masters Instances refl shapes.all.items shapes.firsts.items out.shown S
        (slice_index own.polys.items K) (slice_index (drawn_in Own) (slice_index own.polys.items K)) s_lt
        (slice_get-get_or (drawn_in Own) (slice_index own.polys.items K) 0 poly_of.within)

    -- ---- the channel

    channel_there : IsOwned plan masters G K (at Place (slice_index own.channels.items K))
    channel_there =
        let channel : ℕ = slice_index own.channels.items K in
        let g = channel_of in
        let same : slice_index (range_with_len 0 (length Own.items.list)) channel ≡ channel =
        every channel channel_within in
        owned_there G channel (record {
          among = channel_within;
          of_class = ap (λ (n : ℕ). (item_at Own.items.list n).class) (sym same) ∙ g.of_class;
          owned = ap (λ (n : ℕ). (item_at Own.items.list n).owner) (sym same) ∙ g.owned;
        })

    channel_is : slice_index own.channels.items K ≡ boxes.channel
    channel_is = boxes.one_channel (slice_index own.channels.items K) channel_there

    -- it lies near, as the poly does
    pub channel_near : LiesNear
        (sides_in
        (layout_at layouts (master_no (instances_of (grids_of plan)) (shape_no shapes.all.items k).instance))
        (item_at
        (master_at masters
        (master_no (instances_of (grids_of plan)) (shape_no shapes.all.items k).instance)).items.list (slice_index
        own.channels.items (item_shown plan masters shapes k).owner)))
    channel_near =
        let at_spot : ℕ = master_at_spot Grids Place in
        let there : ℕ → ℕ → Sides =
        λ m n. sides_in (layout_at layouts m) (item_at (master_at masters m).items.list n) in
        let p = poly_among in
        let within : p.0 < length (drawn_in (master_at masters at_spot)) =
        subst (λ (m : ℕ). p.0 < length (drawn_in (master_at masters m))) m_is p.1.within in
        let poly_place : slice_index (drawn_in (master_at masters at_spot)) p.0 ≡ boxes.poly =
        subst (λ (m : ℕ). slice_index (drawn_in (master_at masters m)) p.0 ≡ boxes.poly) m_is p.1.item in
        let poly : LiesNear (there at_spot boxes.poly) =
        subst (λ (n : ℕ). LiesNear (there at_spot n)) poly_place (out.near Place fet_there.there p.0 0 within) in
        let here : LiesNear (there at_spot boxes.channel) =
        common_near Gate (left_of (size_in X layouts) (widest_of tech) Grids Place)
        (bottom_of (size_in Y layouts) Grids Place) (there at_spot boxes.poly) (there at_spot boxes.diffusion)
        (there at_spot boxes.channel)
        boxes.cross.shared poly in
        subst (λ (m : ℕ). LiesNear (there m (slice_index own.channels.items K))) (sym m_is)
        (subst (λ (n : ℕ). LiesNear (there at_spot n)) (sym channel_is) here)

    -- ---- the transistor

    pub transistor_is : (call : Call) (c : Crossing) → IsCalled tech plan masters layouts calls shapes out S call
        → c.poly ≡ slice_index shapes.firsts.items (shape_no shapes.all.items k).instance + slice_index
        own.polys.items (item_shown plan masters shapes k).owner → c.diffusion ≡ k → c.axis ≡ fet.axis
        → c.depletion ≡ fet.depletion
        → sides_of c.channel ≡ sides_in_grains tech
        (shifted_sides call.x call.y
        (sides_in
        (layout_at layouts (master_no (instances_of (grids_of plan)) (shape_no shapes.all.items k).instance))
        (item_at
        (master_at masters
        (master_no (instances_of (grids_of plan)) (shape_no shapes.all.items k).instance)).items.list (slice_index
        own.channels.items (item_shown plan masters shapes k).owner))))
        → IsTransistor tech plan masters layouts c
    transistor_is call c calls_it poly_no diffusion_no runs kind there =
        let poly : ℕ = slice_index (drawn_in Own) (slice_index own.polys.items K) in
        let channel : ℕ = slice_index own.channels.items K in
        let p = poly_of in
        let seen = shape_seen tech plan masters layouts calls shapes out k lt in
        let poly_among_items = poly_below p.within in
        let is_poly =
        owned_there P poly (record { among = poly_among_items; of_class = p.of_class; owned = p.owned }) in
        let is_diffusion =
        owned_there Dm One.item (record { among = seen.item; of_class = is.diffusion; owned = refl }) in
        let same_channel : channel ≡ boxes.channel = channel_is in
        let lies : sides_of c.channel ≡ sides_in_grains tech
        (sides_of_drawn tech plan masters layouts (at Place channel)) =
        there ∙ (ap
        (λ (z : Call).
        sides_in_grains tech
        (shifted_sides z.x z.y (sides_in (layout_at layouts M) (item_at Own.items.list channel)))) calls_it.is
        ∙ (ap (λ (m : ℕ).
        sides_in_grains tech
        (shifted_sides (left_of (size_in X layouts) (widest_of tech) Grids Place)
        (bottom_of (size_in Y layouts) Grids Place)
        (sides_in (layout_at layouts m) (item_at (master_at masters m).items.list channel)))) m_is)) in
        let at_box : sides_of c.channel ≡ sides_in_grains tech
        (sides_of_drawn tech plan masters layouts (at Place boxes.channel)) =
        lies ∙ ap (λ (n : ℕ). sides_in_grains tech (sides_of_drawn tech plan masters layouts (at Place n)))
        same_channel in
        let long = channel_extents tech is.gate is.w is.l
        (sides_of_drawn tech plan masters layouts (at Place boxes.poly))
        (sides_of_drawn tech plan masters layouts (at Place boxes.diffusion))
        (sides_of_drawn tech plan masters layouts (at Place boxes.channel))
        c.channel boxes.cross at_box in
        let along : c.axis ≡ axis_along is.gate = runs ∙ is.runs in
        let shows = shape_shows plan masters Instances refl shapes.all.items shapes.firsts.items out.shown k One
        (slice_get-get_or shapes.all.items k no_shape lt) in
        record {
          spot = Place;
          k = K;
          depletion = fet.depletion;
          gate = is.gate;
          w = is.w;
          l = is.l;
          transistor = fet_there;
          poly = poly;
          diffusion = One.item;
          channel = channel;
          is_poly = is_poly;
          is_diffusion = is_diffusion;
          is_channel = channel_there;
          shows_poly = subst (λ (n : ℕ). Shows plan masters n (at Place poly)) (sym poly_no) poly_shown;
          shows_diffusion = subst (λ (n : ℕ). Shows plan masters n (at Place One.item)) (sym diffusion_no) shows;
          runs = along;
          there = lies;
          kind = kind;
          wide = ap (λ (a : Axis). extent a c.channel) along ∙ long.0;
          long = ap (λ (a : Axis). extent (other a) c.channel) along ∙ long.1;
        }
