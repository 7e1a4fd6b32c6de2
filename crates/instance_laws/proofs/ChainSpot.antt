-- Conductors of one instance: those of one part are linked, and so are a wire's and that of the node at which it ends.
use Rattle.std.proofs.Common.{◌≡◌, ◌≢◌, ℕ, suc, ◌<◌, ℤ, pos, ◌+ℤ◌, ◌*ℤ◌, ◌≤ℤ◌, ◌<ℤ◌, Bool, List, length, refl, sym, ap}
use Rattle.std.{proofs.{Common.{◌∙◌, subst, arith, inl}, lemmas.Int.{ints, clamps}}, specs.Prelude.neg_ℤ}
use Rattle.lam_geom.specs.{declared.boxes.Axis.{Axis, TheVariants.X}, Gaps.gap_between}
use Rattle.rule_table.specs.declared.{technology.Tech.Tech, classes.{Class.{Class, TheVariants.{M, C}}, Layer.Layer}}
use Rattle.rule_table.specs.declared.classes.Layer.TheVariants.{Diffusion, Poly, Metal}
use Rattle.rule_table.specs.Technology.{numbers_of, pad_of, widest_of}
use Rattle.sym_items.specs.{declared.items.{Coords.Coords, Item.Item, Items.Items}, Layouts.size_in, Sides.gap_of_sides}
use Rattle.sym_items.specs.Standing.{nowhere}
use Rattle.cell_model.specs.declared.cell.{NodeKind.{NodeKind, TheVariants.{Joint, Contact, Buried, Fet}}, Cell.Cell}
use Rattle.cell_model.specs.{declared.cell.Nets.Nets, Sound.{node_at, wire_at, IsKind}}
use Rattle.cell_model.specs.declared.cell.WireEnd.TheVariants as ends
use Rattle.pair_rules.specs.Bound.{item_at}
use Rattle.expand.specs.{declared.master.Master.Master, Masters.IsMaster, NodeItems.{item_running, square_round}}
use Rattle.expand.specs.{NodeItems.kind_items, Items.{nets_at, items_of_node, items_of_wire, item_list}, Variables.half}
use Rattle.expand.proofs.{Among.{half_pad, sound_numbers}, Cells.node_sound}
use Rattle.buried_contacts.{specs.Contacts.axis_along, proofs.Owners.{run_of, wire_box}}
use Rattle.plan_model.specs.{declared.plan.Plan.Plan, Instances.{InstancePlace, IsInstancePlace, master_at_spot}}
use Rattle.plan_model.specs.Plan.{grids_of}
use Rattle.instance_laws.specs.{Rules.{sides_at_spot, items_at}, Conductors.{InstanceItem, IsInstanceItem, item_of}}
use Rattle.instance_laws.specs.Conductors.{gap_of_drawn, Conducts, IsConductor, AreOfOneBox, AreLinked, by_touch}
use Rattle.instance_laws.{specs.Conductors.{by_cut, by_contact}, proofs.Gaps.{IsDone, values_at}}
use Rattle.instance_laws.proofs.{Meeting.{master_among, master_is}, OnBorder.{other, wire_end}, Pairs.master_of}
use Rattle.instance_laws.proofs.{Places.low_of, ChainConductors.{class_on, home_on, home_within, home_is}}
use Rattle.instance_laws.proofs.{ChainConductors.{class_conducts, IsPair}, ChainPlaces.{StandsAtPlace, place_of_node}}
use Rattle.instance_laws.proofs.{ChainPlaces.{place_of_wire, node_item_stands, wire_item_stands}, ChainTouch.touches}
use Rattle.instance_laws.proofs.ChainTouch.{overlaps, item_met, along_meets, across_meets}

-- item number i of an instance
abbrev pub drawn_at : InstancePlace → ℕ → InstanceItem
drawn_at p i = record { spot = p; item = i }

-- an item of an instance is this one
pub record IsAt (plan : Plan) (masters : List Master) (a : InstanceItem) (item : Item) : Type 0 where
  pub drawn : IsInstanceItem plan masters a
  pub is : item_of plan masters a ≡ item

pub conductor_at : (plan : Plan) (masters : List Master) (a : InstanceItem) (item : Item) → IsAt plan masters a item
    → Conducts item.class → IsConductor plan masters a
conductor_at plan masters a item h c =
    record { drawn = h.drawn; conducts = subst (λ (i : Item). Conducts i.class) (sym h.is) c }

gap_at_items : (tech : Tech) (plan : Plan) (masters : List Master) (layouts : List Coords) (a b : InstanceItem)
    (x y : Item) → IsAt plan masters a x → IsAt plan masters b y
    → gap_of_sides (sides_at_spot tech plan layouts a.spot x) (sides_at_spot tech plan layouts b.spot y)
    ≡ gap_of_drawn tech plan masters layouts a b
gap_at_items tech plan masters layouts a b x y at_a at_b =
    ap (λ (i : Item). gap_of_sides (sides_at_spot tech plan layouts a.spot i)
    (sides_at_spot tech plan layouts b.spot y)) (sym at_a.is)
    ∙ ap (λ (i : Item). gap_of_sides (sides_at_spot tech plan layouts a.spot (item_of plan masters a))
    (sides_at_spot tech plan layouts b.spot i)) (sym at_b.is)

-- items of one class that touch are linked
pub touch_linked : (tech : Tech) (plan : Plan) (masters : List Master) (layouts : List Coords) (a b : InstanceItem)
    (x y : Item) → IsAt plan masters a x → IsAt plan masters b y → (AreOfOneBox plan masters a b → ⊥)
    → x.class ≡ y.class
    → gap_of_sides (sides_at_spot tech plan layouts a.spot x) (sides_at_spot tech plan layouts b.spot y) ≤ℤ pos 0
    → AreLinked tech plan masters layouts a b
touch_linked tech plan masters layouts a b x y at_a at_b differ class touch =
    by_touch differ (ap (λ (i : Item). i.class) at_a.is ∙ (class ∙ sym (ap (λ (i : Item). i.class) at_b.is)))
    (subst (λ z. z ≤ℤ pos 0) (gap_at_items tech plan masters layouts a b x y at_a at_b) touch)

-- two squares round one centre overlap
squares_overlap : (tech : Tech) (plan : Plan) (layouts : List Coords) (p : InstancePlace) (k : ℕ) (c d : Class)
    (m n : ℕ) (s t : ℤ) → pos 0 ≤ℤ s → pos 1 ≤ℤ t
    → gap_of_sides (sides_at_spot tech plan layouts p (square_round k c m s))
    (sides_at_spot tech plan layouts p (square_round k d n t)) <ℤ pos 0
squares_overlap tech plan layouts p k c d m n s t low positive =
    overlaps X tech plan layouts p p (square_round k c m s) (square_round k d n t) (round _ _ s t low positive)
    (round _ _ s t low positive)
  where
    round : (o c s t : ℤ) → pos 0 ≤ℤ s → pos 1 ≤ℤ t
        → gap_between (o +ℤ (c +ℤ neg_ℤ s)) (o +ℤ (c +ℤ s)) (o +ℤ (c +ℤ neg_ℤ t)) (o +ℤ (c +ℤ t)) <ℤ pos 0
    round o c s t low positive = omega (arith, ints, clamps, low, positive)

module _ (tech : Tech) (plan : Plan) (masters : List Master) (layouts : List Coords)
    (done : IsDone tech plan masters layouts) (p : InstancePlace) (at_p : IsInstancePlace (grids_of plan) p) where
  abbrev pub master_here : Master
  master_here = master_of plan masters p

  abbrev pub cell_here : Cell
  cell_here = master_here.cell

  abbrev pub is_master : IsMaster tech master_here
  is_master = master_is tech plan masters p done.planned at_p

  abbrev pub nets_here : Nets
  nets_here = is_master.items.nets

  -- the gap of two items of the instance
  abbrev pub gap_here : Item → Item → ℤ
  gap_here a b = gap_of_sides (sides_at_spot tech plan layouts p a) (sides_at_spot tech plan layouts p b)

  -- ---- a wire and a node

  pub wire_touches : (w : ℕ) (is_low : Bool) (k : ℕ) → (lt : w < length cell_here.wires)
      → (e : wire_end is_low (wire_at cell_here.wires w) ≡ ends.Node k)
      → gap_here (wire_box tech cell_here nets_here w (class_on (wire_at cell_here.wires w).layer))
      (item_at (items_of_node tech cell_here nets_here k)
      (item_met tech master_here nets_here w is_low k is_master lt e).r) ≤ℤ pos 0
  wire_touches w is_low k lt e =
      let axis : Axis = axis_along (wire_at cell_here.wires w).along in
      let among = master_among tech plan masters p done.planned at_p in
      touches axis tech plan layouts p p _ _
      (along_meets tech master_here is_master w is_low k lt e
      (low_of axis (size_in axis layouts) (widest_of tech) (grids_of plan) p) (values_at axis plan layouts p)
      ((done.finished.meet axis).structures (master_at_spot (grids_of plan) p) among))
      (across_meets tech master_here is_master w is_low k lt e
      (low_of (other axis) (size_in (other axis) layouts) (widest_of tech) (grids_of plan) p)
      (values_at (other axis) plan layouts p)
      ((done.finished.meet (other axis)).structures (master_at_spot (grids_of plan) p) among))

  -- ---- where conductors stand

  -- what stands in the list of the cell stands in that of the instance
  at_place : (i : ℕ) (item : Item) → StandsAtPlace (item_list tech cell_here nets_here) i item
      → IsAt plan masters (drawn_at p i) item
  at_place i item h =
      let there : StandsAtPlace (items_at plan masters p) i item =
      subst (λ (items : Items). StandsAtPlace items.list i item) (sym is_master.items.are) h in
      record { drawn = record { spot = at_p; among = there.among }; is = there.read }

  pub node_drawn : (k r : ℕ) → k < length cell_here.nodes → r < length (items_of_node tech cell_here nets_here k)
      → IsAt plan masters (drawn_at p (place_of_node tech cell_here nets_here k r))
      (item_at (items_of_node tech cell_here nets_here k) r)
  node_drawn k r lt within =
      at_place (place_of_node tech cell_here nets_here k r) _
      (node_item_stands tech cell_here nets_here k r lt within)

  -- the same where the kind of the node is known
  kind_drawn : (k r : ℕ) (kind : NodeKind) → k < length cell_here.nodes → (node_at cell_here.nodes k).kind ≡ kind
      → r < length (kind_items tech k kind (nets_at nets_here.node k))
      → IsAt plan masters (drawn_at p (place_of_node tech cell_here nets_here k r))
      (item_at (kind_items tech k kind (nets_at nets_here.node k)) r)
  kind_drawn k r kind lt is within =
      let P : NodeKind → Type 0 =
      λ kind. (r < length (kind_items tech k kind (nets_at nets_here.node k))
      → IsAt plan masters (drawn_at p (place_of_node tech cell_here nets_here k r))
      (item_at (kind_items tech k kind (nets_at nets_here.node k)) r)) in
      subst P is (node_drawn k r lt) within

  pub wire_item_drawn : (w r : ℕ) → w < length cell_here.wires → r < length (items_of_wire tech cell_here nets_here w)
      → IsAt plan masters (drawn_at p (place_of_wire tech cell_here nets_here w r))
      (item_at (items_of_wire tech cell_here nets_here w) r)
  wire_item_drawn w r lt within =
      at_place (place_of_wire tech cell_here nets_here w r) _
      (wire_item_stands tech cell_here nets_here w r lt within)

  -- the box of a wire that conducts
  abbrev pub wire_place : ℕ → InstanceItem
  wire_place w = drawn_at p (place_of_wire tech cell_here nets_here w (home_on (wire_at cell_here.wires w).layer))

  pub wire_drawn : (w : ℕ) → w < length cell_here.wires
      → IsAt plan masters (wire_place w)
      (wire_box tech cell_here nets_here w (class_on (wire_at cell_here.wires w).layer))
  wire_drawn w lt =
      let layer : Layer = (wire_at cell_here.wires w).layer in
      let run : Item = item_running (wire_at cell_here.wires w).along (run_of tech cell_here nets_here w) in
      let h = wire_item_drawn w (home_on layer) lt (home_within layer run) in
      record { drawn = h.drawn; is = h.is ∙ home_is layer run }

  pub wire_conductor : (w : ℕ) → w < length cell_here.wires → IsConductor plan masters (wire_place w)
  wire_conductor w lt = conductor_at plan masters (wire_place w) _ (wire_drawn w lt)
      (class_conducts (wire_at cell_here.wires w).layer)

  -- ---- items of one part

  abbrev pub node_place : ℕ → ℕ → InstanceItem
  node_place k r = drawn_at p (place_of_node tech cell_here nets_here k r)

  contact_linked : (k : ℕ) (lower : Layer) → k < length cell_here.nodes
      → (node_at cell_here.nodes k).kind ≡ Contact lower
      → AreLinked tech plan masters layouts (node_place k 0) (node_place k (suc (suc (home_on lower))))
  contact_linked k lower lt is =
      let net : ℕ = (nets_at nets_here.node k).main in
      let pad : ℤ = half (pad_of tech) in
      let cut_side : ℤ = half (numbers_of tech).cut_size in
      let within = home_within lower (square_round k M net pad) in
      let metal : IsAt plan masters (node_place k 0) (square_round k M net pad) =
      kind_drawn k 0 (Contact lower) lt is (omega arith) in
      let cut : IsAt plan masters (node_place k 1) (square_round k C net cut_side) =
      kind_drawn k 1 (Contact lower) lt is (omega arith) in
      let low = kind_drawn k (suc (suc (home_on lower))) (Contact lower) lt is (omega (arith, within)) in
      let lower_at : IsAt plan masters (node_place k (suc (suc (home_on lower))))
      (square_round k (class_on lower) net pad) =
      record { drawn = low.drawn; is = low.is ∙ home_is lower (square_round k M net pad) } in
      let size = (sound_numbers tech).cut_size in
      let even : (pos 2 *ℤ cut_side) ≡ (numbers_of tech).cut_size = size.even in
      let least = size.low in
      let positive : pos 1 ≤ℤ cut_side = omega (arith, ints, even, least) in
      let not_metal : lower ≡ Metal → ⊥ =
      subst (IsKind tech) is (node_sound tech cell_here k is_master.sound lt).kind in
      by_cut (node_place k 1)
      (λ one. other_class lower not_metal (sym (ap (λ (i : Item). i.class) metal.is)
      ∙ (one.class ∙ ap (λ (i : Item). i.class) lower_at.is))) cut.drawn (ap (λ (i : Item). i.class) cut.is)
      (subst (λ z. z <ℤ pos 0)
      (gap_at_items tech plan masters layouts (node_place k 0) (node_place k 1) _ _ metal cut)
      (squares_overlap tech plan layouts p k M C net net pad cut_side (half_pad tech).0 positive))
      (subst (λ z. z <ℤ pos 0)
      (gap_at_items tech plan masters layouts (node_place k (suc (suc (home_on lower)))) (node_place k 1) _ _
      lower_at cut) (squares_overlap tech plan layouts p k (class_on lower) C net net pad cut_side
      (half_pad tech).0 positive))
    where
      other_class : (lower : Layer) → (lower ≡ Metal → ⊥) → M ≡ class_on lower → ⊥
      other_class Metal not_metal e = not_metal refl
      other_class Poly not_metal e = absurd cc
      other_class Diffusion not_metal e = absurd cc

  buried_linked : (k : ℕ) → k < length cell_here.nodes → (node_at cell_here.nodes k).kind ≡ Buried
      → AreLinked tech plan masters layouts (node_place k 0) (node_place k 2)
  buried_linked k lt is =
      let poly = kind_drawn k 0 Buried lt is (omega arith) in
      let diffusion = kind_drawn k 2 Buried lt is (omega arith) in
      let light = is_master.light in
      let some : k ≢ nowhere = λ e. omega (arith, lt, light, e) in
      by_contact (record {
        spot = refl;
        poly = ap (λ (i : Item). i.class) poly.is;
        diffusion = ap (λ (i : Item). i.class) diffusion.is;
        together = (
          k,
          (some, inl (ap (λ (i : Item). i.at_low) poly.is)),
          (some, inl (ap (λ (i : Item). i.at_low) diffusion.is)),
        );
      })

  pub pair_linked : (k r s : ℕ) (kind : NodeKind) → k < length cell_here.nodes
      → (node_at cell_here.nodes k).kind ≡ kind → IsPair kind r s
      → AreLinked tech plan masters layouts (node_place k r) (node_place k s)
  pair_linked k r s (Joint layer width) lt is h = absurd h
  pair_linked k r s (Contact lower) lt is h =
      subst (λ (n : ℕ). AreLinked tech plan masters layouts (node_place k n) (node_place k s)) (sym h.0)
      (subst (λ (n : ℕ). AreLinked tech plan masters layouts (node_place k 0) (node_place k n)) (sym h.1)
      (contact_linked k lower lt is))
  pair_linked k r s Buried lt is h =
      subst (λ (n : ℕ). AreLinked tech plan masters layouts (node_place k n) (node_place k s)) (sym h.0)
      (subst (λ (n : ℕ). AreLinked tech plan masters layouts (node_place k 0) (node_place k n)) (sym h.1)
      (buried_linked k lt is))
  pair_linked k r s (Fet depletion gate w l) lt is h = absurd h
