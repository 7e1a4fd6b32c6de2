-- Conductors of one net of the sticks are connected: within an instance by its cell, and from one to the next by the
-- wires of ports that meet.
use Rattle.std.proofs.Common.{◌≡◌, ℕ, ◌<◌, ℤ, pos, ◌+ℤ◌, ◌≤ℤ◌, List, length, refl, sym, ap, ◌∙◌, arith}
use Rattle.std.{proofs.lemmas.Int.{ints, clamps}, specs.Prelude.{neg_ℤ, slice_index}}
use Rattle.lam_geom.specs.{declared.boxes.Axis.{Axis, TheVariants.{X, Y}}, Gaps.gap_between}
use Rattle.rule_table.specs.{declared.technology.Tech.Tech, Technology.widest_of}
use Rattle.sym_items.specs.{declared.items.{Coords.Coords, Item.Item}, Layouts.size_in, Values.end_under}
use Rattle.cell_model.specs.declared.cell.{Cell.Cell, CellPort.CellPort, Nets.Nets, Wire.Wire, WireEnd.WireEnd}
use Rattle.cell_model.specs.Sound.{wire_at}
use Rattle.cell_nets.proofs.Determined.{nets_same}
use Rattle.expand.specs.{declared.master.Master.Master, Masters.IsMaster, Variables.{half, cross_of}}
use Rattle.expand.{specs.WireItems.low_end_of, proofs.{Among.half_size, Cells.wire_sound}}
use Rattle.buried_contacts.proofs.Owners.{run_of, wire_box}
use Rattle.plan_model.specs.{declared.plan.Plan.Plan, GridNets.{MeetAt, net_of_port, IsOneNet, the_same, met_before}}
use Rattle.plan_model.specs.{GridNets.met_after, Instances.{InstancePlace, IsInstancePlace, master_at_spot}}
use Rattle.plan_model.specs.Plan.{grids_of}
use Rattle.pitch_join.specs.Masters.{ports_of_masters}
use Rattle.instance_laws.specs.{Rules.AreNetsOf, Conductors.{InstanceItem, item_of, IsConductor, AreLinked}}
use Rattle.instance_laws.specs.Conductors.{AreConnected, NetsAreConnected}
use Rattle.instance_laws.proofs.{AtPorts.{net_of_box, lies_along, ends_on_border, low_side, high_side}, Gaps.IsDone}
use Rattle.instance_laws.proofs.{Gaps.{IsItemAt, values_at, gap_at, grids_laid, lies_there}, InCell.low_in}
use Rattle.instance_laws.proofs.{Meeting.{master_among, master_is}, OnBorder.{runs_along, other, LiesAsRun, box_among}}
use Rattle.instance_laws.proofs.{Pairs.master_of, Places.{place_of, low_of, stands_level}, ChainCell.net_connected}
use Rattle.instance_laws.proofs.{ChainConductors.{class_on, class_has}, ChainLinks.{linked_back, connected_one}}
use Rattle.instance_laws.proofs.{ChainLinks.connected_then, ChainPorts.{AreBeside, are_beside, IsNext, is_next}}
use Rattle.instance_laws.proofs.{ChainPorts.begins_after, ChainSpot.{drawn_at, touch_linked, wire_place, wire_drawn}}
use Rattle.instance_laws.proofs.{ChainSpot.wire_conductor, ChainTouch.{touches, gap_like}}

-- ---- the wires of two ports that meet

-- along their run: the one ends on the far border of its cell, and the other begins on the origin of the next
ends_touch : (o r size la ha lb hb : ℤ) → r ≡ (o +ℤ size) → ha ≡ size → lb ≡ pos 0 → la ≤ℤ ha → lb ≤ℤ hb
    → gap_between (o +ℤ la) (o +ℤ ha) (r +ℤ lb) (r +ℤ hb) ≤ℤ pos 0
ends_touch o r size la ha lb hb after far near first second =
    omega (arith, ints, clamps, after, far, near, first, second)

-- across it: they lie on one line
sides_touch : (o r of_a of_b wide width : ℤ) → o ≡ r → of_a ≡ of_b → wide ≡ width → pos 0 ≤ℤ width
    → gap_between (o +ℤ (of_a +ℤ neg_ℤ wide)) (o +ℤ (of_a +ℤ wide)) (r +ℤ (of_b +ℤ neg_ℤ width))
    (r +ℤ (of_b +ℤ width)) ≤ℤ pos 0
sides_touch o r of_a of_b wide width level one same low = omega (arith, ints, clamps, level, one, same, low)

module _ (tech : Tech) (plan : Plan) (masters : List Master) (layouts : List Coords)
    (done : IsDone tech plan masters layouts) where
  abbrev cell_of : InstancePlace → Cell
  cell_of p = (master_of plan masters p).cell

  abbrev master_sound : (p : InstancePlace) → IsInstancePlace (grids_of plan) p
      → IsMaster tech (master_of plan masters p)
  master_sound p at = master_is tech plan masters p done.planned at

  -- the box of a wire of an instance that conducts
  abbrev box_of : (p : InstancePlace) → IsInstancePlace (grids_of plan) p → ℕ → Item
  box_of p at w = wire_box tech (cell_of p) (master_sound p at).items.nets w
      (class_on (wire_at (cell_of p).wires w).layer)

  box_lies : (axis : Axis) (p : InstancePlace) (at : IsInstancePlace (grids_of plan) p) (w : ℕ)
      → (wire_at (cell_of p).wires w).along ≡ runs_along axis
      → LiesAsRun axis (wire_at (cell_of p).wires w).along (box_of p at w)
      (run_of tech (cell_of p) (master_sound p at).items.nets w)
  box_lies axis p at w e = lies_along axis (wire_at (cell_of p).wires w).along
      (run_of tech (cell_of p) (master_sound p at).items.nets w) (class_on (wire_at (cell_of p).wires w).layer) e

  box_item : (p : InstancePlace) (at : IsInstancePlace (grids_of plan) p) (w : ℕ) → w < length (cell_of p).wires
      → IsItemAt plan masters p (box_of p at w)
  box_item p at w lt =
      record {
        at = at;
        among = box_among tech (master_of plan masters p) w
            (class_on (wire_at (cell_of p).wires w).layer) (master_sound p at) lt
            (class_has (wire_at (cell_of p).wires w).layer);
      }

  -- along the axis on which their instances are separated
  ports_touch_along : (axis : Axis) (p q : InstancePlace) (at_p : IsInstancePlace (grids_of plan) p)
      (at_q : IsInstancePlace (grids_of plan) q) (a b : CellPort) → IsNext axis p q
      → AreBeside axis masters layouts (master_at_spot (grids_of plan) p) (master_at_spot (grids_of plan) q) a b
      → gap_at axis tech plan layouts p (box_of p at_p a.wire) q (box_of q at_q b.wire) ≤ℤ pos 0
  ports_touch_along axis p q at_p at_q a b next met =
      let m : ℕ = master_at_spot (grids_of plan) p in
      let n : ℕ = master_at_spot (grids_of plan) q in
      let lies_a = box_lies axis p at_p a.wire met.before.along in
      let lies_b = box_lies axis q at_q b.wire met.after.along in
      let x : ℕ → ℤ = values_at axis plan layouts q in
      let between_a = lies_there axis tech plan masters layouts p (box_of p at_p a.wire) done
      (box_item p at_p a.wire met.before.among) in
      let between_b = lies_there axis tech plan masters layouts q (box_of q at_q b.wire) done
      (box_item q at_q b.wire met.after.among) in
      let far =
      between_a.far
      (ends_on_border axis tech (cell_of p) (master_sound p at_p).items.nets (box_of p at_p a.wire) a.wire
      met.before.number lies_a met.before.ends) in
      let begins = ap (end_under x) lies_b.low
      ∙ ap (λ (end : WireEnd). end_under x (low_end_of tech (cell_of q) (wire_at (cell_of q).wires b.wire) end))
      met.after.ends in
      let origin =
      ((done.finished.meet axis).structures n (master_among tech plan masters q done.planned at_q)).origin in
      let near : low_in axis x (box_of q at_q b.wire) ≡ pos 0 = at_origin _ (x 0) begins origin in
      ends_touch (low_of axis (size_in axis layouts) (widest_of tech) (grids_of plan) p)
      (low_of axis (size_in axis layouts) (widest_of tech) (grids_of plan) q) (size_in axis layouts m) _ _ _ _
      (begins_after axis (size_in axis layouts) (widest_of tech) (grids_of plan) p q at_p at_q
      (grids_laid axis tech plan masters layouts done) next) far near between_a.ordered between_b.ordered
    where
      at_origin : (low zero_there : ℤ) → low ≡ (zero_there +ℤ neg_ℤ (pos 0)) → zero_there ≡ pos 0 → low ≡ pos 0
      at_origin low zero_there e o = omega (arith, ints, e, o)

  -- and across it
  ports_touch_across : (axis : Axis) (p q : InstancePlace) (at_p : IsInstancePlace (grids_of plan) p)
      (at_q : IsInstancePlace (grids_of plan) q) (a b : CellPort) → IsNext axis p q
      → AreBeside axis masters layouts (master_at_spot (grids_of plan) p) (master_at_spot (grids_of plan) q) a b
      → gap_at (other axis) tech plan layouts p (box_of p at_p a.wire) q (box_of q at_q b.wire) ≤ℤ pos 0
  ports_touch_across axis p q at_p at_q a b next met =
      let over : Axis = other axis in
      let lies_a = box_lies axis p at_p a.wire met.before.along in
      let lies_b = box_lies axis q at_q b.wire met.after.along in
      let x : ℕ → ℤ = values_at over plan layouts p in
      let y : ℕ → ℤ = values_at over plan layouts q in
      let wire_a : Wire = wire_at (cell_of p).wires a.wire in
      let wire_b : Wire = wire_at (cell_of q).wires b.wire in
      let nets_a : Nets = (master_sound p at_p).items.nets in
      let nets_b : Nets = (master_sound q at_q).items.nets in
      let width : wire_a.width ≡ wire_b.width = sym met.before.width ∙ (met.width ∙ met.after.width) in
      let size = (wire_sound tech (cell_of q) b.wire (master_sound q at_q).sound met.after.among).size in
      gap_like (low_of over (size_in over layouts) (widest_of tech) (grids_of plan) p)
      (low_of over (size_in over layouts) (widest_of tech) (grids_of plan) q) _ _ _ _
      (x (cross_of (cell_of p) a.wire) +ℤ neg_ℤ (half wire_a.width))
      (x (cross_of (cell_of p) a.wire) +ℤ half wire_a.width)
      (y (cross_of (cell_of q) b.wire) +ℤ neg_ℤ (half wire_b.width))
      (y (cross_of (cell_of q) b.wire) +ℤ half wire_b.width)
      (low_side axis tech (cell_of p) nets_a (box_of p at_p a.wire) a.wire x lies_a)
      (high_side axis tech (cell_of p) nets_a (box_of p at_p a.wire) a.wire x lies_a)
      (low_side axis tech (cell_of q) nets_b (box_of q at_q b.wire) b.wire y lies_b)
      (high_side axis tech (cell_of q) nets_b (box_of q at_q b.wire) b.wire y lies_b)
      (sides_touch _ _ (x (cross_of (cell_of p) a.wire)) (y (cross_of (cell_of q) b.wire)) (half wire_a.width)
      (half wire_b.width)
      (stands_level over (size_in over layouts) (widest_of tech) (grids_of plan) p q at_p at_q
      (grids_laid over tech plan masters layouts done) next.one next.level) met.line (ap half width) (half_size
      wire_b.width size).0)

  -- the wires of two ports that meet are linked
  record LinkedAt (p q : InstancePlace) (a b : CellPort) : Type 0 where
    at_p : IsInstancePlace (grids_of plan) p
    at_q : IsInstancePlace (grids_of plan) q
    wire_a : a.wire < length (cell_of p).wires
    wire_b : b.wire < length (cell_of q).wires
    linked : AreLinked tech plan masters layouts (wire_place tech plan masters layouts done p at_p a.wire)
        (wire_place tech plan masters layouts done q at_q b.wire)

  linked_beside : (axis : Axis) (p q : InstancePlace) (a b : CellPort)
      → MeetAt (other axis) (ports_of_masters masters) (grids_of plan) p q a b → LinkedAt p q a b
  linked_beside axis p q a b meets =
      let met = are_beside axis tech plan masters layouts p q a b done meets in
      let next = is_next axis p q meets.next in
      let at_p = meets.before in
      let at_q = meets.after in
      let after = next.next in
      let apart : p ≡ q → ⊥ = λ same. (let level = ap (place_of axis) same in omega (arith, after, level)) in
      record {
        at_p = at_p;
        at_q = at_q;
        wire_a = met.before.among;
        wire_b = met.after.among;
        linked = touch_linked tech plan masters layouts (wire_place tech plan masters layouts done p at_p a.wire)
            (wire_place tech plan masters layouts done q at_q b.wire) (box_of p at_p a.wire) (box_of q at_q b.wire)
            (wire_drawn tech plan masters layouts done p at_p a.wire met.before.among)
            (wire_drawn tech plan masters layouts done q at_q b.wire met.after.among) (λ one. apart one.spot)
            (ap class_on (sym met.before.layer ∙ (met.layer ∙ met.after.layer)))
            (touches axis tech plan layouts p q (box_of p at_p a.wire) (box_of q at_q b.wire)
            (ports_touch_along axis p q at_p at_q a b next met)
            (ports_touch_across axis p q at_p at_q a b next met));
      }

  linked_at : (axis : Axis) (p q : InstancePlace) (a b : CellPort)
      → MeetAt axis (ports_of_masters masters) (grids_of plan) p q a b → LinkedAt p q a b
  linked_at X p q a b meets = linked_beside Y p q a b meets
  linked_at Y p q a b meets = linked_beside X p q a b meets

  -- ---- nets

  -- the net of a wire's box is the wire's, by whatever nets the masters have
  wire_net : (nets : ℕ → Nets) → AreNetsOf masters nets
      → (p : InstancePlace) (at : IsInstancePlace (grids_of plan) p) (w : ℕ) → w < length (cell_of p).wires
      → (item_of plan masters (wire_place tech plan masters layouts done p at w)).net
      ≡ slice_index (nets (master_at_spot (grids_of plan) p)).wire w
  wire_net nets are p at w lt =
      let m : ℕ = master_at_spot (grids_of plan) p in
      let own : Nets = (master_sound p at).items.nets in
      let same : own ≡ nets m = nets_same (cell_of p) own (nets m) (master_sound p at).items.of_cell
      (are m (master_among tech plan masters p done.planned at)) in
      ap (λ (i : Item). i.net) (wire_drawn tech plan masters layouts done p at w lt).is
      ∙ (net_of_box tech (cell_of p) own (box_of p at w) w
      (record { among = lt; class = class_has (wire_at (cell_of p).wires w).layer; is = refl })
      ∙ ap (λ (z : Nets). slice_index z.wire w) same)

  by_net : (nets : ℕ → Nets) → AreNetsOf masters nets → (p : InstancePlace) (i n : ℕ)
      → IsConductor plan masters (drawn_at p i) → (item_of plan masters (drawn_at p i)).net ≡ n
      → (q : InstancePlace) (m j : ℕ) → IsOneNet (ports_of_masters masters) nets (grids_of plan) p n q m
      → IsConductor plan masters (drawn_at q j) → (item_of plan masters (drawn_at q j)).net ≡ m
      → AreConnected tech plan masters layouts (drawn_at p i) (drawn_at q j)
  by_net nets are p i n first of_n q m j the_same second of_m =
      net_connected tech plan masters layouts done p first.drawn.spot i j first second (of_n ∙ sym of_m)
  by_net nets are p i n first of_n r k j (met_before axis q s a b chain met) second of_k =
      let link = linked_at axis q r a b met in
      let from : InstanceItem = wire_place tech plan masters layouts done q link.at_p a.wire in
      let to : InstanceItem = wire_place tech plan masters layouts done r link.at_q b.wire in
      let before = by_net nets are p i n first of_n q (net_of_port nets (master_at_spot (grids_of plan) q) a)
      from.item chain
      (wire_conductor tech plan masters layouts done q link.at_p a.wire link.wire_a)
      (wire_net nets are q link.at_p a.wire link.wire_a) in
      let there = wire_conductor tech plan masters layouts done r link.at_q b.wire link.wire_b in
      connected_then tech plan masters layouts (drawn_at p i) to (drawn_at r j)
      (connected_then tech plan masters layouts (drawn_at p i) from to before
      (connected_one tech plan masters layouts from to there link.linked))
      (net_connected tech plan masters layouts done r link.at_q to.item j there second
      (wire_net nets are r link.at_q b.wire link.wire_b ∙ sym of_k))
  by_net nets are p i n first of_n q k j (met_after axis s r a b chain met) second of_k =
      let link = linked_at axis q r a b met in
      let from : InstanceItem = wire_place tech plan masters layouts done r link.at_q b.wire in
      let to : InstanceItem = wire_place tech plan masters layouts done q link.at_p a.wire in
      let before = by_net nets are p i n first of_n r (net_of_port nets (master_at_spot (grids_of plan) r) b)
      from.item chain
      (wire_conductor tech plan masters layouts done r link.at_q b.wire link.wire_b)
      (wire_net nets are r link.at_q b.wire link.wire_b) in
      let there = wire_conductor tech plan masters layouts done q link.at_p a.wire link.wire_a in
      connected_then tech plan masters layouts (drawn_at p i) to (drawn_at q j)
      (connected_then tech plan masters layouts (drawn_at p i) from to before
      (connected_one tech plan masters layouts from to there
      (linked_back tech plan masters layouts to from link.linked)))
      (net_connected tech plan masters layouts done q link.at_p to.item j there second
      (wire_net nets are q link.at_p a.wire link.wire_a ∙ sym of_k))

  pub all_connected : NetsAreConnected tech plan masters layouts
  all_connected nets are a b first second one =
      by_net nets are a.spot a.item (item_of plan masters a).net first refl b.spot (item_of plan masters b).net b.item
      one second refl
