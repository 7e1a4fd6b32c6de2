-- Two boxes of wires that end on the border between two instances next to one another: in the cell of the first a box
-- of the wire that meets the second stands for it.
use Rattle.std.proofs.Common.{◌≡◌, ℕ, ◌+◌, ℤ, ◌+ℤ◌, ◌≤ℤ◌, true, List, length, refl, sym, ap, ◌∙◌, subst, arith, inl}
use Rattle.std.proofs.{Common.inr, lemmas.{Bool.cases_eq, Int.{ints, clamps}}}
use Rattle.std.specs.{Prelude.{slice_index, neg_ℤ}, List.Contains}
use Rattle.lam_geom.specs.{declared.boxes.Axis.Axis, Gaps.gap_between}
use Rattle.rule_table.specs.{declared.{classes.Layer.Layer, technology.Tech.Tech}, Technology.{numbers_of, widest_of}}
use Rattle.sym_items.specs.{declared.items.{Coords.Coords, Item.Item}, Layouts.{layout_at, size_in}}
use Rattle.cell_model.specs.{declared.cell.{Cell.Cell, CellPort.CellPort, Nets.Nets}, Sound.wire_at}
use Rattle.cell_nets.proofs.Determined.{nets_same}
use Rattle.pair_rules.specs.Bound.{IsBound}
use Rattle.expand.specs.{declared.master.Master.Master, Variables.{half, cross_of}}
use Rattle.buried_contacts.proofs.Owners.{LayerHas, IsBoxOfWire, item_keeps, run_of, wire_box}
use Rattle.plan_model.specs.{declared.plan.Plan.Plan, GridNets.{IsNextInstance, net_of_port, IsOneNet, the_same}}
use Rattle.plan_model.specs.{GridNets.met_before, Instances.{InstancePlace, IsInstancePlace, master_at_spot}}
use Rattle.plan_model.specs.Plan.{grids_of}
use Rattle.pitch_join.specs.Masters.{master_at, ports_of_masters}
use Rattle.instance_laws.{specs.Rules.{IsBoundInGrid, AreNetsOf, items_at}, proofs.AtPorts.{spaced_in, net_of_box}}
use Rattle.instance_laws.proofs.AtPorts.{not_together, apart_on_other, both_far, lies_along, ends_on_border, low_side}
use Rattle.instance_laws.proofs.{AtPorts.high_side, Gaps.{IsDone, IsItemAt, IsRuled, values_at, gap_at, lies_there}}
use Rattle.instance_laws.proofs.{Gaps.grids_laid, InCell.{low_in, high_in, BeginsOnBorder, EndsOnBorder}}
use Rattle.instance_laws.proofs.{Layers.one_layer_exempt, Meeting.{master_among, master_is, Meets, port_meets}}
use Rattle.instance_laws.proofs.{OnBorder.{other, LiesAsRun, EndsAtPort, items_border, box_among}, Places.place_of}
use Rattle.instance_laws.proofs.{Places.stands_level, Ports.{IsPortOf, port_of_wire}}

-- the master of an instance
abbrev pub master_of : Plan → List Master → InstancePlace → Master
master_of plan masters p = master_at masters (master_at_spot (grids_of plan) p)

-- In the cell of one instance an item with this owner stands for one of the next instance: it is of the same class,
-- ends on the border between them, and lies along that border where the other does.
pub record StandsFor (axis : Axis) (plan : Plan) (masters : List Master) (layouts : List Coords) (p q : InstancePlace)
    (owner : ℕ) (b c : Item) : Type 0 where
  pub among : Contains (items_at plan masters p) c
  pub class : c.class ≡ b.class
  pub owner_is : c.owner ≡ owner
  pub ends : EndsOnBorder axis c
  pub low : low_in (other axis) (values_at (other axis) plan layouts p) c
      ≡ low_in (other axis) (values_at (other axis) plan layouts q) b
  pub high : high_in (other axis) (values_at (other axis) plan layouts p) c
      ≡ high_in (other axis) (values_at (other axis) plan layouts q) b

-- the net of the wire that meets that of b is b's
pub joins : (axis : Axis) (tech : Tech) (plan : Plan) (masters : List Master) (layouts : List Coords)
    (nets : ℕ → Nets) (p q : InstancePlace) (b : Item) (bp : CellPort) → (done : IsDone tech plan masters layouts)
    → AreNetsOf masters nets
    → (at_p : IsInstancePlace (grids_of plan) p) → (at_q : IsInstancePlace (grids_of plan) q) → (v : ℕ)
    → IsBoxOfWire tech (master_of plan masters q).cell (master_is tech plan masters q done.planned at_q).items.nets b
    v → bp.wire ≡ v → (met : Meets axis plan masters layouts p q v bp)
    → (n : ℕ) → n ≡ slice_index (master_is tech plan masters p done.planned at_p).items.nets.wire met.a.wire
    → IsOneNet (ports_of_masters masters) nets (grids_of plan) p n q b.net
joins axis tech plan masters layouts nets p q b bp done are at_p at_q v box wire met n e =
    let ports : List (List CellPort) = ports_of_masters masters in
    let grids : List (List (List ℕ)) = grids_of plan in
    let m : ℕ = master_at_spot grids p in
    let k : ℕ = master_at_spot grids q in
    let mp = master_is tech plan masters p done.planned at_p in
    let mq = master_is tech plan masters q done.planned at_q in
    let same_p : mp.items.nets ≡ nets m =
    nets_same (master_at masters m).cell mp.items.nets (nets m) mp.items.of_cell
    (are m (master_among tech plan masters p done.planned at_p)) in
    let same_q : mq.items.nets ≡ nets k =
    nets_same (master_at masters k).cell mq.items.nets (nets k) mq.items.of_cell
    (are k (master_among tech plan masters q done.planned at_q)) in
    let from : n ≡ net_of_port nets m met.a = e ∙ ap (λ (z : Nets). slice_index z.wire met.a.wire) same_p in
    let to : net_of_port nets k bp ≡ b.net = ap (slice_index (nets k).wire) wire
    ∙ (sym (ap (λ (z : Nets). slice_index z.wire v) same_q)
    ∙ sym (net_of_box tech (master_at masters k).cell mq.items.nets b v box)) in
    let start : IsOneNet ports nets grids p n p (net_of_port nets m met.a) =
    subst (IsOneNet ports nets grids p n p) from the_same in
    subst (IsOneNet ports nets grids p n q) to (met_before (other axis) p q met.a bp start met.met)

pub stands_for : (axis : Axis) (tech : Tech) (plan : Plan) (masters : List Master) (layouts : List Coords)
    (p q : InstancePlace) (b : Item) (bp : CellPort) → (done : IsDone tech plan masters layouts)
    → (at_p : IsInstancePlace (grids_of plan) p) → (at_q : IsInstancePlace (grids_of plan) q)
    → (end : EndsAtPort axis tech (master_of plan masters q).cell
    (master_is tech plan masters q done.planned at_q).items.nets true b)
    → IsPortOf axis (master_of plan masters q).cell true end.wire bp
    → (met : Meets axis plan masters layouts p q end.wire bp)
    → LayerHas (wire_at (master_of plan masters p).cell.wires met.a.wire).layer b.class
    → StandsFor axis plan masters layouts p q (length (master_of plan masters p).cell.nodes + met.a.wire) b
    (wire_box tech (master_of plan masters p).cell (master_is tech plan masters p done.planned at_p).items.nets
    met.a.wire b.class)
stands_for axis tech plan masters layouts p q b bp done at_p at_q end port met has =
    let cell : Cell = (master_of plan masters p).cell in
    let mp = master_is tech plan masters p done.planned at_p in
    let mq = master_is tech plan masters q done.planned at_q in
    let own : Nets = mp.items.nets in
    let u : ℕ = met.a.wire in
    let c : Item = wire_box tech cell own u b.class in
    let lies : LiesAsRun axis (wire_at cell.wires u).along c (run_of tech cell own u) =
    lies_along axis (wire_at cell.wires u).along (run_of tech cell own u) b.class met.own.along in
    let x : ℕ → ℤ = values_at (other axis) plan layouts p in
    let y : ℕ → ℤ = values_at (other axis) plan layouts q in
    let width : (wire_at cell.wires u).width ≡ (wire_at (master_of plan masters q).cell.wires end.wire).width =
    sym met.own.width ∙ (met.width ∙ port.width) in
    let low_c = low_side axis tech cell own c u x lies in
    let high_c = high_side axis tech cell own c u x lies in
    let low_b = low_side axis tech (master_of plan masters q).cell mq.items.nets b end.wire y end.lies in
    let high_b = high_side axis tech (master_of plan masters q).cell mq.items.nets b end.wire y end.lies in
    let box : IsBoxOfWire tech cell own c u = record { among = met.own.among; class = has; is = refl } in
    record {
      among = box_among tech (master_of plan masters p) u b.class mp met.own.among has;
      class = refl;
      owner_is = (item_keeps tech cell own c u box).owner;
      ends = ends_on_border axis tech cell own c u met.own.number lies met.own.ends;
      low = low_c
          ∙ (ap (λ z. z +ℤ neg_ℤ (half (wire_at cell.wires u).width)) met.line
          ∙ (ap (λ w. y (cross_of (master_of plan masters q).cell end.wire) +ℤ neg_ℤ (half w)) width ∙ sym low_b));
      high = high_c
          ∙ (ap (λ z. z +ℤ half (wire_at cell.wires u).width) met.line
          ∙ (ap (λ w. y (cross_of (master_of plan masters q).cell end.wire) +ℤ half w) width ∙ sym high_b));
    }

-- two boxes of wires that end on the border between two instances next to one another
pub apart_at_ports : (axis : Axis) (tech : Tech) (plan : Plan) (masters : List Master) (layouts : List Coords)
    (nets : ℕ → Nets) (p q : InstancePlace) (a b : Item) (s : ℤ) → IsDone tech plan masters layouts
    → AreNetsOf masters nets
    → IsItemAt plan masters p a → IsItemAt plan masters q b
    → IsBoundInGrid tech (ports_of_masters masters) nets (grids_of plan) p a q b s → IsRuled tech a.class b.class s
    → IsNextInstance (other axis) p q → p.grid ≡ q.grid → place_of (other axis) p ≡ place_of (other axis) q
    → EndsOnBorder axis a → BeginsOnBorder axis b → s ≤ℤ gap_at (other axis) tech plan layouts p a q b
apart_at_ports axis tech plan masters layouts nets p q a b s done are item_a item_b bound rule next one level on_a
    on_b =
    let grids : List (List (List ℕ)) = grids_of plan in
    let mp = master_is tech plan masters p done.planned item_a.at in
    let mq = master_is tech plan masters q done.planned item_b.at in
    let cell : Cell = (master_of plan masters p).cell in
    let cell_q : Cell = (master_of plan masters q).cell in
    let own : Nets = mp.items.nets in
    let end_a = (items_border axis tech (master_of plan masters p) a mp item_a.among).high on_a in
    let end_b = (items_border axis tech (master_of plan masters q) b mq item_b.among).low on_b in
    let of_b = port_of_wire axis tech cell_q true end_b.wire end_b.port mq.sound end_b.box.among end_b.lies.along_is
    end_b.ends in
    let met = port_meets axis tech plan masters layouts p q end_b.wire of_b.0 done.planned
    (done.finished.meet (other axis)).lines item_a.at item_b.at next of_b.1 in
    let u : ℕ = met.a.wire in
    let layer : (wire_at cell_q.wires end_b.wire).layer ≡ (wire_at cell.wires u).layer = sym of_b.1.layer
    ∙ (sym met.layer ∙ met.own.layer) in
    let has : LayerHas (wire_at cell.wires u).layer b.class =
    subst (λ (l : Layer). LayerHas l b.class) layer end_b.box.class in
    let joined = joins axis tech plan masters layouts nets p q b of_b.0 done are item_a.at item_b.at end_b.wire
    end_b.box of_b.1.wire met in
    elim (cases_eq end_a.wire u) [
      | inl same ↦
          let has_a : LayerHas (wire_at cell.wires u).layer a.class =
          subst (λ (w : ℕ). LayerHas (wire_at cell.wires w).layer a.class) same end_a.box.class in
          let exempt = one_layer_exempt (numbers_of tech) (wire_at cell.wires u).layer a.class b.class bound.rule
          has_a has bound.ruled in
          absurd (bound.unjoined exempt
          (joined a.net (net_of_box tech cell own a end_a.wire end_a.box ∙ ap (slice_index own.wire) same)))
      | inr apart ↦
          let c : Item = wire_box tech cell own u b.class in
          let box_c : IsBoxOfWire tech cell own c u = record { among = met.own.among; class = has; is = refl } in
          let stands = stands_for axis tech plan masters layouts p q b of_b.0 done item_a.at item_b.at end_b of_b.1
          met has in
          let owner_a : a.owner ≡ length cell.nodes + end_a.wire =
          (item_keeps tech cell own a end_a.wire end_a.box).owner in
          let owner_c : c.owner ≡ length cell.nodes + u = stands.owner_is in
          let in_cell : IsBound tech a c s = record {
            owners = λ e. apart (omega (arith, e, owner_a, owner_c));
            rule = bound.rule;
            ruled = bound.ruled;
            spacing = bound.spacing;
            nets = λ exempt same. bound.unjoined exempt (joined a.net (same ∙ net_of_box tech cell own c u box_c));
            apart = not_together tech (master_of plan masters p) own a c end_a.wire u end_a.port met.own.number mp
                end_a.box box_c (end_a.lies.along_is ∙ sym met.own.along) end_a.ends met.own.ends;
          } in
          let m : ℕ = master_at_spot grids p in
          let kept = spaced_in tech (layout_at layouts m) (items_at plan masters p) a c s
          (done.finished.clean m (master_among tech plan masters p done.planned item_a.at)) item_a.among
          stands.among in_cell in
          let lies_a = lies_there axis tech plan masters layouts p a done item_a in
          let lies_c = lies_there axis tech plan masters layouts p c done
          (record { at = item_a.at; among = stands.among }) in
          let touch = both_far axis tech (values_at axis plan layouts p) a c lies_a lies_c on_a stands.ends in
          let across = apart_on_other axis (layout_at layouts m) a c s rule.positive kept touch in
          let beside = stands_level (other axis) (size_in (other axis) layouts) (widest_of tech) grids p q item_a.at
          item_b.at (grids_laid (other axis) tech plan masters layouts done) one level in
          let low = stands.low in
          let high = stands.high in
          shifted _ _ _ _ _ _ _ _ s across beside low high
    ]
  where
    shifted : (o r la ha lc hc lb hb s : ℤ) → s ≤ℤ gap_between la ha lc hc → o ≡ r → lc ≡ lb → hc ≡ hb
        → s ≤ℤ gap_between (o +ℤ la) (o +ℤ ha) (r +ℤ lb) (r +ℤ hb)
    shifted o r la ha lc hc lb hb s h e f g = omega (arith, ints, clamps, h, e, f, g)
