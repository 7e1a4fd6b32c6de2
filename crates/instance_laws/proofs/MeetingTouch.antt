-- Two items of all instances whose classes have a rule keep its spacing, or are of one net.
use Rattle.std.proofs.Common.{◌≡◌, ◌≢◌, ℕ, suc, ◌+◌, ◌<◌, ℤ, ◌+ℤ◌, ◌≤ℤ◌, true, List, length, Some, refl, sym, ap, ◌∙◌}
use Rattle.std.proofs.{Common.{subst, arith, inl, inr, ◌⊎◌}, lemmas.{Bool.{cases_eq, cases_lt}, Int.{ints, clamps}}}
use Rattle.std.specs.Prelude.{IsTrue, slice_index}
use Rattle.lam_geom.specs.{declared.boxes.Axis.{Axis, TheVariants.{X, Y}}, Gaps.gap_between}
use Rattle.rule_table.specs.{declared.{classes.{Layer.Layer, Rule.Rule}, technology.Tech.Tech}, Technology.numbers_of}
use Rattle.rule_table.{specs.Technology.{spacing_of, widest_of}, proofs.Margins.spacing_in-symmetric}
use Rattle.sym_items.specs.{declared.items.{Coords.Coords, Item.Item}, Layouts.{layout_at, size_in}, Sides.sides_in}
use Rattle.sym_items.specs.{Sides.gap_of_sides, Standing.StandTogether, Transposed.item_along}
use Rattle.cell_model.specs.{declared.cell.{Cell.Cell, Nets.Nets}, Sound.wire_at}
use Rattle.pair_rules.{specs.Bound.{is_poly_on_diffusion, IsBound}, proofs.EitherOrder.lies_either}
use Rattle.expand.specs.declared.master.Master.{Master}
use Rattle.buried_contacts.proofs.Owners.{LayerHas, IsBoxOfWire, item_keeps, wire_box}
use Rattle.plan_model.specs.{declared.plan.Plan.Plan, GridNets.{IsNextInstance, IsOneNet, the_same}}
use Rattle.plan_model.specs.{Instances.{InstancePlace, master_at_spot}, Plan.grids_of}
use Rattle.pitch_join.specs.Masters.{ports_of_masters}
use Rattle.instance_laws.specs.{Rules.{AreNetsOf, sides_at_spot, items_at}, Meetings.master_of}
use Rattle.instance_laws.proofs.{AtPorts.{spaced_in, net_of_box, not_together, apart_on_other, both_far}, Gaps.IsDone}
use Rattle.instance_laws.proofs.Gaps.{IsItemAt, IsRuled, ruled, values_at, gap_at, gap_suffices, gap_at_turned}
use Rattle.instance_laws.proofs.Gaps.{lies_there, grids_laid, apart_with_cell_between, apart_off_border, apart_in_grids}
use Rattle.instance_laws.proofs.{Gaps.{shift_together, sides_turned}, InCell.{BeginsOnBorder, EndsOnBorder}}
use Rattle.instance_laws.proofs.{Meeting.{master_among, master_is, port_meets, spot_is, spots_differ}, OnBorder.other}
use Rattle.instance_laws.proofs.{OnBorder.{cross_off, items_border}, OneNet.one_net_back, Pairs.{joins, stands_for}}
use Rattle.instance_laws.proofs.{Places.{place_of, stands_level}, Ports.port_of_wire, MeetingGaps.{x_of, y_of}}
use Rattle.instance_laws.proofs.Apart.{is_next}

-- Two items have a rule: they have different owners, told apart by instance, their classes have a rule, and no buried
-- contact joins them.
pub record AreRuled (tech : Tech) (p : InstancePlace) (a : Item) (q : InstancePlace) (b : Item) (s : ℤ) : Type 0 where
  pub owners : p ≡ q → a.owner ≢ b.owner
  pub rule : Rule
  pub ruled : spacing_of tech a.class b.class ≡ Some rule
  pub spacing : rule.s ≡ s
  pub apart : IsTrue (is_poly_on_diffusion a.class b.class) → p ≡ q → StandTogether a b → ⊥

ruled_turned : (tech : Tech) (p : InstancePlace) (a : Item) (q : InstancePlace) (b : Item) (s : ℤ)
    → AreRuled tech p a q b s → AreRuled tech q b p a s
ruled_turned tech p a q b s h = record {
  owners = λ same e. h.owners (sym same) (sym e);
  rule = h.rule;
  ruled = spacing_in-symmetric (numbers_of tech) b.class a.class ∙ h.ruled;
  spacing = h.spacing;
  apart = λ lies same together. h.apart (lies_either b.class a.class lies) (sym same)
      (together.0, together.2, together.1);
}

module _ (tech : Tech) (plan : Plan) (masters : List Master) (layouts : List Coords) (nets : ℕ → Nets)
    (done : IsDone tech plan masters layouts) (are : AreNetsOf masters nets) where
  -- two items are of one net
  abbrev OneNet : InstancePlace → Item → InstancePlace → Item → Type 0
  OneNet p a q b = IsOneNet (ports_of_masters masters) nets (grids_of plan) p a.net q b.net

  abbrev Gap : InstancePlace → Item → InstancePlace → Item → ℤ
  Gap p a q b = gap_of_sides (sides_at_spot tech plan layouts p a) (sides_at_spot tech plan layouts q b)

  -- ---- one instance

  in_instance : (p : InstancePlace) (a b : Item) (s : ℤ) → IsItemAt plan masters p a → IsItemAt plan masters p b
      → AreRuled tech p a p b s → (s ≤ℤ Gap p a p b) ⊎ OneNet p a p b
  in_instance p a b s item_a item_b h = elim (cases_eq a.net b.net) [
    | inl same ↦ inr (subst (IsOneNet (ports_of_masters masters) nets (grids_of plan) p a.net p) same the_same)
    | inr differ ↦
        let m : ℕ = master_at_spot (grids_of plan) p in
        let in_cell : IsBound tech a b s =
        record {
          owners = h.owners refl;
          rule = h.rule;
          ruled = h.ruled;
          spacing = h.spacing;
          nets = λ exempt. differ;
          apart = λ lies together. h.apart lies refl together;
        } in
        let kept = spaced_in tech (layout_at layouts m) (items_at plan masters p) a b s
        (done.finished.clean m (master_among tech plan masters p done.planned item_a.at)) item_a.among
        item_b.among in_cell in
        inl (subst (λ z. s ≤ℤ z)
        (sym (shift_together (x_of tech plan layouts p) (y_of plan layouts p) (sides_in (layout_at layouts m) a)
        (sides_in (layout_at layouts m) b))) kept)
  ]

  -- ---- on a border

  -- two boxes of wires that end on the border between two instances next to one another
  at_ports : (axis : Axis) (p q : InstancePlace) (a b : Item) (s : ℤ) → IsItemAt plan masters p a
      → IsItemAt plan masters q b → AreRuled tech p a q b s → IsRuled tech a.class b.class s
      → IsNextInstance (other axis) p q → p.grid ≡ q.grid → place_of (other axis) p ≡ place_of (other axis) q
      → EndsOnBorder axis a → BeginsOnBorder axis b
      → (s ≤ℤ gap_at (other axis) tech plan layouts p a q b) ⊎ OneNet p a q b
  at_ports axis p q a b s item_a item_b h rule next one level on_a on_b =
      let grids : List (List (List ℕ)) = grids_of plan in
      let mp = master_is tech plan masters p done.planned item_a.at in
      let mq = master_is tech plan masters q done.planned item_b.at in
      let cell : Cell = (master_of plan masters p).cell in
      let cell_q : Cell = (master_of plan masters q).cell in
      let own : Nets = mp.items.nets in
      let end_a = (items_border axis tech (master_of plan masters p) a mp item_a.among).high on_a in
      let end_b = (items_border axis tech (master_of plan masters q) b mq item_b.among).low on_b in
      let of_b = port_of_wire axis tech cell_q true end_b.wire end_b.port mq.sound end_b.box.among end_b.lies.along_is
      end_b.ends in
      let met = port_meets axis tech plan masters layouts p q end_b.wire of_b.0 done.planned
      (done.finished.meet (other axis)).lines item_a.at item_b.at next of_b.1 in
      let u : ℕ = met.a.wire in
      let layer : (wire_at cell_q.wires end_b.wire).layer ≡ (wire_at cell.wires u).layer = sym of_b.1.layer
      ∙ (sym met.layer ∙ met.own.layer) in
      let has : LayerHas (wire_at cell.wires u).layer b.class =
      subst (λ (l : Layer). LayerHas l b.class) layer end_b.box.class in
      let joined = joins axis tech plan masters layouts nets p q b of_b.0 done are item_a.at item_b.at end_b.wire
      end_b.box of_b.1.wire met in
      let c : Item = wire_box tech cell own u b.class in
      let box_c : IsBoxOfWire tech cell own c u = record { among = met.own.among; class = has; is = refl } in
      elim (cases_eq a.net c.net) [
        | inl same ↦ inr (joined a.net (same ∙ net_of_box tech cell own c u box_c))
        | inr differ ↦
            let stands = stands_for axis tech plan masters layouts p q b of_b.0 done item_a.at item_b.at end_b of_b.1
            met has in
            let owner_a : a.owner ≡ length cell.nodes + end_a.wire =
            (item_keeps tech cell own a end_a.wire end_a.box).owner in
            let owner_c : c.owner ≡ length cell.nodes + u = stands.owner_is in
            let apart : end_a.wire ≢ u =
            λ same. differ (net_of_box tech cell own a end_a.wire end_a.box
            ∙ (ap (slice_index own.wire) same ∙ sym (net_of_box tech cell own c u box_c))) in
            let in_cell : IsBound tech a c s = record {
              owners = λ e. apart (omega (arith, e, owner_a, owner_c));
              rule = h.rule;
              ruled = h.ruled;
              spacing = h.spacing;
              nets = λ exempt. differ;
              apart = not_together tech (master_of plan masters p) own a c end_a.wire u end_a.port met.own.number mp
                  end_a.box box_c (end_a.lies.along_is ∙ sym met.own.along) end_a.ends met.own.ends;
            } in
            let m : ℕ = master_at_spot grids p in
            let kept = spaced_in tech (layout_at layouts m) (items_at plan masters p) a c s
            (done.finished.clean m (master_among tech plan masters p done.planned item_a.at)) item_a.among
            stands.among in_cell in
            let lies_a = lies_there axis tech plan masters layouts p a done item_a in
            let lies_c = lies_there axis tech plan masters layouts p c done
            (record { at = item_a.at; among = stands.among }) in
            let touch = both_far axis tech (values_at axis plan layouts p) a c lies_a lies_c on_a stands.ends in
            let across = apart_on_other axis (layout_at layouts m) a c s rule.positive kept touch in
            let beside = stands_level (other axis) (size_in (other axis) layouts) (widest_of tech) grids p q item_a.at
            item_b.at (grids_laid (other axis) tech plan masters layouts done) one level in
            inl (shifted _ _ _ _ _ _ _ _ s across beside stands.low stands.high)
      ]
    where
      shifted : (o r la ha lc hc lb hb s : ℤ) → s ≤ℤ gap_between la ha lc hc → o ≡ r → lc ≡ lb → hc ≡ hb
          → s ≤ℤ gap_between (o +ℤ la) (o +ℤ ha) (r +ℤ lb) (r +ℤ hb)
      shifted o r la ha lc hc lb hb s h e f g = omega (arith, ints, clamps, h, e, f, g)

  -- ---- one grid

  -- next to one another, with both ends on the border between them
  on_border : (axis : Axis) (p q : InstancePlace) (a b : Item) (s : ℤ) → IsItemAt plan masters p a
      → IsItemAt plan masters q b → AreRuled tech p a q b s → IsRuled tech a.class b.class s
      → p.grid ≡ q.grid → place_of axis q ≡ place_of axis p + 1 → EndsOnBorder axis a → BeginsOnBorder axis b
      → (s ≤ℤ gap_at (other axis) tech plan layouts p a q b) ⊎ OneNet p a q b
  on_border axis p q a b s item_a item_b h rule one next on_a on_b =
      let mp = master_is tech plan masters p done.planned item_a.at in
      let mq = master_is tech plan masters q done.planned item_b.at in
      let end_a = (items_border axis tech (master_of plan masters p) a mp item_a.among).high on_a in
      let end_b = (items_border axis tech (master_of plan masters q) b mq item_b.among).low on_b in
      let turned : IsRuled tech b.class a.class s =
      record { positive = rule.positive; first = rule.second; second = rule.first; widest = rule.widest } in
      let i : ℕ = place_of (other axis) p in
      let j : ℕ = place_of (other axis) q in
      elim (cases_lt i j) [
        | inl below ↦
            inl (apart_off_border (other axis) tech plan masters layouts p q a b s done item_a item_b one below rule
            (inl (λ e. cross_off (master_of plan masters p).cell end_a.wire _ _ end_a.lies.cross_high (inr e))))
        | inr not_below ↦ elim (cases_lt j i) [
          | inl above ↦
              let k = apart_off_border (other axis) tech plan masters layouts q p b a s done item_b item_a (sym one)
              above turned
              (inl (λ e. cross_off (master_of plan masters q).cell end_b.wire _ _ end_b.lies.cross_high
              (inr e))) in
              inl (subst (λ z. s ≤ℤ z) (gap_at_turned (other axis) tech plan layouts q p b a) k)
          | inr not_above ↦
              let level : i ≡ j = omega (arith, not_below, not_above) in
              at_ports axis p q a b s item_a item_b h rule (is_next axis p q one (sym one) next (sym level)) one level
              on_a on_b
        ]
      ]

  suffices : (axis : Axis) (p q : InstancePlace) (a b : Item) (s : ℤ) → s ≤ℤ gap_at axis tech plan layouts p a q b
      → (s ≤ℤ Gap p a q b) ⊎ OneNet p a q b
  suffices axis p q a b s h = inl (gap_suffices axis tech plan layouts p q a b s h)

  in_order : (axis : Axis) (p q : InstancePlace) (a b : Item) (s : ℤ) → IsItemAt plan masters p a
      → IsItemAt plan masters q b → AreRuled tech p a q b s
      → p.grid ≡ q.grid → place_of axis p < place_of axis q → (s ≤ℤ Gap p a q b) ⊎ OneNet p a q b
  in_order axis p q a b s item_a item_b h one lt =
      let rule = ruled tech a.class b.class h.rule s h.ruled h.spacing in
      let i : ℕ = place_of axis p in
      let j : ℕ = place_of axis q in
      elim (cases_lt (suc i) j) [
        | inl far ↦
            suffices axis p q a b s
            (apart_with_cell_between axis tech plan masters layouts p q a b s done item_a item_b one far rule.widest)
        | inr near ↦ elim (cases_eq (item_along axis a).xh.var 1) [
          | inr off ↦
              suffices axis p q a b s
              (apart_off_border axis tech plan masters layouts p q a b s done item_a item_b one lt rule (inl off))
          | inl on_a ↦ elim (cases_eq (item_along axis b).xl.var 0) [
            | inr off ↦
                suffices axis p q a b s
                (apart_off_border axis tech plan masters layouts p q a b s done item_a item_b one lt rule (inr off))
            | inl on_b ↦
                let next : j ≡ i + 1 = omega (arith, near, lt) in
                elim (on_border axis p q a b s item_a item_b h rule one next on_a on_b)
                [ inl far ↦ suffices (other axis) p q a b s far | inr joined ↦ inr joined ]
          ]
        ]
      ]

  -- the same of two in the other order
  turned_back : (p q : InstancePlace) (a b : Item) (s : ℤ) → (s ≤ℤ Gap q b p a) ⊎ OneNet q b p a
      → (s ≤ℤ Gap p a q b) ⊎ OneNet p a q b
  turned_back p q a b s (inl far) =
      inl (subst (λ z. s ≤ℤ z)
      (sides_turned (sides_at_spot tech plan layouts q b) (sides_at_spot tech plan layouts p a)) far)
  turned_back p q a b s (inr joined) =
      inr (one_net_back (ports_of_masters masters) nets (grids_of plan) q b.net p a.net joined)

  on_axis : (axis : Axis) (p q : InstancePlace) (a b : Item) (s : ℤ) → IsItemAt plan masters p a
      → IsItemAt plan masters q b → AreRuled tech p a q b s
      → p.grid ≡ q.grid → place_of axis p ≢ place_of axis q → (s ≤ℤ Gap p a q b) ⊎ OneNet p a q b
  on_axis axis p q a b s item_a item_b h one differ = elim (cases_lt (place_of axis p) (place_of axis q)) [
    | inl before ↦ in_order axis p q a b s item_a item_b h one before
    | inr not_before ↦
        turned_back p q a b s
        (in_order axis q p b a s item_b item_a (ruled_turned tech p a q b s h) (sym one)
        (omega (arith, not_before, differ)))
  ]

  -- ---- all instances

  in_two : (p q : InstancePlace) (a b : Item) (s : ℤ) → IsItemAt plan masters p a → IsItemAt plan masters q b
      → AreRuled tech p a q b s → p ≢ q → (s ≤ℤ Gap p a q b) ⊎ OneNet p a q b
  in_two p q a b s item_a item_b h differ =
      let widest = (ruled tech a.class b.class h.rule s h.ruled h.spacing).widest in
      elim (cases_lt p.grid q.grid) [
        | inl before ↦
            suffices X p q a b s (apart_in_grids tech plan masters layouts p q a b s done item_a item_b before widest)
        | inr not_before ↦ elim (cases_lt q.grid p.grid) [
          | inl after ↦
              turned_back p q a b s
              (suffices X q p b a s
              (apart_in_grids tech plan masters layouts q p b a s done item_b item_a after widest))
          | inr not_after ↦
              let one : p.grid ≡ q.grid = omega (arith, not_before, not_after) in
              elim (cases_eq p.col q.col) [
                | inr columns ↦ on_axis X p q a b s item_a item_b h one columns
                | inl column ↦ elim (cases_eq p.row q.row) [
                  | inr rows ↦ on_axis Y p q a b s item_a item_b h one rows
                  | inl row ↦ absurd (differ (spot_is p q.grid q.row q.col one row column))
                ]
              ]
        ]
      ]

  pub apart_or_one_net : (p q : InstancePlace) (a b : Item) (s : ℤ) → IsItemAt plan masters p a
      → IsItemAt plan masters q b → AreRuled tech p a q b s
      → (s ≤ℤ gap_of_sides (sides_at_spot tech plan layouts p a) (sides_at_spot tech plan layouts q b))
      ⊎ IsOneNet (ports_of_masters masters) nets (grids_of plan) p a.net q b.net
  apart_or_one_net p q a b s item_a item_b h = elim (spots_differ p q) [
    | inr differ ↦ in_two p q a b s item_a item_b h differ
    | inl same ↦
        let Q : InstancePlace → Type 0 = λ r. IsItemAt plan masters r b → AreRuled tech p a r b s
        → (s ≤ℤ Gap p a r b) ⊎ OneNet p a r b in
        subst Q same (λ item h. in_instance p a b s item_a item h) item_b h
  ]
