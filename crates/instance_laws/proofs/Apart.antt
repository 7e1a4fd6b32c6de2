-- Every two bound items of all instances keep their spacing.
use Rattle.std.proofs.Common.{◌≡◌, ◌≢◌, ℕ, suc, ◌+◌, ◌<◌, ℤ, ◌≤ℤ◌, Bool, true, false, List, refl, sym, ◌∙◌, subst}
use Rattle.std.proofs.{Common.{arith, inl, inr}, lemmas.{Bool.{cases_eq, cases_lt}, List.Elements.Contains-get_or}}
use Rattle.lam_geom.specs.declared.boxes.Axis.{Axis, TheVariants.{X, Y}}
use Rattle.rule_table.specs.{declared.technology.Tech.Tech, Technology.{numbers_of, widest_of}}
use Rattle.rule_table.proofs.Margins.{spacing_in-symmetric}
use Rattle.sym_items.specs.{declared.items.{Coords.Coords, Item.Item}, Layouts.{layout_at, size_in}, Sides.sides_in}
use Rattle.sym_items.specs.{Sides.gap_of_sides, Transposed.item_along}
use Rattle.cell_model.specs.declared.cell.{Cell.Cell, Nets.Nets}
use Rattle.pair_rules.{specs.Bound.{no_item, IsBound}, proofs.EitherOrder.lies_either}
use Rattle.expand.specs.declared.master.Master.{Master}
use Rattle.plan_model.specs.{declared.plan.Plan.Plan, GridNets.{IsNextInstance, IsOneNet, the_same}}
use Rattle.plan_model.specs.{Instances.{InstancePlace, master_at_spot, left_of, bottom_of}, Plan.grids_of}
use Rattle.pitch_join.specs.Masters.{ports_of_masters}
use Rattle.instance_laws.specs.Rules.{IsBoundInGrid, AreNetsOf, AllKeepSpacing, sides_at_spot, item_in, items_at}
use Rattle.instance_laws.proofs.{AtPorts.spaced_in, Gaps.{IsDone, IsItemAt, IsRuled, ruled, gap_at, gap_suffices}}
use Rattle.instance_laws.proofs.Gaps.{gap_at_turned, apart_with_cell_between, apart_off_border, apart_in_grids}
use Rattle.instance_laws.proofs.{Gaps.{sides_turned, shift_together}, InCell.{BeginsOnBorder, EndsOnBorder}}
use Rattle.instance_laws.proofs.{Meeting.{master_among, master_is, spot_is, spots_differ}, OnBorder.{other, EndsAtPort}}
use Rattle.instance_laws.proofs.{OnBorder.{cross_off, items_border}, OneNet.one_net_back, Pairs.master_of}
use Rattle.instance_laws.proofs.{Pairs.apart_at_ports, Places.place_of}

-- ---- in either order

bound_turned : (tech : Tech) (masters : List Master) (nets : ℕ → Nets) (grids : List (List (List ℕ)))
    (p : InstancePlace) (a : Item) (q : InstancePlace) (b : Item) (s : ℤ)
    → IsBoundInGrid tech (ports_of_masters masters) nets grids p a q b s
    → IsBoundInGrid tech (ports_of_masters masters) nets grids q b p a s
bound_turned tech masters nets grids p a q b s h = record {
  owners = λ same e. h.owners (sym same) (sym e);
  rule = h.rule;
  ruled = spacing_in-symmetric (numbers_of tech) b.class a.class ∙ h.ruled;
  spacing = h.spacing;
  unjoined = λ exempt one. h.unjoined exempt (one_net_back (ports_of_masters masters) nets grids q b.net p a.net one);
  apart = λ lies same together. h.apart (lies_either b.class a.class lies) (sym same)
      (together.0, together.2, together.1);
}

-- ---- one instance

apart_in_instance : (tech : Tech) (plan : Plan) (masters : List Master) (layouts : List Coords) (nets : ℕ → Nets)
    (p : InstancePlace) (a b : Item) (s : ℤ) → IsDone tech plan masters layouts
    → IsItemAt plan masters p a → IsItemAt plan masters p b
    → IsBoundInGrid tech (ports_of_masters masters) nets (grids_of plan) p a p b s
    → s ≤ℤ gap_of_sides (sides_at_spot tech plan layouts p a) (sides_at_spot tech plan layouts p b)
apart_in_instance tech plan masters layouts nets p a b s done item_a item_b bound =
    let m : ℕ = master_at_spot (grids_of plan) p in
    let in_cell : IsBound tech a b s = record {
      owners = bound.owners refl;
      rule = bound.rule;
      ruled = bound.ruled;
      spacing = bound.spacing;
      nets = λ exempt same.
          bound.unjoined exempt
          (subst (IsOneNet (ports_of_masters masters) nets (grids_of plan) p a.net p) same the_same);
      apart = λ lies together. bound.apart lies refl together;
    } in
    let kept = spaced_in tech (layout_at layouts m) (items_at plan masters p) a b s
    (done.finished.clean m (master_among tech plan masters p done.planned item_a.at)) item_a.among item_b.among
    in_cell in
    let x : ℤ = left_of (size_in X layouts) (widest_of tech) (grids_of plan) p in
    let y : ℤ = bottom_of (size_in Y layouts) (grids_of plan) p in
    subst (λ z. s ≤ℤ z)
    (sym (shift_together x y (sides_in (layout_at layouts m) a) (sides_in (layout_at layouts m) b))) kept

-- ---- one grid

-- a box of a wire that ends at a port of one axis is off the borders of the other
off_other : (axis : Axis) (tech : Tech) (cell : Cell) (nets : Nets) (i : Item) (is_low : Bool)
    → EndsAtPort axis tech cell nets is_low i → EndsOnBorder (other axis) i → ⊥
off_other axis tech cell nets i is_low h e = cross_off cell h.wire _ _ h.lies.cross_high (inr e)

pub is_next : (axis : Axis) (p q : InstancePlace) → p.grid ≡ q.grid → q.grid ≡ p.grid
    → place_of axis q ≡ place_of axis p + 1 → place_of (other axis) q ≡ place_of (other axis) p
    → IsNextInstance (other axis) p q
is_next X p q one back next level = (back, level, next)
is_next Y p q one back next level = (back, next, level)

-- next to one another, with both ends on the border between them
apart_on_border : (axis : Axis) (tech : Tech) (plan : Plan) (masters : List Master) (layouts : List Coords)
    (nets : ℕ → Nets) (p q : InstancePlace) (a b : Item) (s : ℤ) → IsDone tech plan masters layouts
    → AreNetsOf masters nets
    → IsItemAt plan masters p a → IsItemAt plan masters q b
    → IsBoundInGrid tech (ports_of_masters masters) nets (grids_of plan) p a q b s → IsRuled tech a.class b.class s
    → p.grid ≡ q.grid → place_of axis q ≡ place_of axis p + 1 → EndsOnBorder axis a → BeginsOnBorder axis b
    → s ≤ℤ gap_at (other axis) tech plan layouts p a q b
apart_on_border axis tech plan masters layouts nets p q a b s done are item_a item_b bound rule one next on_a on_b =
    let mp = master_is tech plan masters p done.planned item_a.at in
    let mq = master_is tech plan masters q done.planned item_b.at in
    let end_a = (items_border axis tech (master_of plan masters p) a mp item_a.among).high on_a in
    let end_b = (items_border axis tech (master_of plan masters q) b mq item_b.among).low on_b in
    let off_a = off_other axis tech (master_of plan masters p).cell mp.items.nets a false end_a in
    let off_b = off_other axis tech (master_of plan masters q).cell mq.items.nets b true end_b in
    let turned : IsRuled tech b.class a.class s =
    record { positive = rule.positive; first = rule.second; second = rule.first; widest = rule.widest } in
    let i : ℕ = place_of (other axis) p in
    let j : ℕ = place_of (other axis) q in
    elim (cases_lt i j) [
      | inl below ↦ apart_off_border (other axis) tech plan masters layouts p q a b s done item_a item_b one below
          rule (inl off_a)
      | inr not_below ↦ elim (cases_lt j i) [
        | inl above ↦
            let h = apart_off_border (other axis) tech plan masters layouts q p b a s done item_b item_a (sym one)
            above turned (inl off_b) in
            subst (λ z. s ≤ℤ z) (gap_at_turned (other axis) tech plan layouts q p b a) h
        | inr not_above ↦
            let level : i ≡ j = omega (arith, not_below, not_above) in
            apart_at_ports axis tech plan masters layouts nets p q a b s done are item_a item_b bound rule
            (is_next axis p q one (sym one) next (sym level)) one level on_a on_b
      ]
    ]

apart_in_order : (axis : Axis) (tech : Tech) (plan : Plan) (masters : List Master) (layouts : List Coords)
    (nets : ℕ → Nets) (p q : InstancePlace) (a b : Item) (s : ℤ) → IsDone tech plan masters layouts
    → AreNetsOf masters nets
    → IsItemAt plan masters p a → IsItemAt plan masters q b
    → IsBoundInGrid tech (ports_of_masters masters) nets (grids_of plan) p a q b s
    → p.grid ≡ q.grid → place_of axis p < place_of axis q
    → s ≤ℤ gap_of_sides (sides_at_spot tech plan layouts p a) (sides_at_spot tech plan layouts q b)
apart_in_order axis tech plan masters layouts nets p q a b s done are item_a item_b bound one lt =
    let rule = ruled tech a.class b.class bound.rule s bound.ruled bound.spacing in
    let i : ℕ = place_of axis p in
    let j : ℕ = place_of axis q in
    elim (cases_lt (suc i) j) [
      | inl far ↦ gap_suffices axis tech plan layouts p q a b s
          (apart_with_cell_between axis tech plan masters layouts p q a b s done item_a item_b one far rule.widest)
      | inr near ↦ elim (cases_eq (item_along axis a).xh.var 1) [
        | inr off ↦ gap_suffices axis tech plan layouts p q a b s
            (apart_off_border axis tech plan masters layouts p q a b s done item_a item_b one lt rule (inl off))
        | inl on_a ↦ elim (cases_eq (item_along axis b).xl.var 0) [
          | inr off ↦ gap_suffices axis tech plan layouts p q a b s
              (apart_off_border axis tech plan masters layouts p q a b s done item_a item_b one lt rule (inr off))
          | inl on_b ↦
              let next : j ≡ i + 1 = omega (arith, near, lt) in
              gap_suffices (other axis) tech plan layouts p q a b s
              (apart_on_border axis tech plan masters layouts nets p q a b s done are item_a item_b bound rule one
              next on_a on_b)
        ]
      ]
    ]

-- where one of two instances lies before the other, whichever it is
apart_on : (axis : Axis) (tech : Tech) (plan : Plan) (masters : List Master) (layouts : List Coords) (nets : ℕ → Nets)
    (p q : InstancePlace) (a b : Item) (s : ℤ) → IsDone tech plan masters layouts → AreNetsOf masters nets
    → IsItemAt plan masters p a → IsItemAt plan masters q b
    → IsBoundInGrid tech (ports_of_masters masters) nets (grids_of plan) p a q b s
    → p.grid ≡ q.grid → place_of axis p ≢ place_of axis q
    → s ≤ℤ gap_of_sides (sides_at_spot tech plan layouts p a) (sides_at_spot tech plan layouts q b)
apart_on axis tech plan masters layouts nets p q a b s done are item_a item_b bound one differ =
    elim (cases_lt (place_of axis p) (place_of axis q)) [
      | inl before ↦ apart_in_order axis tech plan masters layouts nets p q a b s done are item_a item_b bound one
          before
      | inr not_before ↦
          let turned = bound_turned tech masters nets (grids_of plan) p a q b s bound in
          let h = apart_in_order axis tech plan masters layouts nets q p b a s done are item_b item_a turned (sym one)
          (omega (arith, not_before, differ)) in
          subst (λ z. s ≤ℤ z)
          (sides_turned (sides_at_spot tech plan layouts q b) (sides_at_spot tech plan layouts p a)) h
    ]

-- ---- all instances

apart_between : (tech : Tech) (plan : Plan) (masters : List Master) (layouts : List Coords) (nets : ℕ → Nets)
    (p q : InstancePlace) (a b : Item) (s : ℤ) → IsDone tech plan masters layouts → AreNetsOf masters nets
    → IsItemAt plan masters p a → IsItemAt plan masters q b
    → IsBoundInGrid tech (ports_of_masters masters) nets (grids_of plan) p a q b s → p ≢ q
    → s ≤ℤ gap_of_sides (sides_at_spot tech plan layouts p a) (sides_at_spot tech plan layouts q b)
apart_between tech plan masters layouts nets p q a b s done are item_a item_b bound differ =
    let widest = (ruled tech a.class b.class bound.rule s bound.ruled bound.spacing).widest in
    elim (cases_lt p.grid q.grid) [
      | inl before ↦ gap_suffices X tech plan layouts p q a b s
          (apart_in_grids tech plan masters layouts p q a b s done item_a item_b before widest)
      | inr not_before ↦ elim (cases_lt q.grid p.grid) [
        | inl after ↦
            let h = gap_suffices X tech plan layouts q p b a s
            (apart_in_grids tech plan masters layouts q p b a s done item_b item_a after widest) in
            subst (λ z. s ≤ℤ z)
            (sides_turned (sides_at_spot tech plan layouts q b) (sides_at_spot tech plan layouts p a)) h
        | inr not_after ↦
            let one : p.grid ≡ q.grid = omega (arith, not_before, not_after) in
            elim (cases_eq p.col q.col) [
              | inr columns ↦ apart_on X tech plan masters layouts nets p q a b s done are item_a item_b bound one
                  columns
              | inl column ↦ elim (cases_eq p.row q.row) [
                | inr rows ↦ apart_on Y tech plan masters layouts nets p q a b s done are item_a item_b bound one rows
                | inl row ↦ absurd (differ (spot_is p q.grid q.row q.col one row column))
              ]
            ]
      ]
    ]

-- every two items of all instances
pub all_apart : (tech : Tech) (plan : Plan) (masters : List Master) (layouts : List Coords)
    → IsDone tech plan masters layouts → AllKeepSpacing tech plan masters layouts
all_apart tech plan masters layouts done nets are p q at_p at_q i j i_among j_among s bound =
    let item_p : IsItemAt plan masters p (item_in plan masters p i) =
    record { at = at_p; among = Contains-get_or (items_at plan masters p) i no_item i_among } in
    let item_q : IsItemAt plan masters q (item_in plan masters q j) =
    record { at = at_q; among = Contains-get_or (items_at plan masters q) j no_item j_among } in
    let a : Item = item_in plan masters p i in
    let b : Item = item_in plan masters q j in
    elim (spots_differ p q) [
      | inr differ ↦ apart_between tech plan masters layouts nets p q a b s done are item_p item_q bound differ
      | inl same ↦
          let P : InstancePlace → Type 0 = λ r. IsItemAt plan masters r b
          → IsBoundInGrid tech (ports_of_masters masters) nets (grids_of plan) p a r b s
          → s ≤ℤ gap_of_sides (sides_at_spot tech plan layouts p a) (sides_at_spot tech plan layouts r b) in
          subst P same (λ item bound. apart_in_instance tech plan masters layouts nets p a b s done item_p item bound)
          item_q bound
    ]
