-- How far items of instances lie apart on an axis, where lines or margins keep them apart.
use Rattle.std.proofs.Common.{◌≡◌, ℕ, suc, ◌<◌, ℤ, pos, ◌+ℤ◌, ◌≤ℤ◌, List, [], subst, arith, inl, inr, ◌⊎◌, Option, Some}
use Rattle.std.proofs.{Common.{ap, ◌∙◌}, lemmas.Int.{ints, clamps}}
use Rattle.std.specs.{Prelude.IfSome, List.{All, Contains}, Int.int_max}
use Rattle.lam_geom.specs.{declared.boxes.Axis.{Axis, TheVariants.{X, Y}}, Gaps.gap_between}
use Rattle.rule_table.specs.declared.{classes.{Class.Class, Rule.Rule}, technology.Tech.Tech}
use Rattle.rule_table.specs.Technology.{numbers_of, spacing_of, margin_of, widest_of}
use Rattle.rule_table.proofs.Margins.{IsSpacing, spacing_bounds, within_margins, widest_above, widest_positive}
use Rattle.sym_items.specs.{declared.items.{Coords.Coords, Item.Item}, Layouts.{value_in, size_in}, Sides.gap_of_sides}
use Rattle.sym_items.specs.Sides.{Sides}
use Rattle.expand.{specs.declared.master.Master.Master, proofs.Among.sound_numbers}
use Rattle.plan_model.specs.{declared.plan.Plan.Plan, Instances.{InstancePlace, IsInstancePlace, IsAligned}}
use Rattle.plan_model.specs.{Instances.master_at_spot, Plan.grids_of}
use Rattle.pitch_join.specs.Masters.{master_at, ports_of_masters}
use Rattle.instance_laws.specs.{Planned.AreOfPlan, Rules.{AreFinished, sides_at_spot, items_at, shifted_sides}}
use Rattle.instance_laws.proofs.{Aligned.all_aligned, InCell.{low_in, high_in, BeginsOnBorder, EndsOnBorder}}
use Rattle.instance_laws.proofs.{InCell.{LiesBetween, items_between, cell_long}, Meeting.{master_among, master_is}}
use Rattle.instance_laws.proofs.Places.{place_of, low_of, AreLaid, stands_after, stands_far_after, grids_apart}

-- ---- a plan laid out

-- the masters of a plan, and their layouts
pub record IsDone (tech : Tech) (plan : Plan) (masters : List Master) (layouts : List Coords) : Type 0 where
  pub planned : AreOfPlan tech plan masters
  pub finished : AreFinished tech plan masters layouts

pub grids_laid : (axis : Axis) (tech : Tech) (plan : Plan) (masters : List Master) (layouts : List Coords)
    → IsDone tech plan masters layouts → AreLaid axis (size_in axis layouts) (widest_of tech) (grids_of plan)
grids_laid axis tech plan masters layouts done =
    let wide : (p : InstancePlace) → IsInstancePlace (grids_of plan) p
    → widest_of tech ≤ℤ size_in axis layouts (master_at_spot (grids_of plan) p) =
    λ p at. (let m : ℕ = master_at_spot (grids_of plan) p in cell_long axis tech (master_at masters m)
    (value_in axis layouts m)
    ((done.finished.meet axis).structures m (master_among tech plan masters p done.planned at))) in
    let aligned = all_aligned (ports_of_masters masters) plan layouts done.planned.planned
    (λ axis. (done.finished.meet axis).borders) in
    let positive : pos 1 ≤ℤ widest_of tech = widest_positive (numbers_of tech) (sound_numbers tech) in
    by axis positive wide aligned
  where
    by : (axis : Axis) → pos 1 ≤ℤ widest_of tech
        → ((p : InstancePlace) → IsInstancePlace (grids_of plan) p
        → widest_of tech ≤ℤ size_in axis layouts (master_at_spot (grids_of plan) p))
        → All (IsAligned (size_in X layouts) (size_in Y layouts)) (grids_of plan)
        → AreLaid axis (size_in axis layouts) (widest_of tech) (grids_of plan)
    by X positive wide aligned = λ g lt. record {
      rectangular = done.planned.planned.rectangular g [] lt;
      sizes = λ r c rl cl. (aligned g [] lt).columns r c rl cl;
      not_below = omega (arith, ints, positive);
      wide = λ r c rl cl. wide (record { grid = g; row = r; col = c }) (record { grid = lt; row = rl; col = cl });
    }
    by Y positive wide aligned = λ g lt. record {
      rectangular = done.planned.planned.rectangular g [] lt;
      sizes = λ r c rl cl. (aligned g [] lt).rows r c rl cl;
      not_below = omega (arith, ints, positive);
      wide = λ r c rl cl. wide (record { grid = g; row = r; col = c }) (record { grid = lt; row = rl; col = cl });
    }

-- ---- an item of an instance

-- an item of the master of an instance
pub record IsItemAt (plan : Plan) (masters : List Master) (p : InstancePlace) (a : Item) : Type 0 where
  pub at : IsInstancePlace (grids_of plan) p
  pub among : Contains (items_at plan masters p) a

-- the values of an axis in the layout of an instance
abbrev pub values_at : Axis → Plan → List Coords → InstancePlace → ℕ → ℤ
values_at axis plan layouts p = value_in axis layouts (master_at_spot (grids_of plan) p)

-- where an item of an instance begins and ends on an axis
abbrev pub low_at : Axis → Tech → Plan → List Coords → InstancePlace → Item → ℤ
low_at axis tech plan layouts p a =
    low_of axis (size_in axis layouts) (widest_of tech) (grids_of plan) p +ℤ low_in axis
    (values_at axis plan layouts p) a

abbrev pub high_at : Axis → Tech → Plan → List Coords → InstancePlace → Item → ℤ
high_at axis tech plan layouts p a =
    low_of axis (size_in axis layouts) (widest_of tech) (grids_of plan) p +ℤ high_in axis
    (values_at axis plan layouts p) a

abbrev pub gap_at : Axis → Tech → Plan → List Coords → InstancePlace → Item → InstancePlace → Item → ℤ
gap_at axis tech plan layouts p a q b =
    gap_between (low_at axis tech plan layouts p a) (high_at axis tech plan layouts p a)
    (low_at axis tech plan layouts q b) (high_at axis tech plan layouts q b)

-- the gap on one axis suffices
greater : (x y s : ℤ) → (s ≤ℤ x) ⊎ (s ≤ℤ y) → s ≤ℤ int_max x y
greater x y s (inl h) = omega (arith, ints, clamps, h)
greater x y s (inr h) = omega (arith, ints, clamps, h)

pub gap_suffices : (axis : Axis) (tech : Tech) (plan : Plan) (layouts : List Coords) (p q : InstancePlace)
    (a b : Item) (s : ℤ) → s ≤ℤ gap_at axis tech plan layouts p a q b
    → s ≤ℤ gap_of_sides (sides_at_spot tech plan layouts p a) (sides_at_spot tech plan layouts q b)
gap_suffices X tech plan layouts p q a b s h = greater _ _ s (inl h)
gap_suffices Y tech plan layouts p q a b s h = greater _ _ s (inr h)

pub gap_turned : (a b c d : ℤ) → gap_between a b c d ≡ gap_between c d a b
gap_turned a b c d = omega (arith, ints, clamps)

pub sides_turned : (u v : Sides) → gap_of_sides u v ≡ gap_of_sides v u
sides_turned u v = ap (λ z. int_max z (gap_between u.bottom u.top v.bottom v.top))
    (gap_turned u.left u.right v.left v.right)
    ∙ ap (int_max (gap_between v.left v.right u.left u.right)) (gap_turned u.bottom u.top v.bottom v.top)

same_shift : (o a b c d : ℤ) → gap_between (o +ℤ a) (o +ℤ b) (o +ℤ c) (o +ℤ d) ≡ gap_between a b c d
same_shift o a b c d = omega (arith, ints, clamps)

pub shift_together : (x y : ℤ) (u v : Sides)
    → gap_of_sides (shifted_sides x y u) (shifted_sides x y v) ≡ gap_of_sides u v
shift_together x y u v =
    ap (λ z. int_max z (gap_between (y +ℤ u.bottom) (y +ℤ u.top) (y +ℤ v.bottom) (y +ℤ v.top)))
    (same_shift x u.left u.right v.left v.right)
    ∙ ap (int_max (gap_between u.left u.right v.left v.right)) (same_shift y u.bottom u.top v.bottom v.top)

pub gap_at_turned : (axis : Axis) (tech : Tech) (plan : Plan) (layouts : List Coords) (p q : InstancePlace)
    (a b : Item) → gap_at axis tech plan layouts p a q b ≡ gap_at axis tech plan layouts q b p a
gap_at_turned axis tech plan layouts p q a b =
    gap_turned (low_at axis tech plan layouts p a) (high_at axis tech plan layouts p a)
    (low_at axis tech plan layouts q b) (high_at axis tech plan layouts q b)

pub lies_there : (axis : Axis) (tech : Tech) (plan : Plan) (masters : List Master) (layouts : List Coords)
    (p : InstancePlace) (a : Item) → IsDone tech plan masters layouts → IsItemAt plan masters p a
    → LiesBetween axis tech (values_at axis plan layouts p) a
lies_there axis tech plan masters layouts p a done item =
    let m : ℕ = master_at_spot (grids_of plan) p in
    items_between axis tech (master_at masters m) (value_in axis layouts m) a
    (master_is tech plan masters p done.planned item.at)
    ((done.finished.meet axis).structures m (master_among tech plan masters p done.planned item.at)) item.among

-- ---- lengths of rules

-- a spacing of the rule of two classes
pub record IsRuled (tech : Tech) (c d : Class) (s : ℤ) : Type 0 where
  pub positive : pos 1 ≤ℤ s
  pub first : s ≤ℤ margin_of tech c
  pub second : s ≤ℤ margin_of tech d
  pub widest : s ≤ℤ widest_of tech

pub ruled : (tech : Tech) (c d : Class) (rule : Rule) (s : ℤ) → spacing_of tech c d ≡ Some rule → rule.s ≡ s
    → IsRuled tech c d s
ruled tech c d rule s is same =
    let bounds = subst (λ (o : Option Rule). IfSome o IsSpacing) is
    (spacing_bounds (numbers_of tech) (sound_numbers tech) c d) in
    let within = subst (λ (o : Option Rule). IfSome o (λ r. (r.s ≤ℤ margin_of tech c) × (r.s ≤ℤ margin_of tech d))) is
    (within_margins (numbers_of tech) c d) in
    let low = bounds.0 in
    let first = within.0 in
    let second = within.1 in
    let above : margin_of tech c ≤ℤ widest_of tech = widest_above (numbers_of tech) c in
    record {
      positive = omega (arith, ints, low, same);
      first = omega (arith, ints, first, same);
      second = omega (arith, ints, second, same);
      widest = omega (arith, ints, first, same, above);
    }

-- ---- what lines and margins keep apart

-- with a cell between
pub apart_with_cell_between : (axis : Axis) (tech : Tech) (plan : Plan) (masters : List Master)
    (layouts : List Coords) (p q : InstancePlace) (a b : Item) (s : ℤ) → IsDone tech plan masters layouts
    → IsItemAt plan masters p a → IsItemAt plan masters q b
    → p.grid ≡ q.grid → suc (place_of axis p) < place_of axis q → s ≤ℤ widest_of tech
    → s ≤ℤ gap_at axis tech plan layouts p a q b
apart_with_cell_between axis tech plan masters layouts p q a b s done item_a item_b one lt within =
    let far = stands_far_after axis (size_in axis layouts) (widest_of tech) (grids_of plan) p q item_a.at item_b.at
    (grids_laid axis tech plan masters layouts done) one lt in
    let below = (lies_there axis tech plan masters layouts p a done item_a).below in
    let above = (lies_there axis tech plan masters layouts q b done item_b).above in
    omega (arith, ints, clamps, far, below, above, within)

-- next to one another, where an end of one is off the border between them
pub apart_off_border : (axis : Axis) (tech : Tech) (plan : Plan) (masters : List Master) (layouts : List Coords)
    (p q : InstancePlace) (a b : Item) (s : ℤ) → IsDone tech plan masters layouts → IsItemAt plan masters p a
    → IsItemAt plan masters q b
    → p.grid ≡ q.grid → place_of axis p < place_of axis q → IsRuled tech a.class b.class s
    → (EndsOnBorder axis a → ⊥) ⊎ (BeginsOnBorder axis b → ⊥) → s ≤ℤ gap_at axis tech plan layouts p a q b
apart_off_border axis tech plan masters layouts p q a b s done item_a item_b one lt rule off =
    let after = stands_after axis (size_in axis layouts) (widest_of tech) (grids_of plan) p q item_a.at item_b.at
    (grids_laid axis tech plan masters layouts done) one lt in
    let lies_a = lies_there axis tech plan masters layouts p a done item_a in
    let lies_b = lies_there axis tech plan masters layouts q b done item_b in
    elim off [
      | inl not_there ↦
          let below = lies_a.margin_below not_there in
          let above = lies_b.above in
          let within = rule.first in
          omega (arith, ints, clamps, after, below, above, within)
      | inr not_there ↦
          let below = lies_a.below in
          let above = lies_b.margin_above not_there in
          let within = rule.second in
          omega (arith, ints, clamps, after, below, above, within)
    ]

-- in two grids
pub apart_in_grids : (tech : Tech) (plan : Plan) (masters : List Master) (layouts : List Coords) (p q : InstancePlace)
    (a b : Item) (s : ℤ) → IsDone tech plan masters layouts → IsItemAt plan masters p a → IsItemAt plan masters q b
    → p.grid < q.grid → s ≤ℤ widest_of tech → s ≤ℤ gap_at X tech plan layouts p a q b
apart_in_grids tech plan masters layouts p q a b s done item_a item_b lt within =
    let far = grids_apart (size_in X layouts) (widest_of tech) (grids_of plan) p q item_a.at item_b.at
    (grids_laid X tech plan masters layouts done) lt in
    let below = (lies_there X tech plan masters layouts p a done item_a).below in
    let above = (lies_there X tech plan masters layouts q b done item_b).above in
    omega (arith, ints, clamps, far, below, above, within)
