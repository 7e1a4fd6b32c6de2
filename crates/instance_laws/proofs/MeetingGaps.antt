-- How far two items of instances lie apart: inside an instance as in the layout of its master, and where they are
-- bound at least 1.
use Rattle.std.proofs.Common.{◌≡◌, ◌≢◌, ℕ, ◌<◌, ◌≤◌, ℤ, pos, ◌+ℤ◌, ◌≤ℤ◌, ◌<ℤ◌, true, false, List, [], length, Some}
use Rattle.std.proofs.{Common.{refl, sym, ◌∙◌, arith, inl, inr, ◌⊎◌}, lemmas.{Bool.cases_lt, Int.{ints, clamps}}}
use Rattle.std.specs.{Prelude.IsTrue, Int.{int_max, int_min}, List.All}
use Rattle.lam_geom.specs.declared.boxes.Axis.TheVariants.{X, Y}
use Rattle.rule_table.specs.{declared.{technology.Tech.Tech, classes.Rule.Rule}, Technology.{spacing_of, widest_of}}
use Rattle.sym_items.specs.{declared.items.Coords.Coords, Layouts.{layout_at, size_in}, Sides.{Sides, sides_in, gap_in}}
use Rattle.sym_items.specs.{Sides.gap_of_sides, Standing.StandTogether}
use Rattle.cell_model.specs.{declared.cell.Nets.Nets, Nets.AreNets}
use Rattle.pair_rules.specs.Bound.{is_poly_on_diffusion}
use Rattle.expand.specs.{declared.master.Master.Master, Masters.IsMaster}
use Rattle.buried_contacts.{specs.Contacts.{IsFinished, common}, proofs.Shares.same_sides}
use Rattle.plan_model.specs.{declared.plan.Plan.Plan, Instances.{InstancePlace, IsInstancePlace, master_at_spot}}
use Rattle.plan_model.specs.{Instances.{left_of, bottom_of}, Plan.grids_of}
use Rattle.pitch_join.specs.Masters.{master_at, no_master}
use Rattle.instance_laws.specs.{Rules.{AreNetsOf, shifted_sides, item_in}, Conductors.{InstanceItem, IsInstanceItem}}
use Rattle.instance_laws.specs.{Conductors.{item_of, gap_of_drawn}, Meetings.{master_of, at, EnclosesBy}}
use Rattle.instance_laws.proofs.{Apart.all_apart, Gaps.{IsDone, ruled, shift_together}, Meeting.master_among}

-- ---- instances

-- the layout of the master of an instance, and that it is finished
abbrev pub layout_of : Plan → List Coords → InstancePlace → Coords
layout_of plan layouts spot = layout_at layouts (master_at_spot (grids_of plan) spot)

pub finished_at : (tech : Tech) (plan : Plan) (masters : List Master) (layouts : List Coords) (spot : InstancePlace)
    → IsDone tech plan masters layouts → IsInstancePlace (grids_of plan) spot
    → IsFinished tech (master_of plan masters spot) (layout_of plan layouts spot)
finished_at tech plan masters layouts spot done there =
    let m : ℕ = master_at_spot (grids_of plan) spot in
    let lt = master_among tech plan masters spot done.planned there in
    record { structure = λ axis. (done.finished.meet axis).structures m lt; clean = done.finished.clean m lt }

-- ---- inside an instance

-- where an instance stands
abbrev pub x_of : Tech → Plan → List Coords → InstancePlace → ℤ
x_of tech plan layouts spot = left_of (size_in X layouts) (widest_of tech) (grids_of plan) spot

abbrev pub y_of : Plan → List Coords → InstancePlace → ℤ
y_of plan layouts spot = bottom_of (size_in Y layouts) (grids_of plan) spot

pub gap_inside : (tech : Tech) (plan : Plan) (masters : List Master) (layouts : List Coords) (spot : InstancePlace)
    (i j : ℕ)
    → gap_of_drawn tech plan masters layouts (at spot i) (at spot j)
    ≡ gap_in (layout_of plan layouts spot) (item_in plan masters spot i) (item_in plan masters spot j)
gap_inside tech plan masters layouts spot i j =
    shift_together (x_of tech plan layouts spot) (y_of plan layouts spot)
    (sides_in (layout_of plan layouts spot) (item_in plan masters spot i))
    (sides_in (layout_of plan layouts spot) (item_in plan masters spot j))

-- ---- boxes

-- boxes that have something in common overlap
pub common_overlaps : (s t : Sides) → (common s t).left <ℤ (common s t).right
    → (common s t).bottom <ℤ (common s t).top → gap_of_sides s t <ℤ pos 0
common_overlaps s t h k = omega (arith, ints, clamps, h, k)

greater_shifted : (o a b : ℤ) → int_max (o +ℤ a) (o +ℤ b) ≡ (o +ℤ int_max a b)
greater_shifted o a b = omega (arith, ints, clamps)

less_shifted : (o a b : ℤ) → int_min (o +ℤ a) (o +ℤ b) ≡ (o +ℤ int_min a b)
less_shifted o a b = omega (arith, ints, clamps)

pub common_shifted : (x y : ℤ) (s t : Sides)
    → common (shifted_sides x y s) (shifted_sides x y t) ≡ shifted_sides x y (common s t)
common_shifted x y s t =
    same_sides (common (shifted_sides x y s) (shifted_sides x y t)) (shifted_sides x y (common s t))
    (greater_shifted x s.left t.left) (less_shifted x s.right t.right)
    (greater_shifted y s.bottom t.bottom) (less_shifted y s.top t.top)

pub encloses_shifted : (x y : ℤ) (s t : Sides) (margin : ℤ) → EnclosesBy s t margin
    → EnclosesBy (shifted_sides x y s) (shifted_sides x y t) margin
encloses_shifted x y s t margin h =
    let l = h.left in
    let r = h.right in
    let b = h.bottom in
    let u = h.top in
    record {
      left = omega (arith, ints, l);
      right = omega (arith, ints, r);
      bottom = omega (arith, ints, b);
      top = omega (arith, ints, u);
    }

-- a box is no farther from what covers another than from that
pub nearer : (s t u : Sides) → EnclosesBy t u (pos 0) → gap_of_sides s t ≤ℤ gap_of_sides s u
nearer s t u h =
    let l = h.left in
    let r = h.right in
    let b = h.bottom in
    let p = h.top in
    omega (arith, ints, clamps, l, r, b, p)

-- ---- in all instances

nets_by : (tech : Tech) (masters : List Master) → All (IsMaster tech) masters → (m : ℕ)
    → (m < length masters) ⊎ (length masters ≤ m) → Nets
nets_by tech masters each m (inl lt) = (each m no_master lt).items.nets
nets_by tech masters each m (inr le) = record { node = []; wire = []; count = 0 }

nets_are : (tech : Tech) (masters : List Master) (each : All (IsMaster tech) masters) (m : ℕ)
    (c : (m < length masters) ⊎ (length masters ≤ m)) → m < length masters
    → AreNets (master_at masters m).cell (nets_by tech masters each m c)
unfolding nets_by
nets_are tech masters each m (inl lt) less = (each m no_master lt).items.of_cell
nets_are tech masters each m (inr le) less = absurd (omega (arith, le, less))

-- the masters have nets
pub nets_there : (tech : Tech) (masters : List Master) → All (IsMaster tech) masters
    → (nets : ℕ → Nets) × AreNetsOf masters nets
nets_there tech masters each = (
  λ m. nets_by tech masters each m (cases_lt m (length masters)),
  λ m lt.
      nets_are tech masters each m (cases_lt m (length masters)) lt,
)

-- two bound items whose rule frees no net
pub bound_apart : (tech : Tech) (plan : Plan) (masters : List Master) (layouts : List Coords)
    → IsDone tech plan masters layouts → (a b : InstanceItem) → IsInstanceItem plan masters a
    → IsInstanceItem plan masters b
    → (rule : Rule) → spacing_of tech (item_of plan masters a).class (item_of plan masters b).class ≡ Some rule
    → rule.net_exempt ≡ false
    → (a.spot ≡ b.spot → (item_of plan masters a).owner ≢ (item_of plan masters b).owner)
    → (IsTrue (is_poly_on_diffusion (item_of plan masters a).class (item_of plan masters b).class) → a.spot ≡ b.spot
    → StandTogether (item_of plan masters a) (item_of plan masters b) → ⊥)
    → pos 1 ≤ℤ gap_of_drawn tech plan masters layouts a b
bound_apart tech plan masters layouts done a b in_a in_b rule is bare owners apart =
    let nets : ℕ → Nets = λ m. nets_by tech masters done.planned.each m (cases_lt m (length masters)) in
    let are : AreNetsOf masters nets =
    λ m lt. nets_are tech masters done.planned.each m (cases_lt m (length masters)) lt in
    let kept = all_apart tech plan masters layouts done nets are a.spot b.spot in_a.spot in_b.spot a.item b.item
    in_a.among in_b.among rule.s (record {
      owners = owners;
      rule = rule;
      ruled = is;
      spacing = refl;
      unjoined = λ exempt one. absurd (let both : true ≡ false = sym exempt ∙ bare in cc);
      apart = apart;
    }) in
    let low = (ruled tech (item_of plan masters a).class (item_of plan masters b).class rule rule.s is refl).positive in
    omega (arith, ints, kept, low)

-- items of two instances
pub apart_elsewhere : (tech : Tech) (plan : Plan) (masters : List Master) (layouts : List Coords)
    → IsDone tech plan masters layouts → (a b : InstanceItem) → IsInstanceItem plan masters a
    → IsInstanceItem plan masters b
    → (rule : Rule) → spacing_of tech (item_of plan masters a).class (item_of plan masters b).class ≡ Some rule
    → rule.net_exempt ≡ false → a.spot ≢ b.spot
    → pos 1 ≤ℤ gap_of_drawn tech plan masters layouts a b
apart_elsewhere tech plan masters layouts done a b in_a in_b rule is bare differ =
    bound_apart tech plan masters layouts done a b in_a in_b rule is bare (λ same. absurd (differ same))
    (λ poly same together. differ same)
