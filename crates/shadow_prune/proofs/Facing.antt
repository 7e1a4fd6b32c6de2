-- Items of a family are a candidate where their bars face each other and the first begins before the second.
use Rattle.std.proofs.Common.{◌≡◌, ℕ, ℤ, pos, ◌+ℤ◌, ◌*ℤ◌, ◌≤ℤ◌, ◌<ℤ◌, Bool, true, false, Option, Some, refl, sym}
use Rattle.std.proofs.{Common.{ap, ◌∙◌, subst, arith}, lemmas.Int.{ints, clamps}}
use Rattle.std.specs.{Prelude.{IsTrue, IfSome}, Int.int_max}
use Rattle.lam_geom.specs.declared.boxes.Axis.{Axis, TheVariants.{X, Y}}
use Rattle.rule_table.specs.declared.technology.Tech.{Tech}
use Rattle.sym_items.specs.{declared.items.{Item.Item, Coords.Coords}, Sides.{Sides, gap_on_x, gap_on_y, gap_in}}
use Rattle.sym_items.specs.Boxes.{HasBox}
use Rattle.pair_rules.specs.{Bound.bound_spacing, Candidates.{sides_at, IsCandidate}, Clean.IsSpaced}
use Rattle.pair_rules.proofs.Spacings.{bound_bounds}
use Rattle.bar_rows.specs.{declared.bars.Bar.Bar, Facing.{KindsBind, Faces}}
use Rattle.scan_line.specs.Begins.{begin_at}
use Rattle.shadow_prune.specs.{declared.families.Family.Family, Families.{role_of, has_rule, has_self_rule, is_main}}
use Rattle.shadow_prune.specs.Families.{reach_of}
use Rattle.shadow_prune.proofs.Meeting.{meet_if_near, near_if_meet}
use Rattle.shadow_prune.proofs.Binding.{spacing_for, item_bar, main_by_role, binds_if_bound, bound_by_roles}
use Rattle.shadow_prune.proofs.Binding.{bound_if_binds}

-- two bars that are bound reach twice the spacing for their roles
reach_both : (t : Tech) (f : Family) (self_rule m n : Bool) (x y : Bar) → KindsBind self_rule m n x y
    → (reach_of t f m +ℤ reach_of t f n) ≡ (pos 2 *ℤ spacing_for t f m n)
reach_both t f self_rule true true x y h = omega (arith, ints)
reach_both t f self_rule true false x y h = omega (arith, ints)
reach_both t f self_rule false true x y h = omega (arith, ints)
reach_both t f self_rule false false x y h = absurd h

mains_spacing : (t : Tech) (f : Family) (a b : Item) (m n : Bool) → role_of f a.class ≡ Some m
    → role_of f b.class ≡ Some n → spacing_for t f (is_main f a) (is_main f b) ≡ spacing_for t f m n
mains_spacing t f a b m n d e =
    ap (λ x. spacing_for t f x (is_main f b)) (main_by_role f a m d) ∙ ap (spacing_for t f m) (main_by_role f b n e)

-- bound items that are near across the axis have bars that face each other
pub faces_if_near : (axis : Axis) (t : Tech) (c : Coords) (f : Family) (a b : Item) (i j : ℕ) (m n : Bool) (s : ℤ)
    → role_of f a.class ≡ Some m → role_of f b.class ≡ Some n → bound_spacing t a b ≡ Some s
    → gap_on_y (sides_at axis c a) (sides_at axis c b) <ℤ s
    → Faces (has_self_rule t f) (item_bar axis t c f a i) (item_bar axis t c f b j)
faces_if_near axis t c f a b i j m n s d e is_bound near =
    let x = item_bar axis t c f a i in
    let y = item_bar axis t c f b j in
    let u = sides_at axis c a in
    let v = sides_at axis c b in
    let binds = binds_if_bound axis t c f a b i j m n s d e is_bound in
    let r = reach_of t f (is_main f a) in
    let q = reach_of t f (is_main f b) in
    let spacing : spacing_for t f (is_main f a) (is_main f b) ≡ s =
    mains_spacing t f a b m n d e ∙ sym (bound_by_roles t f a b m n s d e is_bound) in
    let both : (r +ℤ q) ≡ (pos 2 *ℤ s) =
    reach_both t f (has_self_rule t f) (is_main f a) (is_main f b) x y binds.kinds ∙ ap (λ z. pos 2 *ℤ z) spacing in
    record {
      meet = meet_if_near u.bottom u.top v.bottom v.top r q s both near;
      bound = binds;
    }

-- and bars that face each other are those of such items
pub record IsNear (axis : Axis) (t : Tech) (c : Coords) (a b : Item) (s : ℤ) : Type 0 where
  pub bound : bound_spacing t a b ≡ Some s
  pub near : gap_on_y (sides_at axis c a) (sides_at axis c b) <ℤ s

pub near_if_faces : (axis : Axis) (t : Tech) (c : Coords) (f : Family) (a b : Item) (i j : ℕ) (m n : Bool)
    → role_of f a.class ≡ Some m → role_of f b.class ≡ Some n → IsTrue (has_rule t f)
    → Faces (has_self_rule t f) (item_bar axis t c f a i) (item_bar axis t c f b j)
    → IsNear axis t c a b (spacing_for t f m n)
near_if_faces axis t c f a b i j m n d e has h =
    let x = item_bar axis t c f a i in
    let y = item_bar axis t c f b j in
    let u = sides_at axis c a in
    let v = sides_at axis c b in
    let r = reach_of t f (is_main f a) in
    let q = reach_of t f (is_main f b) in
    let s = spacing_for t f m n in
    let both : (r +ℤ q) ≡ (pos 2 *ℤ s) =
    reach_both t f (has_self_rule t f) (is_main f a) (is_main f b) x y h.bound.kinds
    ∙ ap (λ z. pos 2 *ℤ z) (mains_spacing t f a b m n d e) in
    record {
      bound = bound_if_binds axis t c f a b i j m n d e has h.bound;
      near = near_if_meet u.bottom u.top v.bottom v.top r q s both h.meet.0 h.meet.1;
    }

-- ---- the order along the axis

-- the sides of an item are in order along an axis
pub sides_ordered : (axis : Axis) (c : Coords) (a : Item) → HasBox c a
    → (sides_at axis c a).left ≤ℤ (sides_at axis c a).right
sides_ordered X c a h = h.x.ordered
sides_ordered Y c a h = h.y.ordered

-- it begins at its left side
pub begins_left : (axis : Axis) (c : Coords) (a : Item) → begin_at axis c a ≡ (sides_at axis c a).left
begins_left X c a = refl
begins_left Y c a = refl

-- what is clean is spaced along the axis or across
spaced_along : (axis : Axis) (c : Coords) (a b : Item) (s : ℤ) → s ≤ℤ gap_in c a b
    → s ≤ℤ int_max (gap_on_x (sides_at axis c a) (sides_at axis c b)) (gap_on_y (sides_at axis c a) (sides_at axis c b))
spaced_along X c a b s h = h
spaced_along Y c a b s h = omega (arith, ints, clamps)

spaced_by : (o : Option ℤ) (s g : ℤ) → o ≡ Some s → IfSome o (λ z. z ≤ℤ g) → s ≤ℤ g
spaced_by o s g e h = let P : Option ℤ → Type 0 = λ q. IfSome q (λ z. z ≤ℤ g) in subst P e h

stands_after : (u v : Sides) (s : ℤ) → pos 1 ≤ℤ s → s ≤ℤ int_max (gap_on_x u v) (gap_on_y u v) → gap_on_y u v <ℤ s
    → v.left ≤ℤ v.right → u.left ≤ℤ v.left → (u.right +ℤ s) ≤ℤ v.left
stands_after u v s least far near ordered before = omega (arith, ints, clamps)

-- so near items of a clean layout are a candidate, the one first that begins first
pub candidate_if_near : (axis : Axis) (t : Tech) (c : Coords) (a b : Item) (s : ℤ) → IsNear axis t c a b s
    → HasBox c b → IsSpaced t c a b → begin_at axis c a ≤ℤ begin_at axis c b → IsCandidate axis t c a b s
candidate_if_near axis t c a b s h box clean before =
    let u = sides_at axis c a in
    let v = sides_at axis c b in
    let far = spaced_along axis c a b s (spaced_by (bound_spacing t a b) s (gap_in c a b) h.bound clean) in
    let left : u.left ≤ℤ v.left =
    subst (λ x. x ≤ℤ v.left) (begins_left axis c a) (subst (λ x. begin_at axis c a ≤ℤ x) (begins_left axis c b) before)
    in
    record {
      bound = h.bound;
      near_across = h.near;
      apart = stands_after u v s (bound_bounds t a b s h.bound).0 far h.near (sides_ordered axis c b box) left;
    }

-- and a candidate's first item begins first
begins_below : (u v : Sides) (s : ℤ) → pos 1 ≤ℤ s → (u.right +ℤ s) ≤ℤ v.left → u.left ≤ℤ u.right → u.left <ℤ v.left
begins_below u v s least apart ordered = omega (arith, ints)

pub begins_first : (axis : Axis) (t : Tech) (c : Coords) (a b : Item) (s : ℤ) → IsCandidate axis t c a b s
    → HasBox c a → begin_at axis c a <ℤ begin_at axis c b
begins_first axis t c a b s h box =
    let u = sides_at axis c a in
    let v = sides_at axis c b in
    let below = begins_below u v s (bound_bounds t a b s h.bound).0 h.apart (sides_ordered axis c a box) in
    subst (λ x. x <ℤ begin_at axis c b) (sym (begins_left axis c a))
    (subst (λ x. u.left <ℤ x) (sym (begins_left axis c b)) below)
