-- The spacing that is computed of two items is there exactly where they are a candidate.
use Rattle.std.proofs.Common.{◌≡◌, ◌↔◌, Bool, true, false, ℤ, ◌+ℤ◌, ◌≤ℤ◌, ◌<ℤ◌, Option, Some, None, refl, sym, ap, ◌∙◌}
use Rattle.std.proofs.{Common.{subst, arith}, lemmas.{Int.ints, Bool.and_parts}}
use Rattle.std.specs.{Prelude.{int_lt, int_le, is_some, IsTrue}, Bool.then_some}
use Rattle.lam_geom.specs.declared.boxes.Axis.{Axis}
use Rattle.rule_table.specs.declared.technology.Tech.{Tech}
use Rattle.sym_items.specs.{declared.items.{Item.Item, Coords.Coords}, Sides.{Sides, gap_on_y}}
use Rattle.pair_rules.specs.{Bound.bound_spacing, Candidates.{IsCandidate, sides_at, is_before, spacing_before}}
use Rattle.pair_rules.{specs.Candidates.facing_spacing, proofs.BoundItems.same_some}

less : (a b : ℤ) → int_lt a b ≡ true → a <ℤ b
less a b e = grind (arith, ints)

at_most : (a b : ℤ) → int_le a b ≡ true → a ≤ℤ b
at_most a b e = grind (arith, ints)

chosen : (z s : ℤ) (q : Bool) → then_some q z ≡ Some s → (q ≡ true) × (z ≡ s)
chosen z s true e = (refl, same_some z s e)
chosen z s false e = cc

out_of_before : (o : Option ℤ) (s : ℤ) (a b : Sides) → spacing_before o a b ≡ Some s
    → (o ≡ Some s) × (is_before s a b ≡ true)
out_of_before None s a b e = cc
out_of_before (Some z) s a b e =
    let c = chosen z s (is_before z a b) e in
    let S : ℤ → Type 0 = λ y. is_before y a b ≡ true in
    (ap Some c.1, subst S c.1 c.0)

-- items whose spacing is there are a candidate
pub out_of_facing : (axis : Axis) (t : Tech) (c : Coords) (a b : Item) (s : ℤ) → facing_spacing axis t c a b ≡ Some s
    → IsCandidate axis t c a b s
unfolding facing_spacing
out_of_facing axis t c a b s e =
    let u = sides_at axis c a in
    let v = sides_at axis c b in
    let found = out_of_before (bound_spacing t a b) s u v e in
    let parts = and_parts (int_lt (gap_on_y u v) s) (int_le (u.right +ℤ s) v.left) found.1 in
    record {
      bound = found.0;
      near_across = less (gap_on_y u v) s parts.0;
      apart = at_most (u.right +ℤ s) v.left parts.1;
    }

stands_before : (s : ℤ) (a b : Sides) → gap_on_y a b <ℤ s → (a.right +ℤ s) ≤ℤ b.left → is_before s a b ≡ true
stands_before s a b near far = grind (arith, ints)

before : (o : Option ℤ) (s : ℤ) (a b : Sides) → o ≡ Some s → is_before s a b ≡ true → spacing_before o a b ≡ Some s
before o s a b e h = rw e (rw h refl)

-- and a candidate's spacing is there
pub candidate_faces : (axis : Axis) (t : Tech) (c : Coords) (a b : Item) (s : ℤ) → IsCandidate axis t c a b s
    → facing_spacing axis t c a b ≡ Some s
unfolding facing_spacing
candidate_faces axis t c a b s h =
    let u = sides_at axis c a in
    let v = sides_at axis c b in
    before (bound_spacing t a b) s u v h.bound (stands_before s u v h.near_across h.apart)

pub faces_exactly : (axis : Axis) (t : Tech) (c : Coords) (a b : Item) (o : Option ℤ)
    → o ≡ facing_spacing axis t c a b → (s : ℤ) → (o ≡ Some s) ↔ IsCandidate axis t c a b s
faces_exactly axis t c a b o is s =
    (λ e. out_of_facing axis t c a b s (sym is ∙ e), λ h. is ∙ candidate_faces axis t c a b s h)

some_there : (o : Option ℤ) → is_some o ≡ true → (s : ℤ) × (o ≡ Some s)
some_there None e = cc
some_there (Some s) e = (s, refl)

-- so two items face each other exactly where there is such a spacing
pub is_facing_exactly : (axis : Axis) (t : Tech) (c : Coords) (a b : Item) (r : Bool)
    → r ≡ is_some (facing_spacing axis t c a b) → IsTrue r ↔ ((s : ℤ) × IsCandidate axis t c a b s)
is_facing_exactly axis t c a b r is = (
  λ yes. let w = some_there (facing_spacing axis t c a b) (sym is ∙ yes) in (w.0, out_of_facing axis t c a b w.0 w.1),
  λ w. is ∙ ap is_some (candidate_faces axis t c a b w.0 w.1),
)

-- what is computed of a spacing that two items are bound with, and of none
pub facing_by : (axis : Axis) (t : Tech) (c : Coords) (a b : Item) (s : ℤ) → Some s ≡ bound_spacing t a b
    → facing_spacing axis t c a b ≡ then_some (is_before s (sides_at axis c a) (sides_at axis c b)) s
unfolding facing_spacing
facing_by axis t c a b s e = ap (λ o. spacing_before o (sides_at axis c a) (sides_at axis c b)) (sym e)

pub not_bound : (axis : Axis) (t : Tech) (c : Coords) (a b : Item) → None ≡ bound_spacing t a b
    → facing_spacing axis t c a b ≡ None
unfolding facing_spacing
not_bound axis t c a b e = ap (λ o. spacing_before o (sides_at axis c a) (sides_at axis c b)) (sym e)
