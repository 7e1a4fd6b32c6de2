-- Boxes that are settled, and the first bad pair after them.
use Rattle.std.proofs.Common.{◌≡◌, ℕ, ◌+◌, ◌<◌, ◌≤◌, ◌⊎◌, inl, inr, List, length, refl, sym}
use Rattle.std.proofs.{Common.{◌∙◌, subst, arith}, lemmas.Bool.cases_lt}
use Rattle.lam_geom.specs.declared.boxes.{Axis.Axis, MaskBox.MaskBox, MaskLayer.TheVariants.ND}
use Rattle.rule_table.specs.declared.technology.Tech.{Tech}
use Rattle.crossing_model.specs.Boxes.{layer_at}
use Rattle.crossing_model.specs.Crossings.{IsMeeting, IsBadPair, IsFirstBadPair, CrossProperly, AreProper}
use Rattle.crossings.specs.Pairs.{Meets, IsBadWith, IsCrossed, IsCrossingBeforeBad, IsSettled}
use Rattle.crossings.proofs.Meetings.{not_both}

-- ---- a box that is settled

pub clear_settles : (tech : Tech) (boxes : List MaskBox) (a : ℕ) → ((b : ℕ) → Meets tech boxes a b → ⊥)
    → IsSettled tech boxes a
clear_settles tech boxes a none p d h (inl e) = absurd (none d (inl (subst (λ (k : ℕ). IsMeeting tech boxes k d) e h)))
clear_settles tech boxes a none p d h (inr e) = absurd (none p (inr (subst (λ (k : ℕ). IsMeeting tech boxes p k) e h)))

-- what meets one of two that cross properly is the other
pub poly_meets : (tech : Tech) (boxes : List MaskBox) (p d q : ℕ) → IsMeeting tech boxes p d
    → CrossProperly tech boxes p d → IsMeeting tech boxes q d → q ≡ p
poly_meets tech boxes p d q h proper other = proper.diffusion_alone q other.overlap

diffusion_meets : (tech : Tech) (boxes : List MaskBox) (p d e : ℕ) → IsMeeting tech boxes p d
    → CrossProperly tech boxes p d → IsMeeting tech boxes p e → e ≡ d
diffusion_meets tech boxes p d e h proper other = proper.poly_alone e other.overlap

-- poly is no diffusion
pub poly_no_diffusion : (tech : Tech) (boxes : List MaskBox) (p d q e : ℕ) → IsMeeting tech boxes p d
    → IsMeeting tech boxes q e → p ≡ e → ⊥
poly_no_diffusion tech boxes p d q e h other same =
    not_both boxes p h.overlap.poly.on (subst (λ (k : ℕ). layer_at boxes k ≡ ND) (sym same) other.overlap.diffusion.on)

same_pair : (tech : Tech) (boxes : List MaskBox) (p d q e : ℕ) → q ≡ p → e ≡ d → CrossProperly tech boxes p d
    → CrossProperly tech boxes q e
same_pair tech boxes p d q e at_poly at_diffusion proper =
    subst (λ (k : ℕ). CrossProperly tech boxes q k) (sym at_diffusion)
    (subst (λ (k : ℕ). CrossProperly tech boxes k d) (sym at_poly) proper)

pub crossed_settles : (tech : Tech) (boxes : List MaskBox) (a p d : ℕ) (axis : Axis) → IsCrossed tech boxes a p d axis
    → IsSettled tech boxes a
crossed_settles tech boxes a p d axis crossed q e h one = go crossed.one one where
  go : (p ≡ a) ⊎ (d ≡ a) → (q ≡ a) ⊎ (e ≡ a) → CrossProperly tech boxes q e
  go (inl at) (inl here) =
      let at_poly = here ∙ sym at in
      let met = subst (λ (k : ℕ). IsMeeting tech boxes k e) at_poly h in
      same_pair tech boxes p d q e at_poly (diffusion_meets tech boxes p d e crossed.meeting crossed.proper met)
      crossed.proper
  go (inr at) (inr here) =
      let at_diffusion = here ∙ sym at in
      let met = subst (λ (k : ℕ). IsMeeting tech boxes q k) at_diffusion h in
      same_pair tech boxes p d q e (poly_meets tech boxes p d q crossed.meeting crossed.proper met) at_diffusion
      crossed.proper
  go (inl at) (inr here) = absurd (poly_no_diffusion tech boxes p d q e crossed.meeting h (at ∙ sym here))
  go (inr at) (inl here) = absurd (poly_no_diffusion tech boxes q e p d h crossed.meeting (here ∙ sym at))

-- one more box is settled
pub settled_more : (tech : Tech) (boxes : List MaskBox) (n : ℕ) → ((a : ℕ) → a < n → IsSettled tech boxes a)
    → IsSettled tech boxes n → (a : ℕ) → a < n + 1 → IsSettled tech boxes a
settled_more tech boxes n below here a lt = elim (cases_lt a n) [
  | inl less ↦ below a less
  | inr more ↦ let e : n ≡ a = omega arith in subst (λ (k : ℕ). IsSettled tech boxes k) e here
]

-- all boxes are
pub all_settled : (tech : Tech) (boxes : List MaskBox) (n : ℕ) → n ≡ length boxes
    → ((a : ℕ) → a < n → IsSettled tech boxes a) → AreProper tech boxes
all_settled tech boxes n all below p d h =
    let among = h.overlap.poly.among in
    below p (omega arith) p d h (inl refl)

-- ---- the first bad pair

pub settled_not_bad : (tech : Tech) (boxes : List MaskBox) (a b : ℕ) → IsSettled tech boxes a
    → IsBadWith tech boxes a b → ⊥
settled_not_bad tech boxes a b settled (inl h) = h.improper (settled a b h.meeting (inl refl))
settled_not_bad tech boxes a b settled (inr h) = h.improper (settled b a h.meeting (inr refl))

bad_turned : (tech : Tech) (boxes : List MaskBox) (a b : ℕ) → IsBadWith tech boxes a b → IsBadWith tech boxes b a
bad_turned tech boxes a b (inl h) = inr h
bad_turned tech boxes a b (inr h) = inl h

not_with_itself : (tech : Tech) (boxes : List MaskBox) (a b : ℕ) → IsBadWith tech boxes a b → a ≡ b → ⊥
not_with_itself tech boxes a b (inl h) e = poly_no_diffusion tech boxes a b a b h.meeting h.meeting e
not_with_itself tech boxes a b (inr h) e = poly_no_diffusion tech boxes b a b a h.meeting h.meeting (sym e)

above_settled : (tech : Tech) (boxes : List MaskBox) (a b : ℕ) → ((c : ℕ) → c < a → IsSettled tech boxes c)
    → IsBadWith tech boxes a b → a < b
above_settled tech boxes a b below bad = elim (cases_lt a b) [
  | inl less ↦ less
  | inr more ↦ elim (cases_lt b a) [
    | inl under ↦ absurd (settled_not_bad tech boxes b a (below b under) (bad_turned tech boxes a b bad))
    | inr over ↦ absurd (not_with_itself tech boxes a b bad (omega arith))
  ]
]

-- the least box that the first unsettled one is bad with
pub first_bad : (tech : Tech) (boxes : List MaskBox) (a b : ℕ) → ((c : ℕ) → c < a → IsSettled tech boxes c)
    → IsBadWith tech boxes a b → ((c : ℕ) → IsBadWith tech boxes a c → b ≤ c) → IsFirstBadPair tech boxes a b
first_bad tech boxes a b below bad least = record {
  bad = (above_settled tech boxes a b below bad, bad);
  first = λ c d h. elim (cases_lt a c) [
    | inl less ↦ inl less
    | inr more ↦ elim (cases_lt c a) [
      | inl under ↦ absurd (settled_not_bad tech boxes c d (below c under) h.1)
      | inr over ↦ let e : a ≡ c =
          omega arith in inr (e, least d (subst (λ (k : ℕ). IsBadWith tech boxes k d) (sym e) h.1))
    ]
  ];
}

-- ---- a crossing before the first bad pair

-- where the boxes below n are settled, each bad pair stands after them
bad_after : (tech : Tech) (boxes : List MaskBox) (n : ℕ) → ((c : ℕ) → c < n → IsSettled tech boxes c) → (a b : ℕ)
    → IsBadPair tech boxes a b → n ≤ a
bad_after tech boxes n below a b h =
    elim (cases_lt a n) [ inl less ↦ absurd (settled_not_bad tech boxes a b (below a less) h.1) | inr more ↦ more ]

pub crossing_before_bad : (tech : Tech) (boxes : List MaskBox) (p d : ℕ) (axis : Axis)
    → ((c : ℕ) → c < d → IsSettled tech boxes c) → IsCrossed tech boxes d p d axis → IsCrossingBeforeBad tech boxes
crossing_before_bad tech boxes p d axis below crossed = record {
  p = p;
  d = d;
  meeting = crossed.meeting;
  proper = crossed.proper;
  before = λ a b h. let after =
      bad_after tech boxes (d + 1) (settled_more tech boxes d below (crossed_settles tech boxes d p d axis crossed)) a
      b h in omega (arith, after);
}
