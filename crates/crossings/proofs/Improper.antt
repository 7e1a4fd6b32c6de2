-- Pairs that are neither buried nor proper crossings, and the one box that a box overlaps.
use Rattle.std.proofs.Common.{◌≡◌, ℕ, ◌≤◌, ◌⊎◌, inl, inr, List, [], ◌∷◌, ◌++◌, Result, Ok, Err, OnOk, refl, sym, ◌∙◌}
use Rattle.std.proofs.Common.{subst, arith}
use Rattle.lam_geom.specs.declared.boxes.{Axis.Axis, BoxXY.BoxXY, MaskBox.MaskBox}
use Rattle.rule_table.specs.declared.technology.Tech.{Tech}
use Rattle.box_tree.{specs.Found.AreGathered, proofs.Growth.{gathered_as, gathered_none, gathered_push}}
use Rattle.crossings.specs.declared.standings.Standing.{Standing, TheVariants.{Clear, Crosses, Bad}}
use Rattle.crossings.specs.declared.partners.Partners.{Partners, TheVariants.{Nothing, One, Several}}
use Rattle.crossings.specs.Pairs.{DoOverlap, HowMany, IsBadWith, IsCrossed, IsPairOf, Meets, StandsAs}
use Rattle.crossings.proofs.Meetings.{diffusion_alone, meets_overlap, poly_alone}
use Rattle.crossings.proofs.Settled.{crossed_settles, settled_not_bad}
use Rattle.crossing_model.specs.Boxes.{area_at}
use Rattle.crossing_model.specs.Crossings.{CrossAlong, CrossProperly, IsBuriedPair, IsImproper, IsOverlap}

-- the pair of a box and the only one that it overlaps
pub record IsOnlyPair (tech : Tech) (boxes : List MaskBox) (a b p d : ℕ) : Type 0 where
  pub pair : IsPairOf a b p d
  pub overlap : IsOverlap boxes p d
  pub only : HowMany (DoOverlap boxes a) (One b)
  pub unburied : IsBuriedPair tech boxes p d → ⊥

bad_meets : (tech : Tech) (boxes : List MaskBox) (a b : ℕ) → IsBadWith tech boxes a b → Meets tech boxes a b
bad_meets tech boxes a b (inl h) = inl h.meeting
bad_meets tech boxes a b (inr h) = inr h.meeting

bad_pair : (tech : Tech) (boxes : List MaskBox) (a b p d : ℕ) → IsPairOf a b p d → IsImproper tech boxes p d
    → IsBadWith tech boxes a b
bad_pair tech boxes a b p d (inl e) h =
    inl (subst (λ (n : ℕ). IsImproper tech boxes a n) e.1 (subst (λ (n : ℕ). IsImproper tech boxes n d) e.0 h))
bad_pair tech boxes a b p d (inr e) h =
    inr (subst (λ (n : ℕ). IsImproper tech boxes b n) e.1 (subst (λ (n : ℕ). IsImproper tech boxes n d) e.0 h))

-- where they do not cross properly, there is no other that the box is bad with
pub only_bad : (tech : Tech) (boxes : List MaskBox) (a b p d : ℕ) → IsOnlyPair tech boxes a b p d
    → (CrossProperly tech boxes p d → ⊥) → IsBadWith tech boxes a b × ((c : ℕ) → IsBadWith tech boxes a c → b ≤ c)
only_bad tech boxes a b p d h improper = (
  bad_pair tech boxes a b p d h.pair
      (record { meeting = record { overlap = h.overlap; unburied = h.unburied }; improper = improper }),
  λ c bad. let e = h.only.1 c (meets_overlap tech boxes a c (bad_meets tech boxes a c bad)) in omega (arith, e),
)

-- the other one overlaps several
pub several_improper : (tech : Tech) (boxes : List MaskBox) (a b p d : ℕ) → IsPairOf a b p d → IsOverlap boxes p d
    → HowMany (DoOverlap boxes b) Several → CrossProperly tech boxes p d → ⊥
several_improper tech boxes a b p d (inl e) overlap two proper =
    let alone = λ (c : ℕ) (h : DoOverlap boxes b c).
    diffusion_alone tech boxes p d overlap proper c (subst (λ (n : ℕ). DoOverlap boxes n c) (sym e.1) h) in
    two.apart (alone two.a two.at_a ∙ sym (alone two.b two.at_b))
several_improper tech boxes a b p d (inr e) overlap two proper =
    let alone = λ (c : ℕ) (h : DoOverlap boxes b c).
    poly_alone tech boxes p d overlap proper c (subst (λ (n : ℕ). DoOverlap boxes n c) (sym e.0) h) in
    two.apart (alone two.a two.at_a ∙ sym (alone two.b two.at_b))

-- each is the only one that the other overlaps
only_proper : (tech : Tech) (boxes : List MaskBox) (axis : Axis) (a b p d : ℕ) → IsPairOf a b p d
    → IsOverlap boxes p d → CrossAlong tech axis (area_at boxes p) (area_at boxes d)
    → ((k : ℕ) → DoOverlap boxes a k → k ≡ b) → ((k : ℕ) → DoOverlap boxes b k → k ≡ a) → CrossProperly tech boxes p d
only_proper tech boxes axis a b p d (inl e) overlap along of_a of_b = record {
  axis = axis;
  along = along;
  poly_alone = λ k h. of_a k (inl (subst (λ (n : ℕ). IsOverlap boxes n k) e.0 h)) ∙ sym e.1;
  diffusion_alone = λ k h. of_b k (inr (subst (λ (n : ℕ). IsOverlap boxes k n) e.1 h)) ∙ sym e.0;
}
only_proper tech boxes axis a b p d (inr e) overlap along of_a of_b = record {
  axis = axis;
  along = along;
  poly_alone = λ k h. of_b k (inl (subst (λ (n : ℕ). IsOverlap boxes n k) e.0 h)) ∙ sym e.1;
  diffusion_alone = λ k h. of_a k (inr (subst (λ (n : ℕ). IsOverlap boxes k n) e.1 h)) ∙ sym e.0;
}

overlap_turns : (boxes : List MaskBox) (a b : ℕ) → DoOverlap boxes a b → DoOverlap boxes b a
overlap_turns boxes a b (inl h) = inr h
overlap_turns boxes a b (inr h) = inl h

pair_has : (a b p d : ℕ) → IsPairOf a b p d → (p ≡ a) ⊎ (d ≡ a)
pair_has a b p d (inl e) = inl e.0
pair_has a b p d (inr e) = inr e.1

-- the other one overlaps no other either
one_back : (boxes : List MaskBox) (a b : ℕ) (w : Partners) → DoOverlap boxes a b → HowMany (DoOverlap boxes b) w
    → (w ≡ Several → ⊥) → (k : ℕ) → DoOverlap boxes b k → k ≡ a
one_back boxes a b Nothing over h few k here = absurd (h k here)
one_back boxes a b (One c) over h few k here = h.1 k here ∙ sym (h.1 a (overlap_turns boxes a b over))
one_back boxes a b Several over h few k here = absurd (few refl)

pub only_crosses : (tech : Tech) (boxes : List MaskBox) (axis : Axis) (a b p d : ℕ) (w : Partners)
    → IsOnlyPair tech boxes a b p d → HowMany (DoOverlap boxes b) w → (w ≡ Several → ⊥)
    → CrossAlong tech axis (area_at boxes p) (area_at boxes d) → IsCrossed tech boxes a p d axis
only_crosses tech boxes axis a b p d w h back few along = record {
  one = pair_has a b p d h.pair;
  meeting = record { overlap = h.overlap; unburied = h.unburied };
  along = along;
  proper = only_proper tech boxes axis a b p d h.pair h.overlap along h.only.1 (one_back boxes a b w h.only.0 back few);
}

pub along_alike : (tech : Tech) (axis : Axis) (a b s t : BoxXY) → a ≡ b → s ≡ t → CrossAlong tech axis a s
    → CrossAlong tech axis b t
along_alike tech axis a b s t p q h =
    subst (λ (x : BoxXY). CrossAlong tech axis b x) q (subst (λ (x : BoxXY). CrossAlong tech axis x s) p h)

-- of several, each that a box meets is bad with it
several_bad : (tech : Tech) (boxes : List MaskBox) (a k : ℕ) → HowMany (DoOverlap boxes a) Several
    → Meets tech boxes a k → IsBadWith tech boxes a k
several_bad tech boxes a k two (inl met) = inl (record {
  meeting = met;
  improper = λ proper. let alone =
      poly_alone tech boxes a k met.overlap proper in two.apart (alone two.a two.at_a ∙ sym (alone two.b two.at_b));
})
several_bad tech boxes a k two (inr met) = inr (record {
  meeting = met;
  improper = λ proper. let alone =
      diffusion_alone tech boxes k a met.overlap proper in two.apart
      (alone two.a two.at_a ∙ sym (alone two.b two.at_b));
})

pub least_bad : (tech : Tech) (boxes : List MaskBox) (a k : ℕ) → HowMany (DoOverlap boxes a) Several
    → Meets tech boxes a k → ((c : ℕ) → Meets tech boxes a c → k ≤ c)
    → IsBadWith tech boxes a k × ((c : ℕ) → IsBadWith tech boxes a c → k ≤ c)
least_bad tech boxes a k two met least =
    (several_bad tech boxes a k two met, λ c bad. least c (bad_meets tech boxes a c bad))

-- ---- all that a box is bad with

-- of the only one that it overlaps, if they do not cross properly
pub one_bad : (tech : Tech) (boxes : List MaskBox) (a b other : ℕ) (old : List ℕ)
    → HowMany (DoOverlap boxes a) (One b) → IsBadWith tech boxes a other
    → AreGathered (IsBadWith tech boxes a) old (old ++ other ∷ [])
one_bad tech boxes a b other old only bad =
    gathered_as (λ x. x ≡ other) (IsBadWith tech boxes a) old (old ++ other ∷ [])
    (λ c e. subst (IsBadWith tech boxes a) (sym e) bad)
    (λ c h. only.1 c (meets_overlap tech boxes a c (bad_meets tech boxes a c h))
    ∙ sym (only.1 other (meets_overlap tech boxes a other (bad_meets tech boxes a other bad))))
    (gathered_push old other)

pub none_bad : (tech : Tech) (boxes : List MaskBox) (a : ℕ) (old : List ℕ) (stands : Standing)
    → StandsAs tech boxes a stands → ((b : ℕ) → stands ≡ Bad b → ⊥) → AreGathered (IsBadWith tech boxes a) old old
none_bad tech boxes a old Clear h not = gathered_none _ old (λ c bad. h c (bad_meets tech boxes a c bad))
none_bad tech boxes a old (Crosses pair axis) h not =
    gathered_none _ old
    (λ c bad. settled_not_bad tech boxes a c (crossed_settles tech boxes a pair.poly pair.diffusion axis h) bad)
none_bad tech boxes a old (Bad b) h not = absurd (not b refl)

pub all_found : {T E : Type 0} (tech : Tech) (boxes : List MaskBox) (a : ℕ) (old new : List ℕ) (r : Result T E)
    → HowMany (DoOverlap boxes a) Several → OnOk r (AreGathered (Meets tech boxes a) old new)
    → OnOk r (AreGathered (IsBadWith tech boxes a) old new)
all_found tech boxes a old new (Ok found) two h =
    gathered_as (Meets tech boxes a) (IsBadWith tech boxes a) old new (λ c m. several_bad tech boxes a c two m)
    (λ c bad. bad_meets tech boxes a c bad) h
all_found tech boxes a old new (Err fault) two h = tt
