-- Poly and diffusion that meet, in either order.
use Rattle.std.proofs.Common.{◌≡◌, ◌↔◌, ℕ, inl, inr, Bool, IsTrue, List, sym, ◌∙◌, subst}
use Rattle.lam_geom.specs.{declared.boxes.{MaskBox.MaskBox, MaskLayer.TheVariants.{ND, NP}}, Gaps.Overlaps}
use Rattle.rule_table.specs.declared.technology.Tech.{Tech}
use Rattle.crossing_model.specs.{Boxes.{area_at, layer_at, box_at}, Crossings.{IsOverlap, CrossProperly}}
use Rattle.crossings.specs.Pairs.{DoOverlap, Meets}

pub meets_overlap : (tech : Tech) (boxes : List MaskBox) (a b : ℕ) → Meets tech boxes a b → DoOverlap boxes a b
meets_overlap tech boxes a b (inl h) = inl h.overlap
meets_overlap tech boxes a b (inr h) = inr h.overlap

-- of boxes that were read
pub overlaps_read : (boxes : List MaskBox) (a b : ℕ) (first second : MaskBox) (r : Bool) → first ≡ box_at boxes a
    → second ≡ box_at boxes b
    → IsTrue r ↔ Overlaps first.area second.area → IsTrue r ↔ Overlaps (area_at boxes a) (area_at boxes b)
overlaps_read boxes a b first second r a_is b_is h =
    subst (λ (x : MaskBox). IsTrue r ↔ Overlaps (area_at boxes a) x.area) b_is
    (subst (λ (x : MaskBox). IsTrue r ↔ Overlaps x.area second.area) a_is h)

-- no box is both poly and diffusion
pub not_both : (boxes : List MaskBox) (a : ℕ) → layer_at boxes a ≡ NP → layer_at boxes a ≡ ND → ⊥
not_both boxes a h k = let e : NP ≡ ND = sym h ∙ k in cc

-- ---- boxes that cross properly overlap no others

pub poly_alone : (tech : Tech) (boxes : List MaskBox) (p d : ℕ) → IsOverlap boxes p d → CrossProperly tech boxes p d
    → (c : ℕ) → DoOverlap boxes p c → c ≡ d
poly_alone tech boxes p d overlap proper c (inl h) = proper.poly_alone c h
poly_alone tech boxes p d overlap proper c (inr h) = absurd (not_both boxes p overlap.poly.on h.diffusion.on)

pub diffusion_alone : (tech : Tech) (boxes : List MaskBox) (p d : ℕ) → IsOverlap boxes p d
    → CrossProperly tech boxes p d → (c : ℕ) → DoOverlap boxes d c → c ≡ p
diffusion_alone tech boxes p d overlap proper c (inr h) = proper.diffusion_alone c h
diffusion_alone tech boxes p d overlap proper c (inl h) = absurd (not_both boxes d h.poly.on overlap.diffusion.on)
