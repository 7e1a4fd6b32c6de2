-- Poly and diffusion that overlap, in either order.
use Rattle.std.proofs.{Common.{◌≡◌, ℕ, ◌⊎◌, inl, inr, Some, List, refl, sym, ap, ◌∙◌, arith}, lemmas.Int.{ints, clamps}}
use Rattle.lam_geom.specs.declared.boxes.{BoxXY.BoxXY, MaskBox.MaskBox, MaskLayer.{MaskLayer, TheVariants.{ND, NP, NC}}}
use Rattle.lam_geom.specs.{declared.boxes.MaskLayer.TheVariants.{NM, NI, NB}, Gaps.Overlaps}
use Rattle.crossing_model.specs.Boxes.{area_at, layer_at}
use Rattle.crossings.specs.Pairs.{facing_of, AreFacing, DoOverlap}

pub overlap_turned : (a b : BoxXY) → Overlaps a b → Overlaps b a
overlap_turned a b h = omega (arith, ints, clamps)

facing_cases : (l m : MaskLayer) → facing_of l ≡ Some m → ((l ≡ NP) × (m ≡ ND)) ⊎ ((l ≡ ND) × (m ≡ NP))
facing_cases ND m h = inr (refl, cc)
facing_cases NP m h = inl (refl, cc)
facing_cases NC m h = let none : ⊥ = cc in absurd none
facing_cases NM m h = let none : ⊥ = cc in absurd none
facing_cases NI m h = let none : ⊥ = cc in absurd none
facing_cases NB m h = let none : ⊥ = cc in absurd none

-- boxes that overlap are on layers that cross
pub overlap_faces : (boxes : List MaskBox) (a b : ℕ) → DoOverlap boxes a b → AreFacing boxes a b
overlap_faces boxes a b (inl h) = record {
  a_among = h.poly.among;
  b_among = h.diffusion.among;
  facing = ap facing_of h.poly.on ∙ ap (λ (m : MaskLayer). Some m) (sym h.diffusion.on);
}
overlap_faces boxes a b (inr h) = record {
  a_among = h.diffusion.among;
  b_among = h.poly.among;
  facing = ap facing_of h.diffusion.on ∙ ap (λ (m : MaskLayer). Some m) (sym h.poly.on);
}

pub overlap_by_area : (boxes : List MaskBox) (a b : ℕ) → AreFacing boxes a b
    → Overlaps (area_at boxes a) (area_at boxes b) → DoOverlap boxes a b
overlap_by_area boxes a b h overlap = elim (facing_cases (layer_at boxes a) (layer_at boxes b) h.facing) [
  | inl e ↦
      inl (record {
        poly = record { among = h.a_among; on = e.0 };
        diffusion = record { among = h.b_among; on = e.1 };
        overlap = overlap;
      })
  | inr e ↦
      inr (record {
        poly = record { among = h.b_among; on = e.1 };
        diffusion = record { among = h.a_among; on = e.0 };
        overlap = overlap_turned (area_at boxes a) (area_at boxes b) overlap;
      })
]

pub area_overlap : (boxes : List MaskBox) (a b : ℕ) → DoOverlap boxes a b → Overlaps (area_at boxes a) (area_at boxes b)
area_overlap boxes a b (inl h) = h.overlap
area_overlap boxes a b (inr h) = overlap_turned (area_at boxes b) (area_at boxes a) h.overlap
