-- Whether a cut is covered.
use Rattle.std.proofs.Common.{◌≡◌, ◌↔◌, ℕ, ◌⊎◌, inl, inr, ℤ, Bool, true, false, List, IsTrue, refl, subst}
use Rattle.std.specs.Prelude.{not}
use Rattle.lam_geom.specs.declared.boxes.{MaskBox.MaskBox, MaskLayer.{MaskLayer, TheVariants.{ND, NP, NC, NM}}}
use Rattle.rule_table.specs.{declared.technology.Tech.Tech, Technology.numbers_of}
use Rattle.crossing_model.specs.Boxes.{area_at, box_at, IsOn, grains, IsCovered}
use Rattle.rule_breaks.specs.Breaks.{IsSquare, IsOddCut, IsUncovered}

-- ---- cuts

pub odd_by_square : (tech : Tech) (boxes : List MaskBox) (a : ℕ) (own : MaskBox) (side : ℤ) (b : Bool)
    → own ≡ box_at boxes a → IsOn boxes NC a → side ≡ grains tech (numbers_of tech).cut_size
    → IsTrue b ↔ IsSquare side own.area → IsTrue (not b) ↔ IsOddCut tech boxes a
odd_by_square tech boxes a own side b is on length_is h = go b (there h) where
  there : IsTrue b ↔ IsSquare side own.area
      → IsTrue b ↔ IsSquare (grains tech (numbers_of tech).cut_size) (area_at boxes a)
  there = subst (λ (s : ℤ). IsTrue b ↔ IsSquare side own.area → IsTrue b ↔ IsSquare s (area_at boxes a)) length_is
      (subst (λ (x : MaskBox). IsTrue b ↔ IsSquare side own.area → IsTrue b ↔ IsSquare side x.area) is (λ same. same))

  go : (r : Bool) → IsTrue r ↔ IsSquare (grains tech (numbers_of tech).cut_size) (area_at boxes a)
      → IsTrue (not r) ↔ IsOddCut tech boxes a
  go true square = (λ t. let no : ⊥ = cc in absurd no, λ odd. absurd (odd.odd (square.0 refl)))
  go false square = (λ _. record { is_cut = on; odd = λ even. let t : false ≡ true = square.1 even in cc }, λ _. refl)

-- ---- the cover of a cut

abbrev pub IsCoveredCut : Tech → List MaskBox → ℕ → MaskLayer → Type 0
IsCoveredCut tech boxes a layer = IsCovered boxes layer (area_at boxes a) (grains tech (numbers_of tech).cut_enclosure)

-- of a cut that was read
pub covered_read : (tech : Tech) (boxes : List MaskBox) (a : ℕ) (layer : MaskLayer) (own : MaskBox) (margin : ℤ)
    (b : Bool) → own ≡ box_at boxes a → margin ≡ grains tech (numbers_of tech).cut_enclosure
    → IsTrue b ↔ IsCovered boxes layer own.area margin → IsTrue b ↔ IsCoveredCut tech boxes a layer
covered_read tech boxes a layer own margin b is length_is h =
    subst (λ (m : ℤ). IsTrue b ↔ IsCovered boxes layer (area_at boxes a) m) length_is
    (subst (λ (x : MaskBox). IsTrue b ↔ IsCovered boxes layer x.area margin) is h)

pub no_metal : (tech : Tech) (boxes : List MaskBox) (a : ℕ) (b : Bool) → IsOn boxes NC a
    → IsTrue b ↔ IsCoveredCut tech boxes a NM → b ≡ false → IsUncovered tech boxes a
no_metal tech boxes a b on h none =
    record { is_cut = on; uncovered = inl (λ cover. let t : b ≡ true = h.1 cover in cc) }

pub covered_twice : (tech : Tech) (boxes : List MaskBox) (a : ℕ) → IsCoveredCut tech boxes a NM
    → IsCoveredCut tech boxes a NP ⊎ IsCoveredCut tech boxes a ND → IsUncovered tech boxes a → ⊥
covered_twice tech boxes a metal below h =
    elim h.uncovered [ inl no_cover ↦ no_cover metal | inr nothing ↦ nothing below ]

pub uncovered_by_diffusion : (tech : Tech) (boxes : List MaskBox) (a : ℕ) (b : Bool) → IsOn boxes NC a
    → IsCoveredCut tech boxes a NM → (IsCoveredCut tech boxes a NP → ⊥) → IsTrue b ↔ IsCoveredCut tech boxes a ND
    → IsTrue (not b) ↔ IsUncovered tech boxes a
uncovered_by_diffusion tech boxes a true on metal no_poly h =
    (λ t. let no : ⊥ = cc in absurd no, λ open_cut. absurd (covered_twice tech boxes a metal (inr (h.0 refl)) open_cut))
uncovered_by_diffusion tech boxes a false on metal no_poly h = (
  λ _. record {
    is_cut = on;
    uncovered =
        inr (λ below. elim below as (λ _. ⊥)
        [ inl poly ↦ no_poly poly | inr diffusion ↦ (let t : false ≡ true = h.1 diffusion in cc) ]);
  },
  λ _. refl,
)
