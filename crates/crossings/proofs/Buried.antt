-- A buried pair, by a window over what poly and diffusion have in common.
use Rattle.std.proofs.Common.{◌≡◌, ◌↔◌, ℕ, ℤ, ◌+ℤ◌, ◌≤ℤ◌, ◌<◌, Bool, List, IsTrue, length, sym, ap, ◌∙◌, subst}
use Rattle.lam_geom.specs.declared.boxes.{BoxXY.BoxXY, MaskBox.MaskBox, MaskLayer.TheVariants.{ND, NP, NB}}
use Rattle.lam_geom.specs.Gaps.{Overlaps, Encloses}
use Rattle.rule_table.specs.{declared.technology.Tech.Tech, Technology.{numbers_of, has_buried_of}}
use Rattle.crossing_model.specs.Boxes.{area_at, box_at, IsCommon, grains, IsCovered}
use Rattle.crossing_model.specs.Crossings.{IsOverlap, IsBuriedPair}

-- what two boxes have in common is one box
pub common_alike : (a b s t outer : BoxXY) (margin : ℤ) → IsCommon a b s → IsCommon a b t → Encloses outer s margin
    → Encloses outer t margin
common_alike a b s t outer margin h k e =
    let x_lo : s.x.lo ≡ t.x.lo = h.x.lo ∙ sym k.x.lo in
    let x_hi : s.x.hi ≡ t.x.hi = h.x.hi ∙ sym k.x.hi in
    let y_lo : s.y.lo ≡ t.y.lo = h.y.lo ∙ sym k.y.lo in
    let y_hi : s.y.hi ≡ t.y.hi = h.y.hi ∙ sym k.y.hi in (
      (
        subst (λ (z : ℤ). (outer.x.lo +ℤ margin) ≤ℤ z) x_lo e.0.0,
        subst (λ (z : ℤ). (z +ℤ margin) ≤ℤ outer.x.hi) x_hi
            e.0.1,
      ),
      (
        subst (λ (z : ℤ). (outer.y.lo +ℤ margin) ≤ℤ z) y_lo e.1.0,
        subst (λ (z : ℤ). (z +ℤ margin) ≤ℤ outer.y.hi) y_hi
            e.1.1,
      ),
    )

-- poly and diffusion that were read
pub overlap_read : (boxes : List MaskBox) (p d : ℕ) (poly diffusion : MaskBox) → p < length boxes → d < length boxes
    → poly ≡ box_at boxes p → diffusion ≡ box_at boxes d → poly.layer ≡ NP → diffusion.layer ≡ ND
    → Overlaps poly.area diffusion.area → IsOverlap boxes p d
overlap_read boxes p d poly diffusion p_among d_among p_is d_is p_on d_on overlap = record {
  poly = record { among = p_among; on = ap (λ (b : MaskBox). b.layer) (sym p_is) ∙ p_on };
  diffusion = record { among = d_among; on = ap (λ (b : MaskBox). b.layer) (sym d_is) ∙ d_on };
  overlap = subst (λ (b : MaskBox). Overlaps (area_at boxes p) b.area) d_is
      (subst (λ (b : MaskBox). Overlaps b.area diffusion.area) p_is overlap);
}

pub common_read : (boxes : List MaskBox) (p d : ℕ) (poly diffusion : MaskBox) (shared : BoxXY) → poly ≡ box_at boxes p
    → diffusion ≡ box_at boxes d
    → IsCommon poly.area diffusion.area shared → IsCommon (area_at boxes p) (area_at boxes d) shared
common_read boxes p d poly diffusion shared p_is d_is h =
    subst (λ (b : MaskBox). IsCommon (area_at boxes p) b.area shared) d_is
    (subst (λ (b : MaskBox). IsCommon b.area diffusion.area shared) p_is h)

pub buried_by_window : (tech : Tech) (boxes : List MaskBox) (p d : ℕ) (shared : BoxXY) (margin : ℤ) (b : Bool)
    → IsTrue (has_buried_of tech) → IsOverlap boxes p d
    → IsCommon (area_at boxes p) (area_at boxes d) shared → margin ≡ grains tech (numbers_of tech).extension_buried
    → IsTrue b ↔ IsCovered boxes NB shared margin → IsTrue b ↔ IsBuriedPair tech boxes p d
buried_by_window tech boxes p d shared margin b has overlap common is h = (
  λ t. let w = h.0 t in record {
    has_buried = has;
    overlap = overlap;
    shared = shared;
    common = common;
    window = w.cover;
    is_window = w.is_on;
    covered = subst (λ (m : ℤ). Encloses (area_at boxes w.cover) shared m) is w.covers;
  },
  λ pair. h.1 (record {
    cover = pair.window;
    is_on = pair.is_window;
    covers = common_alike (area_at boxes p) (area_at boxes d) pair.shared shared (area_at boxes pair.window) margin
        pair.common common
        (subst (λ (m : ℤ). Encloses (area_at boxes pair.window) pair.shared m) (sym is) pair.covered);
  }),
)
