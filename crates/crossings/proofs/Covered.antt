-- Channels under implants.
use Rattle.std.proofs.Common.{◌≡◌, ◌↔◌, ℤ, Bool, List, IsTrue, sym, subst}
use Rattle.lam_geom.specs.{declared.boxes.{BoxXY.BoxXY, MaskBox.MaskBox, MaskLayer.TheVariants.NI}, Gaps.Encloses}
use Rattle.rule_table.specs.{declared.technology.Tech.Tech, Technology.numbers_of}
use Rattle.crossing_model.specs.{Boxes.{area_at, grains, IsCovered}, Crossings.IsImplanted}

-- a depletion transistor, by an implant over its channel
pub implanted_by_cover : (tech : Tech) (boxes : List MaskBox) (channel : BoxXY) (margin : ℤ) (b : Bool)
    → margin ≡ grains tech (numbers_of tech).extension_implant
    → IsTrue b ↔ IsCovered boxes NI channel margin → IsTrue b ↔ IsImplanted tech boxes channel
implanted_by_cover tech boxes channel margin b is h = (
  λ t. let found = h.0 t in record {
    implant = found.cover;
    is_implant = found.is_on;
    covered = subst (λ (m : ℤ). Encloses (area_at boxes found.cover) channel m) is found.covers;
  },
  λ k. h.1 (record {
    cover = k.implant;
    is_on = k.is_implant;
    covers = subst (λ (m : ℤ). Encloses (area_at boxes k.implant) channel m) (sym is) k.covered;
  }),
)
