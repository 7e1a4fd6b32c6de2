-- Boxes that were read, and lengths that are passed on.
use Rattle.std.proofs.Common.{◌≡◌, ℕ, ◌<◌, ◌^◌, ℤ, pos, ◌-ℤ◌, ◌≤ℤ◌, List, length, sym, ap, ◌∙◌, w64, arith}
use Rattle.std.proofs.lemmas.Int.{ints, to_z-of_z}
use Rattle.lam_geom.specs.declared.boxes.{MaskBox.MaskBox, MaskLayer.MaskLayer}
use Rattle.crossing_model.specs.Boxes.{box_at, IsOn}
use mir.Val.{to_z, of_z, SFits}

-- the layer of a box that was read
pub on_layer : (boxes : List MaskBox) (k : ℕ) (box : MaskBox) (layer : MaskLayer) → k < length boxes
    → box ≡ box_at boxes k → box.layer ≡ layer → IsOn boxes layer k
on_layer boxes k box layer lt read on = record { among = lt; on = ap (λ (b : MaskBox). b.layer) (sym read) ∙ on }

-- a length that is passed on stays as it is
pub length_held : (n : ℤ) → (pos 0 -ℤ pos 1) ≤ℤ n → n ≤ℤ pos (2 ^ 25) → to_z w64 (of_z w64 n) ≡ n
length_held n low high = let fits : SFits w64 n = omega (arith, ints, low, high) in to_z-of_z w64 n fits
