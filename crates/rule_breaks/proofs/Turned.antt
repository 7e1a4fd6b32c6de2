-- Poly near diffusion, in either order.
use Rattle.std.proofs.{Common.{◌≡◌, ℕ, List, inl, inr, arith}, lemmas.Int.{ints, clamps}}
use Rattle.lam_geom.specs.{declared.boxes.{BoxXY.BoxXY, MaskBox.MaskBox}, Gaps.gap_of_boxes}
use Rattle.rule_table.specs.declared.technology.Tech.{Tech}
use Rattle.crossing_model.specs.Boxes.{area_at}
use Rattle.rule_breaks.specs.Breaks.{ArePairOf, IsPolyTooNear}

pub gap_turned : (a b : BoxXY) → gap_of_boxes a b ≡ gap_of_boxes b a
gap_turned a b = omega (arith, ints, clamps)

pair_turned : (a b p q : ℕ) → ArePairOf a b p q → ArePairOf b a p q
pair_turned a b p q (inl h) = inr (h.1, h.0)
pair_turned a b p q (inr h) = inl (h.1, h.0)

pub poly_turned : (tech : Tech) (boxes : List MaskBox) (a b : ℕ) → IsPolyTooNear tech boxes a b
    → IsPolyTooNear tech boxes b a
poly_turned tech boxes a b h =
    let s = area_at boxes a in
    let t = area_at boxes b in
    record {
      on = record {
        p = h.on.p;
        q = h.on.q;
        pair = pair_turned a b h.on.p h.on.q h.on.pair;
        first = h.on.first;
        second = h.on.second;
      };
      apart = λ over. h.apart (rw (gap_turned s t) over);
      near = rw (gap_turned t s) h.near;
    }
