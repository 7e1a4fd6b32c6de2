-- One span goes past another, by other names.
use Rattle.std.proofs.Common.{◌≡◌, ℤ, sym, subst}
use Rattle.lam_geom.specs.declared.boxes.{Axis.{Axis, TheVariants.{X, Y}}, BoxXY.BoxXY, Span.Span}
use Rattle.lam_geom.specs.{Gaps.{EnclosesSpan, span_along}, Places.{IsPlacedBox, IsPlacedSpan}}

-- a box's span along an axis is placed
pub placed_along : (s : Span) (b : BoxXY) (axis : Axis) → s ≡ span_along b axis → IsPlacedBox b → IsPlacedSpan s
placed_along s b X is h = subst IsPlacedSpan (sym is) h.0
placed_along s b Y is h = subst IsPlacedSpan (sym is) h.1

pub past_alike : (a b s t : Span) (m n : ℤ) → a ≡ b → s ≡ t → m ≡ n → EnclosesSpan a s m → EnclosesSpan b t n
past_alike a b s t m n p q r h =
    subst (λ (k : ℤ). EnclosesSpan b t k) r
    (subst (λ (x : Span). EnclosesSpan b x m) q (subst (λ (x : Span). EnclosesSpan x s m) p h))
