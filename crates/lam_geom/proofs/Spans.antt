use mathlib.Core.HLevel.{is_prop→PathP}
use lib.Dec.{T_prop}
use Rattle.std.proofs.Common.{◌≡◌, ℤ, ◌≤ℤ◌}
use Rattle.lam_geom.specs.declared.boxes.Span.{Span}

-- an order on signed numbers has one proof at most
at_most_one : (x y : ℤ) → IsProp (x ≤ℤ y)
at_most_one x y = hlevel T_prop

-- spans with the same ends are equal
pub same_span : (a b : Span) → a.lo ≡ b.lo → a.hi ≡ b.hi → a ≡ b
same_span a b p q =
    λ i. record {
      lo = p i;
      hi = q i;
      ordered = is_prop→PathP (λ j. p j ≤ℤ q j) (λ j. at_most_one (p j) (q j))
          a.ordered b.ordered i;
    }
