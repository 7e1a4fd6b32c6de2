-- Where a wire comes from the left, and where none does.
use Rattle.std.proofs.Common.{◌≡◌, ℕ, ◌-◌, ◌%◌, ◌<◌, Bool, true, false, ◌&&◌, Some, None, refl, ap, ◌∙◌, arith}
use Rattle.std.{proofs.lemmas.Bool.Decides.nat_tests, specs.Prelude.{nat_lt, if◌then◌else◌}}
use Rattle.stick_text.specs.declared.design.Form.{Form}
use Rattle.stick_text.specs.declared.design.Form.TheVariants as forms
use Rattle.stick_text.specs.declared.design.Layer.TheVariants as layers
use Rattle.design_gen.specs.{Draws.point_at, Made.{name_at, are_joined, wire_at}}

some_column : (col : ℕ) → (col ≡ 0 → ⊥) → nat_lt 0 col ≡ true
some_column col h = let low : 0 < col = omega arith in grind (arith, nat_tests)

first_column : (col : ℕ) → col ≡ 0 → nat_lt 0 col ≡ false
first_column col e = ap (nat_lt 0) e

abbrev pub wire : ℕ → ℕ → Form
wire n k = forms.Wire layers.Metal (name_at n (k - 1)) (name_at n k) None

pub wire_there : (n k : ℕ) → (k % n ≡ 0 → ⊥) → are_joined (point_at n (k - 1)) (point_at n k) ≡ true
    → wire_at n k ≡ Some (wire n k)
unfolding wire_at
wire_there n k h joined =
    ap (λ b. if b && are_joined (point_at n (k - 1)) (point_at n k) then Some (wire n k) else None)
    (some_column (k % n) h) ∙ ap (λ b. if b then Some (wire n k) else None) joined

pub none_first : (n k : ℕ) → k % n ≡ 0 → wire_at n k ≡ None
unfolding wire_at
none_first n k e = ap (λ b. if b && are_joined (point_at n (k - 1)) (point_at n k) then Some (wire n k) else None)
    (first_column (k % n) e)

never : (b : Bool) → (b && false) ≡ false
never true = refl
never false = refl

pub none_apart : (n k : ℕ) → are_joined (point_at n (k - 1)) (point_at n k) ≡ false → wire_at n k ≡ None
unfolding wire_at
none_apart n k apart = ap (λ b. if nat_lt 0 (k % n) && b then Some (wire n k) else None) apart
    ∙ ap (λ b. if b then Some (wire n k) else None) (never (nat_lt 0 (k % n)))
