-- The numbers of shifts by the scale of a definition.
use Rattle.std.specs.{Prelude.{◌≡◌, ℕ, ◌<◌, ℤ, pos, ◌*ℤ◌, int_rem, Bool, false, not, ◌||◌}, Ordering.int_eq}
use Rattle.cif_lex.specs.declared.placement.Transformation.{Transformation, TheVariants.{Shift, MirrorX, MirrorY, Turn}}

-- a number of a definition, times `above`, is no multiple of `below`
abbrev pub is_odd : ℤ → ℤ → ℤ → Bool
is_odd above below n = not (int_eq (int_rem (n *ℤ above) below) (pos 0))

-- one of the two numbers of a shift is odd, as it stands in the text
abbrev pub is_odd_shift : ℤ → ℤ → Transformation → Bool
is_odd_shift above below (Shift x y) = is_odd above below x || is_odd above below y
is_odd_shift above below MirrorX = false
is_odd_shift above below MirrorY = false
is_odd_shift above below (Turn a b) = false

-- a number that by each scale is odd exactly where this test says so
abbrev pub IsOddWhere : (ℤ → ℤ → Bool) → ℕ → Type 0
IsOddWhere test n = (above below : ℕ) → 0 < below
    → is_odd (pos above) (pos below) (pos n) ≡ test (pos above) (pos below)
